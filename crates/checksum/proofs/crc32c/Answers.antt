use Rattle.checksum.specs.Crc32c.{crc32c}
use Rattle.checksum.proofs.Loops.{run_fold}
use Rattle.checksum.proofs.crc32c.Goals as goal

pub returns-then-bytes-lt32 : goal.returns-then-bytes-lt32
unfolding crc32c
returns-then-bytes-lt32 c = rw (c.bit_run.ensures, run_fold c.args.bytes.now 0xFFFF_FFFF)

pub returns : goal.returns
returns c = c.crc32c_with.ensures.by_bits c.table-t.ensures

use borrow.Author.Rules.{rules}
use Rattle.checksum.specs.Crc32c.{bit_step}
use Rattle.checksum.proofs.bit_step.Goals as goal

pub returns : goal.returns
unfolding bit_step
returns c = search rules

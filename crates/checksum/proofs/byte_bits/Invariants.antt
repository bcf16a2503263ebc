use Rattle.std.proofs.Common.{◌≡◌}
use Rattle.std.specs.Int.Bits.{bit_xor}
use Rattle.checksum.specs.Crc32c.{steps}
use Rattle.checksum.proofs.byte_bits.Given as goal

abbrev pub invariant-loop : goal.invariant-loop
invariant-loop l = l.x ≡ steps l.counter (bit_xor l.c l.b)

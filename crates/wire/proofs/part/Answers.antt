use Rattle.std.proofs.Common.{arith}
use Rattle.wire.proofs.Fill.{field_left, field_min}
use Rattle.wire.proofs.part.Goals as goal

pub returns-then-rest-len : goal.returns-then-rest-len
returns-then-rest-len c = field_left _ _ _ _ c.min.ensures c.if-rest-len.true

pub returns : goal.returns
returns c = field_min _ _ _ _ _ c.min.ensures (omega (arith, c.if-rest-len.false))

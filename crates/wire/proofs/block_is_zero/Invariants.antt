use mathlib.Core.Path.{◌≡◌}
use Prim.Native.Nat.{◌*◌, ◌≤◌}
use lib.ListN.{take}
use lib.Dec.{eqb}
use Rattle.wire.specs.Fill.{zeros}
use Rattle.wire.specs.Order.{same_bytes}
use Rattle.wire.proofs.block_is_zero.Given as goal

abbrev pub invariant-loop-b : goal.invariant-loop-b
invariant-loop-b l = (eqb l.sum 0 ≡ same_bytes (take l.b-index l.s) (zeros l.b-index)) × (l.sum ≤ 255 * l.b-index)

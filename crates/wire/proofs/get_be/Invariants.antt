use mathlib.Core.Path.{◌≡◌}
use Prim.Native.Nat.{◌^◌, ◌<◌}
use lib.ListN.{take}
use Rattle.wire.specs.Number.{num}
use Rattle.wire.proofs.get_be.Given as goal

abbrev pub invariant-loop-b : goal.invariant-loop-b
invariant-loop-b l = (l.x ≡ num (take l.b-index l.s)) × (l.x < 256 ^ l.b-index)

use mathlib.Core.Path.{◌≡◌}
use mathlib.Core.List.{◌++◌}
use Prim.Native.Nat.{◌-◌}
use lib.ListN.{length, take, drop}
use Rattle.explain.specs.Winner.{winner}
use Rattle.explain.specs.Reason.{reasons_for}
use Rattle.explain.specs.Walk.{entries_in}
use Rattle.explain.proofs.Walking.{Stands}
use Rattle.explain.proofs.walk.write_reasons.Given as goal

abbrev pub invariant-loop-at : goal.invariant-loop-at
invariant-loop-at l = Stands l.list (entries_in l.list) l.at l.place × (length l.reasons ≡ length l.initial.reasons)
    × (l.reasons ≡ take l.place (reasons_for l.key (entries_in l.list) (winner l.key (entries_in l.list))) ++ drop l.place l.initial.reasons)

abbrev pub decreases-loop-at : goal.decreases-loop-at
decreases-loop-at l = length l.list - l.at

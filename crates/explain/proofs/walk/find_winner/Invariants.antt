use Prim.Native.Nat.{◌-◌}
use lib.ListN.{length}
use Rattle.explain.specs.Walk.{entries_in, placed}
use Rattle.explain.proofs.Walking.{Stands, SoFar}
use Rattle.explain.proofs.walk.find_winner.Given as goal

abbrev pub invariant-loop-at : goal.invariant-loop-at
invariant-loop-at l = Stands l.list (entries_in l.list) l.at l.place × SoFar l.key (entries_in l.list) l.place (placed l.best)

abbrev pub decreases-loop-at : goal.decreases-loop-at
decreases-loop-at l = length l.list - l.at

use mathlib.Core.Path.{◌≡◌}
use Prim.Native.Nat.{◌-◌, ◌≤◌}
use lib.ListN.{length, drop}
use Rattle.deliveries.specs.List.{max_deliveries, deliveries_within, count_answer}
use Rattle.deliveries.proofs.Runs.{counting}
use Rattle.deliveries.proofs.count.Given as goal

abbrev pub invariant-loop-at : goal.invariant-loop-at
invariant-loop-at l = (counting l.n (deliveries_within (max_deliveries - l.n) (drop l.at l.list)) ≡ count_answer l.list) × (l.n ≤ max_deliveries)
    × (l.at ≤ length l.list)

abbrev pub decreases-loop-at : goal.decreases-loop-at
decreases-loop-at l = length l.list - l.at

use mathlib.Core.Path.{◌≡◌}
use mathlib.Core.List.{◌++◌, map}
use Prim.Native.Nat.{◌≤◌, ◌-◌}
use lib.ListN.{length, take, drop}
use Rattle.ring.specs.Place.{node}
use Rattle.ring.specs.Helpers.{turned}
use Rattle.ring.proofs.Meeting.{gather}
use Rattle.ring.proofs.walking.walk.Given as goal

abbrev pub invariant-loop-j : goal.invariant-loop-j
invariant-loop-j l = (l.count ≤ l.r) × (length l.free ≡ 256) × (length l.nodes ≡ 3)
    × (take l.count l.nodes ++ gather (l.r - l.count) l.free (drop l.j (map node (turned l.start l.ring)))
    ≡ gather l.r l.initial.free (map node (turned l.start l.ring)))

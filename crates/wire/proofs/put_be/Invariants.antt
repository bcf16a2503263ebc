use mathlib.Core.Path.{◌≡◌}
use mathlib.Core.List.{◌++◌}
use lib.ListN.{length, drop}
use Rattle.wire.specs.Number.{be}
use Rattle.wire.proofs.put_be.Given as goal

abbrev pub invariant-loop-i : goal.invariant-loop-i
invariant-loop-i l = be (length l.initial.out) l.n ≡ be l.i l.x ++ drop l.i l.out

use mathlib.Core.Path.{◌≡◌}
use lib.ListN.{drop}
use Rattle.image.specs.Image.{entries_of}
use Rattle.store.specs.Unchecked.{after_all}
use Rattle.store.proofs.give_all.Given as goal

abbrev pub invariant-loop-i : goal.invariant-loop-i
invariant-loop-i l = after_all (drop l.i (entries_of l.giver)) l.receiver ≡ after_all (entries_of l.giver) l.initial.receiver

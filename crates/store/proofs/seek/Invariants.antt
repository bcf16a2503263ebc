use Rattle.image.specs.Image.{entries_of}
use Rattle.store.proofs.Seeking.{Seeking}
use Rattle.store.proofs.seek.Given as goal

abbrev pub invariant-loop-i : goal.invariant-loop-i
invariant-loop-i l = Seeking l.key (entries_of l.store) l.i

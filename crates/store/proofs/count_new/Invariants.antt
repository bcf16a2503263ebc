use Rattle.image.specs.Image.{line_of, entries_of}
use Rattle.store.proofs.Ways.{Counting}
use Rattle.store.proofs.count_new.Given as goal

abbrev pub invariant-loop-j : goal.invariant-loop-j
invariant-loop-j l = Counting (line_of l.receiver) (entries_of l.receiver) (entries_of l.giver) l.j l.new l.passed

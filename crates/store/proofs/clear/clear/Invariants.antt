use Rattle.store.proofs.Purging.{Clearing}
use Rattle.store.proofs.clear.clear.Given as goal

abbrev pub invariant-loop-i : goal.invariant-loop-i
invariant-loop-i l = Clearing l.line l.initial.store l.store l.count l.i

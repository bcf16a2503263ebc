use Rattle.replayer.proofs.Advancing.{turns_left}
use Rattle.replayer.proofs.Running.{Running}
use Rattle.replayer.proofs.advance.Given as goal

abbrev pub invariant-loop-store : goal.invariant-loop-store
invariant-loop-store l = Running l.initial.store l.input l.initial.reply l.initial.output l.ended l.initial.progress.clock
    l.store l.reply l.output l.progress

abbrev pub decreases-loop-store : goal.decreases-loop-store
decreases-loop-store l = turns_left l.input l.progress.taken l.progress.next

use Rattle.std.specs.declared.ops.ControlFlow.TheVariants.{Continue}
use Rattle.replay.specs.State.{Fits}
use Rattle.replay.proofs.Turns.{Reached}
use Rattle.replay.proofs.run.Given as goal

abbrev pub invariant-loop : goal.invariant-loop
invariant-loop g l = record { fits : Fits l.input l.output l.state; reached : Reached l.store l.reply l.input (Continue l.state) }

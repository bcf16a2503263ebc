use Rattle.std.proofs.Common.{rules}
use native.Mathlib.Omega.{arith}
use Rattle.replay.proofs.Turns.{nothing, stands_first, reached_on}
use Rattle.replay.proofs.run.Goals as goal

pub loop-init : goal.loop-init
loop-init g c =
    let a = c.args in
    record {
      fits = record { within = omega arith; inputs = search rules; outputs = search rules };
      reached = record { history = nothing; stands = stands_first a.store.now a.reply.now _ c.fresh.result c.requires.0 c.requires.1 c.fresh.ensures };
    }

pub loop-preserved : goal.loop-preserved
loop-preserved g c =
    let l = c.loop in
    record {
      fits = c.in-Continue.ensures.within;
      reached = reached_on l.store l.reply l.input l.state _ _ _ _ l.invariant.reached c.in-Continue.ensures.called;
    }

use native.Mathlib.Omega.{arith}
use mathlib.Core.Path.{◌∙◌}
use Rattle.wire.proofs.Number.{be_step, be_none, be_done}
use Rattle.wire.proofs.put_be.Goals as goal

pub loop-i-init : goal.loop-i-init
loop-i-init c = be_none c.args.out.now c.args.n

pub loop-i-preserved : goal.loop-i-preserved
loop-i-preserved c =
    let l = c.loop-i in
    l.invariant ∙ be_step l.out l.i l.x (omega arith) (omega arith)

pub returns : goal.returns
returns c =
    let l = c.loop-i in
    be_done _ l.out l.i l.x (omega arith) l.invariant

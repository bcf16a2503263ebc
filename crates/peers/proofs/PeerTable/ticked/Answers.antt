use Rattle.std.proofs.Common.{◌∙◌}
use Rattle.peers.specs.Row.{tick_row}
use Rattle.peers.proofs.Ticked.{to_next, to_end}
use Rattle.peers.proofs.PeerTable.ticked.Goals as goal

pub loop-i-preserved : goal.loop-i-preserved
loop-i-preserved c =
    let l = c.loop-i in
    let a = c.args in
    rw c.ticked.ensures
    (to_next (tick_row a.now) a.self l.i l.auto.i (rw c.listed-i-end.ensures at c.loop-i-test.true) l.self l.invariant)

pub returns : goal.returns
returns c =
    let l = c.loop-i in
    let a = c.args in
    l.invariant ∙ to_end (tick_row a.now) a.self l.i l.auto.i (rw c.listed-i-end.ensures at c.loop-i-test.false)

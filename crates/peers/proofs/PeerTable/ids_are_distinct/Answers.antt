use Rattle.std.proofs.Common.{sym, ◌∙◌}
use Rattle.peers.proofs.Scan.{distinct_stop, distinct_next, distinct_past}
use Rattle.peers.proofs.PeerTable.ids_are_distinct.Goals as goal

pub returns-then-has_id : goal.returns-then-has_id
returns-then-has_id c =
    let l = c.loop-i in
    rw c.listed-rows.ensures at (sym (distinct_stop c.listed-rows.result.now l.i c.loop-i-test.true (sym c.has_id.ensures ∙ c.if-has_id.true)) ∙ l.invariant)

pub loop-i-preserved : goal.loop-i-preserved
loop-i-preserved c =
    let l = c.loop-i in
    sym (distinct_next c.listed-rows.result.now l.i c.loop-i-test.true (sym c.has_id.ensures ∙ c.if-has_id.false)) ∙ l.invariant

pub returns : goal.returns
returns c = rw c.listed-rows.ensures at (sym (distinct_past _ c.loop-i.i c.loop-i-test.false) ∙ c.loop-i.invariant)

use mathlib.Core.Path.{sym, ◌∙◌}
use Rattle.explain.proofs.Seeing.{by_time, by_count, by_node, by_content, by_nothing}
use Rattle.explain.proofs.walk.reason_for.Goals as goal

pub returns-then-entry-winner : goal.returns-then-entry-winner
returns-then-entry-winner c = by_time _ _ c.if-entry-winner.true

pub returns-then-entry-winner-2 : goal.returns-then-entry-winner-2
returns-then-entry-winner-2 c = by_count _ _ c.if-entry-winner.false c.if-entry-winner-2.true

pub returns-then-entry-winner-3 : goal.returns-then-entry-winner-3
returns-then-entry-winner-3 c = by_node _ _ c.if-entry-winner.false c.if-entry-winner-2.false c.if-entry-winner-3.true

pub returns-then-beats : goal.returns-then-beats
returns-then-beats c =
    let b = c.beats.ensures c.args.winner.key.now c.args.entry.key.now in
    by_content _ _ c.if-entry-winner.false c.if-entry-winner-2.false c.if-entry-winner-3.false (sym b ∙ c.if-beats.true)

pub returns : goal.returns
returns c =
    let b = c.beats.ensures c.args.winner.key.now c.args.entry.key.now in
    by_nothing _ _ c.if-entry-winner.false c.if-entry-winner-2.false c.if-entry-winner-3.false (sym b ∙ c.if-beats.false)

use mathlib.Core.Path.{refl}
use Rattle.store.proofs.Ways.{told_left}
use Rattle.store.proofs.Purges.{purge_5, purge_9, purge_33, purge_done, line_within}
use Rattle.store.proofs.purge.Goals as goal

pub returns-then-not-is_sound : goal.returns-then-not-is_sound
returns-then-not-is_sound c =
    let a = c.args in
    told_left (purge_5 a.store.now a.line _ c.is_sound.ensures c.if-not-is_sound.true)

pub returns-then-line-ge-TIME_LIMIT : goal.returns-then-line-ge-TIME_LIMIT
returns-then-line-ge-TIME_LIMIT c =
    let a = c.args in
    told_left (purge_9 a.store.now a.line _ c.is_sound.ensures c.if-not-is_sound.false c.if-line-ge-TIME_LIMIT.true)

pub returns-then-line-purge_line : goal.returns-then-line-purge_line
returns-then-line-purge_line c =
    let a = c.args in
    told_left (purge_33 a.store.now a.line _ c.is_sound.ensures c.if-not-is_sound.false c.if-line-ge-TIME_LIMIT.false
    _ c.purge_line.ensures.is c.if-line-purge_line.true)

pub slice_bounds-put_be-end : goal.slice_bounds-put_be-end
slice_bounds-put_be-end c =
    let a = c.args in
    line_within a.store.now a.line _ c.is_sound.ensures c.if-not-is_sound.false _ c.clear-removed.auto.store

pub returns : goal.returns
returns c =
    let a = c.args in
    let r = c.clear-removed in
    told_left (purge_done a.store.now a.line _ c.is_sound.ensures c.if-not-is_sound.false c.if-line-ge-TIME_LIMIT.false
    _ c.purge_line.ensures.is c.if-line-purge_line.false _ r.ensures.told _ r.ensures.left r.auto.store _ refl _ c.put_be.ensures)

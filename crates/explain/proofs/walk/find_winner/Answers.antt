use native.Mathlib.Omega.{arith}
use Rattle.explain.specs.Walk.{entries_in, placed}
use Rattle.explain.proofs.OneWalk.{winner-over}
use Rattle.explain.proofs.Walking.{most, stands_first, step, met_all, so_far_next, so_far_end}
use Rattle.explain.proofs.walk.find_winner.Goals as goal

pub loop-at-init : goal.loop-at-init
loop-at-init c =
    let a = c.args in
    (stands_first a.list.now c.requires, winner-over a.key.now (entries_in a.list.now))

pub overflow_add-place : goal.overflow_add-place
overflow_add-place c =
    let met = step c.loop-at.invariant.0 c.loop-at-test.true c.args.key.now _ _ c.peek-seen.ensures.entry c.peek-seen.ensures.next.0 in
    omega (arith, met.more, most c.args.list.now c.requires)

pub loop-at-smaller : goal.loop-at-smaller
loop-at-smaller c =
    let met = step c.loop-at.invariant.0 c.loop-at-test.true c.args.key.now _ _ c.peek-seen.ensures.entry c.peek-seen.ensures.next.0 in
    omega (arith, met.farther, met.next.within)

pub loop-at-preserved : goal.loop-at-preserved
loop-at-preserved c =
    let met = step c.loop-at.invariant.0 c.loop-at-test.true c.args.key.now _ _ c.peek-seen.ensures.entry c.peek-seen.ensures.next.0 in
    (met.next, rw c.best_with-best.ensures (so_far_next met (placed c.loop-at.best) c.loop-at.invariant.1))

pub returns : goal.returns
returns c =
    let l = c.loop-at in
    let a = c.args in
    so_far_end a.key.now (entries_in a.list.now) l.place (placed l.best) l.invariant.1 (met_all l.invariant.0 c.loop-at-test.false)

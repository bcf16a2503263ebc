use native.Mathlib.Omega.{arith}
use Rattle.deliveries.proofs.Runs.{count_start, turn_end, turn_nothing, Turned, turn_next}
use Rattle.deliveries.proofs.count.Goals as goal

pub loop-at-init : goal.loop-at-init
loop-at-init c = (count_start c.args.list.now, omega arith, omega arith)

pub returns-in_default : goal.returns-in_default
returns-in_default c =
    turn_nothing c.args.list.now c.loop-at.at c.loop-at.n c.loop-at.invariant.0 c.loop-at-test.true
    (omega arith) _ c.cut_delivery.ensures c.in_default.is

pub overflow_add-at : goal.overflow_add-at
overflow_add-at c =
    let next : Turned c.args.list.now c.loop-at.at c.loop-at.n c.in-Some.front.end =
    turn_next c.args.list.now c.loop-at.at c.loop-at.n c.loop-at.invariant.0 c.loop-at-test.true (omega arith) _ c.cut_delivery.ensures _ c.in-Some.is in
    omega (arith, next.within)

pub loop-at-smaller : goal.loop-at-smaller
loop-at-smaller c =
    let next : Turned c.args.list.now c.loop-at.at c.loop-at.n c.in-Some.front.end =
    turn_next c.args.list.now c.loop-at.at c.loop-at.n c.loop-at.invariant.0 c.loop-at-test.true (omega arith) _ c.cut_delivery.ensures _ c.in-Some.is in
    omega (arith, next.some_bytes, next.within)

pub loop-at-preserved : goal.loop-at-preserved
loop-at-preserved c =
    let next : Turned c.args.list.now c.loop-at.at c.loop-at.n c.in-Some.front.end =
    turn_next c.args.list.now c.loop-at.at c.loop-at.n c.loop-at.invariant.0 c.loop-at-test.true (omega arith) _ c.cut_delivery.ensures _ c.in-Some.is in
    (next.counts, omega arith, next.within)

pub returns : goal.returns
returns c =
    turn_end c.args.list.now c.loop-at.at c.loop-at.n c.loop-at.invariant.0 c.loop-at-test.false

use native.Mathlib.Omega.{arith}
use mathlib.Core.Path.{refl, ◌∙◌}
use lib.ListN.{length-set}
use Rattle.explain.specs.Walk.{entries_in}
use Rattle.explain.proofs.Walking.{most, stands_first, step, met_all, write_turn, write_done}
use Rattle.explain.proofs.walk.write_reasons.Goals as goal

pub loop-at-init : goal.loop-at-init
loop-at-init c =
    (stands_first c.args.list.now c.requires.0, refl, refl)

pub peek-seen-requires : goal.peek-seen-requires
peek-seen-requires c = c.loop-at.invariant.0.within

pub bounds-reasons-place : goal.bounds-reasons-place
bounds-reasons-place c =
    let met = step c.loop-at.invariant.0 c.loop-at-test.true c.args.key.now _ _ c.peek-seen.ensures.entry c.peek-seen.ensures.next.0 in
    omega (arith, met.more, c.requires.1, c.loop-at.invariant.1)

pub overflow_add-place : goal.overflow_add-place
overflow_add-place c =
    let met = step c.loop-at.invariant.0 c.loop-at-test.true c.args.key.now _ _ c.peek-seen.ensures.entry c.peek-seen.ensures.next.0 in
    omega (arith, met.more, most c.args.list.now c.requires.0)

pub loop-at-smaller : goal.loop-at-smaller
loop-at-smaller c =
    let met = step c.loop-at.invariant.0 c.loop-at-test.true c.args.key.now _ _ c.peek-seen.ensures.entry c.peek-seen.ensures.next.0 in
    omega (arith, met.farther, met.next.within)

pub loop-at-preserved : goal.loop-at-preserved
loop-at-preserved c =
    let met = step c.loop-at.invariant.0 c.loop-at-test.true c.args.key.now _ _ c.peek-seen.ensures.entry c.peek-seen.ensures.next.0 in
    let l = c.loop-at in (
      met.next,
      simp length-set l.invariant.1,
      write_turn c.args.key.now (entries_in c.args.list.now) c.args.reasons.now met c.requires.1 _ c.requires.2
          _ (c.from.ensures ∙ c.reason_at.ensures) _ l.invariant.2,
    )

pub returns : goal.returns
returns c =
    let l = c.loop-at in
    let a = c.args in
    l.invariant.2 ∙ write_done a.key.now (entries_in a.list.now) a.reasons.now l.place (met_all l.invariant.0 c.loop-at-test.false)

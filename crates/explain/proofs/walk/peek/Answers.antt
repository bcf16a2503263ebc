use native.Mathlib.Omega.{arith}
use Rattle.explain.proofs.Seeing.{seen_nothing, behind_nothing, end_within, seen_delivery, seen_other, behind_delivery}
use Rattle.explain.proofs.walk.peek.Goals as goal

pub returns-in_default-clause-entry : goal.returns-in_default-clause-entry
returns-in_default-clause-entry c = seen_nothing _ _ _ _ c.cut_unchecked.ensures c.in_default.is

pub returns-in_default-clause-next : goal.returns-in_default-clause-next
returns-in_default-clause-next c = (behind_nothing _ _ c.args.key.now _ c.cut_unchecked.ensures c.in_default.is, omega arith)

pub overflow_add-next : goal.overflow_add-next
overflow_add-next c = omega (arith, end_within _ _ c.args.key.now _ c.cut_unchecked.ensures _ c.in-Some.is c.requires)

pub returns-then-not-same-clause-entry : goal.returns-then-not-same-clause-entry
returns-then-not-same-clause-entry c =
    seen_other _ _ _ _ c.cut_unchecked.ensures _ c.in-Some.is _ c.of-entry.ensures _ c.same.ensures c.if-not-same.true

pub returns-then-not-same-clause-next : goal.returns-then-not-same-clause-next
returns-then-not-same-clause-next c = (
  behind_delivery _ _ c.args.key.now _ c.cut_unchecked.ensures _ c.in-Some.is,
  end_within _ _ c.args.key.now _ c.cut_unchecked.ensures _ c.in-Some.is c.requires,
)

pub returns-clause-entry : goal.returns-clause-entry
returns-clause-entry c =
    seen_delivery _ _ _ _ c.cut_unchecked.ensures _ c.in-Some.is _ c.of-entry.ensures _ c.same.ensures c.if-not-same.false

pub returns-clause-next : goal.returns-clause-next
returns-clause-next c = (
  behind_delivery _ _ c.args.key.now _ c.cut_unchecked.ensures _ c.in-Some.is,
  end_within _ _ c.args.key.now _ c.cut_unchecked.ensures _ c.in-Some.is c.requires,
)

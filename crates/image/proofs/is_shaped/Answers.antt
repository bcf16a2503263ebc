use native.Mathlib.Omega.{arith}
use mathlib.Core.Path.{sym, ap, ◌∙◌}
use Rattle.image.specs.Layout.{slot_start}
use Rattle.image.proofs.Soundness.{bad_some, bad_most, bad_room, bad_size, bad_width, bad_offset, shaped_by_rest}
use Rattle.image.proofs.Sealing.{zero_test}
use Rattle.image.proofs.is_shaped.Goals as goal

pub returns-then-slots-lt1 : goal.returns-then-slots-lt1
returns-then-slots-lt1 c = bad_some c.args.store.now c.slot_count-slots.result c.slot_count-slots.ensures.is c.if-slots-lt1.true

pub returns-then-slots-gt-MAX_SLOTS : goal.returns-then-slots-gt-MAX_SLOTS
returns-then-slots-gt-MAX_SLOTS c =
    bad_most c.args.store.now c.slot_count-slots.result c.slot_count-slots.ensures.is c.if-slots-gt-MAX_SLOTS.true

pub returns-then-slots-used_count : goal.returns-then-slots-used_count
returns-then-slots-used_count c =
    bad_room c.args.store.now c.slot_count-slots.result c.slot_count-slots.ensures.is c.used_count.result
    c.used_count.ensures.is c.if-slots-used_count.true

pub returns-then-store-slots : goal.returns-then-store-slots
returns-then-store-slots c =
    bad_size c.args.store.now c.slot_count-slots.result c.slot_count-slots.ensures.is c.if-store-slots.true

pub returns-then-number_at : goal.returns-then-number_at
returns-then-number_at c =
    bad_width c.args.store.now c.number_at.result c.number_at.ensures.is c.if-number_at.true

pub returns-then-number_at-2 : goal.returns-then-number_at-2
returns-then-number_at-2 c =
    bad_offset c.args.store.now c.number_at-2.result c.number_at-2.ensures.is c.if-number_at-2.true

pub returns : goal.returns
returns c =
    let s = c.args.store.now in
    let n = c.slot_count-slots in
    let u = c.used_count in
    sym (zero_test _ _ _ c.all_zero.ensures c.part.ensures) ∙ shaped_by_rest s (λ i. (c.type_inv.store i).fits)
    (omega (arith, n.ensures.is, c.if-slots-lt1.false)) (omega (arith, n.ensures.is, c.if-slots-gt-MAX_SLOTS.false))
    (omega (arith, n.ensures.is, u.ensures.is, c.if-slots-used_count.false))
    (c.if-store-slots.false ∙ ap slot_start n.ensures.is) (sym c.number_at.ensures.is ∙ c.if-number_at.false)
    (sym c.number_at-2.ensures.is ∙ c.if-number_at-2.false)

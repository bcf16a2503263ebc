use native.Mathlib.Omega.{arith}
use mathlib.Core.Path.{ap, ◌∙◌}
use Prim.Native.Nat.{◌+◌, ◌-◌}
use Rattle.wire.proofs.Fill.{length-field}
use Rattle.checksum.specs.Crc32c.{crc32c}
use Rattle.image.specs.Layout.{key_at, key_width, value_at, value_width}
use Rattle.image.proofs.Sealing.{zero_is, zero_test, bad_fill, bad_key_fill, bad_value_fill, sealed_by_sum}
use Rattle.image.proofs.is_sealed.Goals as goal

pub returns-then-not-all_zero : goal.returns-then-not-all_zero
returns-then-not-all_zero c =
    let a = c.args in
    bad_fill a.slot.now a.klen a.vlen c.requires
    (zero_test _ _ _ c.all_zero.ensures c.part.ensures ∙ c.if-not-all_zero.true)

pub returns-then-not-all_zero-2 : goal.returns-then-not-all_zero-2
returns-then-not-all_zero-2 c =
    let a = c.args in
    bad_key_fill a.slot.now a.klen a.vlen c.requires
    (zero_test _ _ _ c.all_zero-2.ensures c.part-2.ensures ∙ c.if-not-all_zero-2.true)

pub returns-then-not-all_zero-3 : goal.returns-then-not-all_zero-3
returns-then-not-all_zero-3 c =
    let a = c.args in
    bad_value_fill a.slot.now a.klen a.vlen c.requires
    (zero_test _ _ _ c.all_zero-3.ensures c.part-3.ensures ∙ c.if-not-all_zero-3.true)

pub returns : goal.returns
returns c =
    let a = c.args in
    let s = a.slot.now in
    let p = c.requires in
    sealed_by_sum s a.klen a.vlen p (λ i. (c.type_inv.slot i).fits)
    (zero_is 3 _ (length-field 13 3 s (omega (arith, p.long)))
    (zero_test _ _ _ c.all_zero.ensures c.part.ensures ∙ c.if-not-all_zero.false))
    (zero_is (key_width - a.klen) _ (length-field (key_at + a.klen) (key_width - a.klen) s (omega (arith, p.long, p.key_fits)))
    (zero_test _ _ _ c.all_zero-2.ensures c.part-2.ensures ∙ c.if-not-all_zero-2.false))
    (zero_is (value_width - a.vlen) _ (length-field (value_at + a.vlen) (value_width - a.vlen) s (omega (arith, p.long, p.value_fits)))
    (zero_test _ _ _ c.all_zero-3.ensures c.part-3.ensures ∙ c.if-not-all_zero-3.false))
    c.sum.result c.number_at.result (c.sum.ensures ∙ ap crc32c c.part-4.ensures)
    (omega (arith, c.sum.type_inv)) c.number_at.ensures.is

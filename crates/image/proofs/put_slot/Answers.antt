use borrow.Author.Tests.{eq-eqb, ne_eqb}
use native.Mathlib.Omega.{arith}
use mathlib.Core.Path.{◌≡◌, sym, ap, ◌∙◌}
use mathlib.Core.List.{◌++◌}
use Prim.Native.Nat.{ℕ}
use lib.Seq.{take_at}
use lib.ListN.{length, take, drop}
use Rattle.wire.specs.Fill.{padded}
use Rattle.wire.specs.Number.{be}
use Rattle.wire.proofs.Writing.{written_none, write_next, written_all}
use Rattle.wire.proofs.Fill.{length-padded}
use Rattle.wire.proofs.Number.{length-be}
use Rattle.checksum.specs.Crc32c.{crc32c}
use Rattle.entry.specs.Entry.{entry_in}
use Rattle.image.specs.Layout.{key_at, key_width, value_at, value_width, body_width, slot_width}
use Rattle.image.specs.Slot.{slot_with}
use Rattle.image.specs.Image.{slot_head, slot_body, slot_bytes}
use Rattle.image.proofs.SlotLaws.{length_head}
use Rattle.image.proofs.put_slot.Goals as goal

pub returns-then-slot-ne-SLOT_WIDTH : goal.returns-then-slot-ne-SLOT_WIDTH
unfolding slot_with
returns-then-slot-ne-SLOT_WIDTH c = sym (rw (ne_eqb (length c.args.slot.now) slot_width c.if-slot-ne-SLOT_WIDTH.true))

pub returns : goal.returns
unfolding slot_with slot_bytes slot_body
returns c =
    let a = c.args in
    let s = a.slot.now in
    let n : length s ≡ slot_width = c.if-slot-ne-SLOT_WIDTH.false in
    let e = entry_in a.entry in
    let w1 = write_next (λ (w : ℕ). slot_head e) 0 key_at _ s _ _ (length_head e) (omega arith) (written_none s) c.put_head.ensures in
    let w2 = write_next (λ (w : ℕ). padded w e.key) key_at key_width _ s _ _ (length-padded key_width _) (omega arith) w1
    c.put_padded.ensures in
    let w3 = write_next (λ (w : ℕ). padded w e.value) value_at value_width _ s _ _ (length-padded value_width _) (omega arith) w2
    c.put_padded-2.ensures in
    let sum : c.crc32c-sum.result ≡ crc32c (slot_body e) = c.crc32c-sum.ensures
    ∙ ap crc32c (ap (take body_width) w3.is ∙ take_at (slot_body e) (drop body_width s) body_width w3.long) in
    let w4 = write_next (λ (w : ℕ). be w c.crc32c-sum.result) body_width 4 _ s _ _ (length-be 4 _) (omega arith) w3 c.put_be.ensures in
    written_all slot_width _ s _ n w4 ∙ ap (λ (x : ℕ). slot_body e ++ be 4 x) sum ∙ sym (rw (eq-eqb (length s) slot_width n))

use Rattle.store.proofs.Ways.{told_left}
use native.Mathlib.Omega.{arith}
use mathlib.Core.Path.{◌≡◌, ◌∙◌}
use Prim.Native.Nat.{ℕ, ◌+◌, ◌-◌}
use lib.ListN.{length}
use lib.Seq.{length-take-le}
use Rattle.wire.specs.Fill.{zeros}
use Rattle.wire.proofs.Writing.{written_none, write_next, written_all}
use Rattle.wire.proofs.Fill.{length-zeros}
use Rattle.image.specs.Layout.{header_width, slot_start}
use Rattle.image.specs.Image.{header}
use Rattle.image.proofs.ImageLaws.{length-header, header_with_lem}
use Rattle.store.proofs.Ways.{create_few, create_many, create_size, create_done, fresh_bytes}
use Rattle.store.proofs.create.Goals as goal
use Rattle.store.proofs.create.Goals.{then-slots-lt1-via-then-slots-lt1, then-slots-lt1-via-else-slots-lt1+then-slots-gt-MAX_SLOTS}

pub returns-then-slots-lt1 : goal.returns-then-slots-lt1
returns-then-slots-lt1 c =
    let a = c.args in
    told_left (elim c.then-slots-lt1.branch [
      | then-slots-lt1-via-then-slots-lt1 w ↦ create_few a.buffer.now a.slots w.if-slots-lt1.true
      | then-slots-lt1-via-else-slots-lt1+then-slots-gt-MAX_SLOTS w ↦ create_many a.buffer.now a.slots w.if-slots-lt1.false w.if-slots-gt-MAX_SLOTS.true
    ])

pub returns-then-n-slots : goal.returns-then-n-slots
returns-then-n-slots c =
    let a = c.args in
    told_left (create_size a.buffer.now a.slots c.if-slots-lt1.false c.if-slots-gt-MAX_SLOTS.false c.if-n-slots.true)

pub returns : goal.returns
unfolding zeros
returns c =
    let a = c.args in
    let s = a.buffer.now in
    let n : length s ≡ slot_start a.slots = c.if-n-slots.false in
    told_left (let w1 = write_next (λ (w : ℕ). header a.slots 0 0) 0 header_width _ s _ _ (length-header _ _ _) (omega arith) (written_none s)
    (c.put_header.ensures ∙ header_with_lem a.slots 0 0 _ (length-take-le header_width s (omega arith))) in
    let w2 = write_next zeros header_width (length s - header_width) _ s _ _ (length-zeros _) (omega arith) w1 (c.fill.ensures.after (λ y e. e)) in
    create_done s a.slots c.if-slots-lt1.false c.if-slots-gt-MAX_SLOTS.false n _
    (written_all (header_width + (length s - header_width)) _ s _ (omega arith) w2 ∙ fresh_bytes a.slots (length s - header_width) (omega arith)))

use mathlib.Core.Path.{sym, ap, ◌∙◌}
use Prim.Native.Nat.{ℕ}
use lib.ListN.{length}
use Rattle.wire.specs.Fill.{field}
use Rattle.image.specs.Layout.{slot_start}
use Rattle.image.proofs.Soundness.{bad_shape, bad_slots, bad_keys, shape_of, sound_by_rest}
use Rattle.image.proofs.is_sound.Goals as goal

pub returns-then-not-is_shaped : goal.returns-then-not-is_shaped
returns-then-not-is_shaped c = bad_shape c.args.store.now (sym c.is_shaped.ensures ∙ c.if-not-is_shaped.true)

pub returns-then-not-slots_sound : goal.returns-then-not-slots_sound
returns-then-not-slots_sound c =
    bad_slots c.args.store.now (sym c.slots_sound.ensures ∙ c.if-not-slots_sound.true)

pub returns-then-not-keys_ascend : goal.returns-then-not-keys_ascend
returns-then-not-keys_ascend c =
    bad_keys c.args.store.now (sym c.keys_ascend.ensures ∙ c.if-not-keys_ascend.true)

pub returns : goal.returns
returns c =
    let s = c.args.store.now in
    c.all_zero.ensures ∙ sound_by_rest s (shape_of s (sym c.is_shaped.ensures ∙ c.if-not-is_shaped.false))
    (sym c.slots_sound.ensures ∙ c.if-not-slots_sound.false)
    (sym c.keys_ascend.ensures ∙ c.if-not-keys_ascend.false) _
    (c.part.ensures ∙ ap (λ (u : ℕ). field (slot_start u) (length s) s) c.used_count.ensures.is)

use native.Mathlib.Omega.{arith}
use mathlib.Core.Path.{sym, ap, ◌∙◌}
use Rattle.image.specs.Image.{slot_entry}
use Rattle.store.proofs.Listings.{list_5, list_17, list_entry}
use Rattle.store.proofs.entry_at.Goals as goal

pub returns-then-not-is_sound : goal.returns-then-not-is_sound
returns-then-not-is_sound c =
    let a = c.args in
    list_5 a.store.now a.i (sym c.is_sound.ensures ∙ c.if-not-is_sound.true)

pub returns-then-used_count-i : goal.returns-then-used_count-i
returns-then-used_count-i c =
    let a = c.args in
    list_17 a.store.now a.i (sym c.is_sound.ensures ∙ c.if-not-is_sound.false) (omega (arith, c.used_count.ensures.is))

pub returns : goal.returns
returns c =
    let a = c.args in
    list_entry a.store.now a.i (sym c.is_sound.ensures ∙ c.if-not-is_sound.false)
    (omega (arith, c.used_count.ensures.is, c.if-used_count-i.false)) _ (c.slot_entry-found.ensures ∙ ap slot_entry c.slot.ensures)

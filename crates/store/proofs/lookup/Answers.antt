use mathlib.Core.Path.{sym, ◌∙◌}
use Rattle.store.proofs.Ways.{look_5}
use Rattle.store.proofs.OnSound.{unchecked_on_sound}
use Rattle.store.proofs.lookup.Goals as goal

pub returns-then-not-is_sound : goal.returns-then-not-is_sound
returns-then-not-is_sound c =
    let a = c.args in
    look_5 a.store.now a.key.now _ c.is_sound.ensures c.if-not-is_sound.true

pub returns : goal.returns
returns c =
    let a = c.args in
    c.lookup_unchecked.ensures ∙ (unchecked_on_sound a.store.now (sym c.is_sound.ensures ∙ c.if-not-is_sound.false)).lookup
    a.key.now

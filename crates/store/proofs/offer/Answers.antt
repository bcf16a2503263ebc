use mathlib.Core.Path.{sym, ◌∙◌}
use Rattle.entry.specs.Entry.{entry_in}
use Rattle.store.proofs.Ways.{told_left, offer_5}
use Rattle.store.proofs.OnSound.{unchecked_on_sound}
use Rattle.store.proofs.offer.Goals as goal

pub returns-then-not-is_sound : goal.returns-then-not-is_sound
returns-then-not-is_sound c =
    told_left (offer_5 c.args.store.now (entry_in c.args.entry) _ c.is_sound.ensures c.if-not-is_sound.true)

pub returns : goal.returns
returns c =
    let o = c.offer_unchecked.ensures in
    let u = unchecked_on_sound c.args.store.now (sym c.is_sound.ensures ∙ c.if-not-is_sound.false) in
    record { told = o.told ∙ u.offer (entry_in c.args.entry); left = o.left ∙ u.after (entry_in c.args.entry) }

use Rattle.std.proofs.Common.{rules}
use mathlib.Core.Path.{◌≡◌, ◌∙◌}
use Rattle.entry.specs.Refusal.{number}
use Rattle.entry.specs.Entry.{entry_in}
use Rattle.store.specs.Answer.{answer_of, refused}
use Rattle.store.proofs.Ways.{told_left, offer_refused, offer_placed}
use Rattle.store.proofs.offer_unchecked.Goals as goal

pub returns-in_err-judge : goal.returns-in_err-judge
returns-in_err-judge c =
    let k = offer_refused c.args.store.now (entry_in c.args.entry) _ c.in_err-judge.ensures in
    let r : answer_of c.from_residual.result ≡ refused (number c.in_err-judge.field-0.0) = search rules in
    record { told = r ∙ k.0; left = k.1 }

pub returns : goal.returns
returns c =
    told_left (offer_placed c.args.store.now (entry_in c.args.entry) c.in_ok-judge.ensures _ _ c.place_entry.ensures.told c.place_entry.ensures.left)

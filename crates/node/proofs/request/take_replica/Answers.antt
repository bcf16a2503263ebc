use mathlib.Core.Path.{◌≡◌, refl, sym, ap, ◌∙◌}
use Rattle.std.proofs.Common.{rules}
use Rattle.std.specs.Prelude.{Err}
use Rattle.entry.specs.Refusal.{refusal_number}
use Rattle.entry.specs.Entry.{entry_in}
use Rattle.entry.proofs.Numbers.{number-range}
use Rattle.clock.specs.Clock.{receive_step}
use Rattle.clock.proofs.Steps.{receive_numbered}
use Rattle.node.proofs.Settling.{does_as, does_nothing, offer_does, offer_refused}
use Rattle.node.proofs.Serving.{received, not_received}
use Rattle.node.proofs.request.take_replica.Goals as goal

pub returns-in_err-receipt : goal.returns-in_err-receipt
returns-in_err-receipt c =
    let a = c.args in
    let r : c.from_residual.result ≡ Err c.in_err-receipt.field-0.0 = search rules in
    rw r (does_nothing _ _ _ _ refl (not_received a.store.now a.clock a.clock (entry_in a.entry) _ _ (number-range c.in_err-receipt.field-0.0).0
    (sym (ap refusal_number c.in_err-receipt.was) ∙ c.receive-receipt.ensures.answer_is)))

pub returns-in_err-offer_unchecked : goal.returns-in_err-offer_unchecked
returns-in_err-offer_unchecked c =
    let a = c.args in
    let e = entry_in a.entry in
    let p = e.stamp in
    let t = c.receive-receipt in
    let r : c.from_residual-in_err-offer_unchecked.result ≡ Err c.in_err-offer_unchecked.field-0.0 = search rules in
    rw r (does_as _ _ _ _ _
    (received a.store.now a.clock t.result.clock e (receive_step a.clock p.phys p.logical a.time)
    (receive_numbered a.clock p.phys p.logical a.time) t.ensures.clock_is (sym (ap refusal_number c.in_ok-receipt.was) ∙ t.ensures.answer_is))
    (offer_refused _ _ c.requires e c.offer_unchecked.ensures.left t.result.clock _ c.offer_unchecked.ensures.told _ c.in_err-offer_unchecked.was))

pub returns : goal.returns
returns c =
    let a = c.args in
    let e = entry_in a.entry in
    let p = e.stamp in
    let t = c.receive-receipt in
    does_as _ _ _ _ _
    (received a.store.now a.clock t.result.clock e (receive_step a.clock p.phys p.logical a.time)
    (receive_numbered a.clock p.phys p.logical a.time) t.ensures.clock_is (sym (ap refusal_number c.in_ok-receipt.was) ∙ t.ensures.answer_is))
    (offer_does _ _ c.requires e c.offer_unchecked.ensures.left t.result.clock _ c.offer_unchecked.ensures.told _ c.in_ok-offer_unchecked.was)

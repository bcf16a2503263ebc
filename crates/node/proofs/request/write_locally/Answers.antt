use mathlib.Core.Path.{◌≡◌, refl, sym, ap, ◌∙◌}
use Rattle.std.proofs.Common.{rules}
use Rattle.std.specs.Prelude.{Err}
use Rattle.entry.specs.Entry.{entry_of}
use Rattle.clock.specs.Clock.{send_step}
use Rattle.clock.specs.Answer.{send_meaning}
use Rattle.node.proofs.Settling.{does_as, does_nothing, offer_does, offer_refused}
use Rattle.node.proofs.Serving.{sent, overtook, not_sent}
use Rattle.node.proofs.request.write_locally.Goals as goal

pub returns-in_err-stamp : goal.returns-in_err-stamp
returns-in_err-stamp c =
    let a = c.args in
    let r : c.from_residual.result ≡ Err c.in_err-stamp.field-0.0 = search rules in
    rw r (does_nothing _ _ _ _ refl (not_sent a.store.now a.clock a.clock a.key.now a.value.now a.flag (send_step a.clock a.time) _
    (sym (ap send_meaning c.in_err-stamp.was) ∙ c.send-sent.ensures.answer_is)))

pub returns-then-is_overtaken : goal.returns-then-is_overtaken
returns-then-is_overtaken c =
    let a = c.args in
    does_nothing _ _ _ _ refl
    (overtook a.store.now a.clock c.send-sent.result.clock c.requires a.key.now a.value.now a.flag c.in_ok-stamp.stamp _ c.is_overtaken.ensures
    (send_step a.clock a.time) (sym (ap send_meaning c.in_ok-stamp.was) ∙ c.send-sent.ensures.answer_is) c.if-is_overtaken.true)

pub returns-in_err-offer_unchecked : goal.returns-in_err-offer_unchecked
returns-in_err-offer_unchecked c =
    let a = c.args in
    let s = c.send-sent in
    let e = entry_of a.key.now a.value.now a.flag c.in_ok-stamp.stamp in
    let r : c.from_residual-in_err-offer_unchecked.result ≡ Err c.in_err-offer_unchecked.field-0.0 = search rules in
    rw r (does_as _ _ _ _ _
    (sent a.store.now a.clock s.result.clock c.requires a.key.now a.value.now a.flag c.in_ok-stamp.stamp _ c.is_overtaken.ensures
    (send_step a.clock a.time) (sym (ap send_meaning c.in_ok-stamp.was) ∙ s.ensures.answer_is) s.ensures.clock_is c.if-is_overtaken.false)
    (offer_refused _ _ c.requires e c.offer_unchecked.ensures.left s.result.clock _ c.offer_unchecked.ensures.told _ c.in_err-offer_unchecked.was))

pub returns : goal.returns
returns c =
    let a = c.args in
    let s = c.send-sent in
    let e = entry_of a.key.now a.value.now a.flag c.in_ok-stamp.stamp in
    does_as _ _ _ _ _
    (sent a.store.now a.clock s.result.clock c.requires a.key.now a.value.now a.flag c.in_ok-stamp.stamp _ c.is_overtaken.ensures
    (send_step a.clock a.time) (sym (ap send_meaning c.in_ok-stamp.was) ∙ s.ensures.answer_is) s.ensures.clock_is c.if-is_overtaken.false)
    (offer_does _ _ c.requires e c.offer_unchecked.ensures.left s.result.clock _ c.offer_unchecked.ensures.told _ c.in_ok-offer_unchecked.was)

use Prim.Native.Nat.{ℕ}
use mathlib.Core.Path.{sym, ap, ◌∙◌}
use Rattle.capi_words.specs.Result.{packed}
use Rattle.capi.specs.Clock.{step_refusal}
use Rattle.capi.proofs.Clocks.{held_clock}
use Rattle.capi.proofs.sp_clock_receive.Goals as goal

-- tried without: the check's search meets its limit
pub returns-clause-told : goal.returns-clause-told
unfolding step_refusal
returns-clause-told c =
    let held = held_clock c.args.clock.now c.in-Some.held (sym c.in-Some.is ∙ c.clock_of.ensures) in
    rw (held.0, ← held.1) (c.done.ensures ∙ ap (λ (n : ℕ). packed n 0) c.receive-receipt.ensures.answer_is)

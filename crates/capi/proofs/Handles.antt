-- The request handler on a clock's words.
use Prim.Native.Nat.{◌≤◌}
use native.Mathlib.Omega.{arith}
use mathlib.Core.Path.{refl, ap, ◌∙◌}
use mathlib.Core.Logic.{inl, inr}
use Rattle.std.specs.Prelude.{Result, Ok, Err}
use Rattle.wire.proofs.Tests.{test}
use Rattle.entry.specs.declared.Refusal.{Refusal}
use Rattle.entry.specs.Refusal.{last_number, refusal_number}
use Rattle.entry.proofs.Numbers.{number-range}
use Rattle.node.proofs.Audit.{refusal_changes_nothing}
use Rattle.node.proofs.Telling.{reply_at_most_600}
use Rattle.capi.specs.Words.{is_clock, clock_of, clock_words}
use Rattle.capi.specs.Handle.{handle_refusal, handle_store, handle_clock}
use Rattle.capi.specs.Meaning.{RefusedHandle}
use Rattle.capi.proofs.Clocks.{no_clock, held_clock, put_clock, clock_layout}

-- a refusal and a length fit a result
pub answer_most : {A : Type 0} (r : Result A Refusal) → refusal_number r ≤ last_number
answer_most (Ok a) = omega arith
answer_most (Err r) = (number-range r).1

-- what the handler's answers are found by
pub ruleset handle_rules = (no_clock, held_clock, put_clock, answer_most, reply_at_most_600)

pub refused_handle : RefusedHandle
unfolding handle_refusal handle_store handle_clock
refused_handle store w time frame reply h = elim (test (is_clock w)) [
  | inl t ↦
      let k = refusal_changes_nothing store (clock_of w) time frame reply (rw t at h) in
      rw t (k.0, ap clock_words k.1 ∙ clock_layout.same w t)
  | inr f ↦ rw f (refl, refl)
]

-- When words are a clock, the clock's layout, and what a refusal leaves.
use mathlib.Core.Path.{◌≡◌, refl, ap, ◌∙◌}
use mathlib.Core.Logic.{inl, inr}
use mathlib.Core.Bool.{true, false, ◌&&◌}
use mathlib.Core.List.{List, [], ◌∷◌}
use Prim.Native.Nat.{ℕ, ◌^◌, ◌<◌}
use Rattle.std.specs.Prelude.{Some, None, Result, Ok, Err}
use native.Mathlib.Omega.{arith}
use lib.ListN.{length, drop, drop_of_length-le}
use lib.Dec.{ltb, eqb}
use borrow.Author.Tests.{lt-ltb, le-ltb, ltb-true, eqb-true}
use Rattle.wire.proofs.Tests.{test, never, and-true}
use Rattle.entry.specs.declared.Refusal.{Refusal}
use Rattle.entry.specs.declared.Stamp.{Stamp}
use Rattle.entry.specs.Refusal.{refusal_number}
use Rattle.clock.specs.declared.Clock.{Clock}
use Rattle.clock.specs.Clock.{Stepped, next, refused, fresh_clock, send_step, receive_step}
use Rattle.clock.specs.Answer.{given, send_meaning, clock_after, step_refusal_of}
use Rattle.frame.specs.Writing.{write_refusal, after_write}
use Rattle.capi_words.specs.Words.{word}
use Rattle.capi.specs.Words.{clock_words, is_clock, clock_of, clock_in}
use Rattle.capi.specs.Clock.{step_refusal, step_words}
use Rattle.capi.specs.Meaning.{ClockLayout, ClockWordsAre, StepKeeps, RefusedClock}
use Rattle.capi_words.proofs.Fronts.{front_kept}

-- what holds of a clock's words
pub record ClockParts (w : List ℕ) : Type 0 where
  pub size : length w ≡ 4
  pub logical : word w 1 < 2 ^ 16
  pub node : word w 2 < 2 ^ 8
  pub skew : word w 3 < 2 ^ 32

pub clock_parts : (w : List ℕ) → is_clock w ≡ true → ClockParts w
unfolding is_clock
clock_parts w h =
    let a = and-true (eqb (length w) 4 && ltb (word w 1) (2 ^ 16) && ltb (word w 2) (2 ^ 8)) (ltb (word w 3) (2 ^ 32)) h in
    let b = and-true (eqb (length w) 4 && ltb (word w 1) (2 ^ 16)) (ltb (word w 2) (2 ^ 8)) a.0 in
    let d = and-true (eqb (length w) 4) (ltb (word w 1) (2 ^ 16)) b.0 in
    record {
      size = eqb-true (length w) 4 d.0;
      logical = ltb-true (word w 1) (2 ^ 16) d.1;
      node = ltb-true (word w 2) (2 ^ 8) b.1;
      skew = ltb-true (word w 3) (2 ^ 32) a.1;
    }

four_words : (w : List ℕ) → length w ≡ 4 → word w 0 ∷ word w 1 ∷ word w 2 ∷ word w 3 ∷ [] ≡ w
four_words [] h = absurd (omega arith)
four_words (a ∷ []) h = absurd (omega arith)
four_words (a ∷ b ∷ []) h = absurd (omega arith)
four_words (a ∷ b ∷ c ∷ []) h = absurd (omega arith)
four_words (a ∷ b ∷ c ∷ d ∷ []) h = refl
four_words (a ∷ b ∷ c ∷ d ∷ e ∷ w) h = absurd (omega arith)

pub clock_layout : ClockLayout
unfolding clock_of
clock_layout = record { back = λ c. refl; same = λ w h. four_words w (clock_parts w h).size }

pub clock_words_are : ClockWordsAre
unfolding is_clock
clock_words_are c r = rw (lt-ltb c.logical (2 ^ 16) r.logical, lt-ltb c.node (2 ^ 8) r.node, lt-ltb c.skew (2 ^ 32) r.skew)

-- ---- a step on words
module _ (w : List ℕ) where
  pub no_clock : None ≡ clock_in w → is_clock w ≡ false
  unfolding clock_in
  no_clock e = elim (test (is_clock w)) [ inl t ↦ (let q = rw t at e in never (cc)) | inr f ↦ f ]

  pub held_clock : (c : Clock) → Some c ≡ clock_in w → (is_clock w ≡ true) × (c ≡ clock_of w)
  unfolding clock_in
  held_clock c e = elim (test (is_clock w)) [ inl t ↦ (let q = rw t at e in (t, cc)) | inr f ↦ (let q = rw f at e in never (cc)) ]

  pub put_clock : (d : Clock) → is_clock w ≡ true → after_write 0 (clock_words d) w ≡ clock_words d
  unfolding write_refusal after_write
  put_clock d t =
      let n = (clock_parts w t).size in
      let end : drop 4 w ≡ [] = drop_of_length-le w {i = 4} (omega (arith, n)) in
      rw (le-ltb (length w) 4 (omega (arith, n)), end)

pub given_refusal : (r : Result Stamp Refusal) (s : Stepped) → send_meaning r ≡ given s → refusal_number r ≡ step_refusal_of s
given_refusal (Ok t) (next d) e = refl
given_refusal (Ok t) (refused n) e = never (cc)
given_refusal (Err r) (next d) e = never (cc)
given_refusal (Err r) (refused n) e = cc

-- what a step's answers are found by
pub ruleset step_rules = (no_clock, held_clock, put_clock, given_refusal)

-- ---- a refused step
same_clock : (c : Clock) (s : Stepped) → (step_refusal_of s ≡ 0 → ⊥) → clock_after c s ≡ c
same_clock c (next d) h = absurd (h refl)
same_clock c (refused n) h = refl

step_kept : (step : Clock → Stepped) → StepKeeps step
unfolding step_refusal step_words
step_kept step w h = elim (test (is_clock w)) [
  | inl t ↦ rw t (ap clock_words (same_clock (clock_of w) (step (clock_of w)) (rw t at h)) ∙ clock_layout.same w t)
  | inr f ↦ rw f
]

pub refused_clock : RefusedClock
refused_clock =
    record {
      fresh = λ node. front_kept 0 (clock_words (fresh_clock node));
      send = λ now. step_kept (λ c. send_step c now);
      receive = λ p l now. step_kept (λ c. receive_step c p l now);
    }

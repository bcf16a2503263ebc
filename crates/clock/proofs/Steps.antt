-- The numbers of a step's refusals.
use mathlib.Core.Path.{◌≡◌, sym}
use mathlib.Core.Logic.{inl, inr}
use mathlib.Core.Bool.{◌||◌}
use Prim.Native.Nat.{ℕ, ◌+◌, ◌≤◌, max}
use native.Mathlib.Omega.{arith}
use lib.Dec.{ltb, leb, eqb}
use borrow.Author.Tests.{eqb-true, eqb-false}
use Rattle.wire.proofs.Tests.{test}
use Rattle.entry.specs.declared.Refusal.TheVariants as refusal
use Rattle.entry.specs.Refusal.{Numbered}
use Rattle.entry.specs.Entry.{bad_time}
use Rattle.clock.specs.declared.Clock.{Clock}
use Rattle.clock.specs.Clock.{Stepped, next, refused, raise, with_skew, send_step, receive_in_range, receive_step}

-- every refusal is 8 or 9
abbrev pub StepNumbered : Stepped → Type 0
StepNumbered (next d) = Unit {0}
StepNumbered (refused n) = (8 ≤ n) × (n ≤ 9)

pub step_numbered : (n : ℕ) → (8 ≤ n) × (n ≤ 9) → Numbered n
step_numbered n h = elim (test (eqb n 8)) [
  | inl p ↦ (refusal.ClockSpent, sym (eqb-true n 8 p))
  | inr p ↦ let ne : n ≡ 8 → ⊥ = eqb-false n 8 p in (refusal.BadTime, omega (arith, h.0, h.1, ne))
]

raise_numbered : (c : Clock) (p l : ℕ) → StepNumbered (raise c p l)
unfolding raise
raise_numbered c p l = elim (test (leb 65535 l)) [ inl h ↦ rw h (omega arith) | inr h ↦ rw h tt ]

pub send_numbered : (c : Clock) (now : ℕ) → StepNumbered (send_step c now)
unfolding send_step
send_numbered c now = elim (test (bad_time now || bad_time c.phys)) [
  | inl h ↦ rw h (omega arith)
  | inr h ↦ rw h (elim (test (ltb c.phys now)) [ inl k ↦ rw k tt | inr k ↦ rw k (raise_numbered c c.phys c.logical) ])
]

pub receive_numbered : (c : Clock) (p l now : ℕ) → StepNumbered (receive_step c p l now)
unfolding receive_step receive_in_range
receive_numbered c p l now = elim (test (bad_time now || bad_time c.phys || bad_time p)) [
  | inl h ↦ rw h (omega arith)
  | inr h ↦ rw h (elim (test (ltb (now + 2000) p)) [
    | inl k ↦ rw k (raise_numbered (with_skew c) (max c.phys now) c.logical)
    | inr k ↦ rw k (elim (test (ltb c.phys p)) [
      | inl j ↦ rw j (raise_numbered c p l)
      | inr j ↦ rw j (elim (test (eqb p c.phys)) [
        | inl i ↦ rw i (raise_numbered c c.phys _)
        | inr i ↦ rw i (raise_numbered c c.phys c.logical)
      ])
    ])
  ])
]

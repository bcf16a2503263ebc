-- Zeros alone, part by part.
use Prim.Native.Nat.{ℕ, zero, suc, ◌+◌, ◌≤◌, ◌<◌}
use native.Mathlib.Omega.{arith}
use native.Mathlib.Nat.{not-suc-le-zero, le_of_suc-le-suc}
use native.Mathlib.Numerals.{add-one}
use mathlib.Core.Path.{◌≡◌, refl, sym, ap, ◌∙◌}
use mathlib.Core.Logic.{inl, inr}
use mathlib.Core.Bool.{Bool, ◌&&◌}
use mathlib.Core.List.{List, [], ◌∷◌}
use lib.ListN.{length, take, drop, get_or}
use lib.Seq.{length-take-le}
use lib.Dec.{eqb}
use borrow.Author.Tests.{eq-eqb, ne_eqb, eqb-true, eqb-false}
use Rattle.wire.specs.Fill.{zeros}
use Rattle.wire.specs.Order.{same_bytes}
use Rattle.wire.proofs.Tests.{test}

-- all are zero
abbrev pub all_zero : List ℕ → Bool
all_zero s = same_bytes s (zeros (length s))

-- the first k, and the rest
pub zero_split : (k : ℕ) (s : List ℕ) → k ≤ length s → all_zero s ≡ (same_bytes (take k s) (zeros k) && all_zero (drop k s))
unfolding same_bytes zeros
zero_split zero s h = refl
zero_split (suc k) [] h = absurd (not-suc-le-zero h)
zero_split (suc k) (b ∷ s) h = elim (test (eqb b 0)) [
  | inl p ↦ rw p (zero_split k s (le_of_suc-le-suc h))
  | inr p ↦ rw p
]

zero_suc : (i : ℕ) (s : List ℕ) → i < length s → same_bytes (take (suc i) s) (zeros (suc i)) ≡ (same_bytes (take i s) (zeros i) && eqb (get_or s i 0) 0)
unfolding same_bytes zeros
zero_suc i [] h = absurd (not-suc-le-zero h)
zero_suc zero (b ∷ s) h = elim (test (eqb b 0)) [ inl p ↦ rw p | inr p ↦ rw p ]
zero_suc (suc i) (b ∷ s) h = elim (test (eqb b 0)) [
  | inl p ↦ rw p (zero_suc i s (le_of_suc-le-suc h))
  | inr p ↦ rw p
]

-- one more
pub zero_next : (i : ℕ) (s : List ℕ) → i < length s → same_bytes (take (i + 1) s) (zeros (i + 1)) ≡ (same_bytes (take i s) (zeros i) && eqb (get_or s i 0) 0)
zero_next i s h = rw add-one (zero_suc i s h)

-- a sum is 0 exactly if both are
pub sum_zero : (a b : ℕ) → eqb (a + b) 0 ≡ (eqb a 0 && eqb b 0)
sum_zero a b = elim (test (eqb a 0)) [
  | inl p ↦ elim (test (eqb b 0)) [
    | inl q ↦ rw (p, q) (eq-eqb (a + b) 0 (omega (arith, eqb-true a 0 p, eqb-true b 0 q)))
    | inr q ↦ rw (p, q) (ne_eqb (a + b) 0 (λ e. eqb-false b 0 q (omega arith)))
  ]
  | inr p ↦ rw p (ne_eqb (a + b) 0 (λ e. eqb-false a 0 p (omega arith)))
]

-- the first k decide, where they are not zeros alone, or else the rest
pub zero_block : (k : ℕ) (s : List ℕ) (b : Bool) → k ≤ length s → b ≡ all_zero (take k s) → all_zero s ≡ (b && all_zero (drop k s))
zero_block k s b h e =
    let n : length (take k s) ≡ k = length-take-le k s h in
    let f : b ≡ same_bytes (take k s) (zeros k) = e ∙ ap (λ (m : ℕ). same_bytes (take k s) (zeros m)) n in
    zero_split k s h ∙ ap (λ (x : Bool). x && all_zero (drop k s)) (sym f)

-- Laws of the order of byte strings, a strict total order, and of the turns of a comparison.
use Prim.Native.Nat.{ℕ, zero, suc, ◌<◌}
use native.Mathlib.Omega.{arith}
use mathlib.Core.Path.{◌≡◌, refl, sym, ap, ◌∙◌, ap₂}
use mathlib.Core.Logic.{◌⊎◌, inl, inr}
use mathlib.Core.Bool.{Bool, true, false, cond}
use mathlib.Core.List.{List, [], ◌∷◌, ◌++◌}
use lib.Pointwise.{pointwise}
use Rattle.std.specs.List as library
use Rattle.std.specs.Ordering.{nat_cmp}
use lib.ListN.{length, take, drop, get_or}
use lib.Seq.{take_all}
use Rattle.std.specs.Cmp.Lexicographic.{slice_cmp}
use lib.Dec.{ltb, eqb}
use borrow.Author.Tests.{ltb-true, ltb-false, eqb-true, eqb-false, lt-ltb, le-ltb, eq-eqb, ne_eqb}
use Rattle.wire.proofs.Tests.{test, clash, false_of}
use Rattle.wire.specs.Order.{same_bytes, bytes_below, comparison, starts_with}
use Rattle.wire.specs.Meaning.{ProperPrefix, FirstLess, BytesBelowExactly}

-- ---- two numbers decide, or, if they are equal, the rest
unfoldable pub lex : ℕ → ℕ → Bool → Bool
lex a b r = cond (ltb a b) true (cond (eqb a b) r false)

pub lex_true : (a b : ℕ) (r : Bool) → lex a b r ≡ true → (a < b) ⊎ ((a ≡ b) × (r ≡ true))
unfolding lex
lex_true a b r h = elim (test (ltb a b)) [
  | inl p ↦ inl (ltb-true a b p)
  | inr p ↦ elim (test (eqb a b)) [
    | inl q ↦ inr (eqb-true a b q, rw (p, q) at h)
    | inr q ↦ clash (rw (p, q) at h) refl
  ]
]

lex_false : (a b : ℕ) (r : Bool) → lex a b r ≡ false → (b < a) ⊎ ((a ≡ b) × (r ≡ false))
unfolding lex
lex_false a b r h = elim (test (ltb a b)) [
  | inl p ↦ clash refl (rw p at h)
  | inr p ↦ elim (test (eqb a b)) [
    | inl q ↦ inr (eqb-true a b q, rw (p, q) at h)
    | inr q ↦ inl (omega (arith, ltb-false a b p, eqb-false a b q))
  ]
]

pub lex_less : {a b : ℕ} (r : Bool) → a < b → lex a b r ≡ true
unfolding lex
lex_less {a} {b} r h = rw (lt-ltb a b h)

pub lex_same : {a b : ℕ} (r : Bool) → a ≡ b → lex a b r ≡ r
unfolding lex
lex_same {a} {b} r h = rw (le-ltb a b (omega arith), eq-eqb a b h)

pub lex_more : {a b : ℕ} (r : Bool) → b < a → lex a b r ≡ false
unfolding lex
lex_more {a} {b} r h = rw (le-ltb a b (omega arith), ne_eqb a b (omega arith))

pub lex_trans : (a b c : ℕ) (r s t : Bool) → (r ≡ true → s ≡ true → t ≡ true) → lex a b r ≡ true → lex b c s ≡ true → lex a c t ≡ true
lex_trans a b c r s t rest h k = elim (lex_true a b r h) [
  | inl p ↦ elim (lex_true b c s k) [ inl q ↦ lex_less t (omega arith) | inr q ↦ lex_less t (omega arith) ]
  | inr p ↦ elim (lex_true b c s k) [ inl q ↦ lex_less t (omega arith) | inr q ↦ lex_same t (p.0 ∙ q.0) ∙ rest p.1 q.1 ]
]

-- what is not below is transitive
pub lex_weak : (a b c : ℕ) (r s t : Bool) → (r ≡ false → s ≡ false → t ≡ false) → lex a b r ≡ false → lex b c s ≡ false → lex a c t ≡ false
lex_weak a b c r s t rest h k = elim (lex_false a b r h) [
  | inl p ↦ elim (lex_false b c s k) [ inl q ↦ lex_more t (omega arith) | inr q ↦ lex_more t (omega arith) ]
  | inr p ↦ elim (lex_false b c s k) [ inl q ↦ lex_more t (omega arith) | inr q ↦ lex_same t (p.0 ∙ q.0) ∙ rest p.1 q.1 ]
]

pub lex_asym : (a b : ℕ) (r s : Bool) → (r ≡ true → s ≡ false) → lex a b r ≡ true → lex b a s ≡ false
lex_asym a b r s rest h = elim (lex_true a b r h) [
  | inl p ↦ lex_more s p
  | inr p ↦ lex_same s (sym p.0) ∙ rest p.1
]

-- neither is below: equal, and the rest decides
pub lex_tied : (a b : ℕ) (r s : Bool) → lex a b r ≡ false → lex b a s ≡ false → (a ≡ b) × (r ≡ false) × (s ≡ false)
lex_tied a b r s h k = elim (lex_false a b r h) [
  | inl p ↦ clash (lex_less s p) k
  | inr p ↦ (p.0, p.1, sym (lex_same s (sym p.0)) ∙ k)
]

-- ---- byte strings
same_bytes-cons : (a b : ℕ) (r s : List ℕ) → same_bytes (a ∷ r) (b ∷ s) ≡ true → (a ≡ b) × (same_bytes r s ≡ true)
unfolding same_bytes
same_bytes-cons a b r s h = elim (test (eqb a b)) [
  | inl p ↦ (eqb-true a b p, rw p at h)
  | inr p ↦ clash (rw p at h) refl
]

pub same_bytes_eq : (j k : List ℕ) → same_bytes j k ≡ true → j ≡ k
unfolding same_bytes
same_bytes_eq [] [] h = refl
same_bytes_eq [] (b ∷ s) h = clash h refl
same_bytes_eq (a ∷ r) [] h = clash h refl
same_bytes_eq (a ∷ r) (b ∷ s) h =
    let c = same_bytes-cons a b r s h in
    ap₂ ◌∷◌ c.0 (same_bytes_eq r s c.1)

pub same_bytes_refl : (k : List ℕ) → same_bytes k k ≡ true
unfolding same_bytes
same_bytes_refl [] = refl
same_bytes_refl (a ∷ r) = rw (eq-eqb a a refl) (same_bytes_refl r)

pub bytes_below_trans : (i j k : List ℕ) → bytes_below i j ≡ true → bytes_below j k ≡ true → bytes_below i k ≡ true
unfolding bytes_below lex
bytes_below_trans [] [] k p q = clash p refl
bytes_below_trans [] (b ∷ s) [] p q = clash q refl
bytes_below_trans [] (b ∷ s) (c ∷ t) p q = refl
bytes_below_trans (a ∷ r) [] k p q = clash p refl
bytes_below_trans (a ∷ r) (b ∷ s) [] p q = clash q refl
bytes_below_trans (a ∷ r) (b ∷ s) (c ∷ t) p q = lex_trans a b c (bytes_below r s) (bytes_below s t) (bytes_below r t) (bytes_below_trans r s t) p q

pub bytes_below_irrefl : (k : List ℕ) → bytes_below k k ≡ false
unfolding bytes_below lex
bytes_below_irrefl [] = refl
bytes_below_irrefl (a ∷ r) = lex_same {a = a} (bytes_below r r) refl ∙ bytes_below_irrefl r

-- neither is below the other: they are the same
pub bytes_below_tied : (j k : List ℕ) → bytes_below j k ≡ false → bytes_below k j ≡ false → j ≡ k
unfolding bytes_below lex
bytes_below_tied [] [] p q = refl
bytes_below_tied [] (b ∷ s) p q = clash refl p
bytes_below_tied (a ∷ r) [] p q = clash refl q
bytes_below_tied (a ∷ r) (b ∷ s) p q =
    let t = lex_tied a b (bytes_below r s) (bytes_below s r) p q in
    ap₂ ◌∷◌ t.0 (bytes_below_tied r s t.1 t.2)

-- below: a prefix, or the lesser byte where they first differ
prefix_below : (a : List ℕ) (x : ℕ) (r : List ℕ) → bytes_below a (a ++ x ∷ r) ≡ true
unfolding bytes_below lex
prefix_below [] x r = refl
prefix_below (b ∷ a) x r = lex_same {a = b} (bytes_below a (a ++ x ∷ r)) refl ∙ prefix_below a x r

lesser_below : (f : List ℕ) (x y : ℕ) (r s : List ℕ) → x < y → bytes_below (f ++ x ∷ r) (f ++ y ∷ s) ≡ true
unfolding bytes_below lex
lesser_below [] x y r s h = lex_less (bytes_below r s) h
lesser_below (b ∷ f) x y r s h = lex_same {a = b} (bytes_below (f ++ x ∷ r) (f ++ y ∷ s)) refl ∙ lesser_below f x y r s h

below_by : (a b : List ℕ) → bytes_below a b ≡ true → ProperPrefix a b ⊎ FirstLess a b
unfolding bytes_below lex
below_by [] [] h = clash h refl
below_by [] (y ∷ s) h = inl (record { next = y; rest = s; longer = refl })
below_by (x ∷ r) [] h = clash h refl
below_by (x ∷ r) (y ∷ s) h = elim (lex_true x y (bytes_below r s) h) [
  | inl p ↦ inr (record { front = []; less = x; less_rest = r; more = y; more_rest = s; first = refl; second = refl; differ = p })
  | inr p ↦ elim (below_by r s p.1) [
    | inl q ↦ inl (record { next = q.next; rest = q.rest; longer = ap₂ ◌∷◌ (sym p.0) q.longer })
    | inr q ↦ inr (record {
      front = x ∷ q.front;
      less = q.less;
      less_rest = q.less_rest;
      more = q.more;
      more_rest = q.more_rest;
      first = ap (◌∷◌ x) q.first;
      second = ap₂ ◌∷◌ (sym p.0) q.second;
      differ = q.differ;
    })
  ]
]

pub bytes_below_exactly : BytesBelowExactly
bytes_below_exactly a b = (below_by a b, below)
  where
    below : ProperPrefix a b ⊎ FirstLess a b → bytes_below a b ≡ true
    below (inl p) = rw p.longer (prefix_below a p.next p.rest)
    below (inr p) = rw (p.first, p.second) (lesser_below p.front p.less p.more p.less_rest p.more_rest p.differ)

-- a prefix is no longer than what begins with it
pub too_short : (p s : List ℕ) → length s < length p → false ≡ starts_with p s
unfolding starts_with
too_short p s h =
    let differ : same_bytes p s ≡ false = false_of (same_bytes p s) (λ e. no (length s) (length p) h (ap length (same_bytes_eq p s e))) in
    sym (ap (same_bytes p) (take_all (length p) s (omega arith)) ∙ differ)
  where
    no : (m n : ℕ) → m < n → n ≡ m → ⊥
    no m n h e = omega arith

-- ---- the library's answers
pub pointwise_same : (a b : List ℕ) → pointwise eqb a b ≡ same_bytes a b
unfolding same_bytes
pointwise_same [] [] = refl
pointwise_same [] (b ∷ s) = refl
pointwise_same (a ∷ r) [] = refl
pointwise_same (a ∷ r) (b ∷ s) = elim (test (eqb a b)) [ inl p ↦ rw p (pointwise_same r s) | inr p ↦ rw p ]

pub starts_same : (p s : List ℕ) → library.starts_with eqb s p ≡ starts_with p s
unfolding starts_with
starts_same p s = pointwise_same p (take (length p) s)

pub slice_cmp_comparison : (a b : List ℕ) → slice_cmp nat_cmp a b ≡ comparison a b
unfolding comparison bytes_below same_bytes
slice_cmp_comparison [] [] = refl
slice_cmp_comparison [] (b ∷ s) = refl
slice_cmp_comparison (a ∷ r) [] = refl
slice_cmp_comparison (a ∷ r) (b ∷ s) = elim (test (ltb a b)) [
  | inl p ↦ rw p
  | inr p ↦ elim (test (eqb a b)) [ inl q ↦ rw (p, q) (slice_cmp_comparison r s) | inr q ↦ rw (p, q) ]
]

-- behind bytes that are the same, two that are not decide
pub differ_at : (i : ℕ) (a b : List ℕ) → take i a ≡ take i b → i < length a → i < length b → (get_or a i 0 ≡ get_or b i 0 → ⊥)
    → nat_cmp (get_or a i 0) (get_or b i 0) ≡ comparison a b
unfolding comparison bytes_below same_bytes
differ_at zero [] b e h k n = absurd (omega (arith, h))
differ_at zero (x ∷ r) [] e h k n = absurd (omega (arith, k))
differ_at zero (x ∷ r) (y ∷ s) e h k n = elim (test (ltb x y)) [
  | inl p ↦ rw p
  | inr p ↦ elim (test (eqb x y)) [ inl q ↦ absurd (n (eqb-true x y q)) | inr q ↦ rw (p, q) ]
]
differ_at (suc i) [] b e h k n = absurd (omega (arith, h))
differ_at (suc i) (x ∷ r) [] e h k n = absurd (omega (arith, k))
differ_at (suc i) (x ∷ r) (y ∷ s) e h k n =
    let g : x ≡ y = ap (λ (l : List ℕ). get_or l 0 0) e in
    rw (le-ltb x y (omega arith), eq-eqb x y g) (differ_at i r s (ap (drop 1) e) (omega (arith, h)) (omega (arith, k)) n)

-- Laws of fields: what is read at a place of a list, and the number in it.
use mathlib.Core.Path.{◌≡◌, sym, ap, ◌∙◌}
use mathlib.Core.Logic.{inl, inr}
use mathlib.Core.List.{List, [], ◌∷◌, ◌++◌}
use Prim.Native.Nat.{ℕ, min, zero, suc, ◌+◌, ◌-◌, ◌^◌, ◌≤◌, ◌<◌}
use native.Mathlib.Omega.{arith}
use native.Mathlib.Nat.{lt_of_lt_of_le, pow-le-pow_right}
use lib.Dec.{lit<, ltb}
use borrow.Author.Tests.{ltb-true, ltb-false}
use lib.ListN.{length, take, drop, get_or, length-take, length-drop, get_or-eq_default}
use lib.Seq.{take_all, take-nil, take-add, take-take, drop-drop, drop-cons, get_or-take, get_or-drop}
use Rattle.wire.specs.Number.{be, num, num_from, Bytes}
use Rattle.wire.specs.Fill.{field}
use Rattle.wire.proofs.Tests.{test}
use Rattle.wire.proofs.Number.{num-lt, num_whole, be-num}
use Rattle.wire.proofs.Fill.{length-field}

-- ---- fields of fields
take-drop-take : (l : List ℕ) (at w k : ℕ) → at + w ≤ k → take w (drop at (take k l)) ≡ take w (drop at l)
take-drop-take l zero w k h = take-take w k l (omega arith)
take-drop-take [] (suc at) w k h = ap (λ (r : List ℕ). take w (drop (suc at) r)) (take-nil k)
take-drop-take (x ∷ l) (suc at) w zero h = absurd (no at w h)
  where
    no : (at w : ℕ) → suc at + w ≤ 0 → ⊥
    no at w h = omega arith
take-drop-take (x ∷ l) (suc at) w (suc k) h = take-drop-take l at w k (omega arith)

pub field_part : (a k at w : ℕ) (s : List ℕ) → at + w ≤ k → field at w (field a k s) ≡ field (a + at) w s
unfolding field
field_part a k at w s h = take-drop-take (drop a s) at w k h ∙ ap (take w) (drop-drop at a s)

-- a field in two parts
pub field_split : (at v w : ℕ) (s : List ℕ) → field at (v + w) s ≡ field at v s ++ field (at + v) w s
unfolding field
field_split at v w s = take-add v w (drop at s) ∙ ap (λ (r : List ℕ). take v (drop at s) ++ take w r) (drop-drop v at s)

pub field_all : (n : ℕ) (s : List ℕ) → length s ≤ n → field 0 n s ≡ s
unfolding field
field_all n s h = take_all n s h

-- a part of a slice from one place to another
pub field_between : (at w e : ℕ) (s : List ℕ) → e ≡ at + w → take (e - at) (drop at s) ≡ field at w s
unfolding field
field_between at w e s h = let k : e - at ≡ w = omega arith in ap (λ (n : ℕ). take n (drop at s)) k

-- what the code's `&s[i..]` holds
pub rest : (i : ℕ) (s : List ℕ) → take (length s - i) (drop i s) ≡ drop i s
rest i s = take_all (length s - i) (drop i s) (omega (arith, length-drop i s))

-- ---- the number in a field
length-field-le : (at w : ℕ) (s : List ℕ) → length (field at w s) ≤ w
unfolding field
length-field-le at w s = omega (arith, length-take w (drop at s))

pub bytes_drop : (n : ℕ) (s : List ℕ) → Bytes s → Bytes (drop n s)
bytes_drop n s b i = rw get_or-drop (b (n + i))

pub bytes_field : (at w : ℕ) (s : List ℕ) → Bytes s → Bytes (field at w s)
unfolding field
bytes_field at w s h i = elim (test (ltb i w)) [
  | inl p ↦ rw (get_or-take w (drop at s) i 0 (ltb-true i w p), get_or-drop at s i 0) (h (at + i))
  | inr p ↦ rw (get_or-eq_default (take w (drop at s)) 0 {n = i} (omega (arith, length-take w (drop at s), ltb-false i w p))) (omega arith)
]

-- what get_be reads of a field
pub num-field : (at w : ℕ) (s : List ℕ) → w ≤ 8 → num (take 8 (field at w s)) ≡ num (field at w s)
num-field at w s h = num_whole (field at w s) (omega (arith, length-field-le at w s))

pub num_first_field : (at w : ℕ) (s : List ℕ) → num (take 8 (field at w s)) ≡ num (field at (min w 8) s)
unfolding field
num_first_field at w s = elim (test (ltb 8 w)) [
  | inl p ↦
      let h : 8 < w = ltb-true 8 w p in
      let e : min w 8 ≡ 8 = omega arith in
      ap num (take-take 8 w (drop at s) (omega arith)) ∙ ap (λ (n : ℕ). num (take n (drop at s))) (sym e)
  | inr p ↦
      let h : w ≤ 8 = ltb-false 8 w p in
      let e : min w 8 ≡ w = omega arith in
      num-field at w s h ∙ ap (λ (n : ℕ). num (take n (drop at s))) (sym e)
]

pub num-field-lt : (at w : ℕ) (s : List ℕ) → Bytes s → num (field at w s) < 256 ^ w
num-field-lt at w s h = lt_of_lt_of_le (num-lt (field at w s) (bytes_field at w s h)) (pow-le-pow_right (lit< tt) (length-field-le at w s))

-- the bytes of the number in a field are the field
pub be-field : (at w : ℕ) (s : List ℕ) → Bytes s → at + w ≤ length s → be w (num (field at w s)) ≡ field at w s
be-field at w s h k = ap (λ (n : ℕ). be n (num (field at w s))) (sym (length-field at w s k)) ∙ be-num (field at w s) (bytes_field at w s h)

-- a field of one byte
pub num_byte : (at : ℕ) (s : List ℕ) → at < length s → num (field at 1 s) ≡ get_or s at 0
unfolding field num num_from
num_byte at s h = ap (λ (r : List ℕ). num (take 1 r)) (drop-cons s at 0 h) ∙ omega arith

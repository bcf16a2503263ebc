-- Laws of fields and their zero fill.
use mathlib.Core.Path.{◌≡◌, refl, sym, ap, ap₂, ◌∙◌}
use Prim.Native.Nat.{ℕ, min, zero, suc, ◌+◌, ◌-◌, ◌≤◌, ◌<◌}
use mathlib.Core.List.{List, [], ◌∷◌, ◌++◌, append-nil}
use native.Mathlib.Omega.{arith}
use native.Mathlib.Numerals.{add-one}
use lib.ListN.{length, take, drop, get_or, set, replicate, length-append, length-take, length-drop, length-replicate, get_or-replicate, drop_of_length-le}
use lib.ListN.{replicate-append-replicate}
use lib.Seq.{take_at, drop-append-add, drop-cons, take-suc, append_snoc, set_at, length-take-le, take_all, take-append_seam}
use mathlib.Core.Logic.{inl, inr}
use lib.Dec.{ltb}
use borrow.Author.Tests.{ltb-true, ltb-false}
use Rattle.wire.proofs.Tests.{test}
use Rattle.wire.specs.Number.{be}
use Rattle.wire.specs.Fill.{zeros, padded, field}

pub length-zeros : (n : ℕ) → length (zeros n) ≡ n
unfolding zeros
length-zeros n = length-replicate n 0

pub get_d_zeros : (n i : ℕ) → i < n → get_or (zeros n) i 0 ≡ 0
unfolding zeros
get_d_zeros n i h = get_or-replicate n i 0 0 h

pub zeros-add : (m n : ℕ) → zeros m ++ zeros n ≡ zeros (m + n)
unfolding zeros
zeros-add m n = replicate-append-replicate m n 0

pub be-zeros : (w : ℕ) → be w 0 ≡ zeros w
unfolding be zeros
be-zeros zero = refl
be-zeros (suc w) = ap (λ (r : List ℕ). r ++ (0 ∷ [])) (be-zeros w) ∙ replicate-append-replicate w 1 0 ∙ ap (λ (k : ℕ). replicate k 0) (add-one w)

pub length-padded : (w : ℕ) (s : List ℕ) → length (padded w s) ≡ w
unfolding padded
length-padded w s = length-append (take w s) (zeros (w - length s)) ∙ omega (arith, length-take w s, length-zeros (w - length s))

-- what fits stands whole
pub padded_fits : (w : ℕ) (s : List ℕ) → length s ≤ w → padded w s ≡ s ++ zeros (w - length s)
unfolding padded
padded_fits w s h = ap (λ (r : List ℕ). r ++ zeros (w - length s)) (take_all w s h)

-- as much as there is of w bytes
pub take_min : (n w : ℕ) (s : List ℕ) → n ≡ min (length s) w → take n s ≡ take w s
take_min n w s h = elim (test (ltb w (length s))) [
  | inl p ↦ let k : w < length s = ltb-true w (length s) p in let e : n ≡ w = omega arith in ap (λ (m : ℕ). take m s) e
  | inr p ↦ let k : length s ≤ w = ltb-false w (length s) p in take_all n s (omega arith) ∙ sym (take_all w s k)
]

-- from an offset on, or from the end if there are not as many
drop_min : (i at : ℕ) (s : List ℕ) → i ≡ min at (length s) → drop i s ≡ drop at s
drop_min i at s h = elim (test (ltb (length s) at)) [
  | inl p ↦
      let k : length s < at = ltb-true (length s) at p in
      drop_of_length-le s {i = i} (omega arith) ∙ sym (drop_of_length-le s {i = at} (omega arith))
  | inr p ↦ let k : at ≤ length s = ltb-false (length s) at p in let e : i ≡ at = omega arith in ap (λ (m : ℕ). drop m s) e
]

-- a field of which there is only a part
pub field_min : (i at k w : ℕ) (s : List ℕ) → i ≡ min at (length s) → k ≡ min w (length (take (length s - i) (drop i s)))
    → take k (take (length s - i) (drop i s)) ≡ field at w s
unfolding field
field_min i at k w s h g =
    let r : take (length s - i) (drop i s) ≡ drop at s = take_all (length s - i) (drop i s) (omega (arith, length-drop i s)) ∙ drop_min i at s h in
    ap (take k) r ∙ take_min k w (drop at s) (g ∙ ap (λ (t : List ℕ). min w (length t)) r ∙ omega arith)

-- all that is left, where that is less
pub field_left : (i at w : ℕ) (s : List ℕ) → i ≡ min at (length s) → length (take (length s - i) (drop i s)) < w → take (length s - i) (drop i s) ≡ field at w s
unfolding field
field_left i at w s h g =
    let r : take (length s - i) (drop i s) ≡ drop at s = take_all (length s - i) (drop i s) (omega (arith, length-drop i s)) ∙ drop_min i at s h in
    r ∙ sym (take_all w (drop at s) (omega (arith, g, ap (λ (t : List ℕ). length t) r)))

-- a field is no longer than its width
pub field_whole : (at w : ℕ) (s : List ℕ) → take w (field at w s) ≡ field at w s
unfolding field
field_whole at w s = take_all w (take w (drop at s)) (omega (arith, length-take w (drop at s)))

pub padded_min : (n w : ℕ) (s : List ℕ) → n ≡ min (length s) w → take n s ++ zeros (w - n) ≡ padded w s
unfolding padded
padded_min n w s h =
    let e : w - n ≡ w - length s = omega arith in
    ap₂ (λ (p : List ℕ) (m : ℕ). p ++ zeros m) (take_min n w s h) e

-- what is too long is cut
pub padded_cut : (w : ℕ) (s : List ℕ) → w ≤ length s → padded w s ≡ take w s
unfolding padded zeros
padded_cut w s h = let e : w - length s ≡ 0 = omega arith in ap (λ (n : ℕ). take w s ++ replicate n 0) e ∙ append-nil (take w s)

-- what fills its field has no zeros after it
pub padded_exact : (s : List ℕ) → padded (length s) s ≡ s
unfolding zeros
padded_exact s =
    let e : length s - length s ≡ 0 = omega arith in
    padded_fits (length s) s (omega arith) ∙ ap (λ (n : ℕ). s ++ zeros n) e ∙ append-nil s

pub take-padded : (w : ℕ) (s : List ℕ) → length s ≤ w → take (length s) (padded w s) ≡ s
take-padded w s h = ap (take (length s)) (padded_fits w s h) ∙ take-append_seam s (zeros (w - length s))

-- ---- fields of parts put together
pub field_here : (w : ℕ) (a s : List ℕ) → length a ≡ w → field 0 w (a ++ s) ≡ a
unfolding field
field_here w a s h = take_at a s w h

pub field_past : (n at w : ℕ) (a s : List ℕ) → length a ≡ n → field (n + at) w (a ++ s) ≡ field at w s
unfolding field
field_past n at w a s h =
    ap (λ (m : ℕ). take w (drop (m + at) (a ++ s))) (sym h) ∙ ap (take w) (drop-append-add a s at)

pub length-field : (at w : ℕ) (s : List ℕ) → at + w ≤ length s → length (field at w s) ≡ w
unfolding field
length-field at w s h = length-take w (drop at s) ∙ omega (arith, length-drop at s)

-- ---- a field filled from the front
-- a loop that copies p over the front of d₀
pub copy_step : (p d₀ : List ℕ) (i : ℕ) → i < length d₀ → i < length p → set (take i p ++ drop i d₀) i (get_or p i 0) ≡ take (i + 1) p ++ drop (i + 1) d₀
copy_step p d₀ i h hp =
    ap (λ (r : List ℕ). set (take i p ++ r) i (get_or p i 0)) (drop-cons d₀ i 0 h)
    ∙ set_at (take i p) (get_or d₀ i 0) (drop (suc i) d₀) (get_or p i 0) i (length-take-le i p (omega arith))
    ∙ sym (append_snoc (take i p) (get_or p i 0) (drop (suc i) d₀))
    ∙ ap (λ (r : List ℕ). r ++ drop (suc i) d₀) (sym (take-suc p i 0 hp))
    ∙ ap (λ (j : ℕ). take j p ++ drop j d₀) (sym (add-one i))

pub copy_done : (p d₀ d : List ℕ) (i : ℕ) → length d₀ ≤ i → length p ≡ length d₀ → d ≡ take i p ++ drop i d₀ → d ≡ p
copy_done p d₀ d i h k e = e ∙ ap₂ (λ (a b : List ℕ). a ++ b) (take_all i p (omega arith)) (drop_of_length-le d₀ h) ∙ append-nil p

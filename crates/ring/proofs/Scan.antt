-- What a loop over a ring slice or over ids knows at i.
use mathlib.Core.Path.{◌≡◌, refl, sym, ◌∙◌}
use mathlib.Core.Bool.{Bool, true, false, ◌&&◌, and-false}
use mathlib.Core.List.{List, [], ◌∷◌}
use Prim.Native.Nat.{ℕ, zero, suc, ◌+◌, ◌-◌, ◌/◌, ◌%◌, ◌^◌, ◌≤◌, ◌<◌}
use native.Mathlib.Numerals.{add-one, one-add}
use native.Mathlib.Omega.{arith}
use borrow.Author.Tests.{lt-ltb, le-ltb, leb-true, leb-false, eqb-true, eqb-false}
use lib.Dec.{eqb, ltb, leb}
use lib.ListN.{length, get_or, take, drop, drop_of_length-le}
use lib.Seq.{drop-cons}
use Rattle.std.specs.List.{list_any, list_all, prefix_len}
use Rattle.wire.proofs.Tests.{cases}
use Rattle.wire.proofs.Fields.{rest}
use Rattle.ring.specs.Lists.{ascending, elem, distinct}
use Rattle.ring.specs.Sound.{in_range}
use Rattle.ring.specs.Walk.{before}

elem_any : (n : ℕ) (l : List ℕ) → list_any (λ m. eqb m n) l ≡ elem n l
unfolding elem
elem_any n [] = refl
elem_any n (m ∷ l) = rw (elem_any n l)

module _ (l : List ℕ) (i : ℕ) where
  listed : list_any (λ m. eqb m (get_or l i 0)) (take (length l - (i + 1)) (drop (i + 1) l)) ≡ elem (get_or l i 0) (drop (suc i) l)
  listed = rw (rest, ← add-one i) (elem_any (get_or l i 0) (drop (i + 1) l))

  pub twice_here : i < length l → list_any (λ m. eqb m (get_or l i 0)) (take (length l - (i + 1)) (drop (i + 1) l)) ≡ true → distinct (drop i l) ≡ false
  unfolding distinct
  twice_here h e = rw (drop-cons l i 0 h, sym listed ∙ e)

  pub twice_next : i < length l → list_any (λ m. eqb m (get_or l i 0)) (take (length l - (i + 1)) (drop (i + 1) l)) ≡ false
      → distinct (drop i l) ≡ distinct (drop (i + 1) l)
  unfolding distinct
  twice_next h e = rw (add-one i, drop-cons l i 0 h, sym listed ∙ e)

  pub twice_end : length l ≤ i → distinct (drop i l) ≡ true
  unfolding distinct
  twice_end h = rw (drop_of_length-le l h)

-- ---- strictly ascending, by the test of each two neighbours
pub ascending_by_index : (l : List ℕ) → ((k : ℕ) → suc k < length l → get_or l k 0 < get_or l (suc k) 0) → ascending l ≡ true
unfolding ascending
ascending_by_index [] h = refl
ascending_by_index (p ∷ []) h = refl
ascending_by_index (p ∷ q ∷ l) h = rw (lt-ltb p q (h 0 (omega arith))) (ascending_by_index (q ∷ l) (λ k b. h (suc k) (omega arith)))

pub not_ascending : (l : List ℕ) (k : ℕ) → suc k < length l → get_or l (suc k) 0 ≤ get_or l k 0 → ascending l ≡ false
unfolding ascending
not_ascending [] k h e = absurd (omega arith)
not_ascending (p ∷ []) k h e = absurd (omega arith)
not_ascending (p ∷ q ∷ l) zero h e = rw (le-ltb p q e)
not_ascending (p ∷ q ∷ l) (suc k) h e = rw (not_ascending (q ∷ l) k (omega arith) e) (and-false (ltb p q))

pub ascending_more : (l : List ℕ) (i : ℕ) → 1 ≤ i → ((k : ℕ) → suc k < i → get_or l k 0 < get_or l (suc k) 0) → get_or l (i - 1) 0 < get_or l i 0
    → (k : ℕ) → suc k < i + 1 → get_or l k 0 < get_or l (suc k) 0
ascending_more l i o h e k b =
    cases (eqb (suc k) i)
    (λ q. let z = eqb-true (suc k) i q in let y : i - 1 ≡ k = omega arith in rw (z) (rw y at e))
    (λ q. let z = eqb-false (suc k) i q in h k (omega arith))

-- ---- each in range
abbrev pub fits : ℕ → Bool
fits p = ltb p (2 ^ 48) && ltb (p % 256) 64

pub range_all : (l : List ℕ) → list_all fits l ≡ in_range l
unfolding in_range
range_all [] = refl
range_all (p ∷ l) = rw (range_all l)

-- ---- the places before a position
pub before_taken : (x : ℕ) (l : List ℕ) → prefix_len (λ (p : ℕ). ltb (p / 65536) x) l ≡ length (before x l)
unfolding before
before_taken x [] = refl
before_taken x (p ∷ l) =
    cases (leb x (p / 65536))
    (λ e. rw (e, le-ltb (p / 65536) x (leb-true _ _ e)))
    (λ e. rw (e, lt-ltb (p / 65536) x (leb-false _ _ e), before_taken x l) (one-add (length (before x l))))

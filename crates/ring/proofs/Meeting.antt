-- The walk one place at a time: the ring from a place on and round, and the nodes taken from it, a
-- node's flag cleared as it is taken.
use mathlib.Core.Path.{◌≡◌, refl, sym, ap, ap₂, ◌∙◌}
use mathlib.Core.Bool.{Bool, true, false, cond, not, ◌&&◌}
use mathlib.Core.List.{List, [], ◌∷◌, ◌++◌, map, append_assoc, append-nil}
use Prim.Native.Nat.{ℕ, zero, suc, ◌+◌, ◌≤◌, ◌<◌, ◌-◌}
use native.Mathlib.Omega.{arith}
use native.Mathlib.Numerals.{add-one}
use lib.Dec.{leb, eqb}
use lib.ListN.{length, get_or, set, take, drop, length-append, length-drop, length-map, drop_of_length-le, get_or-append, get_or-map}
use lib.Seq.{length-take-le, get_or-drop, get_or-take, get_or-append-add, take-suc-set, drop-cons, get_or-set_other}
use borrow.Author.Tests.{eqb-true, eqb-false}
use Rattle.wire.proofs.Tests.{cases}
use Rattle.ring.specs.Lists.{filter, without, firsts}
use Rattle.ring.specs.Place.{token, node}
use Rattle.ring.specs.Walk.{before, from, around}
use Rattle.ring.specs.Helpers.{turned, flagged}
use Rattle.ring.proofs.Filter.{filter_ext, filter_and, firsts-filter}

-- ---- the ring from the place at k on and round
pub before-le : (x : ℕ) (l : List ℕ) → length (before x l) ≤ length l
unfolding before
before-le x [] = omega arith
before-le x (p ∷ l) = cases (leb x (token p)) (λ e. rw e (omega arith)) (λ e. rw e (omega (arith, before-le x l)))

pub before-take : (x : ℕ) (l : List ℕ) → before x l ≡ take (length (before x l)) l
unfolding before
before-take x [] = refl
before-take x (p ∷ l) = cases (leb x (token p)) (λ e. rw e) (λ e. rw e (ap (λ (t : List ℕ). p ∷ t) (before-take x l)))

pub from-drop : (x : ℕ) (l : List ℕ) → from x l ≡ drop (length (before x l)) l
unfolding before from
from-drop x [] = refl
from-drop x (p ∷ l) = cases (leb x (token p)) (λ e. rw e) (λ e. rw e (from-drop x l))

pub around-turned : (x : ℕ) (l : List ℕ) → around x l ≡ turned (length (before x l)) l
unfolding around turned
around-turned x l = ap₂ ◌++◌ (from-drop x l) (before-take x l)

module _ (k : ℕ) (l : List ℕ) (h : k ≤ length l) where
  pub length-turned : length (turned k l) ≡ length l
  unfolding turned
  length-turned = omega (arith, length-append (drop k l) (take k l), length-drop k l, length-take-le k l h)

  pub turned_first : (j : ℕ) → j < length l - k → get_or (turned k l) j 0 ≡ get_or l (k + j) 0
  unfolding turned
  turned_first j e = get_or-append (drop k l) (take k l) 0 j (omega (arith, length-drop k l)) ∙ get_or-drop k l j 0

  pub turned_second : (j : ℕ) → length l - k ≤ j → j < length l → get_or (turned k l) j 0 ≡ get_or l (j - (length l - k)) 0
  unfolding turned
  turned_second j e f =
      let q : j ≡ length (drop k l) + (j - (length l - k)) = omega (arith, length-drop k l) in
      ap (λ (i : ℕ). get_or (drop k l ++ take k l) i 0) q
      ∙ get_or-append-add (drop k l) (take k l) (j - (length l - k)) 0
      ∙ get_or-take k l (j - (length l - k)) 0 (omega arith)

  pub length_nodes : length (map node (turned k l)) ≡ length l
  length_nodes = length-map (turned k l) node ∙ length-turned

-- ---- a flag cleared
cleared_same : (a : List Bool) (n : ℕ) → flagged (set a n false) n ≡ false
cleared_same [] n = refl
cleared_same (x ∷ a) zero = refl
cleared_same (x ∷ a) (suc n) = cleared_same a n

cleared : (a : List Bool) (n m : ℕ) → flagged (set a n false) m ≡ (not (eqb n m) && flagged a m)
cleared a n m =
    cases (eqb n m)
    (λ e. rw (e, ← eqb-true n m e) (cleared_same a n))
    (λ e. rw e (get_or-set_other a n m false false (λ q. eqb-false n m e (sym q))))

filter-cleared : (a : List Bool) (n : ℕ) (l : List ℕ) → filter (flagged (set a n false)) l ≡ without n (filter (flagged a) l)
filter-cleared a n l =
    filter_ext (flagged (set a n false)) (λ m. not (eqb n m) && flagged a m) (cleared a n) l
    ∙ filter_and (λ m. not (eqb n m)) (flagged a) l

-- ---- the first r flagged nodes, one at a time
unfoldable pub gather : ℕ → List Bool → List ℕ → List ℕ
gather zero a l = []
gather (suc r) a [] = []
gather (suc r) a (n ∷ l) = cond (flagged a n) (n ∷ gather r (set a n false) l) (gather (suc r) a l)

gather_law : (r : ℕ) (a : List Bool) (l : List ℕ) → gather r a l ≡ take r (firsts (filter (flagged a) l))
unfolding gather filter firsts
gather_law zero a l = refl
gather_law (suc r) a [] = refl
gather_law (suc r) a (n ∷ l) =
    cases (flagged a n)
    (λ e. rw e
    (ap (λ (t : List ℕ). n ∷ t)
    (gather_law r (set a n false) l
    ∙ ap (take r) (ap firsts (filter-cleared a n l) ∙ firsts-filter (λ m. not (eqb n m)) (filter (flagged a) l)))))
    (λ e. rw e (gather_law (suc r) a l))

-- a turn that takes the node at j, a turn that does not, and the end
module _ (l : List ℕ) (a : List Bool) (r k j : ℕ) where
  gather_take : j < length l → k < r → flagged a (get_or l j 0) ≡ true
      → gather (r - k) a (drop j l) ≡ get_or l j 0 ∷ gather (r - (k + 1)) (set a (get_or l j 0) false) (drop (j + 1) l)
  unfolding gather
  gather_take h e t =
      let q : r - k ≡ suc (r - (k + 1)) = omega arith in
      rw (q, add-one j, drop-cons l j 0 h, t)

  gather_skip : j < length l → k < r → flagged a (get_or l j 0) ≡ false
      → gather (r - k) a (drop j l) ≡ gather (r - k) a (drop (j + 1) l)
  unfolding gather
  gather_skip h e t =
      let q : r - k ≡ suc (r - (k + 1)) = omega arith in
      rw (q, add-one j, drop-cons l j 0 h, t)

  pub gather_full : r ≤ k → gather (r - k) a (drop j l) ≡ []
  unfolding gather
  gather_full h = let q : r - k ≡ 0 = omega arith in rw q

  pub gather_end : length l ≤ j → gather (r - k) a (drop j l) ≡ []
  unfolding gather
  gather_end h = rw (drop_of_length-le l h) (none (r - k))
    where
      none : (n : ℕ) → gather n a [] ≡ []
      none zero = refl
      none (suc n) = refl

-- ---- one turn of the walk: the node of the place p, met at j, is taken, or it is not
module _ (w : List ℕ) (a : List Bool) (t : List ℕ) (r k j p : ℕ) (h : j < length w) (e : k < r) (q : p ≡ get_or w j 0) where
  at_node : get_or (map node w) j 0 ≡ node p
  at_node = get_or-map node w j 0 ∙ ap node (sym q)

  in_range_lem : j < length (map node w)
  in_range_lem = rw (length-map w node) h

  pub turn-take : k < length t → flagged a (node p) ≡ true
      → take (k + 1) (set t k (node p)) ++ gather (r - (k + 1)) (set a (node p) false) (drop (j + 1) (map node w))
      ≡ take k t ++ gather (r - k) a (drop j (map node w))
  turn-take f y =
      let z : take (k + 1) (set t k (node p)) ≡ take k t ++ (node p ∷ []) = rw (add-one k, take-suc-set t k (node p) f) in
      rw (z, append_assoc)
      (ap (λ (s : List ℕ). take k t ++ s)
      (sym (rw at_node at (gather_take (map node w) a r k j in_range_lem e (rw at_node y)))))

  pub turn_skip : flagged a (node p) ≡ false
      → take k t ++ gather (r - k) a (drop (j + 1) (map node w)) ≡ take k t ++ gather (r - k) a (drop j (map node w))
  turn_skip y = ap (λ (s : List ℕ). take k t ++ s) (sym (gather_skip (map node w) a r k j in_range_lem e (rw at_node y)))

-- at the end nothing is left to take
pub turn_end : (t g : List ℕ) (r : ℕ) (a : List Bool) (l : List ℕ) → g ≡ [] → t ++ g ≡ gather r a l
    → t ≡ take r (firsts (filter (flagged a) l))
turn_end t g r a l e i = sym (append-nil t) ∙ ap (λ (s : List ℕ). t ++ s) (sym e) ∙ i ∙ gather_law r a l

-- The places of all ids, written one after the other and sorted, and the answer of building a ring,
-- check by check.
use mathlib.Core.Path.{◌≡◌, refl, sym, ap, ap₂, ◌∙◌}
use mathlib.Core.Bool.{true, false, not, ◌||◌}
use mathlib.Core.List.{List, [], ◌∷◌, ◌++◌, append_assoc, append-nil}
use Prim.Native.Nat.{ℕ, zero, suc, ◌+◌, ◌*◌, ◌≤◌, ◌<◌}
use native.Mathlib.Nat.{add_comm, suc-mul, le_trans, mul-le-mul_left, mul-le-mul_right}
use native.Mathlib.Numerals.{add-one}
use native.Mathlib.Omega.{arith}
use lib.Dec.{ltb}
use lib.ListN.{length, get_or, set, take, drop, length-append, drop_of_length-le}
use lib.Seq.{drop-cons, take-suc-set, append_snoc, take_all, take_at, length-take-le}
use borrow.Rule.Slice.PartMut.{put_mid}
use borrow.Author.Tests.{lt-ltb, le-ltb, ltb-false, not-false}
use Rattle.wire.proofs.Tests.{or-false}
use Rattle.ring.specs.Answer.{Answer, gives, refuses, written}
use Rattle.ring.specs.Lists.{distinct, sorted}
use Rattle.ring.specs.Place.{place_of}
use Rattle.ring.specs.Build.{node_places, places, ring_of, bad_arguments, build_answer, build_output}
use Rattle.ring.proofs.Answers.{told}
use Rattle.ring.proofs.Sorting.{length-sorted}

-- ---- a list that is written from the front: the written part and what is to come
next_written : (l rest : List ℕ) (k p : ℕ) → k < length l → take (k + 1) (set l k p) ++ rest ≡ take k l ++ p ∷ rest
next_written l rest k p h = rw (add-one k, take-suc-set l k p h) (append_snoc (take k l) p rest)

all_written : (l t : List ℕ) (k : ℕ) → length l ≤ k → take k l ++ [] ≡ t → l ≡ t
all_written l t k h e = sym (append-nil (take k l) ∙ take_all k l h) ∙ e

-- ---- how many places there are
length-node_places : (n v s : ℕ) → length (node_places n v s) ≡ v
unfolding node_places
length-node_places n zero s = refl
length-node_places n (suc v) s = ap suc (length-node_places n v s)

pub length-places : (ids : List ℕ) (v s : ℕ) → length (places ids v s) ≡ length ids * v
unfolding places
length-places [] v s = omega arith
length-places (n ∷ ids) v s =
    length-append (node_places n v s) (places ids v s)
    ∙ ap₂ (λ (x y : ℕ). x + y) (length-node_places n v s) (length-places ids v s)
    ∙ add_comm v (length ids * v) ∙ sym (suc-mul (length ids) v)

pub length_ring : (ids : List ℕ) (v s : ℕ) → length (ring_of ids v s) ≡ length ids * v
unfolding ring_of
length_ring ids v s = length-sorted (places ids v s) ∙ length-places ids v s

-- ---- a node's places, the last vnode first
module _ (node s : ℕ) where
  pub node_next : (out : List ℕ) (i v w p : ℕ) → v ≡ suc w → i < length out → p ≡ place_of node w s
      → take (i + 1) (set out i p) ++ node_places node w s ≡ take i out ++ node_places node v s
  unfolding node_places
  node_next out i v w p z k q = next_written out (node_places node w s) i p k ∙ rw (q, z)

  pub node_done : (out t : List ℕ) (i v : ℕ) → v ≡ 0 → length out ≤ i → take i out ++ node_places node v s ≡ t → out ≡ t
  unfolding node_places
  node_done out t i v z h e = all_written out t i h (rw z at e)

-- ---- those of all ids, id after id
module _ (v s : ℕ) (ids : List ℕ) (i : ℕ) where
  module _ (h : i < length ids) where
    places_next : places (drop i ids) v s ≡ node_places (get_or ids i 0) v s ++ places (drop (i + 1) ids) v s
    unfolding places
    places_next = rw (drop-cons ids i 0 h, add-one i)

    pub length_next : length (places (drop i ids) v s) ≡ v + length (places (drop (i + 1) ids) v s)
    length_next =
        ap length places_next ∙ length-append (node_places (get_or ids i 0) v s) (places (drop (i + 1) ids) v s)
        ∙ ap (λ (n : ℕ). n + length (places (drop (i + 1) ids) v s)) (length-node_places (get_or ids i 0) v s)

    pub places_more : (out ys : List ℕ) (at w : ℕ) → at + v ≤ length out → ys ≡ node_places (get_or ids i 0) v s
        → take (at + v) (put_mid at w out ys) ++ places (drop (i + 1) ids) v s ≡ take at out ++ places (drop i ids) v s
    places_more out ys at w k e =
        let rest : List ℕ = places (drop (i + 1) ids) v s in
        let z : length (take at out ++ ys) ≡ at + v =
        length-append (take at out) ys ∙ omega (arith, length-take-le at out (omega arith), ap length e, length-node_places (get_or ids i 0) v s) in
        ap (λ (t : List ℕ). take (at + v) t ++ rest) (sym (append_assoc (take at out) ys (drop w (drop at out))))
        ∙ ap (λ (t : List ℕ). t ++ rest) (take_at (take at out ++ ys) (drop w (drop at out)) (at + v) z)
        ∙ append_assoc (take at out) ys rest
        ∙ ap (λ (t : List ℕ). take at out ++ t) (ap (λ (t : List ℕ). t ++ rest) e ∙ sym places_next)

  pub places_done : (out t : List ℕ) (at : ℕ) → length ids ≤ i → at + length (places (drop i ids) v s) ≡ length out
      → take at out ++ places (drop i ids) v s ≡ t → out ≡ t
  unfolding places
  places_done out t at h k e =
      let d : drop i ids ≡ [] = drop_of_length-le ids h in
      let f : at + 0 ≡ length out = rw d at k in
      all_written out t at (omega arith) (rw d at e)

-- ---- sorted at the front of the slice; n is the width of the part that is lent
pub fill_done : (ids : List ℕ) (v s n : ℕ) (ring ws ss : List ℕ) → n ≡ length ids * v → ws ≡ places ids v s → ss ≡ sorted ws
    → ss ++ drop n ring ≡ ring_of ids v s ++ drop (length (ring_of ids v s)) ring
unfolding ring_of
fill_done ids v s n ring ws ss q w e =
    ap₂ ◌++◌ (e ∙ ap sorted w) (ap (λ (i : ℕ). drop i ring) (q ∙ sym (length_ring ids v s)))

-- ---- the answer, check by check
-- arguments that pass the checks of 17
pub record Fit (ids : List ℕ) (v : ℕ) : Type 0 where
  pub few : length ids ≤ 10
  pub some : 1 ≤ v
  pub most : v ≤ 64
  pub once : distinct ids ≡ true

pub arguments_fit : (ids : List ℕ) (v : ℕ) → bad_arguments ids v ≡ false → Fit ids v
unfolding bad_arguments
arguments_fit ids v h =
    let a = or-false (ltb 10 (length ids) || ltb v 1 || ltb 64 v) (not (distinct ids)) h in
    let b = or-false (ltb 10 (length ids) || ltb v 1) (ltb 64 v) a.0 in
    let d = or-false (ltb 10 (length ids)) (ltb v 1) b.0 in
    record { few = ltb-false _ _ d.0; some = ltb-false _ _ d.1; most = ltb-false _ _ b.1; once = not-false _ a.1 }

pub fit_640 : (ids : List ℕ) (v : ℕ) → bad_arguments ids v ≡ false → length ids * v ≤ 640
fit_640 ids v h =
    let f = arguments_fit ids v h in
    le_trans (mul-le-mul_left (length ids) f.most) (mul-le-mul_right 64 f.few)

module _ (ids : List ℕ) (v : ℕ) (ring : List ℕ) where
  -- an answer and the slice that goes with it
  pub tells : (s : ℕ) (a : Answer) → build_answer ids v ring ≡ a
      → (a ≡ build_answer ids v ring) × (written a (ring_of ids v s) ring ≡ build_output ids v s ring)
  unfolding build_output
  tells s a e = told (ring_of ids v s) ring e

  pub unfit : bad_arguments ids v ≡ true → build_answer ids v ring ≡ refuses 17
  unfolding build_answer
  unfit h = rw h

  module _ (fit : bad_arguments ids v ≡ false) where
    pub lacks_room : length ring < length ids * v → build_answer ids v ring ≡ refuses 4
    unfolding build_answer
    lacks_room h = rw (fit, lt-ltb _ _ h)

    pub is_built : (s : ℕ) (after : List ℕ) → length ids * v ≤ length ring → after ≡ ring_of ids v s ++ drop (length (ring_of ids v s)) ring
        → (gives (length ids * v) ≡ build_answer ids v ring) × (after ≡ build_output ids v s ring)
    unfolding build_answer
    is_built s after h e =
        let q = tells s (gives (length ids * v)) (rw (fit, le-ltb _ _ h)) in
        (q.0, e ∙ q.1)

-- What the walk meets: each admitted node that has a place, once, in the order of the places.
use mathlib.Core.Path.{◌≡◌, refl, sym, ap, ap₂, ◌∙◌}
use mathlib.Core.Bool.{Bool, true, false, not, ◌&&◌, or_comm}
use mathlib.Core.List.{List, [], ◌∷◌, ◌++◌, map, map-append}
use Prim.Native.Nat.{ℕ, zero, suc, ◌/◌, ◌≤◌, ◌<◌}
use native.Mathlib.Nat.{mod-lt}
use native.Mathlib.Omega.{arith}
use lib.Dec.{eqb, lit<}
use lib.ListN.{length, get_or, take, drop, take-append-drop}
use lib.Seq.{length-take-le, get_or-take}
use borrow.Author.Tests.{eqb-true, eqb-false, eq-eqb, ne_eqb, not-true}
use Rattle.wire.proofs.Tests.{clash, and-true, cases, or-false}
use Rattle.ring.specs.Lists.{elem, distinct, filter, firsts, first_at}
use Rattle.ring.specs.Place.{node}
use Rattle.ring.specs.Walk.{before, from, around, nodes_around, met, owners_of, admitted_with_place}
use Rattle.ring.specs.Meaning.{OwnerList}
use Rattle.ring.proofs.Filter.{firsts-filter}
use Rattle.ring.proofs.Elements.{not_in_nil, elem-append, elem-filter, elem-firsts, elem_at, elem-take, elem-drop, elem_rest, distinct-firsts}
use Rattle.ring.proofs.Elements.{distinct-take}
use Rattle.ring.proofs.Counting.{count_below_ext, length-distinct}
use Rattle.ring.proofs.Meeting.{before-take, from-drop}

-- ---- which nodes are met
-- where the walk starts does not matter
elem-around : (k x : ℕ) (ring : List ℕ) → elem k (nodes_around x ring) ≡ elem k (map node ring)
unfolding around
elem-around k x ring =
    ap (elem k) (map-append node (from x ring) (before x ring))
    ∙ elem-append k (map node (from x ring)) (map node (before x ring))
    ∙ or_comm (elem k (map node (from x ring))) (elem k (map node (before x ring)))
    ∙ sym (elem-append k (map node (before x ring)) (map node (from x ring)))
    ∙ ap (elem k) (sym (map-append node (before x ring) (from x ring)))
    ∙ ap (λ (t : List ℕ). elem k (map node t)) whole
  where
    whole : before x ring ++ from x ring ≡ ring
    whole = ap₂ ◌++◌ (before-take x ring) (from-drop x ring) ∙ take-append-drop (length (before x ring)) ring

node_bound : (k : ℕ) (ring : List ℕ) → elem k (map node ring) ≡ true → k < 256
unfolding elem
node_bound k [] e = not_in_nil k e
node_bound k (p ∷ ring) e =
    cases (eqb (node p) k)
    (λ q. rw (← eqb-true (node p) k q) (mod-lt (p / 256) (lit< tt)))
    (λ q. node_bound k ring (rw q at e))

module _ (f : ℕ → Bool) (x : ℕ) (ring : List ℕ) where
  -- the nodes met are those admitted that have a place
  pub elem-met : (k : ℕ) → elem k (met f x ring) ≡ (f k && elem k (map node ring))
  unfolding met
  elem-met k =
      elem-firsts k (filter f (nodes_around x ring)) ∙ elem-filter f k (nodes_around x ring)
      ∙ ap (λ (b : Bool). f k && b) (elem-around k x ring)

  pub distinct-met : distinct (met f x ring) ≡ true
  unfolding met
  distinct-met = distinct-firsts (filter f (nodes_around x ring))

  -- and there are as many
  pub length-met : length (met f x ring) ≡ admitted_with_place f ring
  unfolding admitted_with_place
  length-met =
      length-distinct (met f x ring) 256 distinct-met
      (λ k e. node_bound k ring (and-true (f k) (elem k (map node ring)) (sym (elem-met k) ∙ e)).1)
      ∙ count_below_ext _ _ 256 (λ k l. elem-met k)

-- ---- in which order: each number of l stands first in w before those after it
unfoldable InOrder : List ℕ → List ℕ → Type 0
InOrder w [] = Unit {0}
InOrder w (n ∷ l) = ((m : ℕ) → elem m l ≡ true → first_at n w < first_at m w) × InOrder w l

order_filter : (w : List ℕ) (f : ℕ → Bool) (l : List ℕ) → InOrder w l → InOrder w (filter f l)
unfolding InOrder filter
order_filter w f [] o = tt
order_filter w f (n ∷ l) o =
    cases (f n)
    (λ e. rw e (λ m i. o.0 m (and-true (f m) (elem m l) (sym (elem-filter f m l) ∙ i)).1, order_filter w f l o.1))
    (λ e. rw e (order_filter w f l o.1))

-- a number in front moves the others on by one
order_cons : (n : ℕ) (w l : List ℕ) → elem n l ≡ false → InOrder w l → InOrder (n ∷ w) l
unfolding InOrder first_at elem
order_cons n w [] h o = tt
order_cons n w (k ∷ l) h o =
    let u = or-false (eqb k n) (elem n l) h in (
      λ m i. rw (ne_eqb n k (λ z. eqb-false k n u.0 (sym z)), other m i u.1) (omega (arith, o.0 m i)),
      order_cons n w l u.1 o.1,
    )
  where
    other : (m : ℕ) → elem m l ≡ true → elem n l ≡ false → eqb n m ≡ false
    other m i z = ne_eqb n m (λ q. clash (rw (← q) at i) z)

order_firsts : (l : List ℕ) → InOrder l (firsts l)
unfolding InOrder firsts first_at
order_firsts [] = tt
order_firsts (n ∷ l) =
    let f : ℕ → Bool = λ m. not (eqb n m) in
    let h : elem n (filter f (firsts l)) ≡ false = elem-filter f n (firsts l) ∙ rw (eq-eqb n n refl) in (
      λ m i. rw (eq-eqb n n refl, not-true (eqb n m) (and-true (f m) (elem m (firsts l)) (sym (elem-filter f m (firsts l)) ∙ i)).0) (omega arith),
      order_cons n l (filter f (firsts l)) h (order_filter l f (firsts l) (order_firsts l)),
    )

order_met : (f : ℕ → Bool) (x : ℕ) (ring : List ℕ) → InOrder (nodes_around x ring) (met f x ring)
unfolding met
order_met f x ring =
    rw (firsts-filter f (nodes_around x ring)) (order_filter (nodes_around x ring) f (firsts (nodes_around x ring)) (order_firsts (nodes_around x ring)))

-- by index
order_at : (w l : List ℕ) → InOrder w l → (j k : ℕ) → j < k → k < length l → first_at (get_or l j 0) w < first_at (get_or l k 0) w
unfolding InOrder
order_at w [] o j k h e = absurd (omega arith)
order_at w (n ∷ l) o j zero h e = absurd (omega arith)
order_at w (n ∷ l) o zero (suc k) h e = o.0 (get_or l k 0) (elem_at l k (omega arith))
order_at w (n ∷ l) o (suc j) (suc k) h e = order_at w l o.1 j k (omega arith) (omega arith)

-- those before a cut stand first before those after it
order_cut : (w l : List ℕ) → InOrder w l → (k r m : ℕ) → k < r → elem m (drop r l) ≡ true → first_at (get_or l k 0) w < first_at m w
unfolding InOrder
order_cut w [] o k zero m h e = not_in_nil m e
order_cut w [] o k (suc r) m h e = not_in_nil m e
order_cut w (n ∷ l) o k zero m h e = absurd (omega arith)
order_cut w (n ∷ l) o zero (suc r) m h e = o.0 m (elem-drop m r l e)
order_cut w (n ∷ l) o (suc k) (suc r) m h e = order_cut w l o.1 k r m (omega arith) e

first_at-le : (n : ℕ) (w : List ℕ) → first_at n w ≤ length w
unfolding first_at
first_at-le n [] = omega arith
first_at-le n (m ∷ w) = cases (eqb m n) (λ e. rw e (omega arith)) (λ e. rw e (omega (arith, first_at-le n w)))

first_at-elem : (n : ℕ) (w : List ℕ) → first_at n w < length w → elem n w ≡ true
unfolding first_at elem
first_at-elem n [] h = absurd (omega arith)
first_at-elem n (m ∷ w) h = cases (eqb m n) (λ e. rw e) (λ e. rw e (first_at-elem n w (omega (arith, rw e at h))))

-- enough nodes are met: the first r of them are an owner list
pub owner_list : (f : ℕ → Bool) (x r : ℕ) (ring : List ℕ) → r ≤ admitted_with_place f ring → OwnerList f x r ring (owners_of f x r ring)
unfolding owners_of
owner_list f x r ring h =
    let l : List ℕ = met f x ring in
    let w : List ℕ = nodes_around x ring in
    let m : r ≤ length l = rw (length-met f x ring) h in
    let both : (n : ℕ) → elem n (take r l) ≡ true → (f n ≡ true) × (elem n (map node ring) ≡ true) =
    λ n e. and-true (f n) (elem n (map node ring)) (sym (elem-met f x ring n) ∙ elem-take n r l e) in
    record {
      size = length-take-le r l m;
      once = distinct-take r l (distinct-met f x ring);
      admit = λ n e. (both n e).0;
      placed = λ n e. (both n e).1;
      order = λ j k a b. rw (get_or-take r l j 0 (omega arith), get_or-take r l k 0 b) (order_at w l (order_met f x ring) j k a (omega arith));
      none_passed = λ n k a b d. cases (elem n (take r l))
          (λ e. e)
          (λ e.
          let d' : first_at n w < first_at (get_or l k 0) w = rw (get_or-take r l k 0 b) at d in
          let i : elem n w ≡ true = first_at-elem n w (omega (arith, first_at-le (get_or l k 0) w)) in
          let j : elem n l ≡ true = elem-met f x ring n ∙ rw (a, ← elem-around n x ring) i in
          absurd (omega (arith, order_cut w l (order_met f x ring) k r n b (elem_rest n r l j e))));
    }

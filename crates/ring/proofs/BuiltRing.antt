-- Places have their parts and order, and a ring that was built is sound and has exactly the places
-- of its ids.
use mathlib.Core.Path.{◌≡◌, refl, sym, ap, ◌∙◌}
use mathlib.Core.Logic.{◌⊎◌, inl, inr}
use mathlib.Core.Bool.{true, false, or-true}
use mathlib.Core.List.{List, [], ◌∷◌, map}
use Prim.Native.Nat.{ℕ, zero, suc, ◌*◌, ◌^◌, ◌≤◌, ◌<◌}
use native.Mathlib.Omega.{arith}
use lib.Dec.{ltb, eqb}
use lib.ListN.{length}
use lib.Seq.{take_at}
use borrow.Author.Tests.{lt-ltb, le-leb, ltb-true, ltb-false, eqb-true, eqb-false}
use Rattle.wire.specs.Number.{Bytes}
use Rattle.wire.proofs.Tests.{clash, cases, same_truth}
use Rattle.checksum.proofs.Bounds.{fmix32_bound}
use Rattle.ring.specs.Answer.{gives}
use Rattle.ring.specs.Lists.{elem, distinct}
use Rattle.ring.specs.Place.{token_of, place_number, place_of, node, vnode}
use Rattle.ring.specs.Build.{node_places, places, ring_of, bad_arguments, build_answer, build_output}
use Rattle.ring.specs.Sound.{in_range, sound_ring}
use Rattle.ring.specs.Meaning.{PlaceParts, PlaceOrder, BuiltRing, BuildsRing}
use Rattle.ring.proofs.Answers.{given, not_given}
use Rattle.ring.proofs.Elements.{not_in_nil, elem_head, elem_tail, elem-append, elem-map, elem-map_of, elem-sorted, distinct_cons, distinct_head}
use Rattle.ring.proofs.Elements.{distinct_tail, distinct-sorted, distinct_append}
use Rattle.ring.proofs.Sorting.{sorted-ascending}
use Rattle.ring.proofs.Filling.{length_ring, arguments_fit, fit_640}

-- ---- a place's parts and order
pub place_parts : PlaceParts
place_parts t n i hn hi = (omega arith, omega arith, omega arith)

pub place_order : PlaceOrder
place_order t n i t' n' i' hn hi hn' hi' = (parts, number)
  where
    parts : place_number t n i < place_number t' n' i' → (t < t') ⊎ ((t ≡ t') × (n < n')) ⊎ ((t ≡ t') × (n ≡ n') × (i < i'))
    parts h =
        cases (ltb t t') (λ e. inl (ltb-true t t' e))
        (λ e. let p : t' ≤ t = ltb-false t t' e in cases (ltb n n')
        (λ f. inr (inl (omega arith, ltb-true n n' f)))
        (λ f. let q : n' ≤ n = ltb-false n n' f in inr (inr (omega arith, omega arith, omega arith))))

    number : (t < t') ⊎ ((t ≡ t') × (n < n')) ⊎ ((t ≡ t') × (n ≡ n') × (i < i')) → place_number t n i < place_number t' n' i'
    number (inl p) = omega arith
    number (inr (inl p)) = omega arith
    number (inr (inr p)) = omega arith

module _ (n i s : ℕ) (hn : n < 256) (hi : i < 256) where
  place_node : node (place_of n i s) ≡ n
  unfolding place_of
  place_node = (place_parts (token_of n i s) n i hn hi).1

  place_vnode : vnode (place_of n i s) ≡ i
  unfolding place_of
  place_vnode = (place_parts (token_of n i s) n i hn hi).2

  token_bound : token_of n i s < 2 ^ 32
  unfolding token_of
  token_bound = fmix32_bound _

  place_bound : place_of n i s < 2 ^ 48
  unfolding place_of
  place_bound = omega (arith, token_bound)

-- ---- each place is in range
Ranged : List ℕ → Type 0
Ranged l = (p : ℕ) → elem p l ≡ true → (p < 2 ^ 48) × (vnode p < 64)

ranged : (l : List ℕ) → Ranged l → in_range l ≡ true
unfolding Ranged in_range
ranged [] g = refl
ranged (p ∷ l) g =
    let h = g p (elem_head p l) in
    rw (lt-ltb _ _ h.0, lt-ltb _ _ h.1) (ranged l (λ q e. g q (elem_tail q p l e)))

-- ---- which places there are
module _ (s n : ℕ) where
  has_node : (v i : ℕ) → i < v → elem (place_of n i s) (node_places n v s) ≡ true
  unfolding node_places
  has_node zero i h = absurd (omega arith)
  has_node (suc v) i h =
      cases (eqb i v)
      (λ e. rw (eqb-true i v e) (elem_head (place_of n v s) (node_places n v s)))
      (λ e. elem_tail (place_of n i s) (place_of n v s) (node_places n v s) (has_node v i (omega (arith, eqb-false i v e))))

  only_node : (v p : ℕ) → elem p (node_places n v s) ≡ true → (i : ℕ) × (i < v) × (p ≡ place_of n i s)
  unfolding elem node_places
  only_node zero p e = not_in_nil p e
  only_node (suc v) p e =
      cases (eqb (place_of n v s) p)
      (λ q. (v, omega arith, sym (eqb-true (place_of n v s) p q)))
      (λ q. let r = only_node v p (rw q at e) in (r.0, omega (arith, r.1), r.2))

module _ (v s : ℕ) where
  has_place : (ids : List ℕ) (n i : ℕ) → elem n ids ≡ true → i < v → elem (place_of n i s) (places ids v s) ≡ true
  unfolding elem places
  has_place [] n i e h = not_in_nil n e
  has_place (m ∷ ids) n i e h =
      elem-append (place_of n i s) (node_places m v s) (places ids v s)
      ∙ cases (eqb m n)
      (λ q. rw (eqb-true m n q, has_node s n v i h))
      (λ q. rw (has_place ids n i (rw q at e) h) (or-true (elem (place_of n i s) (node_places m v s))))

  only_place : (ids : List ℕ) (p : ℕ) → elem p (places ids v s) ≡ true → (n : ℕ) × (i : ℕ) × (elem n ids ≡ true) × (i < v) × (p ≡ place_of n i s)
  unfolding places
  only_place [] p e = not_in_nil p e
  only_place (m ∷ ids) p e =
      cases (elem p (node_places m v s))
      (λ q. let r = only_node s m v p q in (m, r.0, elem_head m ids, r.1, r.2))
      (λ q.
      let r = only_place ids p (rw q at (sym (elem-append p (node_places m v s) (places ids v s)) ∙ e)) in
      (r.0, r.1, elem_tail r.0 m ids r.2, r.3, r.4))

-- ---- no place stands twice
distinct-node : (s n v : ℕ) → n < 256 → v ≤ 256 → distinct (node_places n v s) ≡ true
unfolding node_places distinct
distinct-node s n zero hn h = refl
distinct-node s n (suc v) hn h =
    distinct_cons (place_of n v s) (node_places n v s)
    (cases (elem (place_of n v s) (node_places n v s))
    (λ e.
    let r = only_node s n v (place_of n v s) e in
    absurd (omega (arith, r.1, ap vnode r.2, place_vnode n v s hn (omega arith), place_vnode n r.0 s hn (omega (arith, r.1)))))
    (λ e. e))
    (distinct-node s n v hn (omega arith))

pub byte : (ids : List ℕ) → Bytes ids → (n : ℕ) → elem n ids ≡ true → n < 256
unfolding elem
byte [] b n e = not_in_nil n e
byte (m ∷ ids) b n e = cases (eqb m n) (λ q. rw (← eqb-true m n q) (b 0)) (λ q. byte ids (λ i. b (suc i)) n (rw q at e))

module _ (v s : ℕ) (hv : v ≤ 256) where
  distinct-places : (ids : List ℕ) → Bytes ids → distinct ids ≡ true → distinct (places ids v s) ≡ true
  unfolding places
  distinct-places [] b d = d
  distinct-places (n ∷ ids) b d =
      distinct_append (node_places n v s) (places ids v s) (distinct-node s n v (b 0) hv)
      (distinct-places ids (λ i. b (suc i)) (distinct_tail n ids d))
      (λ k e. cases (elem k (places ids v s))
      (λ q.
      let a = only_node s n v k e in
      let r = only_place v s ids k q in
      let z : n ≡ r.0 =
      sym (place_node n a.0 s (b 0) (omega (arith, a.1))) ∙ ap node (sym a.2 ∙ r.4)
      ∙ place_node r.0 r.1 s (byte ids (λ i. b (suc i)) r.0 r.2) (omega (arith, r.3)) in
      clash (rw (← z) at r.2) (distinct_head n ids d))
      (λ q. q))

-- ---- the ring of fit arguments
module _ (ids : List ℕ) (v s : ℕ) (b : Bytes ids) (fit : bad_arguments ids v ≡ false) where
  only_ring : (p : ℕ) → elem p (ring_of ids v s) ≡ true → (n : ℕ) × (i : ℕ) × (elem n ids ≡ true) × (i < v) × (p ≡ place_of n i s)
  unfolding ring_of
  only_ring p e = only_place v s ids p (sym (elem-sorted p (places ids v s)) ∙ e)

  ring_ranged : Ranged (ring_of ids v s)
  unfolding Ranged
  ring_ranged p e =
      let f = arguments_fit ids v fit in
      let r = only_ring p e in
      let hn = byte ids b r.0 r.2 in
      let hi : r.1 < 64 = omega (arith, r.3, f.most) in
      (rw r.4 (place_bound r.0 r.1 s hn (omega arith)), rw (r.4, place_vnode r.0 r.1 s hn (omega arith)) hi)

  ring_distinct : distinct (ring_of ids v s) ≡ true
  unfolding ring_of
  ring_distinct =
      let f = arguments_fit ids v fit in
      distinct-sorted (places ids v s) (distinct-places v s (omega (arith, f.most)) ids b f.once)

  -- a node has a place exactly if it is among the ids
  ring_nodes : (n : ℕ) → elem n (map node (ring_of ids v s)) ≡ elem n ids
  unfolding ring_of
  ring_nodes n = same_truth (elem n (map node (ring_of ids v s))) (elem n ids) listed placed
    where
      listed : elem n (map node (ring_of ids v s)) ≡ true → elem n ids ≡ true
      listed e =
          let f = arguments_fit ids v fit in
          let q = elem-map_of node n (ring_of ids v s) e in
          let r = only_ring q.0 q.1 in
          let z : n ≡ r.0 = sym q.2 ∙ ap node r.4 ∙ place_node r.0 r.1 s (byte ids b r.0 r.2) (omega (arith, r.3, f.most)) in
          rw z r.2

      placed : elem n ids ≡ true → elem n (map node (ring_of ids v s)) ≡ true
      placed e =
          let f = arguments_fit ids v fit in
          let h : elem (place_of n 0 s) (ring_of ids v s) ≡ true = elem-sorted (place_of n 0 s) (places ids v s) ∙ has_place v s ids n 0 e f.some in
          rw (place_node n 0 s (byte ids b n e) (omega arith)) at (elem-map node (place_of n 0 s) (ring_of ids v s) h)

  built : BuiltRing ids v s (ring_of ids v s)
  unfolding sound_ring ring_of
  built =
      let f = arguments_fit ids v fit in
      let m : length (ring_of ids v s) ≤ 640 = omega (arith, length_ring ids v s, fit_640 ids v fit) in
      record {
        sound = rw (le-leb _ _ m, sorted-ascending (places ids v s) ring_distinct, ranged (ring_of ids v s) ring_ranged);
        size = length_ring ids v s;
        has = λ n i e h. elem-sorted (place_of n i s) (places ids v s) ∙ has_place v s ids n i e h;
        only = only_ring;
        nodes = ring_nodes;
      }

pub builds_ring : BuildsRing
unfolding build_output build_answer
builds_ring ids v s slice n b e =
    cases (bad_arguments ids v)
    (λ h. not_given (rw h at e))
    (λ h. cases (ltb (length slice) (length ids * v))
    (λ r. not_given (rw (h, r) at e))
    (λ r.
    let m : length (ring_of ids v s) ≡ n = length_ring ids v s ∙ given (rw (h, r) at e) in
    rw (h, r, take_at (ring_of ids v s) _ n m) (built ids v s b h)))

-- no id of a ring that was built is listed twice
pub listed_once : (ids : List ℕ) (v : ℕ) (slice : List ℕ) (n : ℕ) → build_answer ids v slice ≡ gives n → distinct ids ≡ true
unfolding build_answer
listed_once ids v slice n e = cases (bad_arguments ids v) (λ h. not_given (rw h at e)) (λ h. (arguments_fit ids v h).once)

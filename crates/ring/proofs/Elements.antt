-- Laws of `elem` and `distinct`.
use mathlib.Core.Path.{◌≡◌, refl, sym, ap, ◌∙◌}
use mathlib.Core.Bool.{Bool, true, false, not, ◌&&◌, ◌||◌, or-true, or_assoc, or_comm}
use mathlib.Core.List.{List, [], ◌∷◌, ◌++◌, map}
use Prim.Native.Nat.{ℕ, zero, suc, ◌<◌}
use native.Mathlib.Omega.{arith}
use lib.ListN.{length, get_or, take, drop, take-append-drop}
use lib.Dec.{leb, eqb}
use borrow.Author.Tests.{eqb-true, eqb-false, eq-eqb, ne_eqb, not-true}
use Rattle.wire.proofs.Tests.{clash, and-true, cases, or-false}
use Rattle.ring.specs.Lists.{elem, distinct, filter, firsts, insert, sorted}

or_swap : (a b d : Bool) → (a || (b || d)) ≡ (b || (a || d))
or_swap a b d = sym (or_assoc a b d) ∙ ap (λ (e : Bool). e || d) (or_comm a b) ∙ or_assoc b a d

-- ---- what is in a list
pub not_in_nil : {A : Type 0} (k : ℕ) → elem k [] ≡ true → A
unfolding elem
not_in_nil k e = clash e refl

pub elem_head : (n : ℕ) (l : List ℕ) → elem n (n ∷ l) ≡ true
unfolding elem
elem_head n l = rw (eq-eqb n n refl)

pub elem_tail : (k n : ℕ) (l : List ℕ) → elem k l ≡ true → elem k (n ∷ l) ≡ true
unfolding elem
elem_tail k n l e = rw e (or-true (eqb n k))

pub elem-append : (k : ℕ) (s t : List ℕ) → elem k (s ++ t) ≡ (elem k s || elem k t)
unfolding elem
elem-append k [] t = refl
elem-append k (n ∷ s) t = cases (eqb n k) (λ e. rw e) (λ e. rw (e, elem-append k s t))

pub elem_at : (l : List ℕ) (k : ℕ) → k < length l → elem (get_or l k 0) l ≡ true
elem_at [] k h = absurd (omega arith)
elem_at (n ∷ l) zero h = elem_head n l
elem_at (n ∷ l) (suc k) h = elem_tail (get_or l k 0) n l (elem_at l k (omega arith))

-- a list cut in two
elem_cut : (k r : ℕ) (l : List ℕ) → elem k l ≡ (elem k (take r l) || elem k (drop r l))
elem_cut k r l = ap (elem k) (sym (take-append-drop r l)) ∙ elem-append k (take r l) (drop r l)

module _ (k r : ℕ) (l : List ℕ) where
  pub elem-take : elem k (take r l) ≡ true → elem k l ≡ true
  elem-take e = elem_cut k r l ∙ rw e

  pub elem-drop : elem k (drop r l) ≡ true → elem k l ≡ true
  elem-drop e = elem_cut k r l ∙ rw e (or-true (elem k (take r l)))

  -- what is not in the first part is in the second
  pub elem_rest : elem k l ≡ true → elem k (take r l) ≡ false → elem k (drop r l) ≡ true
  elem_rest e h = rw h at (sym (elem_cut k r l) ∙ e)

pub elem-filter : (f : ℕ → Bool) (k : ℕ) (l : List ℕ) → elem k (filter f l) ≡ (f k && elem k l)
unfolding elem filter
elem-filter f k [] = cases (f k) (λ e. rw e) (λ e. rw e)
elem-filter f k (n ∷ l) =
    cases (eqb n k)
    (λ e. cases (f n)
    (λ g. let q : f k ≡ true = ap f (sym (eqb-true n k e)) ∙ g in rw (g, e, q))
    (λ g. let q : f k ≡ false = ap f (sym (eqb-true n k e)) ∙ g in rw (g, q, elem-filter f k l, q)))
    (λ e. cases (f n) (λ g. rw (g, e, elem-filter f k l)) (λ g. rw (g, e, elem-filter f k l)))

pub elem-firsts : (k : ℕ) (l : List ℕ) → elem k (firsts l) ≡ elem k l
unfolding elem firsts
elem-firsts k [] = refl
elem-firsts k (n ∷ l) =
    cases (eqb n k) (λ e. rw e) (λ e. rw (e, elem-filter (λ m. not (eqb n m)) k (firsts l), e) (elem-firsts k l))

-- what is made of the numbers of a list
module _ (f : ℕ → ℕ) where
  pub elem-map : (p : ℕ) (l : List ℕ) → elem p l ≡ true → elem (f p) (map f l) ≡ true
  unfolding elem
  elem-map p [] e = not_in_nil p e
  elem-map p (q ∷ l) e = cases (eqb q p)
      (λ z. rw (eqb-true q p z) (elem_head (f p) (map f l)))
      (λ z. elem_tail (f p) (f q) (map f l) (elem-map p l (rw z at e)))

  pub elem-map_of : (k : ℕ) (l : List ℕ) → elem k (map f l) ≡ true → (p : ℕ) × (elem p l ≡ true) × (f p ≡ k)
  unfolding elem
  elem-map_of k [] e = not_in_nil k e
  elem-map_of k (q ∷ l) e = cases (eqb (f q) k)
      (λ z. (q, elem_head q l, eqb-true (f q) k z))
      (λ z. let r = elem-map_of k l (rw z at e) in (r.0, elem_tail r.0 q l r.1, r.2))

elem-insert : (k p : ℕ) (l : List ℕ) → elem k (insert p l) ≡ (eqb p k || elem k l)
unfolding elem insert
elem-insert k p [] = refl
elem-insert k p (q ∷ l) =
    cases (leb p q) (λ e. rw e) (λ e. rw (e, elem-insert k p l) (or_swap (eqb q k) (eqb p k) (elem k l)))

pub elem-sorted : (k : ℕ) (l : List ℕ) → elem k (sorted l) ≡ elem k l
unfolding elem sorted
elem-sorted k [] = refl
elem-sorted k (p ∷ l) = elem-insert k p (sorted l) ∙ rw (elem-sorted k l)

-- ---- lists with no number twice
pub distinct_cons : (n : ℕ) (l : List ℕ) → elem n l ≡ false → distinct l ≡ true → distinct (n ∷ l) ≡ true
unfolding distinct
distinct_cons n l h d = rw (h, d)

module _ (n : ℕ) (l : List ℕ) (d : distinct (n ∷ l) ≡ true) where
  pub distinct_head : elem n l ≡ false
  unfolding distinct
  distinct_head = not-true (elem n l) (and-true (not (elem n l)) (distinct l) d).0

  pub distinct_tail : distinct l ≡ true
  unfolding distinct
  distinct_tail = (and-true (not (elem n l)) (distinct l) d).1

pub distinct_filter : (f : ℕ → Bool) (l : List ℕ) → distinct l ≡ true → distinct (filter f l) ≡ true
unfolding filter
distinct_filter f [] d = d
distinct_filter f (n ∷ l) d =
    cases (f n)
    (λ e. rw e (distinct_cons n (filter f l) (elem-filter f n l ∙ rw (e, distinct_head n l d)) (distinct_filter f l (distinct_tail n l d))))
    (λ e. rw e (distinct_filter f l (distinct_tail n l d)))

pub distinct-firsts : (l : List ℕ) → distinct (firsts l) ≡ true
unfolding distinct firsts
distinct-firsts [] = refl
distinct-firsts (n ∷ l) =
    let f : ℕ → Bool = λ m. not (eqb n m) in
    distinct_cons n (filter f (firsts l)) (elem-filter f n (firsts l) ∙ rw (eq-eqb n n refl)) (distinct_filter f (firsts l) (distinct-firsts l))

pub distinct-take : (r : ℕ) (l : List ℕ) → distinct l ≡ true → distinct (take r l) ≡ true
unfolding distinct
distinct-take zero l d = refl
distinct-take (suc r) [] d = refl
distinct-take (suc r) (n ∷ l) d =
    distinct_cons n (take r l)
    (or-false (elem n (take r l)) (elem n (drop r l)) (sym (elem_cut n r l) ∙ distinct_head n l d)).0
    (distinct-take r l (distinct_tail n l d))

distinct-insert : (p : ℕ) (l : List ℕ) → elem p l ≡ false → distinct l ≡ true → distinct (insert p l) ≡ true
unfolding insert elem
distinct-insert p [] h d = distinct_cons p [] h d
distinct-insert p (q ∷ l) h d =
    let u = or-false (eqb q p) (elem p l) h in
    cases (leb p q) (λ e. rw e (distinct_cons p (q ∷ l) h d))
    (λ e. rw e
    (distinct_cons q (insert p l)
    (elem-insert q p l ∙ rw (ne_eqb p q (λ z. eqb-false q p u.0 (sym z))) (distinct_head q l d))
    (distinct-insert p l u.1 (distinct_tail q l d))))

pub distinct-sorted : (l : List ℕ) → distinct l ≡ true → distinct (sorted l) ≡ true
unfolding sorted
distinct-sorted [] d = d
distinct-sorted (p ∷ l) d = distinct-insert p (sorted l) (elem-sorted p l ∙ distinct_head p l d) (distinct-sorted l (distinct_tail p l d))

pub distinct_append : (l t : List ℕ) → distinct l ≡ true → distinct t ≡ true → ((k : ℕ) → elem k l ≡ true → elem k t ≡ false) → distinct (l ++ t) ≡ true
distinct_append [] t d e h = e
distinct_append (p ∷ l) t d e h =
    distinct_cons p (l ++ t) (elem-append p l t ∙ rw (distinct_head p l d) (h p (elem_head p l)))
    (distinct_append l t (distinct_tail p l d) e (λ k i. h k (elem_tail k p l i)))

-- The winner, found in one walk: the best delivery so far is kept, and replaced by each later one
-- of the key that beats it.
use Prim.Native.Nat.{ℕ, suc}
use mathlib.Core.Path.{◌≡◌, refl, sym, ◌∙◌}
use mathlib.Core.Logic.{inl, inr}
use mathlib.Core.Bool.{true, false, cond, ◌&&◌}
use mathlib.Core.List.{List, [], ◌∷◌}
use Rattle.std.specs.Prelude.{Option, None, Some}
use Rattle.wire.proofs.Tests.{test, clash, and-true}
use Rattle.entry.specs.Entry.{Entry, beats}
use Rattle.entry.proofs.EntryOrder.{beats_asym, beats_weak, beats_irrefl}
use Rattle.explain.specs.Walk.{if_of, best_with}
use Rattle.explain.specs.Winner.{is_of, unbeaten, Placed, first_unbeaten, winner}

-- the best so far after one more delivery, at place i
abbrev pub best_after : List ℕ → Option Placed → ℕ → Entry → Option Placed
best_after k None i d = cond (is_of k d) (Some (record { place = i; entry = d })) None
best_after k (Some w) i d = cond (is_of k d && beats d w.entry) (Some (record { place = i; entry = d })) (Some w)

-- the same by what is seen of it
pub after_seen : (k : List ℕ) (o : Option Placed) (i : ℕ) (d : Entry) → best_with o i (if_of k (Some d)) ≡ best_after k o i d
after_seen k None i d = elim (test (is_of k d)) [ inl p ↦ rw p | inr p ↦ rw p ]
after_seen k (Some w) i d = elim (test (is_of k d)) [ inl p ↦ rw p | inr p ↦ rw p ]

-- after some more deliveries, from place i on
unfoldable pub best_over : List ℕ → Option Placed → ℕ → List Entry → Option Placed
best_over k o i [] = o
best_over k o i (d ∷ ds) = best_over k (best_after k o i d) (suc i) ds

-- ---- who is beaten
-- what does not beat a beaten delivery is beaten too
pub beaten_too : (k : List ℕ) (ds : List Entry) (d e : Entry) → unbeaten k ds e ≡ false → beats d e ≡ false → unbeaten k ds d ≡ false
unfolding unbeaten
beaten_too k [] d e h n = clash refl h
beaten_too k (c ∷ ds) d e h n = elim (test (is_of k c)) [
  | inl p ↦ elim (test (beats c d)) [
    | inl q ↦ rw (p, q)
    | inr q ↦ rw (p, q) (beaten_too k ds d e (rw (p, beats_weak c d e q n) at h) n)
  ]
  | inr p ↦ rw p (beaten_too k ds d e (rw p at h) n)
]

module _ (k : List ℕ) (d : Entry) (ds : List Entry) where
  pub unbeaten_itself : unbeaten k (d ∷ ds) d ≡ unbeaten k ds d
  unfolding unbeaten
  unbeaten_itself = elim (test (is_of k d)) [ inl p ↦ rw (p, beats_irrefl d) | inr p ↦ rw p ]

  -- a delivery of another key, and one that is beaten itself, beat none that the others leave
  -- unbeaten
  unbeaten_by : (is_of k d ≡ true → unbeaten k ds d ≡ false) → (e : Entry) → unbeaten k (d ∷ ds) e ≡ unbeaten k ds e
  unfolding unbeaten
  unbeaten_by h e = elim (test (is_of k d && beats d e)) [
    | inl p ↦ let t = and-true (is_of k d) (beats d e) p in rw p (sym (beaten_too k ds e d (h t.0) (beats_asym d e t.1)))
    | inr p ↦ rw p
  ]

-- ---- the first that is unbeaten
first_empty : (k : List ℕ) (all : List Entry) (i : ℕ) → first_unbeaten k all i [] ≡ None
unfolding first_unbeaten
first_empty k all i = refl

-- it is the same where the same are unbeaten
first_same : (k : List ℕ) (all these : List Entry) → ((e : Entry) → unbeaten k all e ≡ unbeaten k these e)
    → (i : ℕ) (ds : List Entry) → first_unbeaten k all i ds ≡ first_unbeaten k these i ds
unfolding first_unbeaten
first_same k all these h i [] = refl
first_same k all these h i (d ∷ ds) = rw (h d, first_same k all these h (suc i) ds)

module _ (k : List ℕ) (i : ℕ) (d : Entry) (ds : List Entry) where
  -- a delivery of the key at the front: it, or the first of the others
  first_of : is_of k d ≡ true
      → first_unbeaten k (d ∷ ds) i (d ∷ ds) ≡ cond (unbeaten k ds d) (Some (record { place = i; entry = d })) (first_unbeaten k ds (suc i) ds)
  unfolding first_unbeaten
  first_of p = elim (test (unbeaten k ds d)) [
    | inl q ↦ rw (p, unbeaten_itself k d ds, q)
    | inr q ↦ rw (p, unbeaten_itself k d ds, q) (first_same k (d ∷ ds) ds (unbeaten_by k d ds (λ r. q)) (suc i) ds)
  ]

  -- one that is of another key or beaten by a later one: the first of the others
  first_past : (is_of k d ≡ true → unbeaten k ds d ≡ false) → first_unbeaten k (d ∷ ds) i (d ∷ ds) ≡ first_unbeaten k ds (suc i) ds
  unfolding first_unbeaten
  first_past h = elim (test (is_of k d)) [
    | inl p ↦ first_of p ∙ rw (h p)
    | inr p ↦ rw p (first_same k (d ∷ ds) ds (unbeaten_by k d ds h) (suc i) ds)
  ]

-- ---- the walk
-- the best so far stays if no later delivery of the key beats it; otherwise it is the first of
-- those that is unbeaten
pub over-from : (k : List ℕ) (w : Placed) (i : ℕ) (ds : List Entry)
    → best_over k (Some w) i ds ≡ cond (unbeaten k ds w.entry) (Some w) (first_unbeaten k ds i ds)
unfolding best_over unbeaten
over-from k w i [] = refl
over-from k w i (d ∷ ds) = elim (test (is_of k d && beats d w.entry)) [
  | inl p ↦ let t = and-true (is_of k d) (beats d w.entry) p in
      rw (p, over-from k (record { place = i; entry = d }) (suc i) ds) (sym (first_of k i d ds t.0))
  | inr p ↦ rw (p, over-from k w (suc i) ds) (elim (test (unbeaten k ds w.entry)) [
    | inl q ↦ rw q
    | inr q ↦ rw q (sym (first_past k i d ds (λ r. beaten_too k ds d w.entry q (rw r at p))))
  ])
]

pub over_none : (k : List ℕ) (i : ℕ) (ds : List Entry) → best_over k None i ds ≡ first_unbeaten k ds i ds
unfolding best_over
over_none k i [] = sym (first_empty k [] i)
over_none k i (d ∷ ds) = elim (test (is_of k d)) [
  | inl p ↦ rw p (over-from k (record { place = i; entry = d }) (suc i) ds ∙ sym (first_of k i d ds p))
  | inr p ↦ rw p (over_none k (suc i) ds ∙ sym (first_past k i d ds (λ q. clash q p)))
]

pub winner-over : (k : List ℕ) (es : List Entry) → best_over k None 0 es ≡ winner k es
unfolding winner
winner-over k es = over_none k 0 es

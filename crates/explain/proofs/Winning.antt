-- What the winner is.
use Prim.Native.Nat.{ℕ, zero, suc, ◌+◌, ◌<◌}
use native.Mathlib.Omega.{arith}
use mathlib.Core.Path.{◌≡◌, refl, sym, ap, ◌∙◌}
use mathlib.Core.Logic.{inl, inr}
use mathlib.Core.Bool.{true, false, not, ◌&&◌}
use mathlib.Core.List.{List, [], ◌∷◌}
use Rattle.std.specs.Prelude.{None, Some}
use mathlib.Core.Option.{some, some-injective, none-ne-some}
use Rattle.wire.specs.Order.{same_bytes}
use Rattle.wire.proofs.Tests.{test, clash, and-true, false_of, never}
use Rattle.wire.proofs.Order.{same_bytes_eq, same_bytes_refl}
use Rattle.entry.specs.Entry.{Entry, beats}
use Rattle.store.specs.Listing.{nth}
use Rattle.explain.specs.Winner.{is_of, unbeaten, Placed, first_unbeaten, winner}
use Rattle.explain.proofs.OneWalk.{best_over, winner-over, beaten_too}

-- ---- deliveries of the key
module _ (k : List ℕ) (d : Entry) where
  pub of_key_lem : d.key ≡ k → is_of k d ≡ true
  unfolding is_of
  of_key_lem e = ap (same_bytes k) e ∙ same_bytes_refl k

  pub key_of : is_of k d ≡ true → d.key ≡ k
  unfolding is_of
  key_of h = sym (same_bytes_eq k d.key h)

  pub other_key_lem : is_of k d ≡ false → d.key ≡ k → ⊥
  other_key_lem h e = clash (of_key_lem e) h

-- ---- where the first that is unbeaten stands
record FoundAt (k : List ℕ) (all : List Entry) (i : ℕ) (ds : List Entry) (w : Placed) (n : ℕ) : Type 0 where
  place : w.place ≡ i + n
  there : nth n ds ≡ some w.entry
  of_key_lem : is_of k w.entry ≡ true
  most : unbeaten k all w.entry ≡ true
  before : (j : ℕ) (d : Entry) → nth j ds ≡ some d → is_of k d ≡ true → j < n → unbeaten k all d ≡ false

found_next : (k : List ℕ) (all : List Entry) (i : ℕ) (d : Entry) (ds : List Entry) (w : Placed) (n : ℕ) → is_of k d && unbeaten k all d ≡ false
    → FoundAt k all (suc i) ds w n → FoundAt k all i (d ∷ ds) w (suc n)
unfolding nth
found_next k all i d ds w n h f = record {
  place = omega (arith, f.place);
  there = f.there;
  of_key_lem = f.of_key_lem;
  most = f.most;
  before = before;
}
  where
    before : (j : ℕ) (c : Entry) → nth j (d ∷ ds) ≡ some c → is_of k c ≡ true → j < suc n → unbeaten k all c ≡ false
    before zero c e o l = let q = some-injective d c e in rw (← q) (rw (ap (is_of k) q ∙ o) at h)
    before (suc j) c e o l = f.before j c e o (omega arith)

found_at : (k : List ℕ) (all : List Entry) (i : ℕ) (ds : List Entry) (w : Placed) → first_unbeaten k all i ds ≡ Some w → (n : ℕ) × FoundAt k all i ds w n
unfolding first_unbeaten nth
found_at k all i [] w h = never (cc)
found_at k all i (d ∷ ds) w h = elim (test (is_of k d && unbeaten k all d)) [
  | inl p ↦
      let t = and-true (is_of k d) (unbeaten k all d) p in
      let q : record { place = i; entry = d } ≡ w = cc (rw p at h) in
      (0, rw (← q) (record { place = omega arith; there = refl; of_key_lem = t.0; most = t.1; before = λ j c e o l. absurd (omega arith) }))
  | inr p ↦ let f = found_at k all (suc i) ds w (rw p at h) in (suc f.0, found_next k all i d ds w f.0 p f.1)
]

-- ---- the winner
-- the delivery of the key that no other beats, and the first of those
pub record Wins (k : List ℕ) (es : List Entry) (w : Placed) : Type 0 where
  pub there : nth w.place es ≡ some w.entry
  pub of_key_lem : is_of k w.entry ≡ true
  pub most : (i : ℕ) (d : Entry) → nth i es ≡ some d → is_of k d ≡ true → beats d w.entry ≡ false
  pub first : (i : ℕ) (d : Entry) → nth i es ≡ some d → is_of k d ≡ true → i < w.place → beats w.entry d ≡ true

no_beat : (k : List ℕ) (ds : List Entry) (e : Entry) → unbeaten k ds e ≡ true
    → (i : ℕ) (d : Entry) → nth i ds ≡ some d → is_of k d ≡ true → beats d e ≡ false
unfolding unbeaten nth
no_beat k [] e h i d n o = absurd (none-ne-some d n)
no_beat k (c ∷ ds) e h zero d n o =
    let q = some-injective c d n in
    false_of (beats d e) (λ b. clash (rw (ap (is_of k) q ∙ o, ap (λ (x : Entry). beats x e) q ∙ b) at h) refl)
no_beat k (c ∷ ds) e h (suc i) d n o = no_beat k ds e (and-true (not (is_of k c && beats c e)) (unbeaten k ds e) h).1 i d n o

pub winner_wins : (k : List ℕ) (es : List Entry) (w : Placed) → winner k es ≡ Some w → Wins k es w
unfolding winner
winner_wins k es w h =
    let (n, f) = found_at k es 0 es w h in
    let z : n ≡ w.place = omega (arith, f.place) in
    record {
      there = ap (λ (i : ℕ). nth i es) (sym z) ∙ f.there;
      of_key_lem = f.of_key_lem;
      most = no_beat k es w.entry f.most;
      first = λ i d e o l. elim (test (beats w.entry d)) [
        | inl p ↦ p
        | inr p ↦ clash f.most (beaten_too k es w.entry d (f.before i d e o (omega arith)) p)
      ];
    }

-- ---- none
over_some : (k : List ℕ) (w : Placed) (i : ℕ) (ds : List Entry) {A : Type 0} → best_over k (Some w) i ds ≡ None → A
unfolding best_over
over_some k w i [] h = never (cc)
over_some k w i (d ∷ ds) h = elim (test (is_of k d && beats d w.entry)) [
  | inl p ↦ over_some k (record { place = i; entry = d }) (suc i) ds (rw p at h)
  | inr p ↦ over_some k w (suc i) ds (rw p at h)
]

not_held_for : (k : List ℕ) (i : ℕ) (d : Entry) (ds : List Entry) → best_over k None i (d ∷ ds) ≡ None → (is_of k d ≡ false)
    × (best_over k None (suc i) ds ≡ None)
unfolding best_over
not_held_for k i d ds h = elim (test (is_of k d)) [
  | inl p ↦ over_some k (record { place = i; entry = d }) (suc i) ds (rw p at h)
  | inr p ↦ (p, rw p at h)
]

never_held_for : (k : List ℕ) (i : ℕ) (ds : List Entry) → best_over k None i ds ≡ None → (j : ℕ) (d : Entry) → nth j ds ≡ some d → is_of k d ≡ false
unfolding nth
never_held_for k i [] h j d n = absurd (none-ne-some d n)
never_held_for k i (c ∷ ds) h zero d n = ap (is_of k) (sym (some-injective c d n)) ∙ (not_held_for k i c ds h).0
never_held_for k i (c ∷ ds) h (suc j) d n = never_held_for k (suc i) ds (not_held_for k i c ds h).1 j d n

-- where there is no winner, no delivery is of the key
pub none_of_key : (k : List ℕ) (es : List Entry) → winner k es ≡ None → (i : ℕ) (d : Entry) → nth i es ≡ some d → is_of k d ≡ false
none_of_key k es h = never_held_for k 0 es (winner-over k es ∙ h)

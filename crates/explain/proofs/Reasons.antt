-- Each byte of a report means what it says.
use Prim.Native.Nat.{ℕ, ◌≤◌, ◌<◌}
use native.Mathlib.Omega.{arith}
use mathlib.Core.Path.{◌≡◌, refl, sym, ap, ◌∙◌}
use mathlib.Core.Logic.{inl, inr}
use mathlib.Core.Bool.{true, false}
use mathlib.Core.List.{List}
use Rattle.std.specs.Prelude.{Option, None, Some}
use mathlib.Core.Option.{some, some-injective}
use lib.ListN.{length, get_or, drop, get_or-append}
use lib.Dec.{ltb, eqb}
use borrow.Author.Tests.{ltb-true, ltb-false, eqb-true, eqb-false}
use Rattle.wire.proofs.Tests.{test, cases, clash}
use Rattle.entry.specs.declared.Stamp.{Stamp}
use Rattle.entry.specs.Entry.{Entry, beats}
use Rattle.entry.proofs.Order.{stamp_order_by_field}
use Rattle.entry.proofs.EntryOrder.{loses_by, beats_irrefl, beats_tied}
use Rattle.store.specs.Listing.{nth}
use Rattle.store.proofs.Listings.{nth_within}
use Rattle.deliveries.specs.List.{deliveries_of}
use Rattle.explain.specs.Winner.{is_of, Placed, winner}
use Rattle.explain.specs.Reason as byte
use Rattle.explain.specs.Reason.{reason, byte_of, reasons_for}
use Rattle.explain.specs.Explain.{Answer, won, no_delivery, is_refused, explain_answer, reported, after_explain}
use Rattle.explain.specs.Meaning.{LostBy, Means, ReasonsMean, NoneMeans}
use Rattle.explain.proofs.Winning.{key_of, other_key_lem, Wins, winner_wins, none_of_key}
use Rattle.explain.proofs.Walking.{length_reasons, byte_at, other_at}
use Rattle.explain.proofs.Seeing as see
use Rattle.explain.proofs.Refusals.{unrefused, names_won, names_none}

-- ---- the reason
-- of a delivery d that does not beat the winner w, what decides and its byte
data Decides (w d : Entry) (b : ℕ) : Type 0 where
  by_time : d.stamp.phys < w.stamp.phys → b ≡ byte.earlier_time → Decides w d b
  by_count : d.stamp.phys ≡ w.stamp.phys → d.stamp.logical < w.stamp.logical → b ≡ byte.lower_count → Decides w d b
  by_node : d.stamp.phys ≡ w.stamp.phys → d.stamp.logical ≡ w.stamp.logical → d.stamp.node < w.stamp.node → b ≡ byte.lower_node → Decides w d b
  by_content : d.stamp ≡ w.stamp → beats w d ≡ true → b ≡ byte.lower_content → Decides w d b
  by_none : d ≡ w → b ≡ byte.same_entry → Decides w d b

module _ (w d : Entry) where
  module _ (e : d.stamp ≡ w.stamp) where
    same_phys : d.stamp.phys ≡ w.stamp.phys
    same_phys = ap (λ (x : Stamp). x.phys) e

    same_logical : d.stamp.logical ≡ w.stamp.logical
    same_logical = ap (λ (x : Stamp). x.logical) e

    same_node : d.stamp.node ≡ w.stamp.node
    same_node = ap (λ (x : Stamp). x.node) e

    decides_equal : d.key ≡ w.key → beats d w ≡ false → Decides w d (reason w d)
    decides_equal k h = elim (test (beats w d)) [
      | inl p ↦ by_content e p (sym (see.by_content w d same_phys same_logical same_node p))
      | inr p ↦ by_none (beats_tied d w k h p) (sym (see.by_nothing w d same_phys same_logical same_node p))
    ]

  decides : d.key ≡ w.key → beats d w ≡ false → Decides w d (reason w d)
  decides k h = elim (loses_by d w h) [
    | inl p ↦ elim ((stamp_order_by_field d.stamp w.stamp).0 p) [
      | inl q ↦ by_time q (sym (see.by_time w d (omega arith)))
      | inr q ↦ elim q [
        | inl r ↦ by_count r.0 r.1 (sym (see.by_count w d r.0 (omega arith)))
        | inr r ↦ by_node r.0 r.1 r.2 (sym (see.by_node w d r.0 r.1 (omega arith)))
      ]
    ]
    | inr p ↦ decides_equal p.0 k h
  ]

  stamp_of_lem : d ≡ w → d.stamp ≡ w.stamp
  stamp_of_lem p = ap (λ (x : Entry). x.stamp) p

  -- no entry beats itself
  not_beaten : d ≡ w → beats w d ≡ true → ⊥
  not_beaten p c = clash c (ap (beats w) p ∙ beats_irrefl w)

  lost_by : (b : ℕ) → Decides w d b → LostBy w d b
  lost_by b (by_time l e) = record {
    reason = inl e;
    time = (λ x. l, λ x. e);
    count = (λ x. absurd (omega arith), λ x. absurd (omega arith));
    node = (λ x. absurd (omega arith), λ x. absurd (omega arith));
    same = (λ x. absurd (omega arith), λ x. absurd (omega (arith, same_phys (stamp_of_lem x))));
    content = (λ x. absurd (omega arith), λ x. absurd (omega (arith, same_phys x.0)));
  }
  lost_by b (by_count p l e) = record {
    reason = inr (inl e);
    time = (λ x. absurd (omega arith), λ x. absurd (omega arith));
    count = (λ x. (p, l), λ x. e);
    node = (λ x. absurd (omega arith), λ x. absurd (omega arith));
    same = (λ x. absurd (omega arith), λ x. absurd (omega (arith, same_logical (stamp_of_lem x))));
    content = (λ x. absurd (omega arith), λ x. absurd (omega (arith, same_logical x.0)));
  }
  lost_by b (by_node p q l e) = record {
    reason = inr (inr (inl e));
    time = (λ x. absurd (omega arith), λ x. absurd (omega arith));
    count = (λ x. absurd (omega arith), λ x. absurd (omega arith));
    node = (λ x. (p, q, l), λ x. e);
    same = (λ x. absurd (omega arith), λ x. absurd (omega (arith, same_node (stamp_of_lem x))));
    content = (λ x. absurd (omega arith), λ x. absurd (omega (arith, same_node x.0)));
  }
  lost_by b (by_content s c e) = record {
    reason = inr (inr (inr (inr e)));
    time = (λ x. absurd (omega arith), λ x. absurd (omega (arith, same_phys s)));
    count = (λ x. absurd (omega arith), λ x. absurd (omega (arith, same_logical s)));
    node = (λ x. absurd (omega arith), λ x. absurd (omega (arith, same_node s)));
    same = (λ x. absurd (omega arith), λ x. absurd (not_beaten x c));
    content = (λ x. (s, c), λ x. e);
  }
  lost_by b (by_none q e) = record {
    reason = inr (inr (inr (inl e)));
    time = (λ x. absurd (omega arith), λ x. absurd (omega (arith, same_phys (stamp_of_lem q))));
    count = (λ x. absurd (omega arith), λ x. absurd (omega (arith, same_logical (stamp_of_lem q))));
    node = (λ x. absurd (omega arith), λ x. absurd (omega (arith, same_node (stamp_of_lem q))));
    same = (λ x. q, λ x. e);
    content = (λ x. absurd (omega arith), λ x. absurd (not_beaten q x.1));
  }

-- no reason is the byte of another key or of the winner
reason_apart : (w d : Entry) (b : ℕ) → LostBy w d b → (b ≡ byte.other_key → ⊥) × (b ≡ byte.won → ⊥)
reason_apart w d b l = elim l.reason [
  | inl p ↦ (λ x. omega arith, λ x. omega arith)
  | inr p ↦ elim p [
    | inl q ↦ (λ x. omega arith, λ x. omega arith)
    | inr q ↦ elim q [
      | inl r ↦ (λ x. omega arith, λ x. omega arith)
      | inr r ↦ elim r [ inl t ↦ (λ x. omega arith, λ x. omega arith) | inr t ↦ (λ x. omega arith, λ x. omega arith) ]
    ]
  ]
]

-- ---- the bytes
module _ (list k out : List ℕ) (es : List Entry) (r : deliveries_of list ≡ Some es) (o : Option Placed) (e : winner k es ≡ o) where
  byte_of_lem : (a : Answer) → explain_answer list k out ≡ a → is_refused a ≡ false
      → (i : ℕ) (d : Entry) → nth i es ≡ some d → get_or (after_explain list k out) i 0 ≡ get_or (reasons_for k es o) i 0
  unfolding after_explain reported
  byte_of_lem a h f i d n =
      let l : i < length (reasons_for k es o) = omega (arith, nth_within i es d n, length_reasons k es o) in
      rw (ap is_refused h ∙ f, r, e) (get_or-append (reasons_for k es o) (drop (length es) out) 0 i l)

-- ---- what the byte of a delivery says
module _ (k : List ℕ) (es : List Entry) (w : Placed) (v : Wins k es w) (i : ℕ) (d : Entry) (n : nth i es ≡ some d) where
  -- the delivery at the winner's place is the winner's
  at_place : i ≡ w.place → d ≡ w.entry
  at_place p = some-injective d w.entry (sym n ∙ ap (λ (m : ℕ). nth m es) p ∙ v.there)

  not_before : d ≡ w.entry → w.place ≤ i
  not_before q = cases (ltb i w.place)
      (λ l. clash (v.first i d n (ap (is_of k) q ∙ v.of_key_lem) (ltb-true i w.place l)) (ap (beats w.entry) q ∙ beats_irrefl w.entry))
      (λ l. ltb-false i w.place l)

  behind : w.place ≤ i → (i ≡ w.place → ⊥) → w.place < i
  behind l q = omega (arith, l, q)

  other_means : is_of k d ≡ false → Means k w.place w.entry i d byte.other_key
  other_means p = record {
    other = (λ x. other_key_lem k d p, λ x. refl);
    won = (λ x. absurd (omega arith), λ x. clash (ap (is_of k) (at_place x) ∙ v.of_key_lem) p);
    lost = λ x. absurd (other_key_lem k d p x);
    first = not_before;
    again = λ x. absurd (omega arith);
  }

  winner_means : is_of k d ≡ true → i ≡ w.place → Means k w.place w.entry i d byte.won
  winner_means p q = record {
    other = (λ x. absurd (omega arith), λ x. absurd (x (key_of k d p)));
    won = (λ x. q, λ x. refl);
    lost = λ x y. absurd (y q);
    first = not_before;
    again = λ x. absurd (omega arith);
  }

  loser_means : is_of k d ≡ true → (i ≡ w.place → ⊥) → Means k w.place w.entry i d (reason w.entry d)
  loser_means p q =
      let same : d.key ≡ w.entry.key = key_of k d p ∙ sym (key_of k w.entry v.of_key_lem) in
      let l = lost_by w.entry d (reason w.entry d) (decides w.entry d same (v.most i d n p)) in
      let a = reason_apart w.entry d (reason w.entry d) l in
      record {
        other = (λ x. absurd (a.0 x), λ x. absurd (x (key_of k d p)));
        won = (λ x. absurd (a.1 x), λ x. absurd (q x));
        lost = λ x y. l;
        first = not_before;
        again = λ x. behind (not_before (l.same.0 x)) q;
      }

  byte_means : Means k w.place w.entry i d (byte_of k w i d)
  unfolding byte_of
  byte_means = elim (test (is_of k d)) [
    | inl p ↦ elim (test (eqb i w.place)) [
      | inl q ↦ rw (p, q) (winner_means p (eqb-true i w.place q))
      | inr q ↦ rw (p, q) (loser_means p (eqb-false i w.place q))
    ]
    | inr p ↦ rw p (other_means p)
  ]

means_at : (list k out : List ℕ) (es : List Entry) (p : ℕ) (w : Placed) → deliveries_of list ≡ Some es → explain_answer list k out ≡ won p
    → winner k es ≡ Some w → w.place ≡ p
    → (i : ℕ) (d : Entry) → nth i es ≡ some d → Means k p w.entry i d (get_or (after_explain list k out) i 0)
unfolding is_refused
means_at list k out es p w r h e q i d n =
    let b = byte_of_lem list k out es r (Some w) e (won p) h refl i d n ∙ byte_at k es i d n w in
    rw (b, ← q) (byte_means k es w (winner_wins k es w e) i d n)

pub reasons_mean : ReasonsMean
unfolding is_refused
reasons_mean list k out es p r h =
    let u = unrefused list k out es (won p) r h refl in
    let (w, e, q) = names_won (winner k es) p u.names in
    let v = winner_wins k es w e in
    (w.entry, ap (λ (m : ℕ). nth m es) (sym q) ∙ v.there, key_of k w.entry v.of_key_lem, means_at list k out es p w r h e q)

pub none_means : NoneMeans
unfolding is_refused
none_means list k out es r h i d n =
    let u = unrefused list k out es no_delivery r h refl in
    let e = names_none (winner k es) u.names in (
      other_key_lem k d (none_of_key k es e i d n),
      byte_of_lem list k out es r None e no_delivery h refl i d n ∙ other_at k es i d n,
    )

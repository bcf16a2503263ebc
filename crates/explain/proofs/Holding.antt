-- The winner is what a fresh store holds after the deliveries of the key were offered to it in
-- order.
use Prim.Native.Nat.{ℕ, suc, ◌≤◌}
use native.Mathlib.Omega.{arith}
use mathlib.Core.Path.{◌≡◌, refl, sym, ap, ◌∙◌}
use mathlib.Core.Logic.{inl, inr}
use mathlib.Core.Bool.{true, false, cond}
use mathlib.Core.List.{List, [], ◌∷◌}
use Rattle.std.specs.Prelude.{Option, None, Some}
use mathlib.Core.Option.{Option as Held, none, some}
use lib.ListN.{length, drop}
use borrow.Author.Tests.{le-ltb, eq-eqb}
use Rattle.wire.specs.Number.{Bytes}
use Rattle.wire.specs.Order.{same_bytes}
use Rattle.wire.proofs.Tests.{test}
use Rattle.wire.proofs.Fields.{bytes_drop}
use Rattle.wire.proofs.Order.{same_bytes_refl, bytes_below_irrefl}
use Rattle.entry.specs.Order.{key_below}
use Rattle.entry.specs.Entry.{Entry, Acceptable, beats, refusal_of}
use Rattle.frame.specs.Message.{repl, message_refusal, time_fault, key_fault, value_fault, argument_fault, InRange}
use Rattle.image.specs.Layout.{most_slots}
use Rattle.image.specs.Image.{image, acceptable, all_acceptable, below_first, ascending}
use Rattle.image.specs.Meaning.{AllFit}
use Rattle.image.proofs.SlotLaws.{fits}
use Rattle.image.proofs.ImageLaws.{sound-image, slots_of_image, line_of_image, entries_of_image}
use Rattle.store.specs.Held.{put, find, below_line}
use Rattle.store.specs.Answer.{is_refused}
use Rattle.store.specs.Create.{fresh_store}
use Rattle.store.specs.Offer.{told, offer_answer, after_offer}
use Rattle.store.specs.Listing.{nth}
use Rattle.deliveries.specs.Cut.{first_length}
use Rattle.deliveries.specs.List.{deliveries_of}
use Rattle.deliveries.specs.Meaning.{AllTaken}
use Rattle.deliveries.proofs.Cutting.{first_taken}
use Rattle.deliveries.proofs.Runs.{Run, readable_run}
use Rattle.explain.specs.Winner.{is_of, Placed, winner}
use Rattle.explain.specs.Explain as report
use Rattle.explain.specs.Meaning.{of_key, offered_all, WinnerIsHeld}
use Rattle.explain.proofs.OneWalk.{best_after, best_over, winner-over}
use Rattle.explain.proofs.Winning.{key_of, winner_wins}
use Rattle.explain.proofs.Refusals.{unrefused, names_won, names_none}

-- ---- each delivery of a readable list is acceptable, and its numbers are in range
repl_acceptable : (e : Entry) → message_refusal (repl e) ≡ 0 → Acceptable e
unfolding message_refusal time_fault key_fault value_fault argument_fault refusal_of
repl_acceptable e h = h

run-taken : (es : List Entry) (s : List ℕ) → Bytes s → Run es s → AllTaken es
run-taken [] s b r = tt
run-taken (e ∷ es) s b r =
    let t = first_taken s e r.0 b in
    (repl_acceptable e t.0, t.1, run-taken es (drop (first_length s) s) (bytes_drop (first_length s) s b) r.1)

pub deliveries_taken : (list : List ℕ) (es : List Entry) → Bytes list → deliveries_of list ≡ Some es → AllTaken es
deliveries_taken list es b h = run-taken es list b (readable_run list es h).0

-- ---- an entry offered to an image
told-taken : (e : Entry) (o : Held Entry) → is_refused (told e o) ≡ false
unfolding is_refused told
told-taken e none = refl
told-taken e (some h) = elim (test (beats e h)) [ inl p ↦ rw p | inr p ↦ rw p ]

module _ (C : ℕ) (lo : 1 ≤ C) (hi : C ≤ most_slots) where
  -- entries of which a store can be the image
  record Holds (hs : List Entry) : Type 0 where
    room : length hs ≤ C
    fit : AllFit hs
    each : all_acceptable hs ≡ true
    order : ascending hs ≡ true

  offer_image : (hs : List Entry) (e : Entry) → Holds hs → Acceptable e → length (put e hs) ≤ C → after_offer (image C 0 hs) e ≡ image C 0 (put e hs)
  unfolding after_offer offer_answer below_line
  offer_image hs e h ok r = rw (
    slots_of_image C 0 hs (omega arith),
    line_of_image C 0 hs (omega arith),
    entries_of_image C 0 hs h.fit (omega (arith, h.room)),
    sound-image C 0 hs lo hi (omega arith) h.room h.fit h.each h.order,
    eq-eqb (refusal_of e) 0 ok,
    le-ltb e.stamp.phys 0 (omega arith),
    le-ltb C (length (put e hs)) r,
    told-taken e (find e.key hs),
  )

  holds_none : Holds []
  unfolding all_acceptable ascending
  holds_none = record { room = omega arith; fit = tt; each = refl; order = refl }

  holds_one : (e : Entry) → Acceptable e → InRange (repl e) → Holds (e ∷ [])
  unfolding all_acceptable acceptable ascending below_first
  holds_one e ok r = record { room = omega arith; fit = (fits e ok r.0 r.1, tt); each = rw (eq-eqb (refusal_of e) 0 ok); order = refl }

  -- ---- the best so far is held
  -- the store that holds it
  abbrev held_for : Option Placed → List ℕ
  held_for None = image C 0 []
  held_for (Some w) = image C 0 (w.entry ∷ [])

  module _ (k : List ℕ) where
    -- it is an acceptable delivery of the key
    abbrev Fair : Option Placed → Type 0
    Fair None = Unit {0}
    Fair (Some w) = Acceptable w.entry × InRange (repl w.entry) × (is_of k w.entry ≡ true)

    put_same : (d h : Entry) → is_of k d ≡ true → is_of k h ≡ true → put d (h ∷ []) ≡ cond (beats d h) (d ∷ []) (h ∷ [])
    unfolding put
    put_same d h p q =
        let e : d.key ≡ h.key = key_of k d p ∙ sym (key_of k h q) in
        rw (ap (λ (j : List ℕ). key_below j h.key) e ∙ bytes_below_irrefl h.key, ap (λ (j : List ℕ). same_bytes j h.key) e ∙ same_bytes_refl h.key)

    -- after a delivery of the key was offered, the best so far is held
    offer_next : (o : Option Placed) (i : ℕ) (d : Entry) → Fair o → Acceptable d → InRange (repl d) → is_of k d ≡ true
        → (after_offer (held_for o) d ≡ held_for (best_after k o i d)) × Fair (best_after k o i d)
    unfolding put
    offer_next None i d f ok r p = rw p (offer_image [] d holds_none ok lo, (ok, r, p))
    offer_next (Some w) i d f ok r p = elim (test (beats d w.entry)) [
      | inl q ↦
          let e : put d (w.entry ∷ []) ≡ d ∷ [] = put_same d w.entry p f.2 ∙ rw q in
          rw (p, q) (offer_image (w.entry ∷ []) d (holds_one w.entry f.0 f.1) ok (rw e lo) ∙ ap (image C 0) e, (ok, r, p))
      | inr q ↦
          let e : put d (w.entry ∷ []) ≡ w.entry ∷ [] = put_same d w.entry p f.2 ∙ rw q in
          rw (p, q) (offer_image (w.entry ∷ []) d (holds_one w.entry f.0 f.1) ok (rw e lo) ∙ ap (image C 0) e, f)
    ]

    best_other : (o : Option Placed) (i : ℕ) (d : Entry) → is_of k d ≡ false → best_after k o i d ≡ o
    best_other None i d p = rw p
    best_other (Some w) i d p = rw p

    held_best : (ds : List Entry) (o : Option Placed) (i : ℕ) → Fair o → AllTaken ds → offered_all (of_key k ds) (held_for o) ≡ held_for (best_over k o i ds)
    unfolding of_key offered_all best_over
    held_best [] o i f t = refl
    held_best (d ∷ ds) o i f t = elim (test (is_of k d)) [
      | inl p ↦ let n = offer_next o i d f t.0 t.1 p in
          rw p (ap (offered_all (of_key k ds)) n.0 ∙ held_best ds (best_after k o i d) (suc i) n.1 t.2)
      | inr p ↦ rw (p, best_other o i d p) (held_best ds o (suc i) f t.2)
    ]

    held_winner : (es : List Entry) → AllTaken es → offered_all (of_key k es) (fresh_store C) ≡ held_for (winner k es)
    unfolding fresh_store
    held_winner es t = held_best es None 0 tt t ∙ ap held_for (winner-over k es)

pub winner_is_held : WinnerIsHeld
unfolding report.is_refused fresh_store
winner_is_held list k out es b h C lo hi =
    let t = deliveries_taken list es b h in
    record {
      winner = λ i a.
          let u = unrefused list k out es (report.won i) h a refl in
          let (w, e, p) = names_won (winner k es) i u.names in
          (w.entry, ap (λ (n : ℕ). nth n es) (sym p) ∙ (winner_wins k es w e).there, held_winner C lo hi k es t ∙ ap (held_for C lo hi) e);
      on_no_delivery = λ a.
          let u = unrefused list k out es report.no_delivery h a refl in
          held_winner C lo hi k es t ∙ ap (held_for C lo hi) (names_none (winner k es) u.names);
    }

-- Demand 3 of fresh stores: the history from a start, where the start is a store that holds nothing
-- and has the line 0, so that every entry is live.
use Prim.Native.Nat.{ℕ, ◌≤◌}
use native.Mathlib.Omega.{arith}
use mathlib.Core.Path.{◌≡◌, refl, sym, ◌∙◌, ap, ap₂}
use mathlib.Core.Logic.{inl, inr}
use mathlib.Core.Bool.{true, false, cond}
use mathlib.Core.List.Memᴰ.{cases_cons as mem-cons}
use mathlib.Core.List.Memᴰ.{head}
use mathlib.Core.List.Memᴰ.{not-nil as mem-nil}
use mathlib.Core.List.Memᴰ.{tail}
use mathlib.Core.List.{List, [], ◌∷◌, ◌++◌}
use lib.ListN.{replicate}
use lib.Dec.{eqb}
use borrow.Author.Tests.{le-ltb}
use Rattle.wire.proofs.Tests.{test, clash}
use Rattle.entry.specs.Entry.{Entry, Acceptable, refusal_of}
use Rattle.image.specs.Layout.{most_slots}
use Rattle.image.specs.Image.{image, slots_of, line_of, entries_of, sound}
use Rattle.store.specs.Held.{◌∈◌}
use Rattle.store.specs.Answer.{Answer, stored, refused, is_refused}
use Rattle.store.specs.Create.{fresh_store}
use Rattle.store.proofs.Keeping.{fresh_keeps}
use Rattle.history.specs.Book.{Call, offer, merge, key_count, book_offer, book_offered, book_merge, book_merged, Book, delivered}
use Rattle.history.specs.Book.{book_answer, book_after, run_book, book_answers, offers, InRange}
use Rattle.history.specs.Events.{Event, call, Said, told, replied, Start, start_of, is_live, live_offer, joins, live_offered, live_merge, live_merged}
use Rattle.history.specs.Events.{book_said, book_then, book_run, book_says, brought, Given}
use Rattle.history.specs.History.{Stores, store, answer, after, run, answers, fresh, none_delivered, DeliveryHistory}
use Rattle.history.specs.History.{RepresentableOffers, EveryDeliveryHistory}
use Rattle.history.specs.AfterPurge.{said, after_event, run_events, all_said, copies, Accepts, HistoryFrom}
use Rattle.history.proofs.Best.{Within}
use Rattle.history.proofs.Live.{below, above_live, all_live}
use Rattle.history.proofs.BookLaws.{Judged, turned, passed, taken, judged, copies_within, brought_tail, event_accepts, sets_within}
use Rattle.history.proofs.AfterPurge.{history_from}

-- ---- calls as events
unfoldable events_of : List Call → List Event
events_of [] = []
events_of (c ∷ cs) = call c ∷ events_of cs

events_append : (xs ys : List Call) → events_of (xs ++ ys) ≡ events_of xs ++ events_of ys
unfolding events_of
events_append [] ys = refl
events_append (x ∷ xs) ys = ap (λ (l : List Event). call x ∷ l) (events_append xs ys)

events_given : (n : ℕ) (cs : List Call) → InRange n cs → RepresentableOffers cs → Given n (events_of cs)
unfolding events_of offers
events_given n [] r f = tt
events_given n (offer i e ∷ cs) r f = (r.0, f e (head refl), events_given n cs r.1 (λ d m. f d (tail m)))
events_given n (merge i j ∷ cs) r f = (r.0, r.1, events_given n cs r.2 f)

events_bring : (cs : List Call) → brought (events_of cs) ≡ offers cs
unfolding events_of brought offers
events_bring [] = refl
events_bring (offer i e ∷ cs) = ap (λ (l : List Entry). e ∷ l) (events_bring cs)
events_bring (merge i j ∷ cs) = events_bring cs

-- ---- answers as what is said
unfoldable tell : List Answer → List Said
tell [] = []
tell (a ∷ l) = told a ∷ tell l

heard : Said → Answer
heard (told a) = a
heard (replied c reply w n) = stored

unfoldable hear : List Said → List Answer
hear [] = []
hear (x ∷ l) = heard x ∷ hear l

hear_tell : (l : List Answer) → hear (tell l) ≡ l
unfolding hear heard tell
hear_tell [] = refl
hear_tell (a ∷ l) = ap (λ (r : List Answer). a ∷ r) (hear_tell l)

-- ---- the stores run the same
run_events_lem : (w : Stores) (cs : List Call) → run_events w (events_of cs) ≡ run w cs
unfolding run_events run events_of after_event
run_events_lem w [] = refl
run_events_lem w (c ∷ cs) = run_events_lem (after w c) cs

said_events : (w : Stores) (cs : List Call) → all_said w (events_of cs) ≡ tell (answers w cs)
unfolding all_said answers events_of after_event said tell
said_events w [] = refl
said_events w (c ∷ cs) = ap (λ (l : List Said). told (answer w c) ∷ l) (said_events (after w c) cs)

-- ---- and so do the books, at the line 0
module _ (t : Start) (z : t.line ≡ 0) where
  never_below : (ds : List Entry) (e : Entry) → below t ds e ≡ false
  unfolding below
  never_below ds e = rw (le-ltb e.stamp.phys t.line (omega (arith, z)))

  offer_same : (ds : List Entry) (e : Entry) → live_offer t ds e ≡ book_offer t.slots ds e
  unfolding live_offer book_offer below
  offer_same ds e = rw (never_below ds e, all_live t z ds) (elim (test (eqb (refusal_of e) 0)) [ inl p ↦ rw p | inr p ↦ rw p ])

  offered_same : (ds : List Entry) (e : Entry) → live_offered t ds e ≡ book_offered t.slots ds e
  unfolding live_offered book_offered
  offered_same ds e = rw (← offer_same ds e) (go (judged t ds e))
    where
      go : Judged t ds e (live_offer t ds e) → cond (joins (live_offer t ds e)) (e ∷ ds) ds ≡ cond (is_refused (live_offer t ds e)) ds (e ∷ ds)
      go (turned p q) = rw (p, q)
      go (passed p k b) = clash b (never_below ds e)
      go (taken p q k b f) = rw (p, q)

  merge_same : (ds gs : List Entry) → live_merge t ds gs ≡ book_merge t.slots ds gs
  unfolding live_merge
  merge_same ds gs = rw (all_live t z ds, all_live t z gs)

  merged_same : (ds gs : List Entry) → live_merged t ds gs ≡ book_merged t.slots ds gs
  unfolding live_merged book_merged
  merged_same ds gs = rw (merge_same ds gs)

  said_same : (b : Book) (c : Call) → book_said t b (call c) ≡ told (book_answer t.slots b c)
  unfolding book_said book_answer
  said_same b (offer i e) = rw (offer_same (delivered b i) e)
  said_same b (merge r g) = rw (merge_same (delivered b r) (delivered b g))

  then_same : (b : Book) (c : Call) → book_then t b (call c) ≡ book_after t.slots b c
  unfolding book_then book_after
  then_same b (offer i e) = rw (offered_same (delivered b i) e)
  then_same b (merge r g) = rw (merged_same (delivered b r) (delivered b g))

  run_same : (b : Book) (cs : List Call) → book_run t b (events_of cs) ≡ run_book t.slots b cs
  unfolding book_run run_book events_of
  run_same b [] = refl
  run_same b (c ∷ cs) = ap (λ (x : Book). book_run t x (events_of cs)) (then_same b c) ∙ run_same (book_after t.slots b c) cs

  says_same : (b : Book) (cs : List Call) → book_says t b (events_of cs) ≡ tell (book_answers t.slots b cs)
  unfolding book_says book_answers events_of tell
  says_same b [] = refl
  says_same b (c ∷ cs) =
      rw (said_same b c, then_same b c) (ap (λ (l : List Said). told (book_answer t.slots b c) ∷ l) (says_same (book_after t.slots b c) cs))

  -- ---- and 34 is never said, so that where the keys fit nothing is refused
  never_34 : (ds : List Entry) (e : Entry) → live_offer t ds e ≡ refused 34 → ⊥
  unfolding joins is_refused
  never_34 ds e q = go (judged t ds e)
    where
      go : Judged t ds e (live_offer t ds e) → ⊥
      go (turned p j) = clash (ap joins q) j
      go (passed p k b) = clash b (never_below ds e)
      go (taken p j k b f) = clash (ap is_refused q) p

  call_accepts : (b : Book) (c : Call) → Accepts (call c) (book_said t b (call c)) → is_refused (book_answer t.slots b c) ≡ false
  unfolding book_said book_answer
  call_accepts b (offer i e) h = rw (← offer_same (delivered b i) e) (elim h [ inl p ↦ p | inr p ↦ absurd (never_34 (delivered b i) e p) ])
  call_accepts b (merge r g) h = rw (← merge_same (delivered b r) (delivered b g)) h

  module _ (all : List Entry) (ok : (e : Entry) → e ∈ all → Acceptable e) (few : key_count all ≤ t.slots) where
    book_accepts : (b : Book) (cs : List Call) → ((i : ℕ) → Within (delivered b i) all) → Within (brought (events_of cs)) all
        → (a : Answer) → a ∈ book_answers t.slots b cs → is_refused a ≡ false
    unfolding book_answers events_of
    book_accepts b [] f k a m = absurd (mem-nil m)
    book_accepts b (c ∷ cs) f k a m = elim (mem-cons m) [
      | inl q ↦ rw q (call_accepts b c (event_accepts t all ok few b (call c) (events_of cs) f k))
      | inr q ↦ book_accepts (book_after t.slots b c) cs (rw (← then_same b c) (sets_within t all b (call c) (events_of cs) f k))
          (brought_tail (call c) (events_of cs) k) a q
    ]

-- ---- fresh stores
module _ (C n : ℕ) (lo : 1 ≤ C) (hi : C ≤ most_slots) (calls : List Call) (range : InRange n calls) (rep : RepresentableOffers calls) where
  abbrev s : List ℕ
  s = fresh_store C

  abbrev t : Start
  t = start_of s

  is_sound : sound s ≡ true
  is_sound = (fresh_keeps C lo hi).0

  slots : slots_of s ≡ C
  slots = (fresh_keeps C lo hi).1

  line : line_of s ≡ 0
  line = (fresh_keeps C lo hi).2

  nothing : entries_of s ≡ []
  nothing = (fresh_keeps C lo hi).3

  is_live_lem : (e : Entry) → is_live t e ≡ true
  is_live_lem e = above_live t e (omega (arith, line))

  -- the two runs, from the start of the one to the end of the other
  stores : (cs : List Call) → run_events (copies n s) (events_of cs) ≡ run (fresh C n) cs
  unfolding copies fresh
  stores cs = run_events_lem (replicate n s) cs

  sets : (cs : List Call) → book_run t (replicate n (entries_of s)) (events_of cs) ≡ run_book C (none_delivered n) cs
  unfolding none_delivered
  sets cs = run_same t line (replicate n (entries_of s)) cs ∙ rw (slots, nothing)

  from : HistoryFrom s n (events_of calls)
  from = history_from s n (events_of calls) is_sound (events_given n calls range rep)

  same_answers : answers (fresh C n) calls ≡ book_answers C (none_delivered n) calls
  unfolding copies fresh none_delivered
  same_answers =
      let p : tell (answers (replicate n s) calls) ≡ tell (book_answers (slots_of s) (replicate n (entries_of s)) calls) =
      sym (said_events (replicate n s) calls) ∙ from.answered ∙ says_same t line (replicate n (entries_of s)) calls in
      sym (hear_tell (answers (replicate n s) calls)) ∙ ap hear p ∙ hear_tell _ ∙ rw (slots, nothing)

  history : DeliveryHistory C n calls
  unfolding none_delivered events_of after_event
  history = record {
    answered = same_answers;
    accepted = λ ok few a m.
        book_accepts t line (offers calls) ok (rw slots few) (replicate n []) calls (λ i. copies_within n i [] (offers calls) (λ e k. absurd (mem-nil k)))
        (rw (events_bring calls) (λ e k. k)) a (rw slots (rw same_answers at m));
    holds = λ i l e.
        let h = from.holds i l e in
        rw (← stores calls, ← sets calls) (λ m. (h.0 m).0, λ g. h.1 (g, is_live_lem e));
    keys = λ i l d. rw (← stores calls, ← sets calls) (λ m. from.keys i l d m (is_live_lem d));
    bytes = λ i l.
        let b = from.bytes i l in
        rw (← stores calls) (b.0, b.1 ∙ ap₂ (λ (x y : ℕ). image x y (entries_of (store (run_events (copies n s) (events_of calls)) i))) slots line);
    converge = λ i j l m. rw (← stores calls, ← sets calls) (from.converge i j l m);
    monotone = λ before c later split i l h.
        rw (← stores before) (from.monotone (events_of before) (call c) (events_of later) (ap events_of split ∙ events_append before (c ∷ later)) i l h);
    looked = λ i l e. rw (← stores calls, ← sets calls) (λ g. from.looked i l e g (is_live_lem e));
    unseen = λ i l k b.
        let ds = delivered (book_run t (replicate n (entries_of s)) (events_of calls)) i in
        rw (← stores calls, ← sets calls) (λ u. from.unseen i l k b (rw (all_live t line ds) u));
  }

pub delivery_history : EveryDeliveryHistory
delivery_history C n calls lo hi range rep = history C n lo hi calls range rep

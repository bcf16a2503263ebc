-- Demand 3 from any start, and so from a purge on, proved: equal sound stores agree with the book,
-- and each event keeps that.
use Prim.Native.Nat.{ℕ, ◌<◌}
use native.Mathlib.Omega.{arith}
use mathlib.Core.Path.{◌≡◌, refl, sym, ◌∙◌, ap, ap₂}
use mathlib.Core.Logic.{inl, inr}
use mathlib.Core.Bool.{true}
use mathlib.Core.List.{List, [], ◌∷◌, ◌++◌}
use mathlib.Core.List.Memᴰ.{append_cases as mem-append}
use mathlib.Core.List.Memᴰ.{append_left as mem-append_left}
use mathlib.Core.List.Memᴰ.{append_right as mem-append_right}
use lib.ListN.{length, set, length-set, replicate, length-replicate, get_or-replicate}
use lib.Seq.{get_or-set_same, get_or-set_other}
use lib.Dec.{eqb}
use borrow.Author.Tests.{eqb-true, eqb-false}
use Rattle.wire.proofs.Tests.{test}
use Rattle.entry.specs.Entry.{Entry, Acceptable}
use Rattle.entry.proofs.EntryOrder.{beats_stamp}
use Rattle.image.specs.Image.{image, slots_of, line_of, entries_of, sound}
use Rattle.store.specs.Held.{◌∈◌}
use Rattle.store.specs.Purge.{after_purge}
use Rattle.store.proofs.Members.{ascend}
use Rattle.store.proofs.Purges.{purge_leaves}
use Rattle.node.proofs.Asking.{each_asked_fits}
use Rattle.history.specs.Book.{offer, merge, Book, delivered}
use Rattle.history.specs.Events.{Event, call, request, told, Start, start_of, live, book_said, book_then, book_run, book_says, brought, Given}
use Rattle.history.specs.History.{Stores, store, answer, after}
use Rattle.history.specs.AfterPurge.{said, after_event, run_events, all_said, copies, set_then, HistoryFrom, EveryHistoryFrom, EveryHistoryAfterPurge}
use Rattle.history.proofs.Best.{held_ascending, held_same, held_key, held_grows}
use Rattle.history.proofs.Live.{held_live, live-mem, mem-live, live_within}
use Rattle.history.proofs.BookLaws.{copies_within, book_grows, given_tail, given-append, all_plain, run_accepts}
use Rattle.history.proofs.StoreAgrees.{StoreAgrees, entries_are, offer_answer_lem, offer_after, merge_answer_lem, merge_after}
use Rattle.history.proofs.StoreAgrees.{request_said, request_after, start_agrees, look_greatest, look_unseen}

module _ (s : List ℕ) (ok : sound s ≡ true) where
  abbrev t : Start
  t = start_of s

  -- ---- each store agrees with its set
  module _ (n : ℕ) where
    pub record Agrees (b : Book) (w : Stores) : Type 0 where
      pub sets : length b ≡ n
      pub stores : length w ≡ n
      pub each : (i : ℕ) → i < n → StoreAgrees s ok (delivered b i) (store w i)

    set_agrees : {b : Book} {w : Stores} (r : ℕ) {ds : List Entry} {bytes : List ℕ} → r < n → Agrees b w → StoreAgrees s ok ds bytes
        → Agrees (set b r ds) (set w r bytes)
    set_agrees {b} {w} r {ds} {bytes} h a x = record {
      sets = length-set b r ds ∙ a.sets;
      stores = length-set w r bytes ∙ a.stores;
      each = λ i k. elim (test (eqb i r)) [
        | inl p ↦ rw (eqb-true i r p, get_or-set_same b r ds [] (omega arith), get_or-set_same w r bytes [] (omega arith)) x
        | inr p ↦ rw (get_or-set_other b r i ds [] (eqb-false i r p), get_or-set_other w r i bytes [] (eqb-false i r p)) (a.each i k)
      ];
    }

    event_said : {b : Book} {w : Stores} (v : Event) (vs : List Event) → Given n (v ∷ vs) → Agrees b w → said w v ≡ book_said t b v
    unfolding said answer book_said
    event_said (call (offer i e)) vs g a = ap told (offer_answer_lem s ok (a.each i g.0) e)
    event_said (call (merge i j)) vs g a = ap told (merge_answer_lem s ok (a.each i g.0) (a.each j g.1))
    event_said (request i c now frame reply) vs g a =
        request_said s ok (a.each i g.0) c now frame reply (each_asked_fits c now frame reply g.1 g.2)

    event_after : {b : Book} {w : Stores} (v : Event) (vs : List Event) → Given n (v ∷ vs) → Agrees b w → Agrees (book_then t b v) (after_event w v)
    unfolding after_event after book_then
    event_after (call (offer i e)) vs g a = set_agrees i g.0 a (offer_after s ok (a.each i g.0) e g.1)
    event_after (call (merge i j)) vs g a = set_agrees i g.0 a (merge_after s ok (a.each i g.0) (a.each j g.1))
    event_after (request i c now frame reply) vs g a =
        set_agrees i g.0 a (request_after s ok (a.each i g.0) c now frame reply (each_asked_fits c now frame reply g.1 g.2))

    run_agrees : {b : Book} {w : Stores} (vs : List Event) → Given n vs → Agrees b w → Agrees (book_run t b vs) (run_events w vs)
    unfolding run_events book_run
    run_agrees [] g a = a
    run_agrees {b = b} {w = w} (v ∷ vs) g a = run_agrees {b = book_then t b v} {w = after_event w v} vs (given_tail n v vs g) (event_after v vs g a)

    run-said : {b : Book} {w : Stores} (vs : List Event) → Given n vs → Agrees b w → all_said w vs ≡ book_says t b vs
    unfolding all_said book_says
    run-said [] g a = refl
    run-said {b = b} {w = w} (v ∷ vs) g a =
        ap₂ ◌∷◌ (event_said v vs g a) (run-said {b = book_then t b v} {w = after_event w v} vs (given_tail n v vs g) (event_after v vs g a))

    -- ---- the start
    all_start : Agrees (replicate n (entries_of s)) (copies n s)
    unfolding copies
    all_start = record {
      sets = length-replicate n (entries_of s);
      stores = length-replicate n s;
      each = λ i k. rw (get_or-replicate n i (entries_of s) [] k, get_or-replicate n i s [] k) (start_agrees s ok);
    }

    -- ---- the history
    module _ (events : List Event) (g : Given n events) where
      end : Agrees (book_run t (replicate n (entries_of s)) events) (run_events (copies n s) events)
      end = run_agrees events g all_start

      same_said : all_said (copies n s) events ≡ book_says t (replicate n (entries_of s)) events
      same_said = run-said events g all_start

      -- the events before one of them, and those from it on
      module _ (before : List Event) (v : Event) (later : List Event) (split : events ≡ before ++ v ∷ later) where
        parts : Given n before × Given n (v ∷ later)
        parts = given-append n before (v ∷ later) (rw split at g)

        then : Agrees (book_run t (replicate n (entries_of s)) before) (run_events (copies n s) before)
        then = run_agrees before parts.0 all_start

        next : Agrees (book_then t (book_run t (replicate n (entries_of s)) before) v) (after_event (run_events (copies n s) before) v)
        next = event_after v later parts.1 then

      history : HistoryFrom s n events
      history = record {
        answered = same_said;
        accepted = λ each few before v later split.
            let all = brought events ++ entries_of s in
            let fine : (e : Entry) → e ∈ all → Acceptable e = λ e m.
            elim (mem-append (brought events) m) [ inl p ↦ each e p | inr p ↦ (start_agrees s ok).acceptable e p ] in
            rw (event_said v later (parts before v later split).1 (then before v later split))
            (run_accepts t all fine few (replicate n (entries_of s)) before v later
            (λ i. copies_within n i (entries_of s) all (λ e m. mem-append_right (brought events) m)) (rw (← split) (λ e m. mem-append_left (entries_of s) m)));
        none_passed = λ k m. all_plain t (replicate n (entries_of s)) events (rw same_said at m);
        equal_lines = λ m. all_plain t (replicate n (entries_of s)) events (rw same_said at m) refl;
        holds = λ i l e. let a = end.each i l in rw (entries_are s ok a) (held_live t (set_then s n events i) e);
        keys = λ i l d m p. let a =
            end.each i l in rw (entries_are s ok a) (held_key (live t (set_then s n events i)) (live-mem t (set_then s n events i) m p));
        bytes = λ i l. let a = end.each i l in rw (entries_are s ok a) (ascend _ (held_ascending (live t (set_then s n events i))), a.is_image);
        converge = λ i j l m f.
            let ds = set_then s n events i in
            let gs = set_then s n events j in
            (end.each i l).is_image
            ∙ ap (image (slots_of s) (line_of s)) (held_same (live t ds) (live t gs) (live_within t ds gs (λ e. (f e).0)) (live_within t gs ds (λ e. (f e).1)))
            ∙ sym (end.each j m).is_image;
        monotone = λ before v later split i l h.
            let b = book_run t (replicate n (entries_of s)) before in
            let a = (then before v later split).each i l in
            let c = (next before v later split).each i l in
            rw (entries_are s ok a, entries_are s ok c)
            (λ m.
            let (x, k, e, u) = held_grows (live t (delivered b i)) (live t (delivered (book_then t b v) i))
            (live_within t (delivered b i) (delivered (book_then t b v) i) (book_grows t b v i)) h m in (x, k, e, beats_stamp h x u, u));
        looked = λ i l e x p.
            let ds = set_then s n events i in
            look_greatest s ok (end.each i l) e (live-mem t ds x.0 p, λ d k q. x.1 d (mem-live t ds k).0 q);
        unseen = λ i l k b u. look_unseen s ok (end.each i l) k b u;
      }

pub history_from : EveryHistoryFrom
history_from s n events ok g = history s ok n events g

-- a purge that is not refused leaves a sound store with the line and what remains
pub history_after_purge : EveryHistoryAfterPurge
history_after_purge s L n events h g =
    let p = purge_leaves s L h in
    (rw (p.slots, p.line_set, p.entries), history_from (after_purge s L) n events p.sound g)

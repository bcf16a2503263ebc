-- What one store holds beside the set that the book has for it: an invariant that a sound store
-- starts with, and that an offer, a merge and a request keep, each answered as the book says.
use Prim.Native.Nat.{ℕ, ◌≤◌}
use native.Mathlib.Omega.{arith}
use mathlib.Core.Path.{◌≡◌, refl, sym, ◌∙◌, ap}
use mathlib.Core.Logic.{inl, inr}
use mathlib.Core.Bool.{true, false, cond, not}
use mathlib.Core.List.Memᴰ.{cases_cons as mem-cons}
use mathlib.Core.List.Memᴰ.{tail}
use mathlib.Core.List.{List, [], ◌∷◌, ◌++◌}
use mathlib.Core.List.Memᴰ.{append_cases as mem-append}
use mathlib.Core.List.Memᴰ.{append_right as mem-append_right}
use mathlib.Core.Option.{Option, none, some}
use lib.ListN.{length}
use lib.Dec.{eqb, ltb}
use borrow.Author.Tests.{eqb-true, eq-eqb}
use Rattle.wire.proofs.Tests.{test}
use Rattle.entry.specs.Key.{bad_key}
use Rattle.entry.specs.Entry.{Entry, Acceptable, refusal_of}
use Rattle.entry.proofs.Accept.{accepted}
use Rattle.clock.specs.declared.Clock.{Clock}
use Rattle.frame.specs.Layout.{max_frame}
use Rattle.image.specs.Image.{image, slots_of, line_of, entries_of, sound}
use Rattle.image.specs.Meaning.{Fit, Sound}
use Rattle.image.proofs.SlotLaws.{fits}
use Rattle.image.proofs.ImageLaws.{sound_is, sound-image, sound_fits, slots_of_image, line_of_image, line_is_time, entries_of_image, used_is}
use Rattle.store.specs.Held.{◌∈◌, put, find, is_held, index_of}
use Rattle.store.specs.Answer.{Answer, stored, replaced, kept, merged, purged, refused, is_refused}
use Rattle.store.specs.Lookup.{finding_for, value_for, lookup_answer, value_part, never}
use Rattle.store.specs.Offer.{told, offer_answer, after_offer}
use Rattle.store.specs.Merge.{merged_entries, merge_answer, after_merge}
use Rattle.store.specs.Overtaken.{overtaken_by, overtaken}
use Rattle.store.specs.Meaning.{Representable, Finds}
use Rattle.store.proofs.HeldLaws.{none_of}
use Rattle.store.proofs.Members.{accept_all, all_accepted, fit_all, all_fit, ascend, ascended}
use Rattle.node.specs.Handler.{done, offer_served, offered, gets, settle, handled}
use Rattle.node.specs.Asked.{Asked, refusal, look_up, local_write, replica, asked, answer_to}
use Rattle.node.specs.Meaning.{AskedFits}
use Rattle.node.proofs.Asking.{answered_as_asked, short_reply_refused}
use Rattle.history.specs.Book.{has_key, key_count, beats_all, Greatest, best, book_offer, book_merge}
use Rattle.history.specs.Events.{said_of, Start, start_of, live, live_offer, joins, live_offered, live_merge, live_merged}
use Rattle.history.specs.Events.{found, live_served, live_replied, live_requested}
use Rattle.history.proofs.Best.{held, beats_best, Within, held_ascending, held_ascended, find_held, has_key-best, key_count_held}
use Rattle.history.proofs.Best.{beats_all-best, greatest_best, held_mem}
use Rattle.history.proofs.Live.{below, below_held, below_not_live, held_offered, held_passed, taken_all, none_below, held_merged}
use Rattle.history.proofs.Live.{live-append, live_all, mem-live, start_all_live}
use Rattle.history.proofs.BookLaws.{Judged, turned, passed, taken, judged, merge_accepted}

-- what the store tells of a success is what the book tells
told_book : (e : Entry) (ds : List Entry)
    → told e (find e.key (held ds)) ≡ cond (not (has_key e.key ds)) stored (cond (beats_all e ds) replaced kept)
unfolding told is_held beats_best
told_book e ds = rw (find_held e.key ds, has_key-best e.key ds, beats_all-best e ds) (go (best e.key ds))
  where
    go : (o : Option Entry) → told e o ≡ cond (not (is_held o)) stored (cond (beats_best e o) replaced kept)
    go none = refl
    go (some h) = refl

-- ---- a request, by the answer of the store
gets-found : (s : List ℕ) (c : Clock) (i : ℕ) (o : Option Entry) → gets s c (value_for o) (finding_for i o) ≡ done s c (found o)
unfolding gets value_for finding_for found
gets-found s c i none = refl
gets-found s c i (some h) = elim (test (eqb h.flag 1)) [ inl p ↦ rw p | inr p ↦ rw p ]

module _ (s s' : List ℕ) (c d : Clock) (reply : List ℕ) where
  -- what is said of an offer does not depend on the store, and what is left is what the offer left
  offer_said : (a : Answer) → said_of (settle s c reply (offer_served s' d a)) ≡ said_of (settle [] c reply (offer_served [] d a))
  unfolding settle offer_served
  offer_said stored = refl
  offer_said replaced = refl
  offer_said kept = refl
  offer_said (merged n) = refl
  offer_said (purged n) = refl
  offer_said (refused n) = refl

  offer_left : (a : Answer) → (is_refused a ≡ true → s' ≡ s) → (settle s c reply (offer_served s' d a)).store ≡ s'
  unfolding settle offer_served is_refused
  offer_left stored f = refl
  offer_left replaced f = refl
  offer_left kept f = refl
  offer_left (merged n) f = refl
  offer_left (purged n) f = refl
  offer_left (refused n) f = sym (f refl)

module _ (s : List ℕ) (ok : sound s ≡ true) where
  abbrev t : Start
  t = start_of s

  sd : Sound s
  sd = sound_is s ok

  -- ---- a store is the image of what is held of the live entries of its set
  pub record StoreAgrees (ds : List Entry) (bytes : List ℕ) : Type 0 where
    pub is_image : bytes ≡ image (slots_of s) (line_of s) (held (live t ds))
    pub fits : key_count (live t ds) ≤ slots_of s
    pub acceptable : (e : Entry) → e ∈ ds → Acceptable e
    pub given : (e : Entry) → e ∈ ds → Representable e
    pub started : Within (entries_of s) ds

  module _ {ds : List Entry} {bytes : List ℕ} (a : StoreAgrees ds bytes) where
    few : length (held (live t ds)) ≤ slots_of s
    few = rw key_count_held at a.fits

    mem-set : {e : Entry} → e ∈ held (live t ds) → e ∈ ds
    mem-set m = (mem-live t ds (held_mem (live t ds) m)).0

    accept_held : (e : Entry) → e ∈ held (live t ds) → Acceptable e
    accept_held e m = a.acceptable e (mem-set m)

    fit_held : (e : Entry) → e ∈ held (live t ds) → Fit e
    fit_held e m = let r = a.given e (mem-set m) in fits e (accept_held e m) r.logical r.node

    is_sound : sound bytes ≡ true
    is_sound =
        rw a.is_image (sound-image (slots_of s) (line_of s) (held (live t ds)) sd.some sd.most (line_is_time s ok) few
        (fit_all (held (live t ds)) fit_held) (accept_all (held (live t ds)) accept_held) (ascend (held (live t ds)) (held_ascending (live t ds))))

    pub entries_are : entries_of bytes ≡ held (live t ds)
    entries_are =
        rw a.is_image (entries_of_image (slots_of s) (line_of s) (held (live t ds)) (fit_all (held (live t ds)) fit_held) (omega (arith, few, sd.most)))

    slots_are : slots_of bytes ≡ slots_of s
    slots_are = rw a.is_image (slots_of_image (slots_of s) (line_of s) (held (live t ds)) (omega (arith, sd.most)))

    line_is : line_of bytes ≡ line_of s
    line_is = rw a.is_image (line_of_image (slots_of s) (line_of s) (held (live t ds)) (line_is_time s ok))

    -- ---- an offer
    pub offer_answer_lem : (e : Entry) → offer_answer bytes e ≡ live_offer t ds e
    unfolding offer_answer live_offer book_offer held below
    offer_answer_lem e =
        rw (is_sound, entries_are, slots_are, line_is, below_held t ds e, told_book e (live t ds), key_count_held (e ∷ live t ds))
        (elim (test (eqb (refusal_of e) 0)) [ inl p ↦ rw p | inr p ↦ rw p ])

    pub offer_after : (e : Entry) → Representable e → StoreAgrees (live_offered t ds e) (after_offer bytes e)
    unfolding after_offer live_offered held is_refused joins
    offer_after e r = rw (offer_answer_lem e) (go (judged t ds e))
      where
        go : Judged t ds e (live_offer t ds e)
            → StoreAgrees (cond (joins (live_offer t ds e)) (e ∷ ds) ds)
            (cond (is_refused (live_offer t ds e)) bytes (image (slots_of bytes) (line_of bytes) (put e (entries_of bytes))))
        go (turned p q) = rw (p, q) a
        go (passed p k b) =
            let n = below_not_live t ds e a.started b in
            rw p record {
              is_image = rw (held_passed t ds e n) a.is_image;
              fits = rw (held_passed t ds e n) a.fits;
              acceptable = λ d m. elim (mem-cons m) [ inl z ↦ rw z k | inr z ↦ a.acceptable d z ];
              given = λ d m. elim (mem-cons m) [ inl z ↦ rw z r | inr z ↦ a.given d z ];
              started = λ d m. tail (a.started d m);
            }
        go (taken p q k b f) =
            rw (p, q, entries_are, slots_are, line_is)
            record {
              is_image = rw (held_offered t ds e b);
              fits = rw (key_count_held (live t (e ∷ ds)), held_offered t ds e b) (rw key_count_held at f);
              acceptable = λ d m. elim (mem-cons m) [ inl z ↦ rw z k | inr z ↦ a.acceptable d z ];
              given = λ d m. elim (mem-cons m) [ inl z ↦ rw z r | inr z ↦ a.given d z ];
              started = λ d m. tail (a.started d m);
            }

    -- ---- what is looked up
    look_is : (k : List ℕ) → bad_key k ≡ false
        → (lookup_answer bytes k ≡ finding_for (index_of k (entries_of bytes)) (best k (live t ds))) × (value_part bytes k ≡ value_for (best k (live t ds)))
    unfolding lookup_answer value_part
    look_is k b =
        let f : find k (entries_of bytes) ≡ best k (live t ds) = ap (find k) entries_are ∙ find_held k (live t ds) in
        (rw (is_sound, b, f), rw (is_sound, b, f))

    pub look_greatest : (e : Entry) → Greatest (live t ds) e → Finds bytes e
    unfolding value_for
    look_greatest e g =
        let k = accepted e (a.acceptable e (mem-live t ds g.0).0) in
        let l = look_is e.key k.good_key in
        let b = greatest_best (live t ds) e g in
        record {
          told = l.0 ∙ rw b;
          part = l.1 ∙ rw b (elim (test (eqb e.flag 1)) [ inl p ↦ rw p (sym (k.tombstone (eqb-true _ _ p))) | inr p ↦ rw p ]);
        }

    pub look_unseen : (k : List ℕ) → bad_key k ≡ false → has_key k (live t ds) ≡ false → (lookup_answer bytes k ≡ never) × (value_part bytes k ≡ [])
    unfolding finding_for value_for
    look_unseen k b h =
        let l = look_is k b in
        let q = none_of (best k (live t ds)) (sym (has_key-best k (live t ds)) ∙ h) in
        (l.0 ∙ rw q, l.1 ∙ rw q)

    -- ---- a request
    overtaken_is : (e : Entry) → overtaken bytes e.key e.stamp ≡ overtaken_by (best e.key (live t ds)) e.stamp
    unfolding overtaken
    overtaken_is e = rw (entries_are, find_held e.key (live t ds))

    offered_is : (c d : Clock) (reply : List ℕ) (e : Entry)
        → said_of (settle bytes c reply (offered bytes d e)) ≡ said_of (settle [] c reply (offer_served [] d (live_offer t ds e)))
    unfolding offered
    offered_is c d reply e = rw (offer_answer_lem e) (offer_said bytes (after_offer bytes e) c d reply (live_offer t ds e))

    offered-after : (c d : Clock) (reply : List ℕ) (e : Entry) → Representable e
        → StoreAgrees (live_offered t ds e) (settle bytes c reply (offered bytes d e)).store
    unfolding offered after_offer
    offered-after c d reply e r = rw (offer_left bytes (after_offer bytes e) c d reply (offer_answer bytes e) (λ p. rw p)) (offer_after e r)

    asked-said : (c : Clock) (reply : List ℕ) (q : Asked) → AskedFits q
        → said_of (settle bytes c reply (answer_to bytes c q)) ≡ said_of (settle [] c reply (live_served t ds c q))
    unfolding settle answer_to live_served
    asked-said c reply (refusal n) f = refl
    asked-said c reply (look_up k) f =
        let l = look_is k f in
        rw (l.0, l.1, gets-found bytes c (index_of k (entries_of bytes)) (best k (live t ds)))
    asked-said c reply (local_write d e) f = rw (overtaken_is e) (elim (test (overtaken_by (best e.key (live t ds)) e.stamp)) [
      | inl p ↦ rw p
      | inr p ↦ rw p (offered_is c d reply e)
    ])
    asked-said c reply (replica d e) f = offered_is c d reply e

    asked-after : (c : Clock) (reply : List ℕ) (q : Asked) → AskedFits q
        → StoreAgrees (live_requested t ds q) (settle bytes c reply (answer_to bytes c q)).store
    unfolding settle answer_to live_requested
    asked-after c reply (refusal n) f = a
    asked-after c reply (look_up k) f =
        let l = look_is k f in
        rw (l.0, l.1, gets-found bytes c (index_of k (entries_of bytes)) (best k (live t ds))) a
    asked-after c reply (local_write d e) f = rw (overtaken_is e) (elim (test (overtaken_by (best e.key (live t ds)) e.stamp)) [
      | inl p ↦ rw p a
      | inr p ↦ rw p (offered-after c d reply e f)
    ])
    asked-after c reply (replica d e) f = offered-after c d reply e f

    module _ (c : Clock) (now : ℕ) (frame reply : List ℕ) (f : AskedFits (asked c now frame reply)) where
      pub request_said : said_of (handled bytes c now frame reply) ≡ live_replied t ds c now frame reply
      unfolding live_replied
      request_said = elim (test (ltb (length reply) max_frame)) [
        | inl p ↦ rw (p, (short_reply_refused bytes c now frame reply p).1)
        | inr p ↦ rw (p, answered_as_asked bytes c now frame reply is_sound p) (asked-said c reply (asked c now frame reply) f)
      ]

      pub request_after : StoreAgrees (live_requested t ds (asked c now frame reply)) (handled bytes c now frame reply).store
      unfolding live_requested
      request_after = elim (test (ltb (length reply) max_frame)) [
        | inl p ↦ let q = short_reply_refused bytes c now frame reply p in rw (q.0, q.1) a
        | inr p ↦ rw (answered_as_asked bytes c now frame reply is_sound p) (asked-after c reply (asked c now frame reply) f)
      ]

  -- ---- a merge
  module _ {ds gs : List Entry} {receiver giver : List ℕ} (a : StoreAgrees ds receiver) (b : StoreAgrees gs giver) where
    merged_entries_lem : merged_entries receiver giver ≡ held (live t (gs ++ ds))
    unfolding merged_entries
    merged_entries_lem =
        rw (line_is a, entries_are a, entries_are b, (taken_all (line_of s) (held (live t ds)) (held (live t gs)) (none_below t ds gs a.started)).0)
        (held_merged t ds gs)

    pub merge_answer_lem : merge_answer receiver giver ≡ live_merge t ds gs
    unfolding merge_answer live_merge book_merge
    merge_answer_lem =
        rw (
          is_sound a,
          is_sound b,
          merged_entries_lem,
          slots_are a,
          line_is a,
          line_is b,
          entries_are a,
          entries_are b,
          eq-eqb (line_of s) (line_of s) refl,
          (taken_all (line_of s) (held (live t ds)) (held (live t gs)) (none_below t ds gs a.started)).1,
          ← live-append t gs ds,
          key_count_held (live t (gs ++ ds)),
        )

    pub merge_after : StoreAgrees (live_merged t ds gs) (after_merge receiver giver)
    unfolding after_merge live_merged
    merge_after = rw merge_answer_lem (elim (test (is_refused (live_merge t ds gs))) [
      | inl p ↦ rw p a
      | inr p ↦ rw (p, merged_entries_lem, slots_are a, line_is a)
          record {
            is_image = refl;
            fits = merge_accepted t ds gs p;
            acceptable = λ d k. elim (mem-append gs k) [ inl q ↦ b.acceptable d q | inr q ↦ a.acceptable d q ];
            given = λ d k. elim (mem-append gs k) [ inl q ↦ b.given d q | inr q ↦ a.given d q ];
            started = λ d k. mem-append_right gs (a.started d k);
          }
    ])

  -- ---- the start
  start_held : held (live t (entries_of s)) ≡ entries_of s
  start_held = ap held (live_all t (entries_of s) (start_all_live t)) ∙ held_ascended (entries_of s) (ascended (entries_of s) sd.order)

  pub start_agrees : StoreAgrees (entries_of s) s
  start_agrees = record {
    is_image = rw start_held sd.bytes;
    fits = rw (key_count_held (live t (entries_of s)), start_held) (omega (arith, used_is s, sd.room));
    acceptable = all_accepted (entries_of s) sd.each;
    given = λ e m. let f = all_fit (entries_of s) (sound_fits s sd) e m in record { logical = f.logical; node = f.node };
    started = λ e m. m;
  }

-- The halves of every result.
use mathlib.Core.Path.{◌≡◌, refl}
use mathlib.Core.Logic.{inl, inr}
use mathlib.Core.Bool.{true, not, ◌||◌}
use mathlib.Core.List.{List}
use mathlib.Core.Option.{Option, none, some}
use Prim.Native.Nat.{ℕ, ◌≤◌}
use Rattle.std.specs.Prelude.{Result, Ok, Err}
use native.Mathlib.Omega.{arith}
use lib.ListN.{length}
use lib.Dec.{leb, ltb, eqb}
use borrow.Author.Tests.{ltb-false, eqb-true}
use Rattle.wire.proofs.Tests.{test}
use Rattle.entry.specs.declared.Refusal.{Refusal}
use Rattle.entry.specs.declared.Refusal.TheVariants as refusal
use Rattle.entry.specs.Entry.{Entry, beats, refusal_of}
use Rattle.clock.specs.declared.Clock.{Clock}
use Rattle.clock.specs.Clock.{Stepped, next, refused, send_step, receive_step}
use Rattle.clock.proofs.Steps.{StepNumbered, step_numbered, send_numbered, receive_numbered}
use Rattle.frame.specs.declared.answer.Message.{Message as Located}
use Rattle.frame.specs.Message.{Message, time_fault, key_fault, value_fault, argument_fault, message_refusal}
use Rattle.frame.specs.Layout.{frame_of}
use Rattle.frame.specs.Reading.{read_answer}
use Rattle.frame.specs.Writing.{write_refusal, write_answer}
use Rattle.image.specs.Layout.{most_slots, slot_start}
use Rattle.image.specs.Image.{slots_of, used_of, line_of, entries_of, sound}
use Rattle.store.specs.Held.{put, find, below_line}
use Rattle.store.specs.Answer as offering
use Rattle.store.specs.Create.{create_refusal}
use Rattle.store.specs.Lookup as looking
use Rattle.store.specs.Lookup.{lookup_answer}
use Rattle.store.specs.Listing.{Listing, listing_for, entry_answer}
use Rattle.store.specs.Offer.{told, offer_answer}
use Rattle.node.specs.Handler.{handled}
use Rattle.node.proofs.Telling.{AnswerNumbered, FindingNumbered, offer_numbered, lookup_numbered, reply_reads_back, reply_at_most_600}
use Rattle.capi_words.specs.Result.{packed}
use Rattle.capi_words.specs.Meaning.{Told}
use Rattle.capi_words.proofs.Halves.{taken, alone, tells_none, tells, both, tells_both, tells_write}
use Rattle.capi.specs.Words.{is_clock, clock_of}
use Rattle.capi.specs.Clock.{step_refusal}
use Rattle.capi.specs.Frame.{bytes_in, write_word, read_refusal}
use Rattle.capi.specs.Store.{store_refusal, store_number, look_refusal, look_number, place_refusal, found_number, list_refusal, line_refusal}
use Rattle.capi.specs.Handle.{handle_refusal, handle_length}
use Rattle.capi.specs.Meaning.{ResultsTakenApart}
use Rattle.capi.proofs.Frames.{writes_at_most_600}
use Rattle.capi.proofs.Stores.{merge_few, purge_few}

-- ---- what is told is 0 or a number
-- a step of the clock
tells_stepped : (step : Clock → Stepped) (w : List ℕ) (s : Stepped) → step (clock_of w) ≡ s → StepNumbered s → Told (step_refusal step w)
unfolding step_refusal
tells_stepped step w (next d) e n = tells_both (is_clock w) _ 17 (rw e tells_none) (tells refusal.BadArgument)
tells_stepped step w (refused k) e n = tells_both (is_clock w) _ 17 (rw e (inr (step_numbered k n))) (tells refusal.BadArgument)

-- a frame that is read, and a message that is written
tells_read : (r : Result Located Refusal) → Told (read_refusal r)
tells_read (Ok m) = tells_none
tells_read (Err r) = tells r

tells_message : (m : Message) → Told (message_refusal m)
unfolding message_refusal
tells_message m =
    tells_both (time_fault m) 9 _ (tells refusal.BadTime)
    (tells_both (key_fault m) 1 _ (tells refusal.BadKey)
    (tells_both (value_fault m) 2 _ (tells refusal.ValueTooLarge)
    (tells_both (argument_fault m) 17 0 (tells refusal.BadArgument) tells_none)))

write_word_lem : (m : Message) (out : List ℕ)
    → packed (write_refusal (message_refusal m) (frame_of m) out) (bytes_in (write_answer (message_refusal m) (frame_of m) out)) ≡ write_word m out
unfolding write_answer
write_word_lem m out =
    let n = write_refusal (message_refusal m) (frame_of m) out in
    elim (test (eqb n 0)) [
      | inl p ↦ let z : n ≡ 0 = eqb-true n 0 p in rw (p, z)
      | inr p ↦ rw p
    ]

-- the store's answers
tells_create : (store : List ℕ) (slots : ℕ) → Told (create_refusal store slots)
unfolding create_refusal
tells_create store slots =
    tells_both (ltb slots 1 || ltb most_slots slots) 17 _ (tells refusal.BadArgument)
    (tells_both (not (eqb (length store) (slot_start slots))) 4 0 (tells refusal.NoRoom) tells_none)

tells_look : (f : looking.Finding) → FindingNumbered f → Told (look_refusal f)
tells_look (looking.value at len) n = tells_none
tells_look looking.deleted n = tells_none
tells_look looking.never n = tells_none
tells_look (looking.refused k) n = inr n.0

look_number_lem : (f : looking.Finding) → look_number f ≤ 2
look_number_lem (looking.value at len) = omega arith
look_number_lem looking.deleted = omega arith
look_number_lem looking.never = omega arith
look_number_lem (looking.refused k) = omega arith

tells_place : (store key place : List ℕ) → Told (place_refusal store key place)
unfolding place_refusal
tells_place store key place = tells_write _ _ place (tells_look (lookup_answer store key) (lookup_numbered store key))

found_most : (store key place : List ℕ) → found_number store key place ≤ 2
unfolding found_number
found_most store key place = both (λ n. n ≤ 2) (eqb (place_refusal store key place) 0) _ 0 (look_number_lem (lookup_answer store key)) (omega arith)

tells_list : (store : List ℕ) (i : ℕ) → Told (list_refusal (entry_answer store i))
unfolding entry_answer listing_for
tells_list store i =
    let P : Listing → Type 0 = λ l. Told (list_refusal l) in
    both P (not (sound store)) _ _ (tells refusal.BadStore) (both P (leb (used_of store) i) _ _ (tells refusal.BadArgument) tells_none)

tells_offer : (a : offering.Answer) → AnswerNumbered a → Told (store_refusal a)
tells_offer offering.stored n = tells_none
tells_offer offering.replaced n = tells_none
tells_offer offering.kept n = tells_none
tells_offer (offering.merged k) n = tells_none
tells_offer (offering.purged k) n = tells_none
tells_offer (offering.refused k) n = inr n

told-number : (e : Entry) (o : Option Entry) → store_number (told e o) ≤ 2
unfolding told
told-number e none = omega arith
told-number e (some h) = both (λ a. store_number a ≤ 2) (beats e h) _ _ (omega arith) (omega arith)

offer_number : (store : List ℕ) (e : Entry) → store_number (offer_answer store e) ≤ 2
unfolding offer_answer
offer_number store e =
    let P : offering.Answer → Type 0 = λ a. store_number a ≤ 2 in
    both P (not (sound store)) _ _ (omega arith)
    (both P (not (eqb (refusal_of e) 0)) _ _ (omega arith)
    (both P (below_line (line_of store) (entries_of store) e) _ _ (omega arith)
    (both P (ltb (slots_of store) (length (put e (entries_of store)))) _ _ (omega arith) (told-number e (find e.key (entries_of store))))))

tells_line : (store : List ℕ) → Told (line_refusal store)
tells_line store = tells_both (sound store) 0 5 tells_none (tells refusal.BadStore)

-- the handler
module _ (store : List ℕ) (c : Clock) (time : ℕ) (frame reply : List ℕ) where
  short : ltb (length reply) 600 ≡ true → Told (handled store c time frame reply).refusal
  unfolding handled
  short p = rw p (tells refusal.NoRoom)

  tells_handled : Told (handled store c time frame reply).refusal
  tells_handled = elim (test (ltb (length reply) 600)) [
    | inl p ↦ short p
    | inr p ↦ (reply_reads_back store c time frame reply (ltb-false (length reply) 600 p)).numbered
  ]

module _ (store w : List ℕ) (time : ℕ) (frame reply : List ℕ) where
  tells_handle : Told (handle_refusal store w time frame reply)
  unfolding handle_refusal
  tells_handle = tells_both (is_clock w) _ 17 (tells_handled store (clock_of w) time frame reply) (tells refusal.BadArgument)

  handle_length_lem : handle_length store w time frame reply ≤ 600
  unfolding handle_length
  handle_length_lem = both (λ n. n ≤ 600) (is_clock w) _ 0 (reply_at_most_600 store (clock_of w) time frame reply) (omega arith)

-- ---- every result
pub results_taken_apart : ResultsTakenApart
results_taken_apart =
    record {
      clock_fresh = λ node w. alone _ (tells_write 0 _ w tells_none);
      clock_send = λ now w. alone _ (tells_stepped (λ c. send_step c now) w _ refl (send_numbered (clock_of w) now));
      clock_receive = λ p l now w. alone _ (tells_stepped (λ c. receive_step c p l now) w _ refl (receive_numbered (clock_of w) p l now));
      frame_read = λ frame w. alone _ (tells_write (read_refusal (read_answer frame)) _ w (tells_read (read_answer frame)));
      store_create = λ store slots. alone _ (tells_create store slots);
      store_entry = λ store i w. alone _ (tells_write (list_refusal (entry_answer store i)) _ w (tells_list store i));
      write =
          λ m out.
          rw (← write_word_lem m out)
          (taken _ _ _ (tells_write (message_refusal m) (frame_of m) out (tells_message m)) (writes_at_most_600 m out) (omega arith));
      store_lookup = λ store key place. taken _ _ _ (tells_place store key place) (found_most store key place) (omega arith);
      store_offer = λ store e. taken _ _ _ (tells_offer (offer_answer store e) (offer_numbered store e)) (offer_number store e) (omega arith);
      store_line = λ store w. alone _ (tells_write (line_refusal store) _ w (tells_line store));
      store_merge = λ receiver giver. let n = merge_few receiver giver in taken _ _ _ n.0 n.1 (omega arith);
      store_purge = λ store line. let n = purge_few store line in taken _ _ _ n.0 n.1 (omega arith);
      handle = λ store w time frame reply. taken _ _ _ (tells_handle store w time frame reply) (handle_length_lem store w time frame reply) (omega arith);
    }

-- What holds of the results, and of the words that the functions take and put out.
use Rattle.std.specs.Prelude.{ℕ, ◌+◌, ◌^◌, ◌<◌, ◌≡◌, true, List}
use Rattle.std.proofs.Math.Option.{some}
use Rattle.wire.specs.Fill.{field}
use Rattle.entry.specs.Entry.{Entry}
use Rattle.clock.specs.declared.Clock.{Clock}
use Rattle.clock.specs.Clock.{Stepped, fresh_clock, send_step, receive_step}
use Rattle.frame.specs.Message.{Message, message_refusal, key_of, value_of}
use Rattle.frame.specs.Layout.{max_frame, frame_of}
use Rattle.frame.specs.Reading.{message, read_answer, read_frame}
use Rattle.frame.specs.Writing.{Answer as Wrote, write_refusal, write_answer}
use Rattle.image.specs.Layout.{most_slots}
use Rattle.image.specs.Image.{entries_of, sound}
use Rattle.store.specs.Answer.{Answer as Offered}
use Rattle.store.specs.Create.{create_refusal}
use Rattle.store.specs.Lookup.{lookup_answer, value_part}
use Rattle.store.specs.Listing.{nth, entry_answer}
use Rattle.store.specs.Offer.{offer_answer}
use Rattle.store.specs.Merge.{merge_answer}
use Rattle.store.specs.Purge.{purge_answer}
use Rattle.capi_words.specs.Words.{word}
use Rattle.capi_words.specs.Meaning.{TakenApart, Alone, PutKeeps}
use Rattle.capi.specs.Words.{clock_words, is_clock, clock_of}
use Rattle.capi.specs.Clock.{step_refusal, step_words}
use Rattle.capi.specs.Frame.{bytes_in, write_word, read_refusal, read_words}
use Rattle.capi.specs.Store.{store_refusal, store_number, store_word, place_words, place_refusal, found_number, lookup_word, list_refusal, list_words}
use Rattle.capi.specs.Store.{line_refusal, line_words}
use Rattle.capi.specs.Handle.{handle_refusal, handle_length, handle_word, handle_store, handle_clock}

-- ---- results
-- every result of the functions (R236)
pub record ResultsTakenApart : Type 0 where
  -- without an answer
  pub clock_fresh : (node : ℕ) (w : List ℕ) → Alone (write_refusal 0 (clock_words (fresh_clock node)) w)
  pub clock_send : (now : ℕ) (w : List ℕ) → Alone (step_refusal (λ c. send_step c now) w)
  pub clock_receive : (p l now : ℕ) (w : List ℕ) → Alone (step_refusal (λ c. receive_step c p l now) w)
  pub frame_read : (frame w : List ℕ) → Alone (write_refusal (read_refusal (read_answer frame)) (read_words (read_answer frame)) w)
  pub store_create : (store : List ℕ) (slots : ℕ) → Alone (create_refusal store slots)
  pub store_entry : (store : List ℕ) (i : ℕ) (w : List ℕ) → Alone (write_refusal (list_refusal (entry_answer store i)) (list_words (entry_answer store i)) w)
  pub store_line : (store w : List ℕ) → Alone (write_refusal (line_refusal store) (line_words store) w)
  -- with one: a frame's length, what became of a lookup and an offer, how many entries a merge passed
  -- over and a purge removed, a reply's length
  pub write : (m : Message) (out : List ℕ) → let a : Wrote = write_answer (message_refusal m) (frame_of m) out in
      TakenApart (write_word m out) (write_refusal (message_refusal m) (frame_of m) out) (bytes_in a) max_frame
  pub store_lookup : (store key place : List ℕ) → TakenApart (lookup_word store key place) (place_refusal store key place) (found_number store key place) 2
  pub store_offer : (store : List ℕ) (e : Entry) → let a : Offered = offer_answer store e in TakenApart (store_word a) (store_refusal a) (store_number a) 2
  pub store_merge : (receiver giver : List ℕ) → let a : Offered = merge_answer receiver giver in
      TakenApart (store_word a) (store_refusal a) (store_number a) most_slots
  pub store_purge : (store : List ℕ) (line : ℕ) → let a : Offered = purge_answer store line in
      TakenApart (store_word a) (store_refusal a) (store_number a) most_slots
  pub handle : (store w : List ℕ) (time : ℕ) (frame reply : List ℕ)
      → TakenApart (handle_word store w time frame reply) (handle_refusal store w time frame reply) (handle_length store w time frame reply) max_frame

-- ---- layouts
-- words that are a clock are those of the clock they stand for, and the other way round (R237)
pub record ClockLayout : Type 0 where
  pub back : (c : Clock) → clock_of (clock_words c) ≡ c
  pub same : (w : List ℕ) → is_clock w ≡ true → clock_words (clock_of w) ≡ w

-- each number is in the range of its field; the language keeps this of every clock (R5, R6)
pub record ClockInRange (c : Clock) : Type 0 where
  pub logical : c.logical < 2 ^ 16
  pub node : c.node < 2 ^ 8
  pub skew : c.skew < 2 ^ 32

-- the words of a clock are a clock (R237)
abbrev pub ClockWordsAre : Type 0
ClockWordsAre = (c : Clock) → ClockInRange c → is_clock (clock_words c) ≡ true

-- ---- a refusal leaves the words as they came (R29, R170, R245)
abbrev pub StepKeeps : (Clock → Stepped) → Type 0
StepKeeps step = (w : List ℕ) → (step_refusal step w ≡ 0 → ⊥) → step_words step w ≡ w

pub record RefusedClock : Type 0 where
  pub fresh : (node : ℕ) → PutKeeps 0 (clock_words (fresh_clock node))
  pub send : (now : ℕ) → StepKeeps (λ c. send_step c now)
  pub receive : (p l now : ℕ) → StepKeeps (λ c. receive_step c p l now)

-- a refused request leaves the store and the clock's words as they came (R170, R245)
abbrev pub RefusedHandle : Type 0
RefusedHandle = (store w : List ℕ) (time : ℕ) (frame reply : List ℕ) → (handle_refusal store w time frame reply ≡ 0 → ⊥)
    → (handle_store store w time frame reply ≡ store) × (handle_clock store w time frame reply ≡ w)

-- ---- places
-- the bytes at the place that word i gives, as many as the next word says
abbrev pub part_at : ℕ → List ℕ → List ℕ → List ℕ
part_at i w s = field (word w i) (word w (i + 1)) s

-- at the place that a lookup puts out the store has the value of the key, and no bytes where there is none (R124)
abbrev pub ValuePlace : Type 0
ValuePlace = (store key : List ℕ) → part_at 0 (place_words (lookup_answer store key)) store ≡ value_part store key

-- at the places that the words of the i-th entry held put out the store has its key and its value (R243)
pub record EntryPlaces : Type 0 where
  pub key : (store : List ℕ) (i : ℕ) (e : Entry) → sound store ≡ true → nth i (entries_of store) ≡ some e
      → part_at 1 (list_words (entry_answer store i)) store ≡ e.key
  pub value : (store : List ℕ) (i : ℕ) (e : Entry) → sound store ≡ true → nth i (entries_of store) ≡ some e
      → part_at 3 (list_words (entry_answer store i)) store ≡ e.value

-- at the places that a reading puts out the frame has the key and the value of its message (R53 to R56, R58)
pub record FieldPlaces : Type 0 where
  pub key : (frame : List ℕ) (m : Message) → read_frame frame ≡ message m → part_at 1 (read_words (read_answer frame)) frame ≡ key_of m
  pub value : (frame : List ℕ) (m : Message) → read_frame frame ≡ message m → part_at 3 (read_words (read_answer frame)) frame ≡ value_of m

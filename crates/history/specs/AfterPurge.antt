-- Demand 3 from a purge on: stores that are byte for byte equal, put in the place of fresh ones, and
-- what holds after every list of offers, merges and requests on them. The calls run here are those
-- of the code, as in History; a request is `handled`, the definition that the contract of `handle`
-- is stated with.
use Rattle.std.specs.Prelude.{ℕ, ◌≤◌, ◌<◌, ◌≡◌, ◌⊎◌, ◌↔◌, true, false, List, [], ◌∷◌, ◌++◌, set, replicate}
use Rattle.entry.specs.Key.{bad_key}
use Rattle.entry.specs.Order.{stamp_below}
use Rattle.entry.specs.Entry.{Entry, Acceptable, beats}
use Rattle.image.specs.Image.{image, slots_of, entries_of, ascending, sound}
use Rattle.store.specs.Held.{◌∈◌}
use Rattle.store.specs.Answer.{merged, refused, is_refused}
use Rattle.store.specs.Lookup.{lookup_answer, value_part, never}
use Rattle.store.specs.Purge.{remaining, purge_answer, after_purge}
use Rattle.store.specs.Meaning.{Finds}
use Rattle.node.specs.Handler.{handled}
use Rattle.node.specs.Asked.{Asked, refusal, look_up, local_write, replica, asked}
use Rattle.history.specs.Book.{offer, merge, delivered, has_key, key_count, Greatest}
use Rattle.history.specs.Events.{Event, call, request, Said, told, replied, said_of, Start, start_of, is_live, live, book_run, book_says, brought, Given}
use Rattle.history.specs.History.{Stores, store, answer, after}

unfoldable pub said : Stores → Event → Said  -- (R261)
said w (call c) = told (answer w c)
said w (request i c now frame reply) = said_of (handled (store w i) c now frame reply)

unfoldable pub after_event : Stores → Event → Stores  -- (R261)
after_event w (call c) = after w c
after_event w (request i c now frame reply) = set w i (handled (store w i) c now frame reply).store

unfoldable pub run_events : Stores → List Event → Stores
run_events w [] = w
run_events w (v ∷ vs) = run_events (after_event w v) vs

unfoldable pub all_said : Stores → List Event → List Said
all_said w [] = []
all_said w (v ∷ vs) = said w v ∷ all_said (after_event w v) vs

-- n stores that are s, and a store after some events on them
unfoldable pub copies : ℕ → List ℕ → Stores
copies n s = replicate n s

abbrev pub store_then : List ℕ → ℕ → List Event → ℕ → List ℕ
store_then s n events i = store (run_events (copies n s) events) i

-- the book's set for it: at first what s holds (R261)
abbrev pub set_then : List ℕ → ℕ → List Event → ℕ → List Entry
set_then s n events i = delivered (book_run (start_of s) (replicate n (entries_of s)) events) i

-- the refusals of an event that are left where all entries are acceptable and all keys fit: 34 of an
-- offer; of a request 7 for PUT and DEL, 34, and what its frame, clock, time and reply buffer call
-- for (R261)
abbrev pub MayRefuse : Asked → ℕ → Type 0
MayRefuse (refusal m) n = n ≡ m
MayRefuse (look_up k) n = n ≡ 0
MayRefuse (local_write d e) n = (n ≡ 0) ⊎ (n ≡ 7) ⊎ (n ≡ 34)
MayRefuse (replica d e) n = (n ≡ 0) ⊎ (n ≡ 34)

abbrev pub Accepts : Event → Said → Type 0
Accepts (call (offer i e)) (told a) = (is_refused a ≡ false) ⊎ (a ≡ refused 34)
Accepts (call (merge r g)) (told a) = is_refused a ≡ false
Accepts (call c) (replied d reply w n) = ⊥
Accepts (request i c now frame reply) (told a) = ⊥
Accepts (request i c now frame reply) (replied d reply' w n) = MayRefuse (asked c now frame reply) n

-- what holds after a list of events on n stores that start as s (R261, R262)
pub record HistoryFrom (s : List ℕ) (n : ℕ) (events : List Event) : Type 0 where
  -- each event was answered or refused as the book says (R261)
  pub answered : all_said (copies n s) events ≡ book_says (start_of s) (replicate n (entries_of s)) events
  -- if every entry is acceptable and all keys together fit, nothing else is refused (R261)
  pub accepted : ((e : Entry) → e ∈ brought events → Acceptable e) → key_count (brought events ++ entries_of s) ≤ slots_of s
      → (before : List Event) (v : Event) (later : List Event) → events ≡ before ++ v ∷ later → Accepts v (said (run_events (copies n s) before) v)
  -- no merge passed an entry over, and none was refused for unequal lines (R260, R261)
  pub none_passed : (k : ℕ) → told (merged k) ∈ all_said (copies n s) events → k ≡ 0
  pub equal_lines : told (refused 35) ∈ all_said (copies n s) events → ⊥
  -- a store holds the greatest of the entries of a key that were delivered to it, if its phys is at or
  -- above the line or its key was held at the start, and nothing else (R262)
  pub holds : (i : ℕ) → i < n → (e : Entry)
      → e ∈ entries_of (store_then s n events i) ↔ (Greatest (set_then s n events i) e × (is_live (start_of s) e ≡ true))
  -- and it holds one of each key that has such an entry (R262)
  pub keys : (i : ℕ) → i < n → (d : Entry) → d ∈ set_then s n events i → is_live (start_of s) d ≡ true
      → (e : Entry) × e ∈ entries_of (store_then s n events i) × (e.key ≡ d.key)
  -- its bytes are the image of those entries, in key order, with the line of the start (R262)
  pub bytes : (i : ℕ) → i < n
      → (ascending (entries_of (store_then s n events i)) ≡ true)
      × (store_then s n events i ≡ image (slots_of s) (start_of s).line (entries_of (store_then s n events i)))
  -- stores to which the same set was delivered are equal, byte for byte (R262)
  pub converge : (i j : ℕ) → i < n → j < n → ((e : Entry) → e ∈ set_then s n events i ↔ e ∈ set_then s n events j)
      → store_then s n events i ≡ store_then s n events j
  -- no event lost a held key, lowered a held stamp, or put an entry in the place of one that beats it
  -- (R262)
  pub monotone : (before : List Event) (v : Event) (later : List Event) → events ≡ before ++ v ∷ later
      → (i : ℕ) → i < n → (h : Entry) → h ∈ entries_of (store_then s n before i)
      → (g : Entry) × g ∈ entries_of (store (after_event (run_events (copies n s) before) v) i) × (g.key ≡ h.key)
      × (stamp_below g.stamp h.stamp ≡ false) × (beats h g ≡ false)
  -- a lookup then gives the value of that entry, or says that it is deleted (R262)
  pub looked : (i : ℕ) → i < n → (e : Entry) → Greatest (set_then s n events i) e → is_live (start_of s) e ≡ true → Finds (store_then s n events i) e
  -- and says of a key with no such entry that it was never seen (R262)
  pub unseen : (i : ℕ) → i < n → (k : List ℕ) → bad_key k ≡ false → has_key k (live (start_of s) (set_then s n events i)) ≡ false
      → (lookup_answer (store_then s n events i) k ≡ never) × (value_part (store_then s n events i) k ≡ [])

-- for every sound store, every number of copies of it and every list of events (R261)
abbrev pub EveryHistoryFrom : Type 0
EveryHistoryFrom = (s : List ℕ) (n : ℕ) (events : List Event) → sound s ≡ true → Given n events → HistoryFrom s n events

-- where the stores start after a purge to L: with the line L, and what the purge left
abbrev pub purged_start : List ℕ → ℕ → Start
purged_start s L = record { slots = slots_of s; line = L; held = remaining L (entries_of s) }

-- and so for stores that are equal after a purge to L, s being any of them before it (R261)
abbrev pub EveryHistoryAfterPurge : Type 0
EveryHistoryAfterPurge = (s : List ℕ) (L n : ℕ) (events : List Event) → is_refused (purge_answer s L) ≡ false → Given n events
    → (start_of (after_purge s L) ≡ purged_start s L) × HistoryFrom (after_purge s L) n events

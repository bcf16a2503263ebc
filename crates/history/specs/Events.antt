-- The book of stores that started equal and have a purge line: events, the entries that count, and
-- what the book says of a list of events from the events alone, never from a store's bytes.
use Rattle.std.specs.Prelude.{ℕ, ◌^◌, ◌<◌, Bool, true, cond, not, ◌&&◌, ◌||◌, List, [], ◌∷◌, ◌++◌, length, set, ltb, leb, eqb}
use Rattle.std.proofs.Math.Option.{Option, none, some}
use Rattle.wire.specs.Number.{Bytes}
use Rattle.entry.specs.Entry.{Entry, refusal_of}
use Rattle.clock.specs.declared.Clock.{Clock}
use Rattle.frame.specs.Message.{Message, value, not_found}
use Rattle.frame.specs.Layout.{max_frame}
use Rattle.image.specs.Image.{slots_of, line_of, entries_of}
use Rattle.store.specs.Answer.{Answer, stored, replaced, kept, merged, purged, refused, is_refused}
use Rattle.store.specs.Overtaken.{overtaken_by}
use Rattle.store.specs.Meaning.{Representable}
use Rattle.node.specs.Handler.{Served, done, Result, offer_served, settle}
use Rattle.node.specs.Handler as handler
use Rattle.node.specs.Asked.{Asked, refusal, look_up, local_write, replica, asked}
use Rattle.history.specs.Book.{Call, offer, merge, has_key, best, book_offer, book_merge, Book, delivered}

-- an offer or a merge, or a request with its clock, its time, its frame and its reply buffer (R261)
pub data Event : Type 0 where
  call : Call → Event
  request : (store : ℕ) → Clock → (now : ℕ) (frame reply : List ℕ) → Event

-- what is answered: to an offer or a merge; or to a request, with its next clock, its reply buffer,
-- how much of that was written, and the refusal's number, 0 for none
pub data Said : Type 0 where
  told : Answer → Said
  replied : Clock → (reply : List ℕ) (written refusal : ℕ) → Said

abbrev pub said_of : Result → Said
said_of x = replied x.clock x.reply x.written x.refusal

-- what the stores have in common when they start: their slots, their purge line and what they hold
pub record Start : Type 0 where
  pub slots : ℕ
  pub line : ℕ
  pub held : List Entry

abbrev pub start_of : List ℕ → Start
start_of s = record { slots = slots_of s; line = line_of s; held = entries_of s }

-- ---- the entries that count
-- its phys is at or above the line, or its key was held at the start (R262)
unfoldable pub is_live : Start → Entry → Bool
is_live t e = leb t.line e.stamp.phys || has_key e.key t.held

unfoldable pub live : Start → List Entry → List Entry
live t [] = []
live t (d ∷ ds) = cond (is_live t d) (d ∷ live t ds) (live t ds)

-- ---- offers and merges
-- an offer of e where ds were delivered: 34 if its phys is below the line and no live entry has its
-- key, and else as the book of fresh stores says of the live ones (R258, R262)
unfoldable pub live_offer : Start → List Entry → Entry → Answer
live_offer t ds e =
    cond (not (eqb (refusal_of e) 0)) (refused (refusal_of e))
    (cond (ltb e.stamp.phys t.line && not (has_key e.key (live t ds))) (refused 34)
    (book_offer t.slots (live t ds) e))

-- an entry joins the set if it was taken or refused with 34 (R261)
unfoldable pub joins : Answer → Bool
joins stored = true
joins replaced = true
joins kept = true
joins (merged n) = true
joins (purged n) = true
joins (refused n) = eqb n 34

unfoldable pub live_offered : Start → List Entry → Entry → List Entry
live_offered t ds e = cond (joins (live_offer t ds e)) (e ∷ ds) ds

-- a merge: the live entries are counted, and all that was delivered is gained (R261, R262)
unfoldable pub live_merge : Start → List Entry → List Entry → Answer
live_merge t ds gs = book_merge t.slots (live t ds) (live t gs)

unfoldable pub live_merged : Start → List Entry → List Entry → List Entry
live_merged t ds gs = cond (is_refused (live_merge t ds gs)) ds (gs ++ ds)

-- ---- requests
-- VALUE, or NOTFOUND for a tombstone and where there is no entry (R262)
unfoldable pub found : Option Entry → Message
found none = not_found
found (some h) = cond (eqb h.flag 1) not_found (value h.value)

-- a GET is answered from the greatest live entry; PUT and DEL are overtaken by its stamp, else the
-- entry is offered (R261, R262)
unfoldable pub live_served : Start → List Entry → Clock → Asked → Served
live_served t ds c (refusal n) = handler.refused n
live_served t ds c (look_up k) = done [] c (found (best k (live t ds)))
live_served t ds c (local_write d e) =
    cond (overtaken_by (best e.key (live t ds)) e.stamp) (handler.refused 7) (offer_served [] d (live_offer t ds e))
live_served t ds c (replica d e) = offer_served [] d (live_offer t ds e)

-- the whole answer; with 4 nothing is written
unfoldable pub live_replied : Start → List Entry → Clock → ℕ → (frame reply : List ℕ) → Said
live_replied t ds c now frame reply =
    cond (ltb (length reply) max_frame) (replied c reply 0 4)
    (said_of (settle [] c reply (live_served t ds c (asked c now frame reply))))

-- what is delivered by it
unfoldable pub live_requested : Start → List Entry → Asked → List Entry
live_requested t ds (refusal n) = ds
live_requested t ds (look_up k) = ds
live_requested t ds (local_write d e) = cond (overtaken_by (best e.key (live t ds)) e.stamp) ds (live_offered t ds e)
live_requested t ds (replica d e) = live_offered t ds e

-- ---- lists of events
unfoldable pub book_said : Start → Book → Event → Said
book_said t b (call (offer i e)) = told (live_offer t (delivered b i) e)
book_said t b (call (merge r g)) = told (live_merge t (delivered b r) (delivered b g))
book_said t b (request i c now frame reply) = live_replied t (delivered b i) c now frame reply

unfoldable pub book_then : Start → Book → Event → Book
book_then t b (call (offer i e)) = set b i (live_offered t (delivered b i) e)
book_then t b (call (merge r g)) = set b r (live_merged t (delivered b r) (delivered b g))
book_then t b (request i c now frame reply) = set b i (live_requested t (delivered b i) (asked c now frame reply))

unfoldable pub book_run : Start → Book → List Event → Book
book_run t b [] = b
book_run t b (v ∷ vs) = book_run t (book_then t b v) vs

unfoldable pub book_says : Start → Book → List Event → List Said
book_says t b [] = []
book_says t b (v ∷ vs) = book_said t b v ∷ book_says t (book_then t b v) vs

-- the entries that the events bring (R261)
unfoldable pub brought_by : Asked → List Entry
brought_by (refusal n) = []
brought_by (look_up k) = []
brought_by (local_write d e) = e ∷ []
brought_by (replica d e) = e ∷ []

unfoldable pub brought : List Event → List Entry
brought [] = []
brought (call (offer i e) ∷ vs) = e ∷ brought vs
brought (call (merge r g) ∷ vs) = brought vs
brought (request i c now frame reply ∷ vs) = brought_by (asked c now frame reply) ++ brought vs

-- the events' stores are in range, and what is given is what the types let through: entries that
-- `offer` can be given, frames made of bytes, node ids that fit
abbrev pub Given : ℕ → List Event → Type 0
Given n [] = Unit
Given n (call (offer i e) ∷ vs) = (i < n) × Representable e × Given n vs
Given n (call (merge r g) ∷ vs) = (r < n) × (g < n) × Given n vs
Given n (request i c now frame reply ∷ vs) = (i < n) × Bytes frame × (c.node < 2 ^ 8) × Given n vs

-- Demand 3: stores that are offered entries and merged into one another, and what holds after every
-- list of such calls. The calls run here are those of the code: the contracts of `create`, `offer`,
-- `merge`, `lookup` and `value` say that they answer and leave `after_create` (`fresh_store` where it
-- is not refused), `offer_answer`, `after_offer`, `merge_answer`, `after_merge`, `lookup_answer` and
-- `value_part`, the very definitions that `answer`, `after` and the clauses below are made of.
use Rattle.std.specs.Prelude.{ℕ, ◌<◌, ◌≤◌, ◌≡◌, ◌↔◌, true, false, List, [], ◌∷◌, ◌++◌, get_or, set, replicate}
use Rattle.entry.specs.Key.{bad_key}
use Rattle.entry.specs.Order.{stamp_below}
use Rattle.entry.specs.Entry.{Entry, Acceptable, beats}
use Rattle.image.specs.Layout.{most_slots}
use Rattle.image.specs.Image.{image, entries_of, ascending}
use Rattle.store.specs.Held.{◌∈◌}
use Rattle.store.specs.Answer.{Answer, is_refused}
use Rattle.store.specs.Create.{fresh_store}
use Rattle.store.specs.Lookup.{lookup_answer, value_part, never}
use Rattle.store.specs.Offer.{offer_answer, after_offer}
use Rattle.store.specs.Merge.{merge_answer, after_merge}
use Rattle.store.specs.Meaning.{Representable, Finds}
use Rattle.history.specs.Book.{Call, offer, merge, Book, delivered, has_key, key_count, Greatest, run_book, book_answers, offers, InRange}

-- the bytes of each store
abbrev pub Stores : Type 0
Stores = List (List ℕ)

abbrev pub store : Stores → ℕ → List ℕ
store w i = get_or w i []

unfoldable pub answer : Stores → Call → Answer  -- (R183)
answer w (offer i e) = offer_answer (store w i) e
answer w (merge r g) = merge_answer (store w r) (store w g)

unfoldable pub after : Stores → Call → Stores  -- (R183)
after w (offer i e) = set w i (after_offer (store w i) e)
after w (merge r g) = set w r (after_merge (store w r) (store w g))

unfoldable pub run : Stores → List Call → Stores  -- (R183)
run w [] = w
run w (c ∷ cs) = run (after w c) cs

unfoldable pub answers : Stores → List Call → List Answer  -- (R183, R185)
answers w [] = []
answers w (c ∷ cs) = answer w c ∷ answers (after w c) cs

-- n fresh stores of C slots, to which nothing was delivered (R127, R183)
unfoldable pub fresh : ℕ → ℕ → Stores
fresh C n = replicate n (fresh_store C)

unfoldable pub none_delivered : ℕ → Book
none_delivered n = replicate n []

-- a store after some calls on n fresh stores of C slots, and the set that the book has for it
abbrev pub store_after : ℕ → ℕ → List Call → ℕ → List ℕ
store_after C n calls i = store (run (fresh C n) calls) i

abbrev pub set_after : ℕ → ℕ → List Call → ℕ → List Entry
set_after C n calls i = delivered (run_book C (none_delivered n) calls) i

-- what holds after a list of calls on n fresh stores of C slots (R182)
pub record DeliveryHistory (C n : ℕ) (calls : List Call) : Type 0 where
  -- each call was answered or refused as the book says (R185)
  pub answered : answers (fresh C n) calls ≡ book_answers C (none_delivered n) calls
  -- if every entry is acceptable and all keys together fit the slots, nothing is refused (R186)
  pub accepted : ((e : Entry) → e ∈ offers calls → Acceptable e) → key_count (offers calls) ≤ C
      → (a : Answer) → a ∈ answers (fresh C n) calls → is_refused a ≡ false
  -- a store holds the greatest of the entries of a key that were delivered to it, and nothing else (R187, R193)
  pub holds : (i : ℕ) → i < n → (e : Entry) → e ∈ entries_of (store_after C n calls i) ↔ Greatest (set_after C n calls i) e
  -- and it holds one of each key (R187)
  pub keys : (i : ℕ) → i < n → (d : Entry) → d ∈ set_after C n calls i
      → (e : Entry) × e ∈ entries_of (store_after C n calls i) × (e.key ≡ d.key)
  -- its bytes are the image of those entries, in key order, with the line 0 (R188, R193, R257)
  pub bytes : (i : ℕ) → i < n
      → (ascending (entries_of (store_after C n calls i)) ≡ true) × (store_after C n calls i ≡ image C 0 (entries_of (store_after C n calls i)))
  -- stores to which the same set was delivered are equal, byte for byte (R189)
  pub converge : (i j : ℕ) → i < n → j < n → ((e : Entry) → e ∈ set_after C n calls i ↔ e ∈ set_after C n calls j)
      → store_after C n calls i ≡ store_after C n calls j
  -- no call lost a held key, lowered a held stamp, or put an entry in the place of one that beats it
  -- (R190, R256)
  pub monotone : (before : List Call) (c : Call) (later : List Call) → calls ≡ before ++ c ∷ later
      → (i : ℕ) → i < n → (h : Entry) → h ∈ entries_of (store_after C n before i)
      → (g : Entry) × g ∈ entries_of (store (after (run (fresh C n) before) c) i) × (g.key ≡ h.key)
      × (stamp_below g.stamp h.stamp ≡ false) × (beats h g ≡ false)
  -- a lookup then gives the value of the greatest entry of a key, or says that it is deleted (R191)
  pub looked : (i : ℕ) → i < n → (e : Entry) → Greatest (set_after C n calls i) e → Finds (store_after C n calls i) e
  -- and says of a key that was never delivered that it was never seen (R192)
  pub unseen : (i : ℕ) → i < n → (k : List ℕ) → bad_key k ≡ false → has_key k (set_after C n calls i) ≡ false
      → (lookup_answer (store_after C n calls i) k ≡ never) × (value_part (store_after C n calls i) k ≡ [])

-- every entry that is offered is one that `offer` can be given
abbrev pub RepresentableOffers : List Call → Type 0
RepresentableOffers calls = (e : Entry) → e ∈ offers calls → Representable e

-- demand 3, the delivery history: for every slot count, every number of stores and every list of
-- calls (R182, R183, R194)
abbrev pub EveryDeliveryHistory : Type 0
EveryDeliveryHistory = (C n : ℕ) (calls : List Call) → 1 ≤ C → C ≤ most_slots → InRange n calls
    → RepresentableOffers calls → DeliveryHistory C n calls

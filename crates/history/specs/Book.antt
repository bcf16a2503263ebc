-- The delivery book: calls, answers, and what the book says of a list of calls from the calls
-- alone, never from a store's bytes.
use Rattle.std.specs.Prelude.{ℕ, suc, ◌<◌, ◌≡◌, Bool, true, false, cond, not, ◌&&◌, ◌||◌, List, [], ◌∷◌, ◌++◌, get_or, set, ltb, eqb}
use Rattle.std.proofs.Math.Option.{Option, none}
use Rattle.wire.specs.Order.{same_bytes}
use Rattle.entry.specs.Entry.{Entry, beats, refusal_of}
use Rattle.store.specs.Held.{◌∈◌, better}
use Rattle.store.specs.Answer.{Answer, stored, replaced, kept, merged, refused, is_refused}

-- a call names stores by their index (R126)
pub data Call : Type 0 where
  offer : (store : ℕ) → Entry → Call
  merge : (receiver giver : ℕ) → Call

-- a set of delivered entries is a list of them, in which the order and a second occurrence mean
-- nothing (R127, R129)
unfoldable pub has_key : List ℕ → List Entry → Bool
has_key k [] = false
has_key k (d ∷ ds) = same_bytes k d.key || has_key k ds

-- how many keys the entries have (R129, R131)
unfoldable pub key_count : List Entry → ℕ
key_count [] = 0
key_count (d ∷ ds) = cond (has_key d.key ds) (key_count ds) (suc (key_count ds))

-- e beats each entry of its key, and so becomes the greatest of it (R130)
unfoldable pub beats_all : Entry → List Entry → Bool
beats_all e [] = true
beats_all e (d ∷ ds) = cond (same_bytes e.key d.key) (beats e d && beats_all e ds) (beats_all e ds)

-- e was delivered, and no delivered entry of its key beats it (R187)
abbrev pub Greatest : List Entry → Entry → Type 0
Greatest ds e = (e ∈ ds) × ((d : Entry) → d ∈ ds → d.key ≡ e.key → beats d e ≡ false)

-- that entry, if there is one of the key (R187)
unfoldable pub best : List ℕ → List Entry → Option Entry
best k [] = none
best k (d ∷ ds) = cond (same_bytes k d.key) (better d (best k ds)) (best k ds)

-- an offer of e to a store of C slots to which ds were delivered (R128 to R130)
unfoldable pub book_offer : ℕ → List Entry → Entry → Answer
book_offer C ds e =
    cond (not (eqb (refusal_of e) 0)) (refused (refusal_of e))
    (cond (ltb C (key_count (e ∷ ds))) (refused 6)
    (cond (not (has_key e.key ds)) stored
    (cond (beats_all e ds) replaced kept)))

unfoldable pub book_offered : ℕ → List Entry → Entry → List Entry  -- (R130, R133)
book_offered C ds e = cond (is_refused (book_offer C ds e)) ds (e ∷ ds)

-- a merge of a store to which gs were delivered into one of C slots to which ds were; no entry is
-- passed over (R131, R260)
unfoldable pub book_merge : ℕ → List Entry → List Entry → Answer
book_merge C ds gs = cond (ltb C (key_count (gs ++ ds))) (refused 6) (merged 0)

unfoldable pub book_merged : ℕ → List Entry → List Entry → List Entry  -- (R132, R133)
book_merged C ds gs = cond (is_refused (book_merge C ds gs)) ds (gs ++ ds)

-- the set of each store (R127)
abbrev pub Book : Type 0
Book = List (List Entry)

abbrev pub delivered : Book → ℕ → List Entry
delivered b i = get_or b i []

unfoldable pub book_answer : ℕ → Book → Call → Answer  -- (R126)
book_answer C b (offer i e) = book_offer C (delivered b i) e
book_answer C b (merge r g) = book_merge C (delivered b r) (delivered b g)

unfoldable pub book_after : ℕ → Book → Call → Book  -- (R126)
book_after C b (offer i e) = set b i (book_offered C (delivered b i) e)
book_after C b (merge r g) = set b r (book_merged C (delivered b r) (delivered b g))

unfoldable pub run_book : ℕ → Book → List Call → Book  -- (R126)
run_book C b [] = b
run_book C b (c ∷ cs) = run_book C (book_after C b c) cs

unfoldable pub book_answers : ℕ → Book → List Call → List Answer  -- (R126, R185)
book_answers C b [] = []
book_answers C b (c ∷ cs) = book_answer C b c ∷ book_answers C (book_after C b c) cs

-- the entries that the calls offer (R186)
unfoldable pub offers : List Call → List Entry
offers [] = []
offers (offer i e ∷ cs) = e ∷ offers cs
offers (merge r g ∷ cs) = offers cs

-- the calls' stores are in range (R183)
abbrev pub InRange : ℕ → List Call → Type 0
InRange n [] = Unit
InRange n (offer i e ∷ cs) = (i < n) × InRange n cs
InRange n (merge r g ∷ cs) = (r < n) × (g < n) × InRange n cs

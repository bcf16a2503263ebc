-- The store's functions.
use Rattle.std.specs.Prelude.{ℕ, cond, List, [], ◌∷◌, eqb}
use Rattle.image.specs.Image.{line_of, sound}
use Rattle.store.specs.Answer.{Answer, stored, replaced, kept, merged, purged, refused}
use Rattle.store.specs.Lookup.{Finding, value, deleted, never, refused as not_looked, lookup_answer}
use Rattle.store.specs.Listing.{Listing, entry, refused as not_listed}
use Rattle.frame.specs.Reading.{span}
use Rattle.frame.specs.Writing.{write_refusal}
use Rattle.capi_words.specs.Result.{packed}
use Rattle.capi.specs.Frame.{repl_words}

-- the refusal of an offer, a merge or a purge, or 0
abbrev pub store_refusal : Answer → ℕ
store_refusal stored = 0
store_refusal replaced = 0
store_refusal kept = 0
store_refusal (merged n) = 0
store_refusal (purged n) = 0
store_refusal (refused n) = n

-- STORED 0, REPLACED 1, KEPT 2; of a merge how many entries were passed over, and of a purge how many
-- were removed (R242, R259, R260)
abbrev pub store_number : Answer → ℕ
store_number stored = 0
store_number replaced = 1
store_number kept = 2
store_number (merged n) = n
store_number (purged n) = n
store_number (refused n) = 0

abbrev pub store_word : Answer → ℕ
store_word a = packed (store_refusal a) (store_number a)

-- the refusal of a lookup, or 0
abbrev pub look_refusal : Finding → ℕ
look_refusal (value at len) = 0
look_refusal deleted = 0
look_refusal never = 0
look_refusal (not_looked n) = n

-- VALUE 0, DELETED 1, NEVER 2 (R242)
abbrev pub look_number : Finding → ℕ
look_number (value at len) = 0
look_number deleted = 1
look_number never = 2
look_number (not_looked n) = 0

-- where the value stands in the store, and its length; 0 and 0 where there is none (R242)
abbrev pub place_words : Finding → List ℕ
place_words (value at len) = at ∷ len ∷ []
place_words deleted = 0 ∷ 0 ∷ []
place_words never = 0 ∷ 0 ∷ []
place_words (not_looked n) = 0 ∷ 0 ∷ []

-- the refusal of a lookup that puts a place into words: its own, then 4 (R244)
unfoldable pub place_refusal : List ℕ → List ℕ → List ℕ → ℕ
place_refusal store key place = write_refusal (look_refusal (lookup_answer store key)) (place_words (lookup_answer store key)) place

-- its answer, or 0 where it is refused
unfoldable pub found_number : List ℕ → List ℕ → List ℕ → ℕ
found_number store key place = cond (eqb (place_refusal store key place) 0) (look_number (lookup_answer store key)) 0

abbrev pub lookup_word : List ℕ → List ℕ → List ℕ → ℕ
lookup_word store key place = packed (place_refusal store key place) (found_number store key place)

-- the refusal of an entry that is asked for by its number, or 0
abbrev pub list_refusal : Listing → ℕ
list_refusal (entry ka kl va vl flag stamp) = 0
list_refusal (not_listed n) = n

-- the entry as the ten words of a REPL, with places in the store (R243)
abbrev pub list_words : Listing → List ℕ
list_words (entry ka kl va vl flag stamp) = repl_words (record { key = span ka kl; value = span va vl; flag = flag; stamp = stamp })
list_words (not_listed n) = []

-- the refusal of a store whose purge line is asked for, or 0; and the line as one word (R267)
abbrev pub line_refusal : List ℕ → ℕ
line_refusal store = cond (sound store) 0 5

abbrev pub line_words : List ℕ → List ℕ
line_words store = line_of store ∷ []

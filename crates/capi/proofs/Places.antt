-- The bytes at the places that are put out: the value or an entry in a store, and the key and the value in a frame.
use mathlib.Core.Path.{◌≡◌, refl, sym, ap, ◌∙◌}
use mathlib.Core.Bool.{true}
use mathlib.Core.List.{List}
use mathlib.Core.Option.{some, some-injective}
use Prim.Native.Nat.{ℕ}
use lib.ListN.{length}
use Rattle.std.specs.Prelude.{Result, Ok, Err}
use Rattle.entry.specs.declared.Refusal.{Refusal}
use Rattle.wire.specs.Fill.{field}
use Rattle.wire.proofs.Tests.{never}
use Rattle.entry.specs.Entry.{Entry, entry_of}
use Rattle.image.specs.Image.{entries_of, sound}
use Rattle.wire.proofs.Compared.{distinct}
use Rattle.store.specs.Lookup.{Finding, lookup_answer, value_part}
use Rattle.store.specs.Lookup as lookup
use Rattle.store.specs.Listing.{nth, listing_for, entry_answer}
use Rattle.store.proofs.Looking.{value_stands, no_value}
use Rattle.store.proofs.Listings.{entry_stands, each_listed}
use Rattle.frame.specs.declared.answer.Message.{Message as Located}
use Rattle.frame.specs.declared.answer.Message.TheVariants.{Put, Get, Del, Repl, Ok as OkMessage, Value, NotFound, Err as ErrMessage}
use Rattle.frame.specs.Message.{Message, key_of, value_of}
use Rattle.frame.specs.Reading.{message, message_in, meaning, read_answer, read_frame}
use Rattle.capi.specs.Frame.{field_words, read_words}
use Rattle.capi.specs.Store.{place_words, list_words}
use Rattle.capi.specs.Meaning.{part_at, ValuePlace, EntryPlaces, FieldPlaces}

-- ---- the value in a store
pub two_words : (f : Finding) → length (place_words f) ≡ 2
two_words (lookup.value at len) = refl
two_words lookup.deleted = refl
two_words lookup.never = refl
two_words (lookup.refused n) = refl

at_place : (s k : List ℕ) (f : Finding) → lookup_answer s k ≡ f → part_at 0 (place_words f) s ≡ value_part s k
unfolding field
at_place s k (lookup.value at len) e = (value_stands s k at len e).1
at_place s k lookup.deleted e = no_value s k (λ at len q. distinct lookup.deleted (lookup.value at len) (λ r. cc) (sym e ∙ q))
at_place s k lookup.never e = no_value s k (λ at len q. distinct lookup.never (lookup.value at len) (λ r. cc) (sym e ∙ q))
at_place s k (lookup.refused n) e = no_value s k (λ at len q. distinct (lookup.refused n) (lookup.value at len) (λ r. cc) (sym e ∙ q))

pub value_place : ValuePlace
value_place s k = at_place s k (lookup_answer s k) refl

-- ---- the key and the value of an entry in a store
module _ (s : List ℕ) (i : ℕ) (e : Entry) (ok : sound s ≡ true) (n : nth i (entries_of s) ≡ some e) where
  -- the entry, with what stands at its places
  entry_is : entry_of (part_at 1 (list_words (entry_answer s i)) s) (part_at 3 (list_words (entry_answer s i)) s) e.flag e.stamp ≡ e
  unfolding listing_for
  entry_is =
      let told = each_listed s i e ok n in
      rw told (some-injective _ e (sym (entry_stands s i _ _ _ _ _ _ told).is ∙ n))

pub entry_places : EntryPlaces
entry_places = record {
  key = λ s i e ok n. ap (λ (x : Entry). x.key) (entry_is s i e ok n);
  value = λ s i e ok n. ap (λ (x : Entry). x.value) (entry_is s i e ok n);
}

-- ---- the key and the value in a frame
key_in_lem : (s : List ℕ) (l : Located) → part_at 1 (field_words l) s ≡ key_of (message_in s l)
unfolding field
key_in_lem s (Put k v) = refl
key_in_lem s (Get k) = refl
key_in_lem s (Del k) = refl
key_in_lem s (Repl e) = refl
key_in_lem s OkMessage = refl
key_in_lem s (Value v) = refl
key_in_lem s NotFound = refl
key_in_lem s (ErrMessage n) = refl

value_in_lem : (s : List ℕ) (l : Located) → part_at 3 (field_words l) s ≡ value_of (message_in s l)
unfolding field
value_in_lem s (Put k v) = refl
value_in_lem s (Get k) = refl
value_in_lem s (Del k) = refl
value_in_lem s (Repl e) = refl
value_in_lem s OkMessage = refl
value_in_lem s (Value v) = refl
value_in_lem s NotFound = refl
value_in_lem s (ErrMessage n) = refl

-- what holds of the parts of a message that was read
part_in : (i : ℕ) (f : Message → List ℕ) (s : List ℕ) (m : Message) → ((l : Located) → part_at i (field_words l) s ≡ f (message_in s l))
    → (r : Result Located Refusal) → meaning s r ≡ message m → part_at i (read_words r) s ≡ f m
part_in i f s m law (Ok l) h = let e : message_in s l ≡ m = cc in law l ∙ ap f e
part_in i f s m law (Err r) h = never (cc)

pub field-places : FieldPlaces
unfolding read_frame
field-places = record {
  key = λ s m h. part_in 1 key_of s m (key_in_lem s) (read_answer s) h;
  value = λ s m h. part_in 3 value_of s m (value_in_lem s) (read_answer s) h;
}

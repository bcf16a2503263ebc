-- The entries that a store holds, one by one.
use Rattle.std.specs.Prelude.{ℕ, zero, suc, ◌+◌, cond, not, List, [], ◌∷◌, length, leb, Result, Ok, Err}
use Rattle.std.proofs.Math.Option.{Option, none, some}
use Rattle.entry.specs.declared.EntryAt.{EntryAt}
use Rattle.entry.specs.declared.Refusal.{Refusal}
use Rattle.entry.specs.declared.Stamp.{Stamp}
use Rattle.entry.specs.Refusal.{number}
use Rattle.entry.specs.Entry.{Entry}
use Rattle.image.specs.Layout.{key_at, slot_start, value_start}
use Rattle.image.specs.Image.{slot_entry, used_of, sound}
use Rattle.image.specs.Slot.{slot_at}

-- the places of an entry's key and value in the store and their lengths, its flag and its stamp; or
-- a refusal with its number
pub data Listing : Type 0 where
  entry : (ka kl va vl flag : ℕ) (stamp : Stamp) → Listing
  refused : ℕ → Listing

abbrev pub listing_of : Result EntryAt Refusal → Listing
listing_of (Ok e) = entry e.key.at e.key.len e.value.at e.value.len e.flag e.stamp
listing_of (Err r) = refused (number r)

-- the i-th of some entries, counted from 0 (R243)
unfoldable pub nth : ℕ → List Entry → Option Entry
nth i [] = none
nth zero (e ∷ es) = some e
nth (suc i) (e ∷ es) = nth i es

-- what is said of the entry in slot i (R243)
unfoldable pub listing_for : ℕ → Entry → Listing
listing_for i e = entry (slot_start i + key_at) (length e.key) (value_start i) (length e.value) e.flag e.stamp

-- 5, then 17 if no more than i slots are used (R243)
unfoldable pub entry_answer : List ℕ → ℕ → Listing
entry_answer store i =
    cond (not (sound store)) (refused 5)
    (cond (leb (used_of store) i) (refused 17)
    (listing_for i (slot_entry (slot_at i store))))

-- What the calls keep, where a value or an entry stands, and what is found after an offer.
use Rattle.std.specs.Prelude.{ℕ, suc, ◌+◌, ◌^◌, ◌≤◌, ◌<◌, ◌≡◌, ◌⊎◌, ◌↔◌, true, false, cond, List, [], length}
use Rattle.std.proofs.Math.Option.{none, some}
use Rattle.wire.specs.Fill.{field}
use Rattle.entry.specs.declared.Stamp.{Stamp}
use Rattle.entry.specs.Entry.{Entry, entry_of, Acceptable}
use Rattle.image.specs.Layout.{most_slots}
use Rattle.image.specs.Image.{slot_bytes, slots_of, line_of, entries_of, sound}
use Rattle.image.specs.Slot.{slot_at}
use Rattle.store.specs.Held.{◌∈◌, put, find, index_of}
use Rattle.store.specs.Answer.{stored, replaced, kept, purged, is_refused}
use Rattle.store.specs.Create.{fresh_store}
use Rattle.store.specs.Lookup.{value, finding_for, lookup_answer, value_part}
use Rattle.store.specs.Listing.{entry, nth, listing_for, entry_answer}
use Rattle.store.specs.Offer.{offer_answer, after_offer}
use Rattle.store.specs.Merge.{merged_entries, merge_answer, after_merge}
use Rattle.store.specs.Purge.{remaining, removed, purge_answer, after_purge}
use Rattle.store.specs.Unchecked.{seek, lookup_unchecked, offer_unchecked, after_offer_unchecked}

-- the logical count and the node id fit their fields, as those of every stamp that `offer` can be
-- given do: they are a u16 and a u8 (R5, R6)
pub record Representable (e : Entry) : Type 0 where
  pub logical : e.stamp.logical < 2 ^ 16
  pub node : e.stamp.node < 2 ^ 8

-- a store t is sound, has as many slots as s and its line, and holds es
pub record Keeps (s : List ℕ) (es : List Entry) (t : List ℕ) : Type 0 where
  pub sound : sound t ≡ true
  pub slots : slots_of t ≡ slots_of s
  pub line : line_of t ≡ line_of s
  pub holds : entries_of t ≡ es

-- ---- what the calls keep
-- a fresh store is sound, holds nothing and has the line 0 (R115, R257)
abbrev pub FreshKeeps : Type 0
FreshKeeps = (c : ℕ) → 1 ≤ c → c ≤ most_slots → (sound (fresh_store c) ≡ true) × (slots_of (fresh_store c) ≡ c)
    × (line_of (fresh_store c) ≡ 0) × (entries_of (fresh_store c) ≡ [])

-- an offer leaves a sound store sound (R117, R118)
abbrev pub OfferKeeps : Type 0
OfferKeeps = (s : List ℕ) (e : Entry) → sound s ≡ true → Representable e
    → Keeps s (cond (is_refused (offer_answer s e)) (entries_of s) (put e (entries_of s))) (after_offer s e)

-- and so does a merge of sound stores (R121, R122, R260)
abbrev pub MergeKeeps : Type 0
MergeKeeps = (r g : List ℕ) → sound r ≡ true → sound g ≡ true
    → Keeps r (cond (is_refused (merge_answer r g)) (entries_of r) (merged_entries r g)) (after_merge r g)

-- an offer that is told as kept changes no byte (R119)
abbrev pub KeptUnchanged : Type 0
KeptUnchanged = (s : List ℕ) (e : Entry) → offer_answer s e ≡ kept → after_offer s e ≡ s

-- and an entry that is held is told as kept when it is offered again (R119)
abbrev pub HeldIsKept : Type 0
HeldIsKept = (s : List ℕ) (e : Entry) → sound s ≡ true → e ∈ entries_of s → offer_answer s e ≡ kept

-- ---- a purge
-- t is a sound store with as many slots as s, the line, and just those entries of s that are not
-- tombstones below the line (R259)
pub record Purges (s : List ℕ) (line : ℕ) (t : List ℕ) : Type 0 where
  pub sound : sound t ≡ true
  pub slots : slots_of t ≡ slots_of s
  pub line_set : line_of t ≡ line
  pub entries : entries_of t ≡ remaining line (entries_of s)
  pub holds : (e : Entry) → e ∈ entries_of t ↔ ((e ∈ entries_of s) × ((e.flag ≡ 1) × (e.stamp.phys < line) → ⊥))
  -- what is told is how many are gone
  pub counted : length (entries_of t) + removed line (entries_of s) ≡ length (entries_of s)

abbrev pub PurgeLeaves : Type 0
PurgeLeaves = (s : List ℕ) (line : ℕ) → is_refused (purge_answer s line) ≡ false → Purges s line (after_purge s line)

-- purging to the held line is allowed (R259)
abbrev pub PurgeToHeldLine : Type 0
PurgeToHeldLine = (s : List ℕ) → sound s ≡ true → is_refused (purge_answer s (line_of s)) ≡ false

-- the same purge again right after changes no byte, and an accepted one then removes nothing (R259)
abbrev pub PurgeAgain : Type 0
PurgeAgain = (s : List ℕ) (line : ℕ) → (after_purge (after_purge s line) line ≡ after_purge s line)
    × (is_refused (purge_answer s line) ≡ false → purge_answer (after_purge s line) line ≡ purged 0)

-- after a purge that removed something, an acceptable entry with a key that is not held is stored, if
-- its phys is at or above the line (R117, R259)
abbrev pub RoomAfterPurge : Type 0
RoomAfterPurge = (s : List ℕ) (line n : ℕ) → purge_answer s line ≡ purged (suc n) → (e : Entry) → Acceptable e
    → find e.key (entries_of (after_purge s line)) ≡ none → line ≤ e.stamp.phys → offer_answer (after_purge s line) e ≡ stored

-- ---- a lookup
-- the place that it gives lies in the store, and the value stands there (R124)
abbrev pub ValueStands : Type 0
ValueStands = (s k : List ℕ) (at len : ℕ) → lookup_answer s k ≡ value at len → (at + len ≤ length s) × (field at len s ≡ value_part s k)

-- it finds an entry of its key in a store t: DELETED if it is a tombstone, else VALUE with its
-- value's place; and its value (R123)
pub record Finds (t : List ℕ) (e : Entry) : Type 0 where
  pub told : lookup_answer t e.key ≡ finding_for (index_of e.key (entries_of t)) (some e)
  pub part : value_part t e.key ≡ e.value

-- an entry that was stored, or replaced another, is what a lookup of its key finds (R117, R118, R123)
abbrev pub FoundAfterOffer : Type 0
FoundAfterOffer = (s : List ℕ) (e : Entry) → Representable e → (offer_answer s e ≡ stored) ⊎ (offer_answer s e ≡ replaced)
    → Finds (after_offer s e) e

-- ---- the entries, one by one
-- an entry that was listed is the i-th held: its key and its value stand at the places, which lie in
-- the store
pub record Lists (s : List ℕ) (i ka kl va vl flag : ℕ) (stamp : Stamp) : Type 0 where
  pub key : ka + kl ≤ length s
  pub value : va + vl ≤ length s
  pub is : nth i (entries_of s) ≡ some (entry_of (field ka kl s) (field va vl s) flag stamp)

abbrev pub EntryStands : Type 0
EntryStands = (s : List ℕ) (i ka kl va vl flag : ℕ) (stamp : Stamp) → entry_answer s i ≡ entry ka kl va vl flag stamp → Lists s i ka kl va vl flag stamp

-- and each that a sound store holds is listed
abbrev pub EachListed : Type 0
EachListed = (s : List ℕ) (i : ℕ) (e : Entry) → sound s ≡ true → nth i (entries_of s) ≡ some e → entry_answer s i ≡ listing_for i e

-- ---- the calls without the test of soundness
-- on a sound store they are the calls themselves (R198)
pub record Unchecked (s : List ℕ) : Type 0 where
  pub lookup : (k : List ℕ) → lookup_unchecked s k ≡ lookup_answer s k
  pub offer : (e : Entry) → offer_unchecked s e ≡ offer_answer s e
  pub after : (e : Entry) → after_offer_unchecked s e ≡ after_offer s e

abbrev pub UncheckedOnSound : Type 0
UncheckedOnSound = (s : List ℕ) → sound s ≡ true → Unchecked s

-- on any bytes an entry that is told as stored, or as replacing another, stands in its slot, whole (R198)
abbrev pub StoredIsThere : Type 0
StoredIsThere = (s : List ℕ) (e : Entry) → (offer_unchecked s e ≡ stored) ⊎ (offer_unchecked s e ≡ replaced)
    → slot_at (seek e.key (entries_of s)) (after_offer_unchecked s e) ≡ slot_bytes e

-- and any other answer changes no byte (R198)
abbrev pub UnstoredUnchanged : Type 0
UnstoredUnchanged = (s : List ℕ) (e : Entry) → (offer_unchecked s e ≡ stored → ⊥) → (offer_unchecked s e ≡ replaced → ⊥) → after_offer_unchecked s e ≡ s

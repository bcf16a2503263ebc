-- The entries of a store, one by one.
use mathlib.Core.Path.{◌≡◌, sym, ap, ◌∙◌}
use mathlib.Core.Logic.{inl, inr}
use mathlib.Core.Bool.{true, false}
use mathlib.Core.List.{List, [], ◌∷◌}
use mathlib.Core.Option.{some, none-ne-some, some-injective}
use Prim.Native.Nat.{ℕ, zero, suc, ◌+◌, ◌≤◌, ◌<◌}
use native.Mathlib.Omega.{arith}
use lib.ListN.{length, take, drop, length-take}
use lib.Dec.{ltb}
use borrow.Author.Tests.{le-leb, lt-leb, ltb-true, ltb-false}
use Rattle.wire.specs.Fill.{field}
use Rattle.wire.proofs.Tests.{test}
use Rattle.entry.specs.Entry.{Entry}
use Rattle.wire.specs.Number.{num}
use Rattle.image.specs.Layout.{klen_at, vlen_at, key_at, key_width, value_at, value_width, slot_start, value_start}
use Rattle.image.specs.Image.{key_in, flag_in, value_in, stamp_in, slot_entry, used_of, entries_of, sound}
use Rattle.image.specs.Slot.{slot_at}
use Rattle.image.proofs.ImageLaws.{entry_at, used_is, sound_is, sound-length}
use Rattle.store.specs.Listing.{Listing, entry, refused, nth, listing_for, entry_answer}
use Rattle.store.specs.Meaning.{Lists, EntryStands, EachListed}
use Rattle.store.proofs.Looking.{slot_key, slot_value}

-- ---- the i-th of some entries
pub nth_there : (i : ℕ) (es : List Entry) (e : Entry) (rest : List Entry) → drop i es ≡ e ∷ rest → nth i es ≡ some e
unfolding nth
nth_there zero [] e rest h = cc
nth_there zero (g ∷ es) e rest h = cc
nth_there (suc i) [] e rest h = cc
nth_there (suc i) (g ∷ es) e rest h = nth_there i es e rest h

pub nth_within : (i : ℕ) (es : List Entry) (e : Entry) → nth i es ≡ some e → i < length es
unfolding nth
nth_within i [] e h = absurd (none-ne-some e h)
nth_within zero (g ∷ es) e h = omega arith
nth_within (suc i) (g ∷ es) e h = omega (arith, nth_within i es e h)

-- ---- what is said of an i
module _ (s : List ℕ) (i : ℕ) where
  pub list_5 : sound s ≡ false → refused 5 ≡ entry_answer s i
  unfolding entry_answer
  list_5 h = rw h

  module _ (ok : sound s ≡ true) where
    pub list_17 : used_of s ≤ i → refused 17 ≡ entry_answer s i
    unfolding entry_answer
    list_17 h = rw (ok, le-leb (used_of s) i h)

    module _ (l : i < used_of s) where
      list_slot : entry_answer s i ≡ listing_for i (slot_entry (slot_at i s))
      unfolding entry_answer
      list_slot = rw (ok, lt-leb (used_of s) i l)

      pub list_entry : (e : Entry) → e ≡ slot_entry (slot_at i s)
          → entry (slot_start i + key_at) (length e.key) (value_start i) (length e.value) e.flag e.stamp ≡ entry_answer s i
      unfolding listing_for
      list_entry e h = ap (listing_for i) h ∙ sym list_slot

-- ---- an entry that is listed
part_small : (n a w : ℕ) (s : List ℕ) → length (take n (field a w s)) ≤ w
unfolding field
part_small n a w s = omega (arith, length-take n (take w (drop a s)), length-take w (drop a s))

key_small : (s : List ℕ) → length (key_in s) ≤ key_width
unfolding key_in
key_small s = part_small (num (field klen_at 1 s)) key_at key_width s

value_small : (s : List ℕ) → length (value_in s) ≤ value_width
unfolding value_in
value_small s = part_small (num (field vlen_at 2 s)) value_at value_width s

module _ (s : List ℕ) (i : ℕ) (ok : sound s ≡ true) (l : i < used_of s) where
  nth_slot : nth i (entries_of s) ≡ some (slot_entry (slot_at i s))
  nth_slot = nth_there i (entries_of s) (slot_entry (slot_at i s)) (drop (suc i) (entries_of s)) (entry_at i s l)

  slot_within : slot_start (suc i) ≤ length s
  slot_within = let n = sound_is s ok in omega (arith, sound-length s n, n.room)

  -- what is said is the entry of slot i
  slot_lists : let t = slot_at i s in
      Lists s i (slot_start i + key_at) (length (key_in t)) (value_start i) (length (value_in t)) (flag_in t) (stamp_in t)
  unfolding slot_entry
  slot_lists =
      let t = slot_at i s in
      let w = slot_within in
      record {
        key = omega (arith, key_small t);
        value = omega (arith, value_small t);
        is = rw (slot_key i s, slot_value i s) nth_slot;
      }

-- what holds of an answer
abbrev Listed : List ℕ → ℕ → Listing → Type 0
Listed s i (entry ka kl va vl flag stamp) = Lists s i ka kl va vl flag stamp
Listed s i (refused n) = Unit {0}

answer-listed : (s : List ℕ) (i : ℕ) → Listed s i (entry_answer s i)
unfolding listing_for slot_entry
answer-listed s i = elim (test (sound s)) [
  | inl p ↦ elim (test (ltb i (used_of s))) [
    | inl q ↦ rw (list_slot s i p (ltb-true i (used_of s) q)) (slot_lists s i p (ltb-true i (used_of s) q))
    | inr q ↦ rw (← list_17 s i p (ltb-false i (used_of s) q)) tt
  ]
  | inr p ↦ rw (← list_5 s i p) tt
]

pub entry_stands : EntryStands
entry_stands s i ka kl va vl flag stamp e = rw e at (answer-listed s i)

pub each_listed : EachListed
each_listed s i e ok n =
    let l : i < used_of s = omega (arith, nth_within i (entries_of s) e n, used_is s) in
    list_slot s i ok l ∙ ap (listing_for i) (some-injective (slot_entry (slot_at i s)) e (sym (nth_slot s i ok l) ∙ n))

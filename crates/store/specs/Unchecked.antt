-- The calls without the test of soundness, on any bytes: they follow the slots as they stand.
-- Meaning says what that is worth: on a sound store they are the calls themselves, and on any bytes
-- an offer is told as stored or replaced only where it was.
use Rattle.std.specs.Prelude.{◌≡◌, ℕ, zero, suc, ◌+◌, ◌-◌, ◌*◌, ◌<◌, Bool, cond, not, List, [], ◌∷◌, ◌++◌, take, drop, ltb, leb, eqb, Result, Ok, Err}
use Rattle.std.proofs.Math.Option.{Option, none, some}
use Rattle.wire.specs.Number.{be}
use Rattle.wire.specs.Fill.{field}
use Rattle.wire.specs.Order.{same_bytes}
use Rattle.entry.specs.declared.Refusal.{Refusal}
use Rattle.entry.specs.declared.Refusal.TheVariants.{BadStore, StoreFull, BelowLine}
use Rattle.entry.specs.Refusal.{number}
use Rattle.entry.specs.Key.{bad_key}
use Rattle.entry.specs.Order.{key_below}
use Rattle.entry.specs.Entry.{Entry, beats, refusal_of}
use Rattle.image.specs.Layout.{used_at, width_at, slot_width, slot_start}
use Rattle.image.specs.Image.{slot_bytes, slots_of, used_of, line_of, entries_of}
use Rattle.image.specs.Slot.{has_slot}
use Rattle.store.specs.declared.Placement.{Placement}
use Rattle.store.specs.declared.Placement.TheVariants.{Insert, Replace, Kept}
use Rattle.store.specs.Held.{is_held}
use Rattle.store.specs.Answer.{Answer, stored, replaced, kept, refused}
use Rattle.store.specs.Lookup.{Finding, finding_for}
use Rattle.store.specs.Lookup as looking

-- ---- where a key stands

-- how many entries stand before the key: those up to the first whose key is not below it
unfoldable pub seek : List ℕ → List Entry → ℕ
seek k [] = zero
seek k (h ∷ hs) = cond (key_below k h.key) zero (cond (same_bytes k h.key) zero (suc (seek k hs)))

-- the entry there, if it has the key
unfoldable pub seen : List ℕ → List Entry → Option Entry
seen k [] = none
seen k (h ∷ hs) = cond (key_below k h.key) none (cond (same_bytes k h.key) (some h) (seen k hs))

-- a key's index, and whether it is held
pub record Placed (k : List ℕ) (es : List Entry) (at : ℕ) (held : Bool) : Type 0 where
  pub place : at ≡ seek k es
  pub known : held ≡ is_held (seen k es)
  pub small : at < 65536

-- ---- looking a key up (R198)
unfoldable pub lookup_unchecked : List ℕ → List ℕ → Finding
lookup_unchecked store key = cond (bad_key key) (looking.refused 1) (finding_for (seek key (entries_of store)) (seen key (entries_of store)))

-- ---- bytes written

-- w in the place of the bytes from a to e
unfoldable pub splice : ℕ → ℕ → List ℕ → List ℕ → List ℕ
splice a e w s = take a s ++ w ++ drop e s

-- the bytes w of a slot written over slot i
unfoldable pub replace_at : ℕ → List ℕ → List ℕ → List ℕ
replace_at i w s = splice (slot_start i) (slot_start (i + 1)) w s

-- U raised, the used slots from i on moved up by one, and the bytes w of a slot written before them
unfoldable pub insert_at : ℕ → List ℕ → List ℕ → List ℕ
insert_at i w s =
    splice (slot_start i) (slot_start (used_of s + 1)) (w ++ field (slot_start i) (slot_width * (used_of s - i)) s)
    (splice used_at width_at (be 2 (used_of s + 1)) s)

-- ---- offering an acceptable entry

-- where it goes, by what is seen of its key; BAD_STORE where the bytes do not have the slot that is
-- to be written (R258)
unfoldable pub placement_for : List ℕ → Entry → Option Entry → Result Placement Refusal
placement_for s e none =
    cond (ltb e.stamp.phys (line_of s)) (Err BelowLine)
    (cond (leb (slots_of s) (used_of s)) (Err StoreFull)
    (cond (has_slot (used_of s) s) (Ok (Insert (seek e.key (entries_of s)))) (Err BadStore)))
placement_for s e (some h) =
    cond (not (beats e h)) (Ok Kept)
    (cond (has_slot (seek e.key (entries_of s)) s) (Ok (Replace (seek e.key (entries_of s)))) (Err BadStore))

abbrev pub placement : List ℕ → Entry → Result Placement Refusal
placement s e = placement_for s e (seen e.key (entries_of s))

-- what is told of it
abbrev pub told_of : Result Placement Refusal → Answer
told_of (Ok (Insert i)) = stored
told_of (Ok (Replace i)) = replaced
told_of (Ok Kept) = kept
told_of (Err r) = refused (number r)

-- what is left, where w are the bytes of its slot
abbrev pub written_at : Result Placement Refusal → List ℕ → List ℕ → List ℕ
written_at (Ok (Insert i)) w s = insert_at i w s
written_at (Ok (Replace i)) w s = replace_at i w s
written_at (Ok Kept) w s = s
written_at (Err r) w s = s

unfoldable pub after_placed : List ℕ → Entry → List ℕ
after_placed s e = written_at (placement s e) (slot_bytes e) s

-- each of some entries in turn
unfoldable pub after_all : List Entry → List ℕ → List ℕ
after_all [] s = s
after_all (e ∷ es) s = after_all es (after_placed s e)

-- how many of some entries have a key that is not held and are not below the line
unfoldable pub count_new : ℕ → List Entry → List Entry → ℕ
count_new line hs [] = zero
count_new line hs (e ∷ es) =
    cond (is_held (seen e.key hs)) (count_new line hs es)
    (cond (ltb e.stamp.phys line) (count_new line hs es) (suc (count_new line hs es)))

-- and how many are below it
unfoldable pub count_passed : ℕ → List Entry → List Entry → ℕ
count_passed line hs [] = zero
count_passed line hs (e ∷ es) =
    cond (is_held (seen e.key hs)) (count_passed line hs es)
    (cond (ltb e.stamp.phys line) (suc (count_passed line hs es)) (count_passed line hs es))

-- the two counts of a merge
pub record Counted (line : ℕ) (hs es : List Entry) (new passed : ℕ) : Type 0 where
  pub new_is : new ≡ count_new line hs es
  pub passed_is : passed ≡ count_passed line hs es

-- ---- offering an entry: 9, 1, 2, 17, then 34, then 6 (R35, R198, R258)
unfoldable pub offer_unchecked : List ℕ → Entry → Answer
offer_unchecked s e = cond (not (eqb (refusal_of e) 0)) (refused (refusal_of e)) (told_of (placement s e))

unfoldable pub after_offer_unchecked : List ℕ → Entry → List ℕ
after_offer_unchecked s e = cond (not (eqb (refusal_of e) 0)) s (after_placed s e)

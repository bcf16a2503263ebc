-- Clearing old tombstones: purging a store to a line (R259).
use Rattle.std.specs.Prelude.{ℕ, zero, suc, ◌+◌, ◌-◌, ◌*◌, Bool, cond, not, ◌&&◌, List, [], ◌∷◌, ◌++◌, ltb, eqb}
use Rattle.wire.specs.Number.{be}
use Rattle.wire.specs.Fill.{zeros, field}
use Rattle.entry.specs.Entry.{Entry, bad_time}
use Rattle.image.specs.Layout.{used_at, width_at, slot_width, slot_start}
use Rattle.image.specs.Image.{image, slots_of, used_of, line_of, entries_of, sound}
use Rattle.store.specs.Answer.{Answer, purged, refused, is_refused}
use Rattle.store.specs.Unchecked.{splice}

-- a tombstone whose phys is below the line (R259)
unfoldable pub cleared : ℕ → Entry → Bool
cleared line e = eqb e.flag 1 && ltb e.stamp.phys line

-- the entries that stay (R259)
unfoldable pub remaining : ℕ → List Entry → List Entry
remaining line [] = []
remaining line (e ∷ es) = cond (cleared line e) (remaining line es) (e ∷ remaining line es)

-- how many are removed (R259)
unfoldable pub removed : ℕ → List Entry → ℕ
removed line [] = zero
removed line (e ∷ es) = cond (cleared line e) (suc (removed line es)) (removed line es)

-- 5, then 9, then 33 if the line is below the held one (R259, R264, R266)
unfoldable pub purge_answer : List ℕ → ℕ → Answer
purge_answer store line =
    cond (not (sound store)) (refused 5)
    (cond (bad_time line) (refused 9)
    (cond (ltb line (line_of store)) (refused 33)
    (purged (removed line (entries_of store)))))

-- a refusal changes nothing (R29, R259)
unfoldable pub after_purge : List ℕ → ℕ → List ℕ
after_purge store line = cond (is_refused (purge_answer store line)) store (image (slots_of store) line (remaining line (entries_of store)))

-- ---- bytes
-- slot i removed: U lowered by one, the used slots after it moved down by one, and zeros in the last
-- of them
unfoldable pub remove_at : ℕ → List ℕ → List ℕ
remove_at i s =
    splice (slot_start i) (slot_start (used_of s)) (field (slot_start (i + 1)) (slot_width * (used_of s - (i + 1))) s ++ zeros slot_width)
    (splice used_at width_at (be 2 (used_of s - 1)) s)

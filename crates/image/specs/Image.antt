-- The store image: its bytes from the entries held, the entries from the bytes, and when it is
-- sound.
use Rattle.std.specs.Prelude.{ℕ, zero, suc, ◌-◌, ◌*◌, Bool, true, ◌&&◌, List, [], ◌∷◌, ◌++◌, length, take, drop, leb, eqb}
use Rattle.wire.specs.Number.{be, num}
use Rattle.wire.specs.Fill.{zeros, padded, field}
use Rattle.wire.specs.Order.{same_bytes}
use Rattle.checksum.specs.Crc32c.{crc32c}
use Rattle.entry.specs.declared.Stamp.{Stamp}
use Rattle.entry.specs.Order.{key_below}
use Rattle.entry.specs.Entry.{Entry, refusal_of}
use Rattle.image.specs.Layout.{slots_at, used_at, line_at, header_width, klen_at, flag_at, vlen_at, phys_at, logical_at, node_at, key_at, key_width, value_at}
use Rattle.image.specs.Layout.{value_width, slot_width, most_slots}

-- ---- from the entries to the bytes

-- slots C (2), used U (2), slot width (2), offset of first slot (2), purge line (6), two zero bytes
-- (R103, R257)
unfoldable pub header : ℕ → ℕ → ℕ → List ℕ
header c u line = be 2 c ++ be 2 u ++ be 2 slot_width ++ be 2 header_width ++ be 6 line ++ zeros 2

-- a slot's bytes before the key: klen(1), flag(1), vlen(2), phys(6), logical(2), node(1), three
-- zeros (R104)
unfoldable pub slot_head : Entry → List ℕ
slot_head e =
    be 1 (length e.key) ++ be 1 e.flag ++ be 2 (length e.value)
    ++ be 6 e.stamp.phys ++ be 2 e.stamp.logical ++ be 1 e.stamp.node ++ zeros 3

-- a slot's bytes before the checksum: key in 64 bytes, value in 512 bytes, zeros past klen and vlen (R104, R106)
unfoldable pub slot_body : Entry → List ℕ
slot_body e = slot_head e ++ padded key_width e.key ++ padded value_width e.value

-- a slot, with the CRC32C(4) of the bytes before it (R104, R105)
unfoldable pub slot_bytes : Entry → List ℕ
slot_bytes e = slot_body e ++ be 4 (crc32c (slot_body e))

unfoldable pub slots : List Entry → List ℕ  -- (R107)
slots [] = []
slots (e ∷ es) = slot_bytes e ++ slots es

-- used slots come first; unused slots are all zero (R102, R107, R109, R257)
unfoldable pub image : ℕ → ℕ → List Entry → List ℕ
image c line es = header c (length es) line ++ slots es ++ zeros (slot_width * (c - length es))

-- ---- from the bytes to the entries

-- the key that a slot's bytes hold (R104)
unfoldable pub key_in : List ℕ → List ℕ
key_in s = take (num (field klen_at 1 s)) (field key_at key_width s)

unfoldable pub flag_in : List ℕ → ℕ
flag_in s = num (field flag_at 1 s)

unfoldable pub value_in : List ℕ → List ℕ
value_in s = take (num (field vlen_at 2 s)) (field value_at value_width s)

unfoldable pub stamp_in : List ℕ → Stamp
stamp_in s = record { phys = num (field phys_at 6 s); logical = num (field logical_at 2 s); node = num (field node_at 1 s) }

unfoldable pub slot_entry : List ℕ → Entry
slot_entry s = record { key = key_in s; value = value_in s; flag = flag_in s; stamp = stamp_in s }

unfoldable pub entries_in : ℕ → List ℕ → List Entry
entries_in zero s = []
entries_in (suc n) s = slot_entry (take slot_width s) ∷ entries_in n (drop slot_width s)

unfoldable pub slots_of : List ℕ → ℕ  -- (R101, R103)
slots_of s = num (field slots_at 2 s)

unfoldable pub used_of : List ℕ → ℕ  -- (R103, R110)
used_of s = num (field used_at 2 s)

-- the purge line: tombstones with a phys below it may have been removed; other stores call it the
-- low watermark of tombstone collection (R257)
unfoldable pub line_of : List ℕ → ℕ
line_of s = num (field line_at 6 s)

-- the entries of the used slots (R107, R193)
unfoldable pub entries_of : List ℕ → List Entry
entries_of s = entries_in (used_of s) (drop header_width s)

-- ---- soundness

unfoldable pub acceptable : Entry → Bool  -- (R111 to R113)
acceptable e = eqb (refusal_of e) 0

unfoldable pub all_acceptable : List Entry → Bool  -- (R111 to R113)
all_acceptable [] = true
all_acceptable (e ∷ es) = acceptable e && all_acceptable es

-- a key below that of the first entry, if there is one (R108)
unfoldable pub below_first : List ℕ → List Entry → Bool
below_first k [] = true
below_first k (e ∷ es) = key_below k e.key

-- keys strictly ascending (R108)
unfoldable pub ascending : List Entry → Bool
ascending [] = true
ascending (e ∷ es) = below_first e.key es && ascending es

-- C is 1 to 100, U at most C, every entry acceptable, keys strictly ascending, and the bytes are
-- the image of just those entries, with any line (R114, R257)
unfoldable pub sound : List ℕ → Bool
sound s =
    leb 1 (slots_of s) && leb (slots_of s) most_slots && leb (used_of s) (slots_of s)
    && all_acceptable (entries_of s) && ascending (entries_of s) && same_bytes s (image (slots_of s) (line_of s) (entries_of s))

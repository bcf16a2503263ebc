-- How soundness is checked: the header, then slot by slot.
use Rattle.std.specs.Prelude.{◌≡◌, ℕ, zero, suc, ◌≤◌, Bool, true, ◌&&◌, List, length, take, drop, leb, eqb}
use Rattle.wire.specs.Number.{num}
use Rattle.wire.specs.Fill.{field}
use Rattle.wire.specs.Order.{same_bytes}
use Rattle.image.specs.Layout.{header_width, klen_at, vlen_at, key_width, value_width, slot_width, most_slots, slot_start}
use Rattle.image.specs.Image.{header, slot_entry, slot_bytes, slots_of, used_of, line_of, acceptable}

-- a slot is the slot of its entry: its zero fill and its checksum are right (R105, R106)
unfoldable pub sealed : List ℕ → Bool
sealed s = same_bytes s (slot_bytes (slot_entry s))

-- a slot's entry is acceptable, and the slot is that entry's (R111 to R113)
unfoldable pub slot_sound : List ℕ → Bool
slot_sound s = acceptable (slot_entry s) && sealed s

-- so for each of the first n slots
unfoldable pub slots_sound : ℕ → List ℕ → Bool
slots_sound zero s = true
slots_sound (suc n) s = slot_sound (take slot_width s) && slots_sound n (drop slot_width s)

-- klen and vlen of a slot, within their fields
pub record Lengths (s : List ℕ) (klen vlen : ℕ) : Type 0 where
  pub long : length s ≡ slot_width
  pub key : klen ≡ num (field klen_at 1 s)
  pub value : vlen ≡ num (field vlen_at 2 s)
  pub key_fits : klen ≤ key_width
  pub value_fits : vlen ≤ value_width

-- C is 1 to 100, U at most C, the length is exact, and the header is right (R101 to R103, R110, R257)
unfoldable pub shaped : List ℕ → Bool
shaped s =
    leb 1 (slots_of s) && leb (slots_of s) most_slots && leb (used_of s) (slots_of s)
    && eqb (length s) (slot_start (slots_of s)) && same_bytes (take header_width s) (header (slots_of s) (used_of s) (line_of s))

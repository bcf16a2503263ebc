-- The layout of a store image: where each part stands, and how many bytes it has.
use Rattle.std.specs.Prelude.{ℕ, ◌+◌, ◌*◌}

-- ---- the header
-- slots C (2), used U (2), slot width (2), offset of the first slot (2), purge line (6), two zero
-- bytes (R103, R257)
abbrev pub slots_at : ℕ
slots_at = 0

abbrev pub used_at : ℕ
used_at = 2

abbrev pub width_at : ℕ
width_at = 4

abbrev pub first_at : ℕ
first_at = 6

abbrev pub line_at : ℕ
line_at = 8

abbrev pub header_fill_at : ℕ
header_fill_at = 14

abbrev pub header_width : ℕ
header_width = 16

-- ---- a slot
-- klen(1), flag(1), vlen(2), phys(6), logical(2), node(1), three zeros, key in 64 bytes, value in
-- 512 bytes, CRC32C(4) (R104)
abbrev pub klen_at : ℕ
klen_at = 0

abbrev pub flag_at : ℕ
flag_at = 1

abbrev pub vlen_at : ℕ
vlen_at = 2

abbrev pub phys_at : ℕ
phys_at = 4

abbrev pub logical_at : ℕ
logical_at = 10

abbrev pub node_at : ℕ
node_at = 12

abbrev pub slot_fill_at : ℕ
slot_fill_at = 13

abbrev pub key_at : ℕ
key_at = 16

abbrev pub key_width : ℕ
key_width = 64

abbrev pub value_at : ℕ
value_at = key_at + key_width

abbrev pub value_width : ℕ
value_width = 512

-- the bytes that the checksum covers, and so where it stands (R104, R105)
abbrev pub body_width : ℕ
body_width = value_at + value_width

abbrev pub slot_width : ℕ
slot_width = body_width + 4

-- ---- the store
abbrev pub most_slots : ℕ  -- (R101)
most_slots = 100

-- where slot i starts, and where a store of i slots ends (R102)
abbrev pub slot_start : ℕ → ℕ
slot_start i = header_width + slot_width * i

-- where the value of slot i starts
abbrev pub value_start : ℕ → ℕ
value_start i = slot_start i + value_at

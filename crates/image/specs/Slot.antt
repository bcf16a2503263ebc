-- One slot of an image, read and written, and its header written.
use Rattle.std.specs.Prelude.{ℕ, ◌+◌, Bool, cond, List, length, leb, eqb}
use Rattle.wire.specs.Fill.{field}
use Rattle.entry.specs.Entry.{Entry}
use Rattle.image.specs.Layout.{header_width, slot_width, slot_start}
use Rattle.image.specs.Image.{header, slot_bytes}

-- the bytes of slot i, as many of them as there are (R104)
unfoldable pub slot_at : ℕ → List ℕ → List ℕ
slot_at i s = field (slot_start i) slot_width s

-- whether there are all of them
abbrev pub has_slot : ℕ → List ℕ → Bool
has_slot i s = leb (slot_start (i + 1)) (length s)

-- a slot's bytes with an entry written over them; bytes that are no slot stay (R104)
unfoldable pub slot_with : Entry → List ℕ → List ℕ
slot_with e s = cond (eqb (length s) slot_width) (slot_bytes e) s

-- a header's bytes with the header of C slots, U used and a purge line written over them; bytes that
-- are no header stay (R103, R257)
unfoldable pub header_with : ℕ → ℕ → ℕ → List ℕ → List ℕ
header_with c u line s = cond (eqb (length s) header_width) (header c u line) s

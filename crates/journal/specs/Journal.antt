-- Records of a journal: a time (6 bytes), then a frame, whose first two bytes are its LEN.
use Rattle.std.specs.Prelude.{ℕ, zero, suc, ◌+◌, ◌-◌, Bool, true, false, cond, ◌||◌, List, [], ◌∷◌, length, drop, ltb, eqb}
use Rattle.wire.specs.Number.{num}
use Rattle.wire.specs.Fill.{field}
use Rattle.frame.specs.Layout.{max_frame, max_len}
use Rattle.journal.specs.declared.Cut.{Cut}
use Rattle.journal.specs.declared.Cut.TheVariants.{End, Short, Broken, Record}

-- the time and the LEN of a record that has both whole (R162)
unfoldable pub time_in : List ℕ → ℕ
time_in s = num (field 0 6 s)

unfoldable pub len_in : List ℕ → ℕ
len_in s = num (field 6 2 s)

-- what stands at the front of some bytes of a journal: a whole record, with its time and where it
-- ends;
-- or no whole record: whether more bytes could make it one, and the refusal if none follow, 0 for a
-- clean end
pub data Piece : Type 0 where
  whole : ℕ → ℕ → Piece
  no_record : Bool → ℕ → Piece

-- the longest record, in bytes
abbrev pub max_record : ℕ
max_record = 6 + max_frame

-- LEN is 6 to max_len, and counts what follows it, so a record has 8 + LEN bytes (R162, R165, R166)
unfoldable pub piece_of : List ℕ → Piece
piece_of s =
    cond (eqb (length s) 0) (no_record true 0)
    (cond (ltb (length s) 8) (no_record true 3)
    (cond (ltb (len_in s) 6 || ltb max_len (len_in s)) (no_record false 3)
    (cond (ltb (length s) (8 + len_in s)) (no_record true 3)
    (whole (time_in s) (8 + len_in s)))))

-- what each case says (R165, R166, R199)
abbrev pub meaning : Cut → Piece
meaning End = no_record true 0
meaning Short = no_record true 3
meaning Broken = no_record false 3
meaning (Record t e) = whole t e

-- ---- a whole journal
pub record TimedFrame : Type 0 where
  pub time : ℕ
  pub frame : List ℕ

-- its records in order, and the refusal of what stands behind the last: 0 at a clean end,
-- 3 if LEN is out of range or the journal ends inside a record (R165, R166)
pub record Journal : Type 0 where
  pub records : List TimedFrame
  pub refusal : ℕ

-- the record at the front, of time t and e bytes (R162)
unfoldable pub record_at : ℕ → ℕ → List ℕ → TimedFrame
record_at t e s = record { time = t; frame = field 6 (e - 6) s }

-- a journal with one record more in front
unfoldable pub following : TimedFrame → Journal → Journal
following r j = record { records = r ∷ j.records; refusal = j.refusal }

-- a whole record is followed by what the bytes behind it are; where there is none the journal ends
unfoldable pub read_on : (List ℕ → Journal) → List ℕ → Piece → Journal
read_on rest s (whole t e) = following (record_at t e s) (rest (drop e s))
read_on rest s (no_record more n) = record { records = []; refusal = n }

-- the journal of up to n records
unfoldable pub journal_within : ℕ → List ℕ → Journal
journal_within zero s = record { records = []; refusal = 0 }
journal_within (suc n) s = read_on (journal_within n) s (piece_of s)

-- bytes as a journal; it has no more records than bytes (R162)
unfoldable pub journal_of : List ℕ → Journal
journal_of s = journal_within (length s) s

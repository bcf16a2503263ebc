-- What an auditor would ask of journals.
use Rattle.std.specs.Prelude.{ℕ, ◌+◌, ◌^◌, ◌≤◌, ◌<◌, ◌≡◌, ◌⊎◌, true, false, List, [], ◌∷◌, ◌++◌, length}
use Rattle.wire.specs.Number.{be, num}
use Rattle.wire.specs.Fill.{field}
use Rattle.frame.specs.Layout.{max_len}
use Rattle.journal.specs.Journal.{whole, no_record, max_record, piece_of, TimedFrame, read_on, journal_of}

-- a journal is its first record and the journal behind it: the bound on the number of records is
-- never met (R162)
abbrev pub ReadRecordByRecord : Type 0
ReadRecordByRecord = (s : List ℕ) → journal_of s ≡ read_on journal_of s (piece_of s)

-- what stands behind the last record is refused with 3, if at all (R165, R166)
abbrev pub RefusalIs0Or3 : Type 0
RefusalIs0Or3 = (s : List ℕ) → ((journal_of s).refusal ≡ 0) ⊎ ((journal_of s).refusal ≡ 3)

-- ---- what is written reads back
-- the frame has the length that its LEN says, and LEN and the time are in range
pub record InRange (r : TimedFrame) : Type 0 where
  pub time : r.time < 2 ^ 48
  pub least : 6 ≤ num (field 0 2 r.frame)
  pub most : num (field 0 2 r.frame) ≤ max_len
  pub long : length r.frame ≡ 2 + num (field 0 2 r.frame)

abbrev pub AllInRange : List TimedFrame → Type 0
AllInRange [] = Unit {0}
AllInRange (r ∷ rs) = InRange r × AllInRange rs

-- the bytes of some records (R162)
unfoldable pub bytes_of : List TimedFrame → List ℕ
bytes_of [] = []
bytes_of (r ∷ rs) = be 6 r.time ++ r.frame ++ bytes_of rs

abbrev pub RecordsReadBack : Type 0
RecordsReadBack = (rs : List TimedFrame) → AllInRange rs → journal_of (bytes_of rs) ≡ record { records = rs; refusal = 0 }

-- ---- bytes that come in pieces
-- more bytes change neither a whole record at the front nor a LEN that is out of range
abbrev pub MoreBytesKeep : Type 0
MoreBytesKeep = (s more : List ℕ) → ((t e : ℕ) → piece_of s ≡ whole t e → piece_of (s ++ more) ≡ whole t e)
    × ((n : ℕ) → piece_of s ≡ no_record false n → piece_of (s ++ more) ≡ no_record false n)

-- a record that has only begun has fewer bytes than the longest record
abbrev pub BegunIsShort : Type 0
BegunIsShort = (s : List ℕ) (n : ℕ) → piece_of s ≡ no_record true n → length s < max_record

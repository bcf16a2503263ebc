-- The theorems on reading and writing.
use Rattle.std.specs.Prelude.{ℕ, ◌+◌, ◌≤◌, ◌≡◌, List, ◌++◌, length, take, drop, Result, Ok}
use Rattle.wire.specs.declared.Span.{Span}
use Rattle.wire.specs.Number.{Bytes}
use Rattle.frame.specs.declared.answer.Message.{Message as Located}
use Rattle.frame.specs.declared.answer.Message.TheVariants.{Put, Get, Del, Repl, Ok as OkMessage, Value, NotFound, Err as ErrMessage}
use Rattle.entry.specs.declared.Refusal.{Refusal}
use Rattle.entry.specs.Entry.{Entry}
use Rattle.frame.specs.Message.{Message, repl, message_refusal, InRange}
use Rattle.frame.specs.Layout.{max_frame, type_of, frame_of}
use Rattle.frame.specs.Reading.{message, refused, type_in, read_body, read_answer, read_frame}
use Rattle.frame.specs.Writing.{Writes}

-- ---- reading
-- the key and the value of a message lie within the frame
abbrev pub LiesIn : List ℕ → Span → Type 0
LiesIn s p = p.at + p.len ≤ length s

abbrev pub Within : List ℕ → Located → Type 0
Within s (Put k v) = LiesIn s k × LiesIn s v
Within s (Get k) = LiesIn s k
Within s (Del k) = LiesIn s k
Within s (Repl e) = LiesIn s e.key × LiesIn s e.value
Within s OkMessage = Unit {0}
Within s (Value v) = LiesIn s v
Within s NotFound = Unit {0}
Within s (ErrMessage n) = Unit {0}

-- so do those of every message that the reader answers
abbrev pub ReadLiesWithin : Type 0
ReadLiesWithin = (s : List ℕ) (m : Located) → read_answer s ≡ Ok m → Within s m

-- of a REPL frame that reads, the reader that does not test the envelope answers the same (R198)
abbrev pub UncheckedReadsRepl : Type 0
UncheckedReadsRepl = (s : List ℕ) (e : Entry) → read_frame s ≡ message (repl e) → read_body 4 s ≡ read_answer s

-- and what it answers lies within the bytes, whatever they are (R198)
abbrev pub UncheckedLiesWithin : Type 0
UncheckedLiesWithin = (s : List ℕ) (m : Located) → read_body 4 s ≡ Ok m → Within s m

-- a frame reads as a message of its TYPE
abbrev pub ReadHasType : Type 0
ReadHasType = (s : List ℕ) (m : Message) → read_frame s ≡ message m → type_of m ≡ type_in s

-- a frame that is no message is refused with 1, 2 or 3 (R37)
abbrev pub ReadRefusals : Type 0
ReadRefusals = (s : List ℕ) (n : ℕ) → read_frame s ≡ refused n → (1 ≤ n) × (n ≤ 3)

-- what was written reads back as the same message, for every message that a writer takes (R179)
abbrev pub WrittenReadsBack : Type 0
WrittenReadsBack = (m : Message) → message_refusal m ≡ 0 → InRange m → read_frame (frame_of m) ≡ message m

-- what was read, written again, is the same bytes (R180)
abbrev pub ReadWritesBack : Type 0
ReadWritesBack = (s : List ℕ) (m : Message) → Bytes s → read_frame s ≡ message m → frame_of m ≡ s

-- what was read is a message that a writer takes, with its numbers in the ranges of their fields (R180)
abbrev pub ReadIsTaken : Type 0
ReadIsTaken = (s : List ℕ) (m : Message) → Bytes s → read_frame s ≡ message m → (message_refusal m ≡ 0) × InRange m

-- ---- writing
-- a frame that a writer makes is no longer than the longest (R49)
abbrev pub FrameAtMost600 : Type 0
FrameAtMost600 = (m : Message) → message_refusal m ≡ 0 → length (frame_of m) ≤ max_frame

-- a message that a writer takes is written whole to the front of any buffer with room for its frame (R68)
abbrev pub WrittenWhole : Type 0
WrittenWhole = (m : Message) (out : List ℕ) (r : Result ℕ Refusal) (after : List ℕ) → message_refusal m ≡ 0 → length (frame_of m) ≤ length out
    → Writes m out r after → (r ≡ Ok (length (frame_of m))) × (after ≡ frame_of m ++ drop (length (frame_of m)) out)

-- what a writer leaves at the front of a buffer, as many bytes as it says, reads back as the
-- message (R179)
abbrev pub FrontReadsBack : Type 0
FrontReadsBack = (m : Message) (out : List ℕ) (n : ℕ) (after : List ℕ) → InRange m → Writes m out (Ok n) after → read_frame (take n after) ≡ message m

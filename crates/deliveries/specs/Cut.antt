-- The delivery at the front of some bytes.
use Rattle.std.specs.Prelude.{ℕ, ◌+◌, min, List, length}
use Rattle.std.specs.Prelude.{Option, None, Some, Result, Ok, Err}
use Rattle.wire.specs.Fill.{field}
use Rattle.entry.specs.declared.Refusal.{Refusal}
use Rattle.entry.specs.Entry.{Entry, entry_of}
use Rattle.frame.specs.declared.answer.Message.{Message}
use Rattle.frame.specs.declared.answer.Message.TheVariants.{Put, Get, Del, Repl, Ok as OkMessage, Value, NotFound, Err as ErrMessage}
use Rattle.frame.specs.Reading.{part, number_at, read_body, read_answer}
use Rattle.deliveries.specs.declared.Delivery.{Delivery}

-- the frame at the front has as many bytes as its LEN says, or all that are left if those are fewer
-- (R246)
unfoldable pub first_length : List ℕ → ℕ
first_length s = min (2 + number_at 0 2 s) (length s)

unfoldable pub first_frame : List ℕ → List ℕ
first_frame s = field 0 (first_length s) s

-- what a frame of e bytes at the front says, if it is a REPL
abbrev pub cut_in : ℕ → Result Message Refusal → Option Delivery
cut_in e (Ok (Put k v)) = None
cut_in e (Ok (Get k)) = None
cut_in e (Ok (Del k)) = None
cut_in e (Ok (Repl entry)) = Some (record { entry = entry; end = e })
cut_in e (Ok OkMessage) = None
cut_in e (Ok (Value v)) = None
cut_in e (Ok NotFound) = None
cut_in e (Ok (ErrMessage n)) = None
cut_in e (Err r) = None

unfoldable pub cut_answer : List ℕ → Option Delivery
cut_answer s = cut_in (first_length s) (read_answer (first_frame s))

-- the same with no test of the envelope or of TYPE (R198)
unfoldable pub cut_unchecked : List ℕ → Option Delivery
cut_unchecked s = cut_in (first_length s) (read_body 4 (first_frame s))

-- the entry whose key and value stand at these places (R199)
abbrev pub delivery_in : List ℕ → Option Delivery → Option Entry
delivery_in s None = None
delivery_in s (Some d) = Some (entry_of (part d.entry.key s) (part d.entry.value s) d.entry.flag d.entry.stamp)

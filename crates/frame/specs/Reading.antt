-- What a frame says, for any bytes. Offsets are those of the frame: the body begins at 4, after
-- LEN, TYPE and FLAGS. A frame rule that is broken is BAD_FRAME (3), whatever else is wrong. The
-- rules are looked at in this order: LEN, the checksum, FLAGS, TYPE, whether the body is used up
-- exactly, its flag or its ERR number. In a frame that keeps them all, the key (1) comes before
-- the value (2) (R37, R65).
use Rattle.std.specs.Prelude.{ℕ, ◌+◌, ◌-◌, ◌≡◌, ◌≢◌, Bool, cond, not, ◌&&◌, List, length, leb, eqb, Result, Ok, Err, MatchResult}
use Rattle.wire.specs.declared.Span.{Span}
use Rattle.wire.specs.Number.{be, num}
use Rattle.wire.specs.Fill.{field}
use Rattle.wire.specs.Order.{same_bytes}
use Rattle.checksum.specs.Crc32c.{crc32c}
use Rattle.entry.specs.declared.Stamp.{Stamp}
use Rattle.entry.specs.declared.Refusal.{Refusal}
use Rattle.entry.specs.declared.Refusal.TheVariants.{BadKey, ValueTooLarge, BadFrame}
use Rattle.entry.specs.Entry.{entry_of}
use Rattle.entry.specs.Refusal.{number}
use Rattle.frame.specs.declared.answer.Message.{Message as Located}
use Rattle.frame.specs.declared.answer.Message.TheVariants.{Put, Get, Del, Repl, Ok as OkMessage, Value, NotFound, Err as ErrMessage}
use Rattle.frame.specs.declared.kind.Kind.{Kind}
use Rattle.frame.specs.Message.{Message, put, get, del, repl, ok, value, not_found, err, key_fault, value_fault, argument_fault}
use Rattle.frame.specs.Layout.{max_len, number_of}

-- ---- what an answer of the reader means
-- where n bytes stand that begin at an offset
abbrev pub span : ℕ → ℕ → Span
span at n = record { at = at; len = n }

-- the bytes that stand there
abbrev pub part : Span → List ℕ → List ℕ
part p s = field p.at p.len s

-- the message whose key and value stand at these offsets of a frame (R53 to R60)
abbrev pub message_in : List ℕ → Located → Message
message_in s (Put k v) = put (part k s) (part v s)
message_in s (Get k) = get (part k s)
message_in s (Del k) = del (part k s)
message_in s (Repl e) = repl (entry_of (part e.key s) (part e.value s) e.flag e.stamp)
message_in s OkMessage = ok
message_in s (Value v) = value (part v s)
message_in s NotFound = not_found
message_in s (ErrMessage n) = err n

pub data Outcome : Type 0 where
  message : Message → Outcome
  refused : ℕ → Outcome

abbrev pub meaning : List ℕ → Result Located Refusal → Outcome  -- (R199)
meaning s (Ok m) = message (message_in s m)
meaning s (Err r) = refused (number r)

-- ---- the envelope
-- the number in w bytes at an offset
unfoldable pub number_at : ℕ → ℕ → List ℕ → ℕ
number_at at w s = num (field at w s)

-- LEN is 6 to max_len, and as many bytes are given as it says (R48, R49, R67)
unfoldable pub length_holds : List ℕ → Bool
length_holds s = leb 6 (number_at 0 2 s) && leb (number_at 0 2 s) max_len && eqb (length s) (number_at 0 2 s + 2)

-- the last four bytes are the checksum of TYPE through the body's end (R50)
unfoldable pub checksum_holds : List ℕ → Bool
checksum_holds s = same_bytes (field (length s - 4) 4 s) (be 4 (crc32c (field 2 (length s - 6) s)))

-- FLAGS is 0 (R52)
unfoldable pub flags_hold : List ℕ → Bool
flags_hold s = eqb (number_at 3 1 s) 0

unfoldable pub envelope_holds : List ℕ → Bool  -- (R10, R65)
envelope_holds s = length_holds s && checksum_holds s && flags_hold s

unfoldable pub type_in : List ℕ → ℕ  -- (R47, R142)
type_in s = number_at 2 1 s

-- ---- the body
-- klen is the body's first byte (R53 to R56)
unfoldable pub klen : List ℕ → ℕ
klen s = number_at 4 1 s

-- the vlen that stands at an offset (R53, R56, R58)
unfoldable pub vlen : ℕ → List ℕ → ℕ
vlen at s = number_at at 2 s

unfoldable pub stamp_in : ℕ → List ℕ → Stamp  -- (R56)
stamp_in at s = record { phys = number_at at 6 s; logical = number_at (at + 6) 2 s; node = number_at (at + 8) 1 s }

-- the body ends at an offset, where the checksum begins (R61)
unfoldable pub ends_at : ℕ → List ℕ → Bool
ends_at end s = eqb (length s) (end + 4)

-- the body ends with its key (R61)
unfoldable pub key_ends : List ℕ → Bool
key_ends s = ends_at (klen s + 5) s

-- the body ends with the value whose vlen stands at an offset (R61)
unfoldable pub value_ends : ℕ → List ℕ → Bool
value_ends at s = ends_at (at + 2 + vlen at s) s

-- ---- the answer of the reader
-- a message in a frame that keeps the frame rules, by whether its key and its value are refused (R37, R66)
unfoldable pub judged_as : {A : Type 0} → Bool → Bool → A → Result A Refusal
judged_as bad_key too_large m =
    cond bad_key (Err BadKey)
    (cond too_large (Err ValueTooLarge)
    (Ok m))

-- a message in a frame whose envelope is not looked at, by whether it uses up the body exactly (R37, R65, R66)
unfoldable pub checked : List ℕ → Bool → Located → Result Located Refusal
checked s used_up m =
    cond (not used_up) (Err BadFrame)
    (cond (argument_fault (message_in s m)) (Err BadFrame)
    (judged_as (key_fault (message_in s m)) (value_fault (message_in s m)) m))

-- a PUT's or a REPL's message, where its parts stand
abbrev pub put_in : List ℕ → Located
put_in s = Put (span 5 (klen s)) (span (klen s + 7) (vlen (klen s + 5) s))

abbrev pub repl_in : List ℕ → Located
repl_in s = Repl (record {
  key = span 5 (klen s);
  value = span (klen s + 17) (vlen (klen s + 15) s);
  flag = number_at (klen s + 5) 1 s;
  stamp = stamp_in (klen s + 6) s;
})

-- a frame of the TYPE t, whose envelope is not looked at (R53 to R64)
unfoldable pub read_body : ℕ → List ℕ → Result Located Refusal
read_body t s =
    cond (eqb t 1) (checked s (value_ends (klen s + 5) s) (put_in s))
    (cond (eqb t 2) (checked s (key_ends s) (Get (span 5 (klen s))))
    (cond (eqb t 3) (checked s (key_ends s) (Del (span 5 (klen s))))
    (cond (eqb t 4) (checked s (value_ends (klen s + 15) s) (repl_in s))
    (cond (eqb t 16) (checked s (ends_at 4 s) OkMessage)
    (cond (eqb t 17) (checked s (value_ends 4 s) (Value (span 6 (vlen 4 s))))
    (cond (eqb t 18) (checked s (ends_at 4 s) NotFound)
    (cond (eqb t 20) (checked s (ends_at 5 s) (ErrMessage (number_at 4 1 s)))
    (Err BadFrame))))))))

-- a TYPE's kind, or a refusal of a TYPE that no kind has (R65)
abbrev pub Decodes : ℕ → Result Kind Refusal → Type 0
Decodes t r = MatchResult r (λ k. number_of k ≡ t) (λ e. (e ≡ BadFrame) × ((k : Kind) → number_of k ≢ t))

-- the message of what a part of the reader answers
abbrev pub said_as : {A : Type 0} → (A → Located) → Result A Refusal → Result Located Refusal
said_as f (Ok x) = Ok (f x)
said_as f (Err e) = Err e

-- what the reader answers (R65, R197)
unfoldable pub read_answer : List ℕ → Result Located Refusal
read_answer s = cond (envelope_holds s) (read_body (type_in s) s) (Err BadFrame)

-- what a frame says: a message, or the number of a refusal (R10, R37, R65)
unfoldable pub read_frame : List ℕ → Outcome
read_frame s = meaning s (read_answer s)

-- What a frame says, in ten words; and the answers of the writers.
use Rattle.std.specs.Prelude.{ℕ, List, [], ◌∷◌, Result, Ok, Err}
use Rattle.wire.specs.declared.Span.{Span}
use Rattle.entry.specs.declared.EntryAt.{EntryAt}
use Rattle.entry.specs.declared.Refusal.{Refusal}
use Rattle.entry.specs.Refusal.{refusal_number}
use Rattle.frame.specs.declared.answer.Message.{Message as Located}
use Rattle.frame.specs.declared.answer.Message.TheVariants.{Put, Get, Del, Repl, Ok as OkMessage, Value, NotFound, Err as ErrMessage}
use Rattle.frame.specs.Message.{Message, message_refusal}
use Rattle.frame.specs.Layout.{frame_of}
use Rattle.frame.specs.Reading.{span}
use Rattle.frame.specs.Writing.{Answer, bytes, refused, write_answer, after_write}
use Rattle.capi_words.specs.Result.{packed}

-- how many bytes a writer's answer counts, or 0
abbrev pub bytes_in : Answer → ℕ
bytes_in (bytes n) = n
bytes_in (refused n) = 0

-- the word of a writer's answer
abbrev pub wrote_word : Answer → ℕ
wrote_word (bytes n) = packed 0 n
wrote_word (refused n) = packed n 0

-- the word of writing a message, and the buffer afterwards
abbrev pub write_word : Message → List ℕ → ℕ
write_word m out = wrote_word (write_answer (message_refusal m) (frame_of m) out)

abbrev pub write_bytes : Message → List ℕ → List ℕ
write_bytes m out = after_write (message_refusal m) (frame_of m) out

-- The ten words: type; where the key stands in the frame and its length; where the value stands and its length; flag; phys; logical; node; ERR number.
-- A word without a use is 0.
-- Those of a message that has no more than a key and a value (R241)
abbrev pub part_words : ℕ → Span → Span → List ℕ
part_words t k v = t ∷ k.at ∷ k.len ∷ v.at ∷ v.len ∷ 0 ∷ 0 ∷ 0 ∷ 0 ∷ 0 ∷ []

-- a part that a message does not have
abbrev pub no_part : Span
no_part = span 0 0

-- those of a REPL (R241)
abbrev pub repl_words : EntryAt → List ℕ
repl_words e = 4 ∷ e.key.at ∷ e.key.len ∷ e.value.at ∷ e.value.len ∷ e.flag ∷ e.stamp.phys ∷ e.stamp.logical ∷ e.stamp.node ∷ 0 ∷ []

-- those of a message that was read (R241)
abbrev pub field_words : Located → List ℕ
field_words (Put k v) = part_words 1 k v
field_words (Get k) = part_words 2 k no_part
field_words (Del k) = part_words 3 k no_part
field_words (Repl e) = repl_words e
field_words OkMessage = part_words 16 no_part no_part
field_words (Value v) = part_words 17 no_part v
field_words NotFound = part_words 18 no_part no_part
field_words (ErrMessage n) = 20 ∷ 0 ∷ 0 ∷ 0 ∷ 0 ∷ 0 ∷ 0 ∷ 0 ∷ 0 ∷ n ∷ []

-- the refusal of a reading, or 0
abbrev pub read_refusal : Result Located Refusal → ℕ
read_refusal r = refusal_number r

-- what a reading puts into the words (R241)
abbrev pub read_words : Result Located Refusal → List ℕ
read_words (Ok m) = field_words m
read_words (Err r) = []

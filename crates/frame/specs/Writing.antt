-- What writing a message answers, and the buffer afterwards.
use Rattle.std.specs.Prelude.{ℕ, ◌+◌, ◌≡◌, cond, List, ◌++◌, length, drop, ltb, eqb, Result, Ok, Err}
use Rattle.wire.specs.Fill.{field}
use Rattle.entry.specs.declared.Refusal.{Refusal}
use Rattle.entry.specs.Refusal.{number}
use Rattle.frame.specs.Message.{Message, message_refusal}
use Rattle.frame.specs.Layout.{envelope, frame_of}

pub data Answer : Type 0 where
  bytes : ℕ → Answer
  refused : ℕ → Answer

abbrev pub answer_of : Result ℕ Refusal → Answer  -- (R199)
answer_of (Ok n) = bytes n
answer_of (Err r) = refused (number r)

-- the refusal of a frame f, of a message with the refusal n, in a buffer: 9, 1, 2 and 17 come before 4; 0 if it is written (R11, R36, R68)
unfoldable pub write_refusal : ℕ → List ℕ → List ℕ → ℕ
write_refusal n f out = cond (eqb n 0) (cond (ltb (length out) (length f)) 4 0) n

-- how many bytes are written, or the refusal (R68)
unfoldable pub write_answer : ℕ → List ℕ → List ℕ → Answer
write_answer n f out = cond (eqb (write_refusal n f out) 0) (bytes (length f)) (refused (write_refusal n f out))

-- the frame stands at the buffer's front, and later bytes stay; a refusal touches none (R29, R31, R68)
unfoldable pub after_write : ℕ → List ℕ → List ℕ → List ℕ
after_write n f out = cond (eqb (write_refusal n f out) 0) (f ++ drop (length f) out) out

-- the answer, and the buffer
pub record WritesFrame (n : ℕ) (f out : List ℕ) (r : Result ℕ Refusal) (after : List ℕ) : Type 0 where
  pub answer : answer_of r ≡ write_answer n f out
  pub buffer : after ≡ after_write n f out

-- a writer's promise (R68, R197)
abbrev pub Writes : Message → List ℕ → Result ℕ Refusal → List ℕ → Type 0
Writes m out r after = WritesFrame (message_refusal m) (frame_of m) out r after

-- a body of n bytes at offset 4 is put into its frame
pub record Sealed (t n : ℕ) (out : List ℕ) (r : ℕ) (after : List ℕ) : Type 0 where
  pub answer : r ≡ n + 8
  pub buffer : after ≡ envelope t (field 4 n out) ++ drop (n + 8) out

-- The words of a frame, and the answers of the writers.
use mathlib.Core.Path.{◌≡◌, refl, ap, ◌∙◌}
use mathlib.Core.Logic.{inl, inr}
use mathlib.Core.List.{List}
use Prim.Native.Nat.{ℕ, ◌≤◌}
use Rattle.std.specs.Prelude.{Result, Ok, Err}
use Rattle.std.proofs.Math.Nat.{min-eq_left}
use native.Mathlib.Omega.{arith}
use lib.ListN.{length}
use lib.Dec.{ltb, eqb}
use borrow.Author.Tests.{eqb-true}
use Rattle.wire.proofs.Tests.{test}
use Rattle.entry.specs.declared.Refusal.{Refusal}
use Rattle.entry.specs.Refusal.{refusal_number}
use Rattle.frame.specs.Message.{Message, message_refusal}
use Rattle.frame.specs.Layout.{frame_of}
use Rattle.frame.specs.Writing.{answer_of, write_refusal, write_answer}
use Rattle.frame.proofs.RoundTrips.{frame_at_most_600}
use Rattle.capi_words.specs.Result.{packed, count_in}
use Rattle.capi.specs.Frame.{bytes_in, wrote_word, write_word}

-- ---- writers
pub writes_at_most_600 : (m : Message) (out : List ℕ) → bytes_in (write_answer (message_refusal m) (frame_of m) out) ≤ 600
unfolding write_answer write_refusal
writes_at_most_600 m out = elim (test (eqb (message_refusal m) 0)) [
  | inl p ↦ elim (test (ltb (length out) (length (frame_of m)))) [
    | inl q ↦ rw (p, q) (omega arith)
    | inr q ↦ rw (p, q) (frame_at_most_600 m (eqb-true (message_refusal m) 0 p))
  ]
  | inr p ↦ rw (p, p) (omega arith)
]

-- a length that is counted is not cut
counted_wrote : (a : Result ℕ Refusal) → bytes_in (answer_of a) ≤ 600 → packed (refusal_number a) (count_in a) ≡ wrote_word (answer_of a)
counted_wrote (Ok n) l = ap (packed 0) (min-eq_left (omega arith))
counted_wrote (Err r) l = refl

pub wrote_told : (m : Message) (out : List ℕ) (a : Result ℕ Refusal) → answer_of a ≡ write_answer (message_refusal m) (frame_of m) out
    → packed (refusal_number a) (count_in a) ≡ write_word m out
wrote_told m out a e = counted_wrote a (rw e (writes_at_most_600 m out)) ∙ ap wrote_word e

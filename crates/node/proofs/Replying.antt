-- A message that a writer takes, written to a reply that has room for any frame.
use Prim.Native.Nat.{ℕ, ◌≤◌, ◌<◌}
use native.Mathlib.Omega.{arith}
use mathlib.Core.Path.{◌≡◌, refl, ap, ◌∙◌}
use mathlib.Core.Bool.{false}
use mathlib.Core.List.{List}
use lib.ListN.{length, get_or, drop_of_length-le}
use lib.Dec.{leb}
use Rattle.wire.specs.Number.{num, num_from}
use Rattle.wire.specs.Fill.{field}
use Rattle.wire.proofs.Fields.{num_byte}
use Rattle.std.specs.Prelude.{Result, Ok}
use Rattle.std.specs.Result.{result_unwrap_or}
use Rattle.entry.specs.Refusal.{refusal_number, number}
use Rattle.entry.specs.declared.Refusal.{Refusal}
use Rattle.entry.proofs.Numbers.{number-range}
use Rattle.clock.specs.declared.Clock.{Clock}
use Rattle.frame.specs.Message.{Message, ok, not_found, err, message_refusal, time_fault, key_fault, value_fault, argument_fault}
use Rattle.frame.specs.Layout.{max_frame, frame_of}
use Rattle.frame.specs.Reading.{type_in, number_at}
use Rattle.frame.specs.Writing.{Writes}
use Rattle.frame.proofs.Bodies.{err_taken}
use Rattle.frame.proofs.RoundTrips.{frame_at_most_600, written_whole}
use Rattle.node.specs.Handler.{over}
use Rattle.node.specs.Request.{Replies}

module _ (m : Message) (reply : List ℕ) (taken : message_refusal m ≡ 0) (room : max_frame ≤ length reply)
    (w : Result ℕ Refusal) (after : List ℕ) (done : Writes m reply w after) where
  whole : (w ≡ Ok (length (frame_of m))) × (after ≡ over (frame_of m) reply)
  unfolding over
  whole = written_whole m reply w after taken (omega (arith, frame_at_most_600 m taken)) done

  -- the answer with the clock c and the refusal n
  pub replies : (c : Clock) (k n : ℕ) (a : Result Unit Refusal) → k ≡ result_unwrap_or w 0 → refusal_number a ≡ n
      → Replies c m n reply (record { clock = c; written = k; answer = a }) after
  replies c k n a h e = record {
    clock_is = refl;
    reply_is = whole.1;
    written_is = h ∙ ap (λ (x : Result ℕ Refusal). result_unwrap_or x 0) whole.0;
    answer_is = e;
  }

-- ---- the messages that the handler replies are all taken
pub ok_taken : message_refusal ok ≡ 0
unfolding message_refusal time_fault key_fault value_fault argument_fault
ok_taken = refl

pub not_found-taken : message_refusal not_found ≡ 0
unfolding message_refusal time_fault key_fault value_fault argument_fault
not_found-taken = refl

pub refusal_taken : (r : Refusal) → message_refusal (err (number r)) ≡ 0
refusal_taken r = let e : number r ≡ 0 → ⊥ = omega (arith, (number-range r).0) in err_taken (number r) e (omega (arith, (number-range r).1))

-- ---- the TYPE of a frame
pub type_short : (s : List ℕ) → length s < 3 → leb 16 (type_in s) ≡ false
unfolding type_in number_at field num num_from
type_short s h = let k : length s ≤ 2 = omega arith in rw (drop_of_length-le s {i = 2} k)

pub type_byte : (s : List ℕ) → 3 ≤ length s → type_in s ≡ get_or s 2 0
unfolding type_in number_at
type_byte s h = num_byte 2 s (omega arith)

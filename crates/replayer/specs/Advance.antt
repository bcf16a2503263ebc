-- One call over slices: it takes input that has come, and fills output that is to be written.
use Rattle.std.specs.Prelude.{ℕ, zero, suc, ◌+◌, ◌-◌, ◌≤◌, ◌≡◌, Bool, true, false, cond, not, ◌&&◌, List, [], ◌++◌, length, take, drop, leb}
use Rattle.clock.specs.declared.Clock.{Clock}
use Rattle.frame.specs.Layout.{max_frame}
use Rattle.journal.specs.Journal.{Piece, whole, no_record, piece_of, TimedFrame, record_at}
use Rattle.replayer.specs.declared.Next.{Next}
use Rattle.replayer.specs.declared.Next.TheVariants.{Read, Write, Stop}
use Rattle.replayer.specs.declared.Progress.{Progress}
use Rattle.replayer.specs.Replies.{Kept, after, reply_to, last_reply}

-- how far a call has come: what is kept, how many input bytes are taken, what was put into the
-- output, and what the caller is to do
pub record Replay : Type 0 where
  pub kept : Kept
  pub taken : ℕ
  pub output : List ℕ
  pub next : Next

-- ---- a turn
-- a record of e bytes is answered (R164)
unfoldable pub answered : Replay → TimedFrame → ℕ → Replay
answered p r e = record { kept = after p.kept r; taken = p.taken + e; output = p.output ++ reply_to p.kept r; next = Write }

unfoldable pub waiting : Replay → Replay
waiting p = record { kept = p.kept; taken = p.taken; output = p.output; next = Read }

unfoldable pub stopped : Replay → ℕ → Replay
stopped p n = record { kept = p.kept; taken = p.taken; output = p.output ++ last_reply n; next = Stop }

-- where there is no whole record, more input is waited for, unless it could not make one or the
-- input has ended (R165, R166)
unfoldable pub turn_on : Bool → Replay → List ℕ → Piece → Replay
turn_on ended p s (whole t e) = answered p (record_at t e s) e
turn_on ended p s (no_record more n) = cond (more && not ended) (waiting p) (stopped p n)

unfoldable pub turn : Bool → List ℕ → Replay → Replay
turn ended input p = turn_on ended p (drop p.taken input) (piece_of (drop p.taken input))

-- ---- a call
abbrev pub is_write : Next → Bool
is_write Read = false
is_write Write = true
is_write Stop = false

-- turns go on while none has found an end and the output, of this length, has room for any reply
unfoldable pub goes_on : ℕ → Replay → Bool
goes_on room p = is_write p.next && leb max_frame (room - length p.output)

-- up to n turns
unfoldable pub advance_within : ℕ → Bool → List ℕ → ℕ → Replay → Replay
advance_within zero ended input room p = p
advance_within (suc n) ended input room p = cond (goes_on room p) (advance_within n ended input room (turn ended input p)) p

-- a call makes no more turns than there are bytes, and one: each but the last takes some (R164)
unfoldable pub advanced : Bool → List ℕ → ℕ → Kept → Replay
advanced ended input room k = advance_within (suc (length input)) ended input room (record { kept = k; taken = 0; output = []; next = Write })

-- ---- what the functions promise
-- what a function answers and leaves are those of a replay; output bytes behind the replies stay
pub record Leaves (x : Replay) (output₀ : List ℕ) (r : Progress) (store reply output : List ℕ) : Type 0 where
  pub store_is : store ≡ x.kept.store
  pub clock_is : r.clock ≡ x.kept.clock
  pub reply_is : reply ≡ x.kept.reply
  pub taken_is : r.taken ≡ x.taken
  pub filled_is : r.filled ≡ length x.output
  pub output_is : output ≡ x.output ++ drop (length x.output) output₀
  pub next_is : r.next ≡ x.next

-- the promise of a call (R197)
abbrev pub Advances : List ℕ → Clock → List ℕ → Bool → List ℕ → List ℕ → Progress → List ℕ → List ℕ → List ℕ → Type 0
Advances store clock input ended reply output r store' reply' output' =
    Leaves (advanced ended input (length output) (record { store = store; clock = clock; reply = reply })) output r store' reply' output'

-- the replay that some buffers and a progress stand for
abbrev pub replay_of : List ℕ → List ℕ → List ℕ → Progress → Replay
replay_of store reply output p = record {
  kept = record { store = store; clock = p.clock; reply = reply };
  taken = p.taken;
  output = take p.filled output;
  next = p.next;
}

-- the same progress with this much filled, and something else to be done
abbrev pub with_next : ℕ → Next → Progress → Progress
with_next filled next p = record { clock = p.clock; taken = p.taken; filled = filled; next = next }

-- the input that is taken and the output that is filled lie within their buffers, and any reply has
-- room
pub record Fits (input output : List ℕ) (p : Progress) : Type 0 where
  pub within : p.taken ≤ length input
  pub room : p.filled + max_frame ≤ length output

-- What the replay program writes for a whole journal.
use Rattle.std.specs.Prelude.{ℕ, cond, List, [], ◌∷◌, ◌++◌, take, eqb}
use Rattle.wire.specs.Fill.{zeros}
use Rattle.clock.specs.declared.Clock.{Clock}
use Rattle.clock.specs.Clock.{fresh_clock}
use Rattle.frame.specs.Message.{err}
use Rattle.frame.specs.Layout.{max_frame, frame_of}
use Rattle.image.specs.Layout.{most_slots}
use Rattle.store.specs.Create.{fresh_store}
use Rattle.node.specs.Handler.{Result, handled}
use Rattle.journal.specs.Journal.{TimedFrame, journal_of}

-- what is kept from record to record
pub record Kept : Type 0 where
  pub store : List ℕ
  pub clock : Clock
  pub reply : List ℕ

-- one store of the most slots, a fresh clock with node id 1, and a reply buffer that any frame has
-- room in (R163)
unfoldable pub start : Kept
start = record { store = fresh_store most_slots; clock = fresh_clock 1; reply = zeros max_frame }

-- a record's frame is handled at its time (R164)
unfoldable pub answer : Kept → TimedFrame → Result
answer k r = handled k.store k.clock r.time r.frame k.reply

unfoldable pub after : Kept → TimedFrame → Kept
after k r = record { store = (answer k r).store; clock = (answer k r).clock; reply = (answer k r).reply }

-- its reply frame
unfoldable pub reply_to : Kept → TimedFrame → List ℕ
reply_to k r = take (answer k r).written (answer k r).reply

-- each reply frame, and nothing else (R164)
unfoldable pub replies_to : Kept → List TimedFrame → List ℕ
replies_to k [] = []
replies_to k (r ∷ rs) = reply_to k r ++ replies_to (after k r) rs

-- the ERR of what stands behind the last record; nothing at a clean end (R165, R166)
unfoldable pub last_reply : ℕ → List ℕ
last_reply n = cond (eqb n 0) [] (frame_of (err n))

-- the replies to a journal, with these things kept at its front (R163, R164)
unfoldable pub replies_from : Kept → List ℕ → List ℕ
replies_from k s = replies_to k (journal_of s).records ++ last_reply (journal_of s).refusal

unfoldable pub replies : List ℕ → List ℕ
replies s = replies_from start s

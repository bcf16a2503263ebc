-- What an auditor would ask of the replay.
use Rattle.std.specs.Prelude.{ℕ, ◌+◌, ◌≤◌, ◌<◌, ◌≡◌, Bool, true, false, cond, List, [], ◌∷◌, ◌++◌, map, length, drop, eqb}
use Rattle.frame.specs.Message.{Message}
use Rattle.frame.specs.Layout.{max_frame}
use Rattle.frame.specs.Reading.{message, read_frame}
use Rattle.journal.specs.Journal.{max_record, journal_of}
use Rattle.replayer.specs.declared.Next.{Next}
use Rattle.replayer.specs.declared.Next.TheVariants.{Read, Write, Stop}
use Rattle.replayer.specs.Replies.{Kept, start, replies_to, replies}
use Rattle.replayer.specs.Advance.{Replay, goes_on, advanced}

-- ---- one call
-- a call goes on until no turn is to be made: the bound on their number is never met
abbrev pub CallsGoOn : Type 0
CallsGoOn = (ended : Bool) (input : List ℕ) (room : ℕ) (k : Kept) → goes_on room (advanced ended input room k) ≡ false

-- what is taken and filled lies within the input and the output
pub record Within (input : List ℕ) (room : ℕ) (x : Replay) : Type 0 where
  pub input_left : x.taken ≤ length input
  pub output_left : length x.output ≤ room

abbrev pub CallsStayWithin : Type 0
CallsStayWithin = (ended : Bool) (input : List ℕ) (room : ℕ) (k : Kept) → Within input room (advanced ended input room k)

-- a call that could have put a reply into its output asks for another call only after it has taken
-- a record, of 14 bytes or more
abbrev pub CallsGetOn : Type 0
CallsGetOn = (ended : Bool) (input : List ℕ) (room : ℕ) (k : Kept) → max_frame ≤ room → (advanced ended input room k).next ≡ Write
    → 14 ≤ (advanced ended input room k).taken

-- when more input is asked for, less than the longest record is left of what has come, and the
-- input has not ended
abbrev pub ReadsForARecord : Type 0
ReadsForARecord = (ended : Bool) (input : List ℕ) (room : ℕ) (k : Kept) → (advanced ended input room k).next ≡ Read
    → (ended ≡ false) × (length (drop (advanced ended input room k).taken input) < max_record)

-- ---- input that comes in pieces
-- between two calls: what is kept, the input that is not taken, what has been written, and what is
-- to be done
pub record Stream : Type 0 where
  pub kept : Kept
  pub rest : List ℕ
  pub written : List ℕ
  pub next : Next

-- a call: the bytes that came since the last one, perhaps none, and the length of the output that
-- is lent
pub record Call : Type 0 where
  pub came : List ℕ
  pub room : ℕ

-- what a call has made of the input is kept, and its output is written
unfoldable pub after_call : Stream → List ℕ → Replay → Stream
after_call s input x = record { kept = x.kept; rest = drop x.taken input; written = s.written ++ x.output; next = x.next }

abbrev pub is_stop : Next → Bool
is_stop Read = false
is_stop Write = false
is_stop Stop = true

-- a call is made on the input that is left and that came, and its output is written; after a stop
-- none is made
unfoldable pub called : Bool → Stream → Call → Stream
called ended s c = cond (is_stop s.next) s (after_call s (s.rest ++ c.came) (advanced ended (s.rest ++ c.came) c.room s.kept))

unfoldable pub called_all : Bool → Stream → List Call → Stream
called_all ended s [] = s
called_all ended s (c ∷ cs) = called_all ended (called ended s c) cs

-- any calls while the input comes
unfoldable pub fed : List Call → Stream
fed calls = called_all false (record { kept = start; rest = []; written = []; next = Write }) calls

-- then it has ended, and calls are made with outputs of these lengths
abbrev pub no_more : ℕ → Call
no_more n = record { came = []; room = n }

unfoldable pub drained : List Call → List ℕ → Stream
drained calls rooms = called_all true (fed calls) (map no_more rooms)

-- the bytes that came
unfoldable pub arrived : List Call → List ℕ
arrived [] = []
arrived (c ∷ cs) = c.came ++ arrived cs

-- in whatever pieces the input comes: once the replay has stopped, the replies to the whole journal
-- have been written (R164 to R166)
abbrev pub AnyPieces : Type 0
AnyPieces = (calls : List Call) (rooms : List ℕ) → (drained calls rooms).next ≡ Stop → (drained calls rooms).written ≡ replies (arrived calls)

-- all of these are outputs with room for any reply
abbrev pub AllHaveRoom : List ℕ → Type 0
AllHaveRoom [] = Unit {0}
AllHaveRoom (n ∷ ns) = (max_frame ≤ n) × AllHaveRoom ns

-- and it has stopped after as many calls as bytes came, and one more (R165, R166)
abbrev pub Stops : Type 0
Stops = (calls : List Call) (rooms : List ℕ) → AllHaveRoom rooms → length (arrived calls) < length rooms → (drained calls rooms).next ≡ Stop

-- when more input is asked for, each whole record that has come is answered, so that a caller that
-- waits for an answer gets it (R164)
abbrev pub AnsweredBeforeReading : Type 0
AnsweredBeforeReading = (calls : List Call) → (fed calls).next ≡ Read → (fed calls).written ≡ replies_to start (journal_of (arrived calls)).records

-- ---- the replies
unfoldable pub joined : List (List ℕ) → List ℕ
joined [] = []
joined (f ∷ fs) = f ++ joined fs

-- each of these is the frame of a message
abbrev pub AllRead : List (List ℕ) → Type 0
AllRead [] = Unit {0}
AllRead (f ∷ fs) = ((m : Message) × (read_frame f ≡ message m)) × AllRead fs

-- a reply frame for each record, one more for what stands behind the last if that is refused, and
-- nothing else (R164, R165)
pub record Framed (s : List ℕ) : Type 0 where
  pub frames : List (List ℕ)
  pub are : replies s ≡ joined frames
  pub count : length frames ≡ length (journal_of s).records + cond (eqb (journal_of s).refusal 0) 0 1
  pub read : AllRead frames

abbrev pub OneFrameForEachRecord : Type 0
OneFrameForEachRecord = (s : List ℕ) → Framed s

-- What holds of the replay program from turn to turn.
use Rattle.std.specs.Prelude.{ℕ, ◌+◌, ◌-◌, ◌≤◌, ◌<◌, ◌≡◌, Bool, true, false, cond, List, [], ◌∷◌, ◌++◌, length, take, eqb}
use Rattle.std.specs.declared.ops.ControlFlow.{ControlFlow}
use Rattle.std.specs.declared.ops.ControlFlow.TheVariants.{Continue, Break}
use Rattle.wire.specs.Fill.{field}
use Rattle.replayer.specs.declared.Next.{Next}
use Rattle.replayer.specs.declared.Next.TheVariants.{Read, Write, Stop}
use Rattle.replayer.specs.declared.Progress.{Progress}
use Rattle.replayer.specs.Meaning.{Call, is_stop, drained}
use Rattle.replay.specs.declared.State.{State}

-- the buffers have 65,536 bytes, and the input that is not yet taken lies within its own
pub record Fits (input output : List ℕ) (s : State) : Type 0 where
  pub within : s.rest.at + s.rest.len ≤ length input
  pub inputs : length input ≡ 65536
  pub outputs : length output ≡ 65536

-- the state that a turn leaves, whether the program goes on from it or has ended in it
abbrev pub state_of : ControlFlow State State → State
state_of (Continue s) = s
state_of (Break s) = s

-- what has happened: the calls while the input came, the outputs of those since it ended, and the
-- bytes that came since the last call
pub record History : Type 0 where
  pub calls : List Call
  pub rooms : List ℕ
  pub came : List ℕ

-- one call more, on what had come; then more comes
abbrev pub one_more : Bool → History → List ℕ → History
one_more ended h more = record {
  calls = cond ended h.calls (h.calls ++ (record { came = h.came; room = 65536 } ∷ []));
  rooms = cond ended (h.rooms ++ (65536 ∷ [])) h.rooms;
  came = more;
}

-- the program stands where the calls have left it, with what came since
pub record Stands (h : History) (store reply input : List ℕ) (s : State) : Type 0 where
  pub kept_is : (drained h.calls h.rooms).kept ≡ record { store = store; clock = s.clock; reply = reply }
  pub rest_is : (drained h.calls h.rooms).rest ++ h.came ≡ field s.rest.at s.rest.len input
  pub open_ended : s.ended ≡ false → h.rooms ≡ []
  pub no_more_read : s.ended ≡ true → h.came ≡ []

-- and goes on from that state, which the calls have not stopped, or has ended in it
abbrev pub StandsAfter : History → List ℕ → List ℕ → List ℕ → ControlFlow State State → Type 0
StandsAfter h store reply input (Continue s) = Stands h store reply input s × (is_stop (drained h.calls h.rooms).next ≡ false)
StandsAfter h store reply input (Break s) = Stands h store reply input s

-- a turn is one call, and reading what more came (R164)
abbrev pub TurnIsOneCall : List ℕ → List ℕ → List ℕ → State → List ℕ → List ℕ → List ℕ → ControlFlow State State → Type 0
TurnIsOneCall store reply input s store' reply' input' r = (h : History) → StandsAfter h store reply input (Continue s)
    → (more : List ℕ) × StandsAfter (one_more s.ended h more) store' reply' input' r

-- the bytes that are left of a state s stand at the front, with those behind them that came; none
-- came if the input has ended
pub record Refilled (input : List ℕ) (s r : State) (input' : List ℕ) : Type 0 where
  pub clock_is : r.clock ≡ s.clock
  pub at_is : r.rest.at ≡ 0
  pub longer : s.rest.len ≤ r.rest.len
  pub within : r.rest.len ≤ length input
  pub kept : take s.rest.len input' ≡ field s.rest.at s.rest.len input
  pub ended_is : r.ended ≡ eqb (r.rest.len - s.rest.len) 0

-- the state past a call
abbrev pub past_call : State → Progress → State
past_call s p = record { clock = p.clock; rest = record { at = s.rest.at + p.taken; len = s.rest.len - p.taken }; ended = s.ended }

-- a call took no more than had come, and where it asks for more input there is room for some
pub record CanGoOn (input : List ℕ) (s : State) (p : Progress) : Type 0 where
  pub order : p.taken ≤ s.rest.len
  pub within : s.rest.at + s.rest.len ≤ length input
  pub inputs : length input ≡ 65536
  pub room : p.next ≡ Read → s.rest.len - p.taken < length input

-- what a call asks for is done: more is read, or the rest is left for the next call, or the replay
-- stops
abbrev pub GoesOn : Next → List ℕ → State → Progress → ControlFlow State State → List ℕ → Type 0
GoesOn Read input s p (Continue r) input' = Refilled input (past_call s p) r input'
GoesOn Read input s p (Break r) input' = ⊥
GoesOn Write input s p r input' = (r ≡ Continue (past_call s p)) × (input' ≡ input)
GoesOn Stop input s p r input' = (r ≡ Break (past_call s p)) × (input' ≡ input)

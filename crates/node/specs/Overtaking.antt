-- Lists of requests to one module, and when a local write is overtaken. The calls run here are
-- those of the code: the contract of `handle` is an equation with `handled`.
use Rattle.std.specs.Prelude.{ℕ, ◌+◌, ◌^◌, ◌≤◌, ◌<◌, ◌≡◌, List, [], ◌∷◌, ◌++◌}
use Rattle.wire.specs.Number.{Bytes}
use Rattle.entry.specs.Entry.{Entry, entry_of}
use Rattle.clock.specs.declared.Clock.{Clock}
use Rattle.clock.specs.Clock.{fresh_clock, stamp_of}
use Rattle.frame.specs.Message.{Message, put, del, repl}
use Rattle.frame.specs.Reading.{message, read_frame}
use Rattle.image.specs.Layout.{most_slots}
use Rattle.store.specs.Create.{fresh_store}
use Rattle.node.specs.Handler.{Result, handled}
use Rattle.node.specs.Meaning.{LocalWrite, OvertakenWrite}

-- a module's store and its clock
pub record Module : Type 0 where
  pub store : List ℕ
  pub clock : Clock

-- both fresh (R271)
abbrev pub fresh_module : (slots node : ℕ) → Module
fresh_module slots node = record { store = fresh_store slots; clock = fresh_clock node }

-- a request: the time at which it comes, its frame and the buffer for its reply
pub record Request : Type 0 where
  pub now : ℕ
  pub frame : List ℕ
  pub reply : List ℕ

abbrev pub result : Module → Request → Result
result m r = handled m.store m.clock r.now r.frame r.reply

unfoldable pub after_request : Module → Request → Module
after_request m r = record { store = (result m r).store; clock = (result m r).clock }

unfoldable pub after_requests : Module → List Request → Module  -- (R271)
after_requests m [] = m
after_requests m (r ∷ rs) = after_requests (after_request m r) rs

-- frames are made of bytes, as all that `handle` can be given
abbrev pub FramesOfBytes : List Request → Type 0
FramesOfBytes [] = Unit
FramesOfBytes (r ∷ rs) = Bytes r.frame × FramesOfBytes rs

-- the module m, as it is, accepts the request r (R271)
abbrev pub Accepts : Module → Request → Type 0
Accepts m r = (result m r).refusal ≡ 0

-- and that is a REPL, which brings e (R271)
pub record Brings (m : Module) (r : Request) (e : Entry) : Type 0 where
  pub accepted : Accepts m r
  pub reads : read_frame r.frame ≡ message (repl e)

-- or a PUT or a DEL, which makes e (R271)
pub record Makes (m : Module) (r : Request) (e : Entry) : Type 0 where
  pub accepted : Accepts m r
  pub asks : Message
  pub reads : read_frame r.frame ≡ message asks
  pub writes : LocalWrite m.clock r.now (result m r).clock asks e

-- each accepted PUT or DEL makes an entry, with the stamp of the clock that it leaves (R272)
abbrev pub AcceptedWriteMakes : Type 0
AcceptedWriteMakes = (m : Module) (r : Request) → Accepts m r
    → ((k v : List ℕ) → read_frame r.frame ≡ message (put k v) → Makes m r (entry_of k v 0 (stamp_of (result m r).clock)))
    × ((k : List ℕ) → read_frame r.frame ≡ message (del k) → Makes m r (entry_of k [] 1 (stamp_of (result m r).clock)))

-- P holds of one of some requests, and of the module as it is when that one comes; the module was m
-- before the first (R271)
pub record Among (m : Module) (requests : List Request) (P : Module → Request → Type 0) : Type 0 where
  pub before : List Request
  pub this : Request
  pub later : List Request
  pub place : requests ≡ before ++ this ∷ later
  pub holds : P (after_requests m before) this

-- one of the requests brings e, or makes it
abbrev pub BringsAmong : Module → List Request → Entry → Type 0
BringsAmong m requests e = Among m requests (λ n r. Brings n r e)

abbrev pub MakesAmong : Module → List Request → Entry → Type 0
MakesAmong m requests e = Among m requests (λ n r. Makes n r e)

-- ---- a refusal with 7
-- a PUT or a DEL is overtaken only while its time is not past that of the held stamp, whatever the
-- store and the clock (R273)
abbrev pub OvertakenUntilPast : Type 0
OvertakenUntilPast = (s : List ℕ) (c : Clock) (now : ℕ) (frame reply : List ℕ) (w : OvertakenWrite s c now frame reply) → now ≤ w.held.stamp.phys

-- after some requests to a module that was m, the request r is a PUT or a DEL that is overtaken by
-- the held entry of its key; that one came by an accepted REPL, and in each accepted REPL of it its
-- phys was more than 2000 ms ahead of the time of the request (R14, R271)
pub record OvertakenFromFarAhead (m : Module) (requests : List Request) (r : Request) : Type 0 where
  pub write : OvertakenWrite (after_requests m requests).store (after_requests m requests).clock r.now r.frame r.reply
  pub came : BringsAmong m requests write.held
  pub far_ahead : (b : BringsAmong m requests write.held) → b.this.now + 2000 < write.held.stamp.phys
  -- and by no PUT or DEL
  pub not_made : MakesAmong m requests write.held → ⊥

-- a request that is refused with 7 after any list of requests to a fresh module is such (R271)
abbrev pub OvertakenOnlyFromFarAhead : Type 0
OvertakenOnlyFromFarAhead = (slots node : ℕ) (requests : List Request) (r : Request) → 1 ≤ slots → slots ≤ most_slots → node < 2 ^ 8
    → FramesOfBytes requests → (result (after_requests (fresh_module slots node) requests) r).refusal ≡ 7
    → OvertakenFromFarAhead (fresh_module slots node) requests r

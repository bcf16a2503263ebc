-- The points that are proved: a single table, and the statement that every point of it holds (R210).
use Rattle.std.specs.Prelude.{ℕ, ◌≡◌, List, [], ◌∷◌, replicate}
use Rattle.clock.specs.declared.Clock.{Clock}
use Rattle.clock.specs.Clock.{next, send_step, receive_step}
use Rattle.peers.specs.declared.Row.{Row}
use Rattle.peers.specs.declared.PeerTable.{PeerTable}
use Rattle.peers.specs.declared.Admission.{Admission}
use Rattle.peers.specs.declared.Admission.TheVariants.{Home, Standing}
use Rattle.peers.specs.Table.{rows_of, held_state}
use Rattle.peers.specs.Event.{no_row, tick_answer, after_tick}
use Rattle.ring.specs.Answer.{Answer, gives, refuses}
use Rattle.ring.specs.Place.{place_number}
use Rattle.ring.specs.Owners.{owners_answer, owners_output}
use Rattle.store.specs.Create.{create_refusal, after_create}

-- the clock of node 1 at (p, l), after s skew events
abbrev pub clock_at : ℕ → ℕ → ℕ → Clock
clock_at p l s = record { phys = p; logical = l; node = 1; skew = s }

-- a peer with a state, last seen at a time
abbrev pub peer : ℕ → ℕ → ℕ → Row
peer i s seen = record { id = i; address = 0; port = 0; state = s; incarnation = 0; last_seen = seen }

-- node 1 is the own one and ALIVE; nodes 2 and 3 with their states
abbrev pub three_peers : ℕ → ℕ → PeerTable
three_peers two three = record { rows = peer 1 0 0 ∷ peer 2 two 0 ∷ peer 3 three 0 ∷ replicate 7 no_row; count = 3 }

-- node 2 is ALIVE and was last seen at a time (R222)
abbrev pub watched : ℕ → PeerTable
watched seen = record { rows = peer 1 0 0 ∷ peer 2 0 seen ∷ replicate 8 no_row; count = 2 }

-- places (token, node) (100, 1), (200, 2), (200, 3), (900, 1), vnode 0 but 1 for the last (R218 to R221)
abbrev pub places : List ℕ
places = place_number 100 1 0 ∷ place_number 200 2 0 ∷ place_number 200 3 0 ∷ place_number 900 1 1 ∷ []

-- the bytes that are lent, none of them an owner of these places
abbrev pub lent : ℕ → List ℕ
lent n = replicate n 255

pub data Point : Type 0 where  -- (R210, R212 to R216, R218 to R223, R269)
  -- a clock that sends at `now`, and the clock after it (R212 to R214)
  send : (c : Clock) (now : ℕ) (after : Clock) → Point
  -- a clock that receives (p, l) at `now`, and the clock after it (R215, R216, R269)
  receive : (c : Clock) (p l now : ℕ) (after : Clock) → Point
  -- the peers, which of them are admitted, a position and r; the answer and the three lent bytes after it (R218 to R221)
  walk : (peers : PeerTable) (a : Admission) (x r : ℕ) (answer : Answer) (after : List ℕ) → Point
  -- an ALIVE peer last seen at a time, a tick at `now`, and the state after it (R222)
  tick : (seen now state : ℕ) → Point
  -- a number of slots, and the bytes of the new store (R223)
  fresh : (slots : ℕ) (bytes : List ℕ) → Point

abbrev pub Holds : Point → Type 0
Holds (send c now after) = send_step c now ≡ next after
Holds (receive c p l now after) = receive_step c p l now ≡ next after
Holds (walk peers a x r answer after) = (owners_answer places peers a r (lent 3) ≡ answer) × (owners_output places peers x a r (lent 3) ≡ after)
Holds (tick seen now state) = (tick_answer now (watched seen) ≡ 0) × (held_state 2 (rows_of (after_tick now (watched seen))) ≡ state)
Holds (fresh slots bytes) = (create_refusal (lent 1208) slots ≡ 0) × (after_create (lent 1208) slots ≡ bytes)

abbrev pub AllHold : List Point → Type 0
AllHold [] = Unit
AllHold (p ∷ ps) = Holds p × AllHold ps

abbrev pub points : List Point  -- (R210, R212 to R216, R218 to R223, R269)
points =
    send (clock_at 1000 5 0) 1000 (clock_at 1000 6 0)  -- (R212)
    ∷ send (clock_at 1000 5 0) 1001 (clock_at 1001 0 0)  -- (R213)
    ∷ send (clock_at 1000 5 0) 400 (clock_at 1000 6 0)  -- (R214)
    ∷ receive (clock_at 1000 5 0) 3000 2 1000 (clock_at 3000 3 0)  -- (R215)
    ∷ receive (clock_at 1000 5 0) 3001 2 1000 (clock_at 1000 6 1)  -- (R216)
    ∷ receive (clock_at 1000 5 0) 1000 9 1000 (clock_at 1000 10 0)  -- (R269)
    -- all ALIVE, so that HOME and STANDING admit the same
    ∷ walk (three_peers 0 0) Home 200 2 (gives 2) (2 ∷ 3 ∷ lent 1)  -- (R218)
    ∷ walk (three_peers 0 0) Standing 200 2 (gives 2) (2 ∷ 3 ∷ lent 1)  -- (R218)
    ∷ walk (three_peers 0 0) Home 201 2 (gives 2) (1 ∷ 2 ∷ lent 1)  -- (R219)
    ∷ walk (three_peers 0 0) Standing 201 2 (gives 2) (1 ∷ 2 ∷ lent 1)  -- (R219)
    ∷ walk (three_peers 0 0) Home 901 3 (gives 3) (1 ∷ 2 ∷ 3 ∷ [])  -- (R220)
    ∷ walk (three_peers 0 0) Standing 901 3 (gives 3) (1 ∷ 2 ∷ 3 ∷ [])  -- (R220)
    -- node 3 DOWN: TOO_FEW
    ∷ walk (three_peers 0 2) Standing 901 3 (refuses 10) (lent 3)  -- (R221)
    ∷ tick 0 4999 0  -- (R222)
    ∷ tick 0 5000 1  -- (R222)
    ∷ tick 0 15000 2  -- (R222)
    ∷ fresh 2 (0 ∷ 2 ∷ 0 ∷ 0 ∷ 2 ∷ 84 ∷ 0 ∷ 16 ∷ replicate 1200 0)  -- (R223)
    ∷ []

abbrev pub AllPointsHold : Type 0
AllPointsHold = AllHold points

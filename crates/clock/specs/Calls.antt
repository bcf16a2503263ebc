-- Lists of calls on one clock, and which stamps a send passes. The calls run here are those of the
-- code: the contracts of `send` and `receive` are equations with `send_step`, `receive_step` and
-- `clock_after`.
use Rattle.std.specs.Prelude.{ℕ, ◌+◌, ◌≤◌, ◌<◌, ◌≡◌, ◌⊎◌, List, [], ◌∷◌, ◌++◌}
use Rattle.clock.specs.declared.Clock.{Clock}
use Rattle.clock.specs.Clock.{Stepped, next, fresh_clock, send_step, receive_step}
use Rattle.clock.specs.Answer.{clock_after}

-- a send at a reading, or a receive of (p, l) at one (R270)
pub data Call : Type 0 where
  send : (now : ℕ) → Call
  receive : (p l now : ℕ) → Call

unfoldable pub step_of : Clock → Call → Stepped
step_of c (send now) = send_step c now
step_of c (receive p l now) = receive_step c p l now

-- the clock after some calls, in their order; a refused one leaves it as it was (R270)
unfoldable pub after_calls : Clock → List Call → Clock
after_calls c [] = c
after_calls c (x ∷ xs) = after_calls (clock_after c (step_of c x)) xs

-- a call that is not refused gives (p, l), or takes it, not more than 2000 ms ahead of its own
-- reading (R270)
pub data Met (c : Clock) : Call → ℕ → ℕ → Type 0 where
  gave : (now : ℕ) (d : Clock) → send_step c now ≡ next d → Met c (send now) d.phys d.logical
  took : (p l now : ℕ) (d : Clock) → receive_step c p l now ≡ next d → p ≤ now + 2000 → Met c (receive p l now) p l

-- (p, l) is below (q, m), whatever the node ids (R270)
abbrev pub PairBelow : (p l q m : ℕ) → Type 0
PairBelow p l q m = (p < q) ⊎ ((p ≡ q) × (l < m))

-- from the clock c on: what one call of a list meets is below what each later send gives (R270)
abbrev pub SendsPassFrom : Clock → Type 0
SendsPassFrom c = (before : List Call) (x : Call) (between : List Call) (p l now : ℕ) (d : Clock) → Met (after_calls c before) x p l
    → send_step (after_calls c (before ++ x ∷ between)) now ≡ next d → PairBelow p l d.phys d.logical

-- from a new clock on (R270)
abbrev pub EverySendPasses : Type 0
EverySendPasses = (node : ℕ) → SendsPassFrom (fresh_clock node)

-- and from any other, as from one that was kept over a restart (R270)
abbrev pub EverySendPassesFromAny : Type 0
EverySendPassesFromAny = (c : Clock) → SendsPassFrom c

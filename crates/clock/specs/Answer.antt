-- What the answers of a send and of a receive mean.
use Rattle.std.specs.Prelude.{ℕ, ◌≡◌, Result, Ok, Err}
use Rattle.entry.specs.Refusal.{number, refusal_number}
use Rattle.entry.specs.declared.Refusal.{Refusal}
use Rattle.entry.specs.declared.Stamp.{Stamp}
use Rattle.clock.specs.declared.Clock.{Clock}
use Rattle.clock.specs.declared.Sent.{Sent}
use Rattle.clock.specs.declared.Receipt.{Receipt}
use Rattle.clock.specs.Clock.{Stepped, next, refused, stamp_of, send_step, receive_step}

abbrev pub step_meaning : Result Clock Refusal → Stepped
step_meaning (Ok c) = next c
step_meaning (Err r) = refused (number r)

-- the clock handed back: the next one, and after a refusal the one that came in (R29)
abbrev pub clock_after : Clock → Stepped → Clock
clock_after c (next d) = d
clock_after c (refused n) = c

-- what a send gives: the stamp of the next clock, or a refusal's number (R95, R199)
pub data Given : Type 0 where
  stamp : Stamp → Given
  refusal : ℕ → Given

abbrev pub given : Stepped → Given
given (next d) = stamp (stamp_of d)
given (refused n) = refusal n

abbrev pub send_meaning : Result Stamp Refusal → Given
send_meaning (Ok s) = stamp s
send_meaning (Err r) = refusal (number r)

-- a receive gives no stamp: 0, or a refusal's number (R199)
abbrev pub step_refusal_of : Stepped → ℕ
step_refusal_of (next d) = 0
step_refusal_of (refused n) = n

-- the promise of a send (R95, R197, R233)
pub record Sends (c : Clock) (now : ℕ) (r : Sent) : Type 0 where
  pub clock_is : r.clock ≡ clock_after c (send_step c now)
  pub answer_is : send_meaning r.answer ≡ given (send_step c now)

-- the promise of a receive (R197, R233)
pub record Receives (c : Clock) (p l now : ℕ) (r : Receipt) : Type 0 where
  pub clock_is : r.clock ≡ clock_after c (receive_step c p l now)
  pub answer_is : refusal_number r.answer ≡ step_refusal_of (receive_step c p l now)

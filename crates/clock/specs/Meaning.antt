-- What holds of the clock's steps.
use Rattle.std.specs.Prelude.{ℕ, ◌+◌, ◌≤◌, ◌<◌, ◌^◌, max, ◌≡◌, ◌⊎◌, true, cond, ◌||◌, ltb}
use Rattle.entry.specs.declared.Stamp.{Stamp}
use Rattle.entry.specs.Order.{stamp_below}
use Rattle.entry.specs.Entry.{bad_time}
use Rattle.clock.specs.declared.Clock.{Clock}
use Rattle.clock.specs.Clock.{Stepped, next, refused, stamp_of, raise, with_skew, send_step, receive_step}

-- what a step from c to d keeps
pub record Rises (c d : Clock) : Type 0 where
  -- the stamp of the next clock is above that of the clock it came from
  pub above : stamp_below (stamp_of c) (stamp_of d) ≡ true
  -- P is not lowered, and stays a time
  pub phys : c.phys ≤ d.phys
  pub timely : d.phys < 2 ^ 48
  -- the logical count fits its field
  pub logical : d.logical < 2 ^ 16
  pub node : d.node ≡ c.node
  pub skew : c.skew ≤ d.skew

-- a send's stamp is above the clock it came from, and no send lowers P (R93 to R95); a receive
-- raises it too (R96 to R98, R268)
abbrev pub SendRises : Type 0
SendRises = (c d : Clock) (now : ℕ) → send_step c now ≡ next d → Rises c d

abbrev pub ReceiveRises : Type 0
ReceiveRises = (c d : Clock) (p l now : ℕ) → receive_step c p l now ≡ next d → Rises c d

-- a received stamp that is not far ahead is below the clock after it, whichever its node (R268)
abbrev pub ReceivePasses : Type 0
ReceivePasses = (c d : Clock) (s : Stamp) (now : ℕ) → receive_step c s.phys s.logical now ≡ next d → s.phys ≤ now + 2000
    → stamp_below s (stamp_of d) ≡ true

-- and below the stamp that a send gives right after it, at any reading (R268)
abbrev pub NextSendPasses : Type 0
NextSendPasses = (c d e : Clock) (s : Stamp) (now reading : ℕ) → receive_step c s.phys s.logical now ≡ next d → s.phys ≤ now + 2000
    → send_step d reading ≡ next e → stamp_below s (stamp_of e) ≡ true

-- a receive that has no case of its own for p = P, so that p = P is "otherwise" (R268)
unfoldable pub receive_before : Clock → ℕ → ℕ → ℕ → Stepped
receive_before c p l now =
    cond (bad_time now || bad_time c.phys || bad_time p) (refused 9)
    (cond (ltb (now + 2000) p) (raise (with_skew c) (max c.phys now) c.logical)
    (cond (ltb c.phys p) (raise c p l)
    (raise c c.phys c.logical)))

-- the case changes no receive but those with p = P that are not far ahead, and of them only those
-- with l above L (R268)
abbrev pub OtherReceivesStay : Type 0
OtherReceivesStay = (c : Clock) (p l now : ℕ) → (p ≡ c.phys → ⊥) ⊎ (now + 2000 < p) ⊎ (l ≤ c.logical)
    → receive_step c p l now ≡ receive_before c p l now

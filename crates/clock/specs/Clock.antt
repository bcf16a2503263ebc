-- The clock's steps.
use Rattle.std.specs.Prelude.{ℕ, ◌+◌, max, cond, ◌||◌, ltb, leb, eqb}
use Rattle.entry.specs.declared.Stamp.{Stamp}
use Rattle.entry.specs.Entry.{bad_time}
use Rattle.clock.specs.declared.Clock.{Clock}

-- a step gives the next clock, or is refused with a number
pub data Stepped : Type 0 where
  next : Clock → Stepped
  refused : ℕ → Stepped

-- a new clock starts at phys 0, logical 0 (R91, R92)
abbrev pub fresh_clock : ℕ → Clock
fresh_clock node = record { phys = 0; logical = 0; node = node; skew = 0 }

-- the stamp of a clock (R95)
abbrev pub stamp_of : Clock → Stamp
stamp_of c = record { phys = c.phys; logical = c.logical; node = c.node }

-- the clock at phys p with the logical count l raised by one: 8 if that is 65,535 (R15, R28, R217)
unfoldable pub raise : Clock → ℕ → ℕ → Stepped
raise c p l = cond (leb 65535 l) (refused 8) (next (record { phys = p; logical = l + 1; node = c.node; skew = c.skew }))

-- the skew count rises, and stops at 2^32 − 1 (R99)
unfoldable pub with_skew : Clock → Clock
with_skew c = cond (leb 4294967295 c.skew) c (record { phys = c.phys; logical = c.logical; node = c.node; skew = c.skew + 1 })

-- send at now: if now > P the clock becomes (now, 0), else (P, L + 1) (R33, R93, R94)
unfoldable pub send_step : Clock → ℕ → Stepped
send_step c now =
    cond (bad_time now || bad_time c.phys) (refused 9)
    (cond (ltb c.phys now) (next (record { phys = now; logical = 0; node = c.node; skew = c.skew }))
    (raise c c.phys c.logical))

-- receive (p, l) at now: if p > now + 2000, the clock becomes (max(P, now), L + 1) and the skew
-- count rises; otherwise, if p > P, it becomes (p, l + 1); otherwise, if p = P, it becomes
-- (P, max(L, l) + 1); otherwise (P, L + 1) (R96 to R98, R268)
unfoldable pub receive_in_range : Clock → ℕ → ℕ → ℕ → Stepped
receive_in_range c p l now =
    cond (ltb (now + 2000) p) (raise (with_skew c) (max c.phys now) c.logical)
    (cond (ltb c.phys p) (raise c p l)
    (cond (eqb p c.phys) (raise c c.phys (max c.logical l))
    (raise c c.phys c.logical)))

unfoldable pub receive_step : Clock → ℕ → ℕ → ℕ → Stepped  -- (R26, R33)
receive_step c p l now = cond (bad_time now || bad_time c.phys || bad_time p) (refused 9) (receive_in_range c p l now)

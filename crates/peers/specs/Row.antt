-- What each event makes of a row. States are 0 ALIVE, 1 SUSPECT, 2 DOWN (R145).
use Rattle.std.specs.Prelude.{ℕ, ◌-◌, ◌^◌, max, Bool, cond, ◌&&◌, ltb, leb, eqb}
use Rattle.peers.specs.declared.Row.{Row}

-- now − last seen, or 0 if now is earlier (R158)
unfoldable pub age_at : ℕ → ℕ → ℕ
age_at seen now = cond (ltb seen now) (now - seen) 0

-- state and time in range (R145, R150)
unfoldable pub in_range : Row → Bool
in_range r = leb r.state 2 && ltb r.last_seen (2 ^ 48)

-- ALIVE, last seen now, other fields as given (R144, R146, R152)
abbrev pub new_row : ℕ → ℕ → ℕ → ℕ → ℕ → Row
new_row i a p n now = record { id = i; address = a; port = p; state = 0; incarnation = n; last_seen = now }

-- a row with another state, incarnation and last seen
abbrev pub changed : Row → ℕ → ℕ → ℕ → Row
changed r s n seen = record { id = r.id; address = r.address; port = r.port; state = s; incarnation = n; last_seen = seen }

-- heard directly: ALIVE with that incarnation, last seen the later of itself and now (R153, R154)
unfoldable pub heard_row : ℕ → ℕ → Row → Row
heard_row n now r = changed r 0 n (max r.last_seen now)

-- reported: a higher incarnation is taken with its state, and if that is ALIVE, last seen is the
-- later of itself and now; equal: the worse state stays (R154 to R156)
unfoldable pub reported_row : ℕ → ℕ → ℕ → Row → Row
reported_row s n now r =
    cond (ltb r.incarnation n) (changed r s n (cond (eqb s 0) (max r.last_seen now) r.last_seen))
    (changed r (max r.state s) r.incarnation r.last_seen)

-- age 15,000 or more gives DOWN; 5,000 or more makes ALIVE SUSPECT (R159 to R161)
unfoldable pub tick_state : ℕ → ℕ → ℕ
tick_state age s =
    cond (leb 15000 age) 2
    (cond (leb 5000 age) (cond (eqb s 0) 1 s)
    s)

unfoldable pub tick_row : ℕ → Row → Row  -- (R157, R159, R160)
tick_row now r = changed r (tick_state (age_at r.last_seen now) r.state) r.incarnation r.last_seen

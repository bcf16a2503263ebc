-- A clock as four words.
use Rattle.std.specs.Prelude.{ℕ, ◌^◌, Bool, cond, ◌&&◌, List, [], ◌∷◌, length, ltb, eqb, Option, Some, None}
use Rattle.entry.specs.declared.Stamp.{Stamp}
use Rattle.clock.specs.declared.Clock.{Clock}
use Rattle.capi_words.specs.Words.{word}

-- ---- a clock: phys, logical, node, skew count (R237)
abbrev pub clock_words : Clock → List ℕ
clock_words c = c.phys ∷ c.logical ∷ c.node ∷ c.skew ∷ []

-- four words, and each fits its field (R237)
unfoldable pub is_clock : List ℕ → Bool
is_clock w = eqb (length w) 4 && ltb (word w 1) (2 ^ 16) && ltb (word w 2) (2 ^ 8) && ltb (word w 3) (2 ^ 32)

unfoldable pub clock_of : List ℕ → Clock
clock_of w = record { phys = word w 0; logical = word w 1; node = word w 2; skew = word w 3 }

-- the clock that words stand for, if they are a clock (R237)
unfoldable pub clock_in : List ℕ → Option Clock
clock_in w = cond (is_clock w) (Some (clock_of w)) None

-- ---- a stamp from its parts
abbrev pub stamp_from : ℕ → ℕ → ℕ → Stamp
stamp_from phys logical node = record { phys = phys; logical = logical; node = node }

-- Numbers as bytes, the highest byte first (big-endian).
use Rattle.std.specs.Prelude.{ℕ, zero, suc, ◌+◌, ◌*◌, ◌/◌, ◌%◌, ◌<◌, List, [], ◌∷◌, ◌++◌, get_or}

-- n in w bytes (R3)
unfoldable pub be : ℕ → ℕ → List ℕ
be zero n = []
be (suc w) n = be w (n / 256) ++ (n % 256 ∷ [])

-- the number that bytes stand for, after those that stand for a
unfoldable pub num_from : ℕ → List ℕ → ℕ
num_from a [] = a
num_from a (b ∷ s) = num_from (a * 256 + b) s

-- the number that bytes stand for (R3)
unfoldable pub num : List ℕ → ℕ
num s = num_from 0 s

-- each element is a byte
abbrev pub Bytes : List ℕ → Type 0
Bytes s = (i : ℕ) → get_or s i 0 < 256

-- Words, and numbers of 32 bits.
use Rattle.std.specs.Prelude.{ℕ, cond, List, get_or, leb}

abbrev pub word : List ℕ → ℕ → ℕ
word w i = get_or w i 0

-- a number that C passes in 32 bits, as a byte: 255 where it does not fit (R240)
abbrev pub byte_of : ℕ → ℕ
byte_of n = cond (leb 256 n) 255 n

-- Tokens, key positions and places.
use Rattle.std.specs.Prelude.{cond, List, [], ◌∷◌, ℕ, ◌+◌, ◌*◌, ◌/◌, ◌%◌}
use Rattle.std.specs.Int.Bits.{bit_xor}
use Rattle.checksum.specs.Crc32c.{crc32c}
use Rattle.checksum.specs.Fmix32.{fmix32}
use Rattle.entry.specs.Key.{bad_key}
use Rattle.ring.specs.Answer.{Answer, gives, refuses}

-- the token of node n, vnode i, under the salt s (R70)
unfoldable pub token_of : ℕ → ℕ → ℕ → ℕ
token_of n i s = fmix32 (bit_xor (bit_xor (crc32c (n ∷ i ∷ [])) (fmix32 (256 * n + i))) s)

-- a key's position (R71)
unfoldable pub position_of : List ℕ → ℕ → ℕ
position_of key s = fmix32 (bit_xor (crc32c key) s)

-- an unacceptable key is refusal 1 (R40, R71)
unfoldable pub position_answer : List ℕ → ℕ → Answer
position_answer key s = cond (bad_key key) (refuses 1) (gives (position_of key s))

-- a place as a number, and its parts (R76)
abbrev pub place_number : ℕ → ℕ → ℕ → ℕ
place_number t n i = t * 65536 + n * 256 + i

abbrev pub token : ℕ → ℕ
token p = p / 65536

abbrev pub node : ℕ → ℕ
node p = p / 256 % 256

abbrev pub vnode : ℕ → ℕ
vnode p = p % 256

-- the place of node n, vnode i, under the salt s (R76)
unfoldable pub place_of : ℕ → ℕ → ℕ → ℕ
place_of n i s = place_number (token_of n i s) n i

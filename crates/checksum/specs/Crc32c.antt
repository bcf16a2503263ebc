-- CRC32C of a list of bytes, by bits: reflected polynomial 0x82F63B78, started and finished with
-- all ones.
use Rattle.std.specs.Prelude.{List, [], ◌∷◌, ℕ, zero, suc, ◌*◌, ◌/◌, ◌%◌}
use Rattle.std.specs.Int.Bits.{bit_xor}

-- the reflected polynomial (R51)
abbrev pub polynomial : ℕ
polynomial = 0x82F6_3B78

-- one bit: the remainder shifted right, with the polynomial xored in where a one was shifted out (R51)
unfoldable pub bit_step : ℕ → ℕ
bit_step c = bit_xor (c % 2 * polynomial) (c / 2)

-- n bits
unfoldable pub steps : ℕ → ℕ → ℕ
steps zero c = c
steps (suc n) c = steps n (bit_step c)

-- one byte (R51)
unfoldable pub byte_step : ℕ → ℕ → ℕ
byte_step c b = steps 8 (bit_xor c b)

-- all bytes of a list, one after the other (R51)
unfoldable pub run : ℕ → List ℕ → ℕ
run c [] = c
run c (b ∷ s) = run (byte_step c b) s

unfoldable pub crc32c : List ℕ → ℕ  -- (R51)
crc32c s = bit_xor (run 0xFFFF_FFFF s) 0xFFFF_FFFF

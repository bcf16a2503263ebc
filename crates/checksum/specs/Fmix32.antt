-- fmix32, the 32-bit finaliser of MurmurHash3.
use Rattle.std.specs.Prelude.{ℕ, ◌*◌, ◌/◌, ◌%◌, ◌^◌}
use Rattle.std.specs.Int.Bits.{bit_xor}

-- a number xor itself shifted right by k (R69)
abbrev pub xor_shift : ℕ → ℕ → ℕ
xor_shift k h = bit_xor h (h / 2 ^ k)

-- a product modulo 2^32 (R69, R231)
abbrev pub times : ℕ → ℕ → ℕ
times a b = a * b % 2 ^ 32

unfoldable pub fmix32 : ℕ → ℕ  -- (R69, R228)
fmix32 h = xor_shift 16 (times (xor_shift 13 (times (xor_shift 16 h) 0x85EB_CA6B)) 0xC2B2_AE35)

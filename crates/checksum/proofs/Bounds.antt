-- Remainders, checksums and fmix32 have 32 bits.
use mathlib.Core.List.{[], ◌∷◌}
use Prim.Native.Nat.{ℕ, zero, suc, ◌*◌, ◌/◌, ◌%◌, ◌^◌, ◌<◌}
use native.Mathlib.Nat.{mod-lt}
use native.Mathlib.Omega.{arith}
use lib.Bits.{bit_xor, xor_lt}
use lib.Dec.{lit<}
use lib.Pow.{shr_le}
use Rattle.checksum.specs.Crc32c.{polynomial, bit_step, steps, byte_step, run, crc32c}
use Rattle.checksum.specs.Fmix32.{fmix32, xor_shift, times}
use Rattle.checksum.specs.Meaning.{RunBound, Crc32cBound, Fmix32Bound}
use Rattle.checksum.proofs.Xor.{low_lt}

bit_step-lt : (c : ℕ) → c < 2 ^ 32 → bit_step c < 2 ^ 32
unfolding bit_step
bit_step-lt c h = xor_lt 32 (c % 2 * polynomial) (c / 2) (omega (arith, low_lt c)) (omega arith)

steps-lt : (n c : ℕ) → c < 2 ^ 32 → steps n c < 2 ^ 32
unfolding steps
steps-lt zero c h = h
steps-lt (suc n) c h = steps-lt n (bit_step c) (bit_step-lt c h)

pub run_bound : RunBound
unfolding run byte_step
run_bound [] c b h = h
run_bound (x ∷ s) c b h = run_bound s (steps 8 (bit_xor c x)) (λ k. b (suc k)) (steps-lt 8 (bit_xor c x) (xor_lt 32 c x h (omega (arith, b 0))))

pub crc32c_bound : Crc32cBound
unfolding crc32c
crc32c_bound s b = xor_lt 32 (run 0xFFFF_FFFF s) 0xFFFF_FFFF (run_bound s 0xFFFF_FFFF b (lit< tt)) (lit< tt)

xor_shift-lt : (k h : ℕ) → h < 2 ^ 32 → xor_shift k h < 2 ^ 32
xor_shift-lt k h b = xor_lt 32 h (h / 2 ^ k) b (omega (arith, shr_le h k))

pub fmix32_bound : Fmix32Bound
unfolding fmix32
fmix32_bound h =
    xor_shift-lt 16 (times (xor_shift 13 (times (xor_shift 16 h) 0x85EB_CA6B)) 0xC2B2_AE35)
    (mod-lt (xor_shift 13 (times (xor_shift 16 h) 0x85EB_CA6B) * 0xC2B2_AE35) (lit< tt))

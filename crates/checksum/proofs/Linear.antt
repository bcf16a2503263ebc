-- The steps of CRC32C are linear over exclusive or, and shift zeros out.
use mathlib.Core.Path.{◌≡◌, refl, sym, ap, ap₂, ◌∙◌}
use mathlib.Core.List.{List, [], ◌∷◌}
use Prim.Native.Nat.{ℕ, zero, suc, ◌*◌, ◌/◌, ◌%◌, ◌^◌, ◌<◌}
use native.Mathlib.Nat.{mod-lt}
use native.Mathlib.Omega.{arith}
use lib.Bits.{bit_xor, differ, xor_shifted, xor_comm, xor_zero_r, shifted_half, shifted_even}
use lib.Pow.{split, pow_pos}
use lib.ListN.{length, replicate}
use Rattle.checksum.specs.Crc32c.{polynomial, bit_step, steps, byte_step, run}
use Rattle.checksum.specs.Table.{bytes_steps, little_endian}
use Rattle.wire.specs.Number.{Bytes}
use Rattle.checksum.specs.Meaning.{RunAppend, RunXor, RunZeros, BytesStepsXor}
use Rattle.checksum.proofs.Xor.{xor_half, xor_low, xor_assoc, xor_middle, low_lt}

scaled : (x y : ℕ) → x < 2 → y < 2 → differ x y * polynomial ≡ bit_xor (x * polynomial) (y * polynomial)
scaled zero y hx hy = refl
scaled (suc zero) zero hx hy = refl
scaled (suc zero) (suc zero) hx hy = refl
scaled (suc zero) (suc (suc y)) hx hy = absurd (omega arith)
scaled (suc (suc x)) y hx hy = absurd (omega arith)

bit_step_xor : (a b : ℕ) → bit_step (bit_xor a b) ≡ bit_xor (bit_step a) (bit_step b)
unfolding bit_step
bit_step_xor a b =
    ap₂ (λ (x y : ℕ). bit_xor (y * polynomial) x) (xor_half a b) (xor_low a b)
    ∙ ap (λ (x : ℕ). bit_xor x (bit_xor (a / 2) (b / 2))) (scaled (a % 2) (b % 2) (low_lt a) (low_lt b))
    ∙ xor_middle (a % 2 * polynomial) (b % 2 * polynomial) (a / 2) (b / 2)

pub steps_xor : (n a b : ℕ) → steps n (bit_xor a b) ≡ bit_xor (steps n a) (steps n b)
unfolding steps
steps_xor zero a b = refl
steps_xor (suc n) a b = ap (steps n) (bit_step_xor a b) ∙ steps_xor n (bit_step a) (bit_step b)

bit_step_shifted : (k a : ℕ) → bit_step (a * 2 ^ suc k) ≡ a * 2 ^ k
unfolding bit_step
bit_step_shifted k a =
    ap₂ (λ (x y : ℕ). bit_xor (y * polynomial) x) (shifted_half a k) (shifted_even a k)

pub steps_shifted : (k a : ℕ) → steps k (a * 2 ^ k) ≡ a
unfolding steps
steps_shifted zero a = omega arith
steps_shifted (suc k) a = ap (steps k) (bit_step_shifted k a) ∙ steps_shifted k a

-- k steps take the digits above k down, and add what the k low digits become
pub steps_split : (k v : ℕ) → steps k v ≡ bit_xor (v / 2 ^ k) (steps k (v % 2 ^ k))
steps_split k v =
    ap (steps k) (sym (split v k) ∙ sym (xor_shifted (v / 2 ^ k) k (v % 2 ^ k) (mod-lt v (pow_pos k))))
    ∙ steps_xor k (v / 2 ^ k * 2 ^ k) (v % 2 ^ k)
    ∙ ap (λ (x : ℕ). bit_xor x (steps k (v % 2 ^ k))) (steps_shifted k (v / 2 ^ k))

-- ---- whole bytes

pub bytes_steps_xor : BytesStepsXor
unfolding bytes_steps
bytes_steps_xor zero a b = refl
bytes_steps_xor (suc n) a b = ap (bytes_steps n) (steps_xor 8 a b) ∙ bytes_steps_xor n (steps 8 a) (steps 8 b)

pub bytes_steps_last : (n c : ℕ) → bytes_steps (suc n) c ≡ steps 8 (bytes_steps n c)
unfolding bytes_steps
bytes_steps_last zero c = refl
bytes_steps_last (suc n) c = bytes_steps_last n (steps 8 c)

-- the low byte apart from the rest
pub bytes_steps_split : (n v : ℕ) → bytes_steps (suc n) v ≡ bit_xor (bytes_steps n (v / 256)) (bytes_steps (suc n) (v % 256))
unfolding bytes_steps
bytes_steps_split n v = ap (bytes_steps n) (steps_split 8 v) ∙ bytes_steps_xor n (v / 256) (steps 8 (v % 256))

-- one byte, by a table of 256: what the low byte becomes, added to the rest
pub byte_step_table : (c b : ℕ) → bit_xor (bit_xor c b / 256) (bytes_steps 1 (bit_xor c b % 256)) ≡ byte_step c b
unfolding byte_step bytes_steps
byte_step_table c b = sym (bytes_steps_split 0 (bit_xor c b))

-- a run over n bytes is n bytes' steps of the remainder with the bytes added, as one number
pub run-word : (s : List ℕ) (c : ℕ) → Bytes s → run c s ≡ bytes_steps (length s) (bit_xor c (little_endian s))
unfolding run byte_step bytes_steps little_endian
run-word [] c h = sym (xor_zero_r c)
run-word (b ∷ s) c h =
    run-word s (steps 8 (bit_xor c b)) (λ k. h (suc k))
    ∙ ap (bytes_steps (length s))
    (ap (bit_xor (steps 8 (bit_xor c b))) (sym (steps_shifted 8 (little_endian s)))
    ∙ sym (steps_xor 8 (bit_xor c b) (little_endian s * 256))
    ∙ ap (steps 8)
    (xor_assoc c b (little_endian s * 256)
    ∙ ap (bit_xor c) (xor_comm b (little_endian s * 256) ∙ xor_shifted (little_endian s) 8 b (h 0))))

pub run-append : RunAppend
unfolding run
run-append [] t c = refl
run-append (b ∷ s) t c = run-append s t (byte_step c b)

pub run_xor : RunXor
unfolding run byte_step bytes_steps
run_xor [] c d = refl
run_xor (b ∷ s) c d =
    ap (λ (x : ℕ). run (steps 8 x) s) (xor_right c d b)
    ∙ ap (λ (x : ℕ). run x s) (steps_xor 8 (bit_xor c b) d)
    ∙ run_xor s (steps 8 (bit_xor c b)) (steps 8 d)
  where
    xor_right : (a b c : ℕ) → bit_xor (bit_xor a b) c ≡ bit_xor (bit_xor a c) b
    xor_right a b c = xor_assoc a b c ∙ ap (bit_xor a) (xor_comm b c) ∙ sym (xor_assoc a c b)

pub run-zeros : RunZeros
unfolding run byte_step bytes_steps
run-zeros zero c = refl
run-zeros (suc n) c = ap (λ (x : ℕ). run (steps 8 x) (replicate n 0)) (xor_zero_r c) ∙ run-zeros n (steps 8 c)

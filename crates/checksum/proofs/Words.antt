-- Parts of a list of bytes, its first bytes as numbers, and a part of a slice up to its end.
use Rattle.std.specs.Int.{from_le_bytes}
use Rattle.std.proofs.Common.{w64}
use mathlib.Core.Path.{◌≡◌}
use mathlib.Core.List.{List, [], ◌∷◌}
use Prim.Native.Nat.{ℕ, zero, suc, ◌+◌, ◌*◌, ◌^◌, ◌≤◌, ◌<◌}
use native.Mathlib.Nat.{pow-suc}
use native.Mathlib.Omega.{arith}
use lib.ListN.{length, take, drop}
use lib.Dec.{lit<}
use lib.Seq.{length-take-le}
use Rattle.checksum.specs.Table.{little_endian}
use Rattle.wire.specs.Number.{Bytes}

-- parts of a list of bytes
pub bytes_take : (n : ℕ) (s : List ℕ) → Bytes s → Bytes (take n s)
bytes_take zero s b k = lit< tt
bytes_take (suc n) [] b k = lit< tt
bytes_take (suc n) (x ∷ s) b zero = b 0
bytes_take (suc n) (x ∷ s) b (suc k) = bytes_take n s (λ j. b (suc j)) k

-- a number of n bytes
pub little_lt : (s : List ℕ) → Bytes s → little_endian s < 256 ^ length s
unfolding little_endian
little_lt [] h = omega arith
little_lt (b ∷ s) h = rw pow-suc (omega (arith, little_lt s (λ k. h (suc k)), h 0))

pub take-lt : (n : ℕ) (s : List ℕ) → n ≤ length s → Bytes (take n s) → little_endian (take n s) < 256 ^ n
take-lt n s l b = rw (length-take-le n s l) at (little_lt (take n s) b)

-- eight bytes
pub le_word : (s : List ℕ) → length s ≡ 8 → from_le_bytes w64 s ≡ little_endian s
unfolding little_endian
le_word [] k = absurd (omega arith)
le_word (a ∷ []) k = absurd (omega arith)
le_word (a ∷ b ∷ []) k = absurd (omega arith)
le_word (a ∷ b ∷ c ∷ []) k = absurd (omega arith)
le_word (a ∷ b ∷ c ∷ d ∷ []) k = absurd (omega arith)
le_word (a ∷ b ∷ c ∷ d ∷ e ∷ []) k = absurd (omega arith)
le_word (a ∷ b ∷ c ∷ d ∷ e ∷ f ∷ []) k = absurd (omega arith)
le_word (a ∷ b ∷ c ∷ d ∷ e ∷ f ∷ g ∷ []) k = absurd (omega arith)
le_word (a ∷ b ∷ c ∷ d ∷ e ∷ f ∷ g ∷ h ∷ []) k = omega arith
le_word (a ∷ b ∷ c ∷ d ∷ e ∷ f ∷ g ∷ h ∷ i ∷ s) k = absurd (omega arith)

pub sixteen_bytes : (s : List ℕ) → 16 ≤ length s → little_endian (take 8 (drop 8 s)) * 2 ^ 64 + little_endian (take 8 s) ≡ little_endian (take 16 s)
unfolding little_endian
sixteen_bytes (a ∷ b ∷ c ∷ d ∷ e ∷ f ∷ g ∷ h ∷ s) k = omega arith
sixteen_bytes [] k = absurd (omega arith)
sixteen_bytes (a ∷ []) k = absurd (omega arith)
sixteen_bytes (a ∷ b ∷ []) k = absurd (omega arith)
sixteen_bytes (a ∷ b ∷ c ∷ []) k = absurd (omega arith)
sixteen_bytes (a ∷ b ∷ c ∷ d ∷ []) k = absurd (omega arith)
sixteen_bytes (a ∷ b ∷ c ∷ d ∷ e ∷ []) k = absurd (omega arith)
sixteen_bytes (a ∷ b ∷ c ∷ d ∷ e ∷ f ∷ []) k = absurd (omega arith)
sixteen_bytes (a ∷ b ∷ c ∷ d ∷ e ∷ f ∷ g ∷ []) k = absurd (omega arith)

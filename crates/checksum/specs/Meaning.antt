-- What is promised of the definitions of CRC32C and fmix32.
use Rattle.std.specs.Prelude.{List, ◌++◌, ◌≡◌, ℕ, ◌+◌, ◌^◌, ◌<◌, length, replicate}
use Rattle.std.specs.Int.Bits.{bit_xor}
use Rattle.wire.specs.Number.{Bytes}
use Rattle.checksum.specs.Crc32c.{run, crc32c}
use Rattle.checksum.specs.Table.{bytes_steps, crc_table, entry_of, run_with, crc_with}
use Rattle.checksum.specs.Fmix32.{fmix32}

-- the table has sixteen rows of 256: row k has at i what i becomes after k + 1 bytes (R51)
pub record TableRule : Type 0 where
  pub size : length crc_table ≡ 4096
  pub entry : (k i : ℕ) → k < 16 → i < 256 → entry_of crc_table k i ≡ bytes_steps (k + 1) i

-- by the table of CRC32C, the remainder and the checksum are those by bits (R51)
abbrev pub RunWithTable : Type 0
RunWithTable = (s : List ℕ) (c : ℕ) → Bytes s → c < 2 ^ 32 → run_with crc_table c s ≡ run c s

abbrev pub CrcWithTable : Type 0
CrcWithTable = (s : List ℕ) → Bytes s → crc_with crc_table s ≡ crc32c s

-- a run may stop and go on
abbrev pub RunAppend : Type 0
RunAppend = (s t : List ℕ) (c : ℕ) → run c (s ++ t) ≡ run (run c s) t

-- a run is linear in the remainder it starts from
abbrev pub RunXor : Type 0
RunXor = (s : List ℕ) (c d : ℕ) → run (bit_xor c d) s ≡ bit_xor (run c s) (bytes_steps (length s) d)

-- over zeros alone a run takes the remainder n bytes on, and that is linear too
abbrev pub RunZeros : Type 0
RunZeros = (n c : ℕ) → run c (replicate n 0) ≡ bytes_steps n c

abbrev pub BytesStepsXor : Type 0
BytesStepsXor = (n c d : ℕ) → bytes_steps n (bit_xor c d) ≡ bit_xor (bytes_steps n c) (bytes_steps n d)

-- results have 32 bits
abbrev pub RunBound : Type 0
RunBound = (s : List ℕ) (c : ℕ) → Bytes s → c < 2 ^ 32 → run c s < 2 ^ 32

abbrev pub Crc32cBound : Type 0
Crc32cBound = (s : List ℕ) → Bytes s → crc32c s < 2 ^ 32

abbrev pub Fmix32Bound : Type 0
Fmix32Bound = (h : ℕ) → fmix32 h < 2 ^ 32

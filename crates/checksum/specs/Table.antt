-- The table of CRC32C, and the checksum that a table gives: sixteen bytes a turn, a row of the
-- table for each, then the rest byte by byte.
use Rattle.std.specs.Prelude.{List, [], ◌∷◌, ◌++◌, map, ◌≡◌, ℕ, zero, suc, ◌+◌, ◌*◌, ◌/◌, ◌%◌, length, get_or, take, drop}
use Rattle.std.specs.Int.Bits.{bit_xor}
use Rattle.checksum.specs.Crc32c.{steps, run, crc32c}

-- what a remainder becomes after n bytes, all zero
unfoldable pub bytes_steps : ℕ → ℕ → ℕ
bytes_steps zero c = c
bytes_steps (suc n) c = bytes_steps n (steps 8 c)

-- n numbers from i on
unfoldable pub range : ℕ → ℕ → List ℕ
range i zero = []
range i (suc n) = i ∷ range (suc i) n

-- row k: what each of the numbers 0 to 255 becomes after k + 1 bytes
unfoldable pub row : ℕ → List ℕ
row k = map (bytes_steps (k + 1)) (range 0 256)

-- n rows from row k on
unfoldable pub rows : ℕ → ℕ → List ℕ
rows k zero = []
rows k (suc n) = row k ++ rows (suc k) n

unfoldable pub crc_table : List ℕ  -- (R51)
crc_table = rows 0 16

-- entry i of row k of a table
abbrev pub entry_of : List ℕ → ℕ → ℕ → ℕ
entry_of t k i = get_or t (k * 256 + i) 0

-- one byte, by the first row
unfoldable pub byte_step_with : List ℕ → ℕ → ℕ → ℕ
byte_step_with t c b = bit_xor (bit_xor c b / 256) (entry_of t 0 (bit_xor c b % 256))

-- all bytes of a list, one after the other
unfoldable pub bytes_with : List ℕ → ℕ → List ℕ → ℕ
bytes_with t c [] = c
bytes_with t c (b ∷ s) = bytes_with t (byte_step_with t c b) s

-- a number of n + 1 bytes, by the rows k to k + n: the highest byte by the first of them
unfoldable pub lanes_with : List ℕ → ℕ → ℕ → ℕ → ℕ
lanes_with t k zero v = entry_of t k v
lanes_with t k (suc n) v = bit_xor (lanes_with t k n (v / 256)) (entry_of t (k + suc n) (v % 256))

-- bytes as a number, least significant first
unfoldable pub little_endian : List ℕ → ℕ
little_endian [] = 0
little_endian (b ∷ s) = little_endian s * 256 + b

-- the first sixteen bytes of a list: the second eight by the first eight rows, the first eight,
-- with the remainder, by the others
unfoldable pub block_with : List ℕ → ℕ → List ℕ → ℕ
block_with t c s = bit_xor (lanes_with t 0 7 (little_endian (take 8 (drop 8 s)))) (lanes_with t 8 7 (bit_xor c (little_endian (take 8 s))))

-- n times sixteen bytes
unfoldable pub blocks_with : List ℕ → ℕ → ℕ → List ℕ → ℕ
blocks_with t zero c s = c
blocks_with t (suc n) c s = blocks_with t n (block_with t c s) (drop 16 s)

-- all bytes of a list: as many times sixteen as there are, then the rest
unfoldable pub run_with : List ℕ → ℕ → List ℕ → ℕ
run_with t c s = bytes_with t (blocks_with t (length s / 16) c s) (drop (length s / 16 * 16) s)

unfoldable pub crc_with : List ℕ → List ℕ → ℕ
crc_with t s = bit_xor (run_with t 0xFFFF_FFFF s) 0xFFFF_FFFF

-- the remainder r that a table gives from a start on, whatever the table; with the table of CRC32C
-- it is the remainder by bits (R51, R198)
pub record PartWith (t : List ℕ) (start : ℕ) (s : List ℕ) (r : ℕ) : Type 0 where
  pub result : r ≡ run_with t start s
  pub by_bits : t ≡ crc_table → r ≡ run start s

-- the checksum r that a table gives, whatever the table; with the table of CRC32C it is CRC32C (R51, R198)
pub record ChecksumWith (t s : List ℕ) (r : ℕ) : Type 0 where
  pub result : r ≡ crc_with t s
  pub by_bits : t ≡ crc_table → r ≡ crc32c s

-- The remainder by a table: the turns of the code's loop, and that by the table of CRC32C it is the
-- remainder by bits.
use mathlib.Core.Path.{◌≡◌, refl, sym, ap, ap₂, ◌∙◌}
use mathlib.Core.List.{List, [], ◌∷◌}
use Prim.Native.Nat.{ℕ, zero, suc, ◌+◌, ◌*◌, ◌/◌, ◌%◌, ◌^◌, ◌≤◌, ◌<◌}
use native.Mathlib.Nat.{mod-lt, pow-suc}
use native.Mathlib.Omega.{arith}
use native.Mathlib.Numerals.{add-one}
use lib.Bits.{bit_xor, xor_shifted, xor_lt, xor_comm}
use lib.Dec.{lit<}
use lib.ListN.{length, take, drop, take-append-drop, length-drop}
use lib.Seq.{length-take-le, take-add}
use Rattle.checksum.specs.Crc32c.{steps, byte_step, run, crc32c}
use Rattle.checksum.specs.Table.{bytes_steps, crc_table, entry_of, byte_step_with, bytes_with, lanes_with, little_endian, block_with, blocks_with, run_with, crc_with}
use Rattle.checksum.specs.Table.{PartWith, ChecksumWith}
use Rattle.wire.specs.Number.{Bytes}
use Rattle.checksum.specs.Meaning.{RunWithTable, CrcWithTable}
use Rattle.checksum.proofs.Xor.{xor_assoc}
use Rattle.checksum.proofs.Linear.{steps_shifted, bytes_steps_xor, bytes_steps_split, byte_step_table, run-word, run-append}
use Rattle.wire.proofs.Fields.{bytes_drop}
use Rattle.checksum.proofs.Words.{bytes_take, take-lt, sixteen_bytes}
use Rattle.checksum.proofs.Rows.{table_rule}
use Rattle.checksum.proofs.Bounds.{run_bound}

-- ---- any table

module _ (t : List ℕ) where
  -- eight bytes, as the code reads them
  pub eight_lanes : (k v : ℕ)
      → bit_xor
      (bit_xor
      (bit_xor
      (bit_xor
      (bit_xor
      (bit_xor
      (bit_xor (entry_of t k (v / 256 / 256 / 256 / 256 / 256 / 256 / 256)) (entry_of t (k + 1) (v / 256 / 256 / 256 / 256 / 256 / 256 % 256)))
      (entry_of t (k + 2) (v / 256 / 256 / 256 / 256 / 256 % 256)))
      (entry_of t (k + 3) (v / 256 / 256 / 256 / 256 % 256)))
      (entry_of t (k + 4) (v / 256 / 256 / 256 % 256)))
      (entry_of t (k + 5) (v / 256 / 256 % 256)))
      (entry_of t (k + 6) (v / 256 % 256)))
      (entry_of t (k + 7) (v % 256))
      ≡ lanes_with t k 7 v
  unfolding lanes_with
  eight_lanes k v = refl

-- ---- the table of CRC32C

entry_at : (k i : ℕ) → k < 16 → i < 256 → entry_of crc_table k i ≡ bytes_steps (suc k) i
entry_at k i hk hi = table_rule.entry k i hk hi ∙ ap (λ (n : ℕ). bytes_steps n i) (add-one k)

low_byte : (v : ℕ) → v % 256 < 256
low_byte v = mod-lt v (lit< tt)

byte_table : (c b : ℕ) → byte_step_with crc_table c b ≡ byte_step c b
unfolding byte_step_with
byte_table c b = ap (bit_xor (bit_xor c b / 256)) (entry_at 0 (bit_xor c b % 256) (lit< tt) (low_byte (bit_xor c b))) ∙ byte_step_table c b

bytes_table : (s : List ℕ) (c : ℕ) → bytes_with crc_table c s ≡ run c s
unfolding bytes_with run
bytes_table [] c = refl
bytes_table (b ∷ s) c = bytes_table s (byte_step_with crc_table c b) ∙ ap (λ (x : ℕ). run x s) (byte_table c b)

lanes_table : (n k v : ℕ) → k + n < 16 → v < 256 ^ suc n → lanes_with crc_table k n v ≡ bytes_steps (suc (k + n)) v
unfolding lanes_with
lanes_table zero k v hk hv = entry_at k v (omega arith) hv ∙ ap (λ (m : ℕ). bytes_steps (suc m) v) (omega arith)
lanes_table (suc n) k v hk hv =
    let e : k + suc n ≡ suc (k + n) = omega arith in
    let w : v < 256 ^ suc n * 256 = rw pow-suc at hv in
    rw e
    (ap₂ bit_xor (lanes_table n k (v / 256) (omega arith) (omega arith)) (entry_at (suc (k + n)) (v % 256) (omega arith) (low_byte v))
    ∙ sym (bytes_steps_split (suc (k + n)) v))

eight_shifted : (a : ℕ) → bytes_steps 8 (a * 2 ^ 64) ≡ a
unfolding bytes_steps steps
eight_shifted a = steps_shifted 64 a

-- sixteen bytes: the second eight after eight steps, the first after sixteen
sixteen : (v w : ℕ) → v < 2 ^ 64 → bit_xor (bytes_steps 8 w) (bytes_steps 16 v) ≡ bytes_steps 16 (w * 2 ^ 64 + v)
unfolding bytes_steps
sixteen v w h =
    ap (λ (x : ℕ). bit_xor (bytes_steps 8 x) (bytes_steps 16 v)) (sym (eight_shifted w))
    ∙ sym (bytes_steps_xor 16 (w * 2 ^ 64) v)
    ∙ ap (bytes_steps 16) (xor_shifted w 64 v h)

-- a remainder added to the first of two words is added to both as one number
xor_below : (c v w : ℕ) → c < 2 ^ 64 → v < 2 ^ 64 → w * 2 ^ 64 + bit_xor c v ≡ bit_xor c (w * 2 ^ 64 + v)
xor_below c v w hc hv =
    sym (xor_shifted w 64 (bit_xor c v) (xor_lt 64 c v hc hv))
    ∙ sym (xor_assoc (w * 2 ^ 64) c v)
    ∙ ap (λ (x : ℕ). bit_xor x v) (xor_comm (w * 2 ^ 64) c)
    ∙ xor_assoc c (w * 2 ^ 64) v
    ∙ ap (bit_xor c) (xor_shifted w 64 v hv)

block_table : (s : List ℕ) (c : ℕ) → 16 ≤ length s → Bytes s → c < 2 ^ 32 → block_with crc_table c s ≡ run c (take 16 s)
unfolding block_with
block_table s c l b h =
    ap₂ bit_xor (lanes_table 7 0 high (lit< tt) high_lt) (lanes_table 7 8 (bit_xor c low) (lit< tt) (xor_lt 64 c low wide low_lt))
    ∙ sixteen (bit_xor c low) high (xor_lt 64 c low wide low_lt)
    ∙ ap (bytes_steps 16) (xor_below c low high wide low_lt ∙ ap (bit_xor c) (sixteen_bytes s l))
    ∙ ap (λ (n : ℕ). bytes_steps n (bit_xor c (little_endian (take 16 s)))) (sym (length-take-le 16 s l))
    ∙ sym (run-word (take 16 s) c (bytes_take 16 s b))
  where
    low : ℕ
    low = little_endian (take 8 s)

    high : ℕ
    high = little_endian (take 8 (drop 8 s))

    wide : c < 2 ^ 64
    wide = omega arith

    low_lt : low < 2 ^ 64
    low_lt = take-lt 8 s (omega arith) (bytes_take 8 s b)

    high_lt : high < 2 ^ 64
    high_lt = take-lt 8 (drop 8 s) (omega (arith, length-drop 8 s)) (bytes_take 8 (drop 8 s) (bytes_drop 8 s b))

blocks_table : (n : ℕ) (s : List ℕ) (c : ℕ) → n * 16 ≤ length s → Bytes s → c < 2 ^ 32 → blocks_with crc_table n c s ≡ run c (take (n * 16) s)
unfolding blocks_with run
blocks_table zero s c l b h = refl
blocks_table (suc n) s c l b h =
    let e : suc n * 16 ≡ 16 + n * 16 = omega arith in
    ap (λ (x : ℕ). blocks_with crc_table n x (drop 16 s)) (block_table s c (omega arith) b h)
    ∙ blocks_table n (drop 16 s) (run c (take 16 s)) (omega (arith, length-drop 16 s)) (bytes_drop 16 s b) (run_bound (take 16 s) c (bytes_take 16 s b) h)
    ∙ sym (run-append (take 16 s) (take (n * 16) (drop 16 s)) c)
    ∙ ap (run c) (sym (take-add 16 (n * 16) s))
    ∙ ap (λ (m : ℕ). run c (take m s)) (sym e)

pub run_with_table : RunWithTable
unfolding run_with
run_with_table s c b h =
    bytes_table (drop (length s / 16 * 16) s) (blocks_with crc_table (length s / 16) c s)
    ∙ ap (λ (x : ℕ). run x (drop (length s / 16 * 16) s)) (blocks_table (length s / 16) s c (omega arith) b h)
    ∙ sym (run-append (take (length s / 16 * 16) s) (drop (length s / 16 * 16) s) c)
    ∙ ap (run c) (take-append-drop (length s / 16 * 16) s)

pub crc_with_table : CrcWithTable
unfolding crc_with crc32c
crc_with_table s b = ap (λ (x : ℕ). bit_xor x 0xFFFF_FFFF) (run_with_table s 0xFFFF_FFFF b (lit< tt))

-- what the code's remainder is, from what its loop and the slice say
pub part_with : (t s : List ℕ) (start r : ℕ) → Bytes s → start < 2 ^ 32 → r ≡ run_with t start s → PartWith t start s r
part_with t s start r b h e = record { result = e; by_bits = λ p. e ∙ ap (λ (l : List ℕ). run_with l start s) p ∙ run_with_table s start b h }

-- the checksum, from the remainder that is started and finished with all ones
pub checksum_with : {t s : List ℕ} {r : ℕ} → PartWith t 0xFFFF_FFFF s r → ChecksumWith t s (bit_xor r 0xFFFF_FFFF)
unfolding crc_with crc32c
checksum_with p =
    record { result = ap (λ (x : ℕ). bit_xor x 0xFFFF_FFFF) p.result; by_bits = λ e. ap (λ (x : ℕ). bit_xor x 0xFFFF_FFFF) (p.by_bits e) }

-- The rule of the table at each entry, and the table from what it has at the powers of two.
use mathlib.Core.Path.{◌≡◌, refl, sym, ap, ap₂, ◌∙◌}
use mathlib.Core.List.{List, [], ◌∷◌, ◌++◌, map, map-append}
use Prim.Native.Nat.{ℕ, zero, suc, ◌+◌, ◌*◌, ◌^◌, ◌≤◌, ◌<◌}
use native.Mathlib.Nat.{add-zero, zero-add, suc-add, pow-suc}
use native.Mathlib.Omega.{arith}
use native.Mathlib.Numerals.{add-one}
use lib.ListN.{length, get_or, length-append, get_or-append}
use lib.Seq.{get_or-append-add}
use lib.Bits.{bit_xor, xor_shifted}
use Rattle.checksum.specs.Crc32c.{bit_step, steps}
use Rattle.checksum.specs.Table.{bytes_steps, range, row, rows, crc_table}
use Rattle.checksum.specs.Meaning.{TableRule}
use Rattle.checksum.proofs.Linear.{bytes_steps_xor, bytes_steps_last}

mapped_length : (f : ℕ → ℕ) (n i : ℕ) → length (map f (range i n)) ≡ n
unfolding range
mapped_length f zero i = refl
mapped_length f (suc n) i = ap suc (mapped_length f n (suc i))

mapped_at : (f : ℕ → ℕ) (n i k : ℕ) → k < n → get_or (map f (range i n)) k 0 ≡ f (i + k)
unfolding range
mapped_at f zero i k h = absurd (omega arith)
mapped_at f (suc n) i zero h = ap f (omega arith)
mapped_at f (suc n) i (suc k) h = mapped_at f n (suc i) k (omega arith) ∙ ap f (omega arith)

row-length : (k : ℕ) → length (row k) ≡ 256
unfolding row
row-length k = mapped_length (bytes_steps (k + 1)) 256 0

row_at_lem : (k i : ℕ) → i < 256 → get_or (row k) i 0 ≡ bytes_steps (k + 1) i
unfolding row
row_at_lem k i h = mapped_at (bytes_steps (k + 1)) 256 0 i h ∙ ap (bytes_steps (k + 1)) (zero-add i)

rows-length : (n k : ℕ) → length (rows k n) ≡ n * 256
unfolding rows
rows-length zero k = refl
rows-length (suc n) k = omega (arith, length-append (row k) (rows (suc k) n), row-length k, rows-length n (suc k))

rows_at : (n k j i : ℕ) → j < n → i < 256 → get_or (rows k n) (j * 256 + i) 0 ≡ bytes_steps (k + j + 1) i
unfolding rows
rows_at zero k j i hj hi = absurd (omega arith)
rows_at (suc n) k zero i hj hi =
    ap (λ (m : ℕ). get_or (row k ++ rows (suc k) n) m 0) (zero-add i)
    ∙ get_or-append (row k) (rows (suc k) n) 0 i (omega (arith, row-length k))
    ∙ row_at_lem k i hi
    ∙ ap (λ (m : ℕ). bytes_steps (m + 1) i) (sym (add-zero k))
rows_at (suc n) k (suc j) i hj hi =
    ap (λ (m : ℕ). get_or (row k ++ rows (suc k) n) m 0) e
    ∙ get_or-append-add (row k) (rows (suc k) n) (j * 256 + i) 0
    ∙ rows_at n (suc k) j i (omega arith) hi
    ∙ ap (λ (m : ℕ). bytes_steps m i) f
  where
    e : suc j * 256 + i ≡ length (row k) + (j * 256 + i)
    e = omega (arith, row-length k)

    f : suc k + j + 1 ≡ k + suc j + 1
    f = omega arith

pub table_rule : TableRule
unfolding crc_table
table_rule = record { size = rows-length 16 0; entry = λ k i hk hi. rows_at 16 0 k i hk hi ∙ ap (λ (m : ℕ). bytes_steps (m + 1) i) (zero-add k) }

-- ---- the table from eight numbers: a row is linear, so what it has at the powers of two spans it

-- at i the sum of the numbers that the digits of i choose, the last number for the lowest digit
unfoldable pub spanned : List ℕ → List ℕ
spanned [] = 0 ∷ []
spanned (x ∷ b) = doubled (spanned b) x
  where
    doubled : List ℕ → ℕ → List ℕ
    doubled l x = l ++ map (bit_xor x) l

-- n rows, by what spans the first
unfoldable pub spanned_rows : ℕ → List ℕ → List ℕ
spanned_rows zero b = []
spanned_rows (suc n) b = spanned b ++ spanned_rows n (map (steps 8) b)

-- 2^(j − 1) down to 1
unfoldable pub powers : ℕ → List ℕ
powers zero = []
powers (suc j) = 2 ^ j ∷ powers j

range-append : (m n i : ℕ) → range i (m + n) ≡ range i m ++ range (i + m) n
unfolding range
range-append zero n i = ap₂ range (sym (add-zero i)) (zero-add n)
range-append (suc m) n i =
    let e : suc i + m ≡ i + suc m = omega arith in
    rw (suc-add m n) (ap (λ (l : List ℕ). i ∷ l) (rw e at (range-append m n (suc i))))

module _ (f : ℕ → ℕ) (linear : (a b : ℕ) → f (bit_xor a b) ≡ bit_xor (f a) (f b)) (none : f 0 ≡ 0) where
  -- from 2^j on: what the numbers below it become, with what it becomes itself
  upper : (j n i : ℕ) → i + n ≤ 2 ^ j → map f (range (2 ^ j + i) n) ≡ map (bit_xor (f (2 ^ j))) (map f (range i n))
  unfolding range
  upper j zero i h = refl
  upper j (suc n) i h =
      let e : 1 * 2 ^ j ≡ 2 ^ j = omega arith in
      let s : 2 ^ j + suc i ≡ suc (2 ^ j + i) = omega arith in
      let x : bit_xor (2 ^ j) i ≡ 2 ^ j + i = rw e at (xor_shifted 1 j i (omega arith)) in
      ap₂ ◌∷◌ (ap f (sym x) ∙ linear (2 ^ j) i) (rw s at (upper j n (suc i) (omega arith)))

  span_range : (j : ℕ) → spanned (map f (powers j)) ≡ map f (range 0 (2 ^ j))
  unfolding spanned powers range
  span_range zero = ap (λ (x : ℕ). x ∷ []) (sym none)
  span_range (suc j) =
      let n : ℕ = 2 ^ j in
      let e : 2 ^ suc j ≡ n + n = pow-suc 2 j ∙ omega arith in
      let u : map f (range n n) ≡ map (bit_xor (f n)) (map f (range 0 n)) = rw add-zero at (upper j n 0 (omega arith)) in
      let r : range 0 (2 ^ suc j) ≡ range 0 n ++ range n n = rw e (rw (zero-add n) at (range-append n n 0)) in
      rw (span_range j, r) (ap (λ (l : List ℕ). map f (range 0 n) ++ l) (sym u) ∙ sym (map-append f (range 0 n) (range n n)))

steps_zero : (n : ℕ) → bytes_steps n 0 ≡ 0
unfolding bytes_steps steps bit_step
steps_zero zero = refl
steps_zero (suc n) = steps_zero n

row_spanned : (k : ℕ) → spanned (map (bytes_steps (k + 1)) (powers 8)) ≡ row k
unfolding row
row_spanned k = span_range (bytes_steps (k + 1)) (bytes_steps_xor (k + 1)) (steps_zero (k + 1)) 8

next_row : (k : ℕ) (b : List ℕ) → map (steps 8) (map (bytes_steps (k + 1)) b) ≡ map (bytes_steps (suc k + 1)) b
next_row k [] = refl
next_row k (x ∷ b) = ap₂ ◌∷◌ (rw (add-one k, add-one (suc k)) (sym (bytes_steps_last (suc k) x))) (next_row k b)

rows_spanned : (n k : ℕ) → spanned_rows n (map (bytes_steps (k + 1)) (powers 8)) ≡ rows k n
unfolding spanned_rows rows
rows_spanned zero k = refl
rows_spanned (suc n) k = ap₂ ◌++◌ (row_spanned k) (ap (spanned_rows n) (next_row k (powers 8)) ∙ rows_spanned n (suc k))

pub spanned_table : spanned_rows 16 (map (steps 8) (powers 8)) ≡ crc_table
unfolding crc_table bytes_steps
spanned_table = rows_spanned 16 0

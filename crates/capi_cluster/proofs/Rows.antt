-- The words of a peer table, row by row.
use mathlib.Core.Path.{◌≡◌, refl, sym, ap, ◌∙◌}
use mathlib.Core.Logic.{inl, inr}
use mathlib.Core.Bool.{true, false, ◌&&◌, true≢false}
use mathlib.Core.List.Memᴰ.{append_left as left_in}
use mathlib.Core.List.Memᴰ.{append_right as right-in}
use mathlib.Core.List.Memᴰ.{head}
use mathlib.Core.List.{List, [], ◌∷◌, ◌++◌, Memᴰ}
use Prim.Native.Nat.{ℕ, zero, suc, ◌+◌, ◌-◌, ◌*◌, ◌^◌, ◌≤◌, ◌<◌}
use native.Mathlib.Omega.{arith}
use native.Mathlib.Numerals.{add-one}
use lib.ListN.{length, get_or, set, take, drop, length-append, length-drop, drop_of_length-le}
use lib.Seq.{take-suc, take-suc-set, take_all, drop-cons, drop-set-lt}
use lib.Dec.{ltb, eqb}
use borrow.Author.Tests.{lt-ltb, le-ltb, eq-eqb, ne_eqb, ltb-true, eqb-true, eqb-false}
use borrow.Rule.Slice.PartMut.{put_mid}
use Rattle.wire.proofs.Tests.{test, and-true}
use Rattle.wire.proofs.Writing.{Written}
use Rattle.frame.proofs.Buffers.{write_part}
use Rattle.peers.specs.declared.Row.{Row}
use Rattle.peers.specs.declared.PeerTable.{PeerTable}
use Rattle.peers.specs.Event.{no_row}
use Rattle.capi_words.specs.Words.{word}
use Rattle.capi_cluster.specs.Words.{row_words, rows_words, table_words, row_at, row_fits, row_of, rows_fit, rows_of, is_table, table_of}
use Rattle.capi_cluster.specs.Meaning.{TableLayout, RowInRange, TableWordsAre}

-- ---- whether a row fits
-- what holds of a row's words
pub record RowParts (k : ℕ) (w : List ℕ) : Type 0 where
  pub id : word w (row_at k) < 2 ^ 8
  pub address : word w (row_at k + 1) < 2 ^ 32
  pub port : word w (row_at k + 2) < 2 ^ 16
  pub state : word w (row_at k + 3) < 2 ^ 8
  pub incarnation : word w (row_at k + 4) < 2 ^ 32

pub row_parts : (k : ℕ) (w : List ℕ) → row_fits k w ≡ true → RowParts k w
unfolding row_fits
row_parts k w h =
    let i = ltb (word w (row_at k)) (2 ^ 8) in
    let a = ltb (word w (row_at k + 1)) (2 ^ 32) in
    let p = ltb (word w (row_at k + 2)) (2 ^ 16) in
    let s = ltb (word w (row_at k + 3)) (2 ^ 8) in
    let n = ltb (word w (row_at k + 4)) (2 ^ 32) in
    let e = and-true (i && a && p && s) n h in
    let f = and-true (i && a && p) s e.0 in
    let g = and-true (i && a) p f.0 in
    let j = and-true i a g.0 in
    record {
      id = ltb-true (word w (row_at k)) (2 ^ 8) j.0;
      address = ltb-true (word w (row_at k + 1)) (2 ^ 32) j.1;
      port = ltb-true (word w (row_at k + 2)) (2 ^ 16) g.1;
      state = ltb-true (word w (row_at k + 3)) (2 ^ 8) f.1;
      incarnation = ltb-true (word w (row_at k + 4)) (2 ^ 32) e.1;
    }

-- ---- all rows
pub fit_more : (w : List ℕ) (k : ℕ) → rows_fit k w ≡ true → row_fits k w ≡ true → rows_fit (k + 1) w ≡ true
unfolding rows_fit
fit_more w k h e = rw (add-one k, e, h)

pub fit_at : (n k : ℕ) (w : List ℕ) → rows_fit n w ≡ true → k < n → row_fits k w ≡ true
unfolding rows_fit
fit_at zero k w h l = absurd (omega arith)
fit_at (suc n) k w h l = elim (test (eqb k n)) [
  | inl e ↦ rw (eqb-true k n e) (and-true (row_fits n w) (rows_fit n w) h).0
  | inr e ↦ fit_at n k w (and-true (row_fits n w) (rows_fit n w) h).1 (omega (arith, eqb-false k n e))
]

pub unfit_rows : (w : List ℕ) (k : ℕ) → k < 10 → row_fits k w ≡ false → false ≡ rows_fit 10 w
unfit_rows w k l e = elim (test (rows_fit 10 w)) [
  | inl f ↦ absurd (true≢false (sym (fit_at 10 k w f l) ∙ e))
  | inr f ↦ sym f
]

pub fit_all : (w : List ℕ) (k : ℕ) → 10 ≤ k → k ≤ 10 → rows_fit k w ≡ true → true ≡ rows_fit 10 w
fit_all w k a b f = let i : k ≡ 10 = omega arith in sym (rw i at f)

-- ---- a table
module _ (w : List ℕ) where
  pub no_table_length : (length w ≡ 61 → ⊥) → false ≡ is_table w
  unfolding is_table
  no_table_length h = rw (ne_eqb (length w) 61 h)

  module _ (n : length w ≡ 61) where
    pub no_table_count : 256 ≤ word w 0 → false ≡ is_table w
    unfolding is_table
    no_table_count h = rw (eq-eqb (length w) 61 n, le-ltb (word w 0) (2 ^ 8) h)

    pub table_rows : word w 0 < 256 → rows_fit 10 w ≡ is_table w
    unfolding is_table
    table_rows h = rw (eq-eqb (length w) 61 n, lt-ltb (word w 0) (2 ^ 8) h)

-- what holds of a table's words
pub record TableParts (w : List ℕ) : Type 0 where
  pub size : length w ≡ 61
  pub count : word w 0 < 2 ^ 8
  pub rows : rows_fit 10 w ≡ true

pub table_parts : (w : List ℕ) → is_table w ≡ true → TableParts w
unfolding is_table
table_parts w h =
    let a = and-true (eqb (length w) 61 && ltb (word w 0) (2 ^ 8)) (rows_fit 10 w) h in
    let b = and-true (eqb (length w) 61) (ltb (word w 0) (2 ^ 8)) a.0 in
    record { size = eqb-true (length w) 61 b.0; count = ltb-true (word w 0) (2 ^ 8) b.1; rows = a.1 }

-- ---- rows read one after the other
pub read_next : (w : List ℕ) (rows : List Row) (k : ℕ) (r : Row) → k < length rows → take k rows ≡ rows_of k w → r ≡ row_of k w
    → take (k + 1) (set rows k r) ≡ rows_of (k + 1) w
unfolding rows_of
read_next w rows k r h e i = rw (add-one k, take-suc-set rows k r h, e, i)

pub table_read : (w : List ℕ) (rows : List Row) (k : ℕ) → 10 ≤ k → k ≤ 10 → length rows ≡ 10 → take k rows ≡ rows_of k w
    → record { rows = rows; count = word w 0 } ≡ table_of w
unfolding table_of
table_read w rows k a b n e =
    let i : k ≡ 10 = omega arith in
    rw (sym (take_all 10 rows (omega arith)) ∙ (rw i at e))

-- ---- rows written one after the other
rows_append : (r s : List Row) → rows_words (r ++ s) ≡ rows_words r ++ rows_words s
unfolding rows_words
rows_append [] s = refl
rows_append (a ∷ r) s = ap (λ (l : List ℕ). row_words a ++ l) (rows_append r s)

rows_next : (rows : List Row) (k : ℕ) → k < length rows → rows_words (take (k + 1) rows) ≡ rows_words (take k rows) ++ row_words (get_or rows k no_row)
unfolding rows_words
rows_next rows k h = rw (add-one k, take-suc rows k no_row h) (rows_append (take k rows) (get_or rows k no_row ∷ []))

-- the words up to row k
abbrev pub words_to : PeerTable → ℕ → List ℕ
words_to t k = t.count ∷ rows_words (take k t.rows)

pub written-length : {a : ℕ} {p s₀ s : List ℕ} → Written a p s₀ s → a ≤ length s₀ → length s ≡ length s₀
written-length {a} {p} {s₀} {s} w h = ap length w.is ∙ length-append p (drop a s₀) ∙ omega (arith, length-drop a s₀, w.long)

pub write_none : (t : PeerTable) (out : List ℕ) → 61 ≤ length out → Written (row_at 0) (words_to t 0) (set out 0 t.count) (set out 0 t.count)
unfolding rows_words
write_none t [] h = absurd (omega arith)
write_none t (a ∷ out) h = record { is = refl; long = refl }

pub write_row : (t : PeerTable) (k : ℕ) (out₀ out ys : List ℕ) → k < length t.rows → row_at (k + 1) ≤ length out₀ → Written (row_at k) (words_to t k) out₀ out
    → ys ≡ row_words (get_or t.rows k no_row)
    → Written (row_at (k + 1)) (words_to t (k + 1)) out₀ (put_mid (row_at k) (row_at k + 6 - row_at k) out ys)
write_row t k out₀ out ys h l w e =
    let r = row_words (get_or t.rows k no_row) in
    let a : row_at k + 6 ≡ row_at (k + 1) = omega arith in
    let z = write_part (λ n. r) (row_at k) 6 (row_at k + 6) (words_to t k) out₀ out ys refl (omega arith) refl w e in
    rw (← a, rows_next t.rows k h) z

pub write_all : (t : PeerTable) (k : ℕ) (out₀ out : List ℕ) → length t.rows ≡ 10 → 10 ≤ k → k ≤ 10
    → Written (row_at k) (words_to t k) (set out₀ 0 t.count) out → out ≡ table_words t ++ drop 61 out₀
unfolding table_words
write_all t k out₀ out n a b w =
    let e : k ≡ 10 = omega arith in
    rw (take_all 10 t.rows (omega arith), drop-set-lt 61 out₀ 0 t.count (omega arith)) at (rw e at w.is)

-- ---- the layout of a table
-- n words from the i-th on
abbrev words_from : ℕ → ℕ → List ℕ → List ℕ
words_from i zero w = []
words_from i (suc n) w = word w i ∷ words_from (suc i) n w

words_all : (n i : ℕ) (w : List ℕ) → i + n ≡ length w → words_from i n w ≡ drop i w
words_all zero i w h = sym (drop_of_length-le w {i = i} (omega arith))
words_all (suc n) i w h = ap (λ (l : List ℕ). word w i ∷ l) (words_all n (suc i) w (omega arith)) ∙ sym (drop-cons w i 0 (omega arith))

table_same : (w : List ℕ) → length w ≡ 61 → table_words (table_of w) ≡ w
unfolding table_words table_of rows_words rows_of row_of
table_same w h = words_all 61 0 w (sym h)

ten_rows : (x : ℕ) (rows : List Row) → length rows ≡ 10 → rows_of 10 (x ∷ rows_words rows) ≡ rows
unfolding rows_words rows_of row_of
ten_rows x [] n = absurd (omega arith)
ten_rows x (a ∷ []) n = absurd (omega arith)
ten_rows x (a ∷ b ∷ []) n = absurd (omega arith)
ten_rows x (a ∷ b ∷ c ∷ []) n = absurd (omega arith)
ten_rows x (a ∷ b ∷ c ∷ d ∷ []) n = absurd (omega arith)
ten_rows x (a ∷ b ∷ c ∷ d ∷ e ∷ []) n = absurd (omega arith)
ten_rows x (a ∷ b ∷ c ∷ d ∷ e ∷ f ∷ []) n = absurd (omega arith)
ten_rows x (a ∷ b ∷ c ∷ d ∷ e ∷ f ∷ g ∷ []) n = absurd (omega arith)
ten_rows x (a ∷ b ∷ c ∷ d ∷ e ∷ f ∷ g ∷ h ∷ []) n = absurd (omega arith)
ten_rows x (a ∷ b ∷ c ∷ d ∷ e ∷ f ∷ g ∷ h ∷ i ∷ []) n = absurd (omega arith)
ten_rows x (a ∷ b ∷ c ∷ d ∷ e ∷ f ∷ g ∷ h ∷ i ∷ j ∷ []) n = refl
ten_rows x (a ∷ b ∷ c ∷ d ∷ e ∷ f ∷ g ∷ h ∷ i ∷ j ∷ k ∷ l) n = absurd (omega arith)

pub table_layout : TableLayout
unfolding table_words table_of
table_layout =
    record {
      back = λ t n. ap (λ (l : List Row). record { rows = l; count = t.count }) (ten_rows t.count t.rows n);
      same = λ w h. table_same w (table_parts w h).size;
    }

-- ---- the words of a table are a table
row_in_range : (k : ℕ) (w : List ℕ) → RowInRange (row_of k w) → row_fits k w ≡ true
unfolding row_of row_fits
row_in_range k w r = rw (lt-ltb _ _ r.id, lt-ltb _ _ r.address, lt-ltb _ _ r.port, lt-ltb _ _ r.state, lt-ltb _ _ r.incarnation)

rows_in_range_lem : (n : ℕ) (w : List ℕ) → ((r : Row) → Memᴰ r (rows_of n w) → RowInRange r) → rows_fit n w ≡ true
unfolding rows_fit rows_of
rows_in_range_lem zero w f = refl
rows_in_range_lem (suc n) w f =
    let last = row_in_range n w (f (row_of n w) (right-in (rows_of n w) (head refl))) in
    rw last (rows_in_range_lem n w (λ r m. f r (left_in (row_of n w ∷ []) m)))

length-rows : (rows : List Row) → length (rows_words rows) ≡ 6 * length rows
unfolding rows_words
length-rows [] = refl
length-rows (r ∷ rows) = omega (arith, length-rows rows)

pub table_words_are : TableWordsAre
unfolding table_words
table_words_are t r =
    let w = table_words t in
    let n : length w ≡ 61 = omega (arith, length-rows t.rows, r.ten) in
    let each : (x : Row) → Memᴰ x (rows_of 10 w) → RowInRange x = rw (ten_rows t.count t.rows r.ten) r.each in
    sym (table_rows w n r.count) ∙ rows_in_range_lem 10 w each

-- ---- six places, each set
pub six_set : (l : List ℕ) (a b c d e f : ℕ) → length l ≡ 6 → set (set (set (set (set (set l 0 a) 1 b) 2 c) 3 d) 4 e) 5 f
    ≡ a ∷ b ∷ c ∷ d ∷ e ∷ f ∷ []
six_set (x0 ∷ x1 ∷ x2 ∷ x3 ∷ x4 ∷ x5 ∷ []) a b c d e f h = refl
six_set (x0 ∷ x1 ∷ x2 ∷ x3 ∷ x4 ∷ x5 ∷ x6 ∷ l) a b c d e f h = absurd (omega (arith, h))
six_set (x0 ∷ x1 ∷ x2 ∷ x3 ∷ x4 ∷ []) a b c d e f h = absurd (omega (arith, h))
six_set (x0 ∷ x1 ∷ x2 ∷ x3 ∷ []) a b c d e f h = absurd (omega (arith, h))
six_set (x0 ∷ x1 ∷ x2 ∷ []) a b c d e f h = absurd (omega (arith, h))
six_set (x0 ∷ x1 ∷ []) a b c d e f h = absurd (omega (arith, h))
six_set (x0 ∷ []) a b c d e f h = absurd (omega (arith, h))
six_set [] a b c d e f h = absurd (omega (arith, h))

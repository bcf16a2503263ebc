-- What a loop over the rows of a table knows at a row.
use Prim.Native.Nat.{ℕ, suc, ◌+◌, ◌-◌, ◌≤◌, ◌<◌}
use native.Mathlib.Numerals.{add-one, one-add}
use native.Mathlib.Omega.{arith}
use mathlib.Core.Path.{◌≡◌, refl, sym, ap}
use mathlib.Core.Bool.{Bool, true, false, cond, true≢false}
use mathlib.Core.List.{List, [], ◌∷◌}
use lib.ListN.{length, get_or, take, drop, length-take, length-drop, drop_of_length-le}
use lib.Seq.{drop-cons, get_or-take, take_all}
use lib.Dec.{eqb, ltb}
use borrow.Author.Tests.{ltb-true, ltb-false}
use Rattle.wire.proofs.Tests.{cases}
use Rattle.peers.specs.declared.Row.{Row}
use Rattle.peers.specs.declared.PeerTable.{PeerTable}
use Rattle.peers.specs.Row.{in_range}
use Rattle.peers.specs.Table.{rows_of, has_row, distinct, rows_in_range}
use Rattle.std.specs.Prelude.{Option, unwrap_or, Some, None, position, IsTrue, ◌↔◌, All, Any}
use Rattle.std.specs.List.{position_or_len, list_all, list_any}
use Rattle.std.proofs.lemmas.List.Sums.{AllPass-from_list_all, list_all-from_AllPass}
use Rattle.std.proofs.lemmas.List.Folds.{Any-from_list_any, list_any-from_Any}
use Rattle.std.proofs.lemmas.List.Recursion.{is_position_or_len}
use Rattle.peers.specs.Event.{no_row}

-- how many rows stand before the first with that id
unfoldable pub index_of : ℕ → List Row → ℕ
index_of i [] = 0
index_of i (r ∷ rows) = cond (eqb r.id i) 0 (suc (index_of i rows))

-- a row is found exactly if its index is below the length
pub found : (i : ℕ) (rows : List Row) → index_of i rows < length rows → has_row i rows ≡ true
unfolding index_of has_row
found i [] h = absurd (omega arith)
found i (r ∷ rows) h =
    cases (eqb r.id i)
    (λ p. rw p)
    (λ p. rw p (found i rows (let h' : suc (index_of i rows) < suc (length rows) = rw p at h in omega arith)))

pub not_found_lem : (i : ℕ) (rows : List Row) → length rows ≤ index_of i rows → has_row i rows ≡ false
unfolding index_of has_row
not_found_lem i [] h = refl
not_found_lem i (r ∷ rows) h =
    cases (eqb r.id i)
    (λ p. absurd (let h' : suc (length rows) ≤ 0 = rw p at h in omega arith))
    (λ p. rw p (not_found_lem i rows (let h' : suc (length rows) ≤ suc (index_of i rows) = rw p at h in omega arith)))

-- the number of rows
pub all_ten : (t : PeerTable) → length t.rows ≡ 10 → 10 < t.count → 10 ≡ length (rows_of t)
all_ten t e h = omega (arith, length-take t.count t.rows)

pub as_counted : (t : PeerTable) → length t.rows ≡ 10 → t.count ≤ 10 → t.count ≡ length (rows_of t)
as_counted t e h = omega (arith, length-take t.count t.rows)

pub row_at_lem : (t : PeerTable) (k : ℕ) → k < length (rows_of t) → get_or (rows_of t) k no_row ≡ get_or t.rows k no_row
row_at_lem t k h = get_or-take t.count t.rows k no_row (omega (arith, length-take t.count t.rows))

module _ (rows : List Row) (k : ℕ) where
  pub distinct_past : length rows ≤ k → distinct (drop k rows) ≡ true
  unfolding distinct
  distinct_past h = rw (drop_of_length-le rows h)

  module _ (h : k < length rows) where
    pub next_row : drop k rows ≡ get_or rows k no_row ∷ drop (k + 1) rows
    next_row = rw (add-one k, drop-cons rows k no_row h)

    pub distinct_stop : has_row (get_or rows k no_row).id (take (length rows - (k + 1)) (drop (k + 1) rows)) ≡ true → distinct (drop k rows) ≡ false
    unfolding distinct
    distinct_stop e = rw (next_row, rw (take_all (length rows - (k + 1)) (drop (k + 1) rows) (omega (arith, length-drop (k + 1) rows))) at e)

    pub distinct_next : has_row (get_or rows k no_row).id (take (length rows - (k + 1)) (drop (k + 1) rows)) ≡ false
        → distinct (drop k rows) ≡ distinct (drop (k + 1) rows)
    unfolding distinct
    distinct_next e = rw (next_row, rw (take_all (length rows - (k + 1)) (drop (k + 1) rows) (omega (arith, length-drop (k + 1) rows))) at e)

-- what a search for an id finds: the index of its first row, or that it has none
index_by_test : (i : ℕ) (rows : List Row) → index_of i rows ≡ position_or_len (λ (r : Row). eqb r.id i) rows
unfolding index_of
index_by_test i = is_position_or_len (index_of i) (λ (r : Row). eqb r.id i) refl (λ r rows. rw (one-add (index_of i rows)))

pub place_found : (i : ℕ) (rows : List Row) (k : ℕ) → Some k ≡ position (λ (r : Row). eqb r.id i) rows → (k ≡ index_of i rows) × (k < length rows)
place_found i rows k e =
    let by_index = rw (← index_by_test i rows) at e in
    cases (ltb (index_of i rows) (length rows))
    (λ p.
    let same : k ≡ index_of i rows = ap (λ (o : Option ℕ). unwrap_or o 0) (rw p at by_index) in
    (same, omega (arith, ltb-true _ _ p, same)))
    (λ p. grind (arith, p, by_index))

pub place_none : (i : ℕ) (rows : List Row) → None ≡ position (λ (r : Row). eqb r.id i) rows → has_row i rows ≡ false
place_none i rows e =
    let by_index = rw (← index_by_test i rows) at e in
    cases (ltb (index_of i rows) (length rows))
    (λ p. grind (arith, p, by_index))
    (λ p. not_found_lem i rows (ltb-false _ _ p))

-- ---- what a test of each element tells
pub all_told : {A : Type 0} (p : A → Bool) (l : List A) (b : Bool) → IsTrue b ↔ All (λ a. p a ≡ true) l → b ≡ list_all p l
all_told p l true e = sym (list_all-from_AllPass p l (e.0 refl))
all_told p l false e = cases (list_all p l) (λ q. absurd (true≢false (sym (e.1 (AllPass-from_list_all p l q))))) (λ q. sym q)

pub any_told : (p : Row → Bool) (rows : List Row) (b : Bool) → IsTrue b ↔ Any (λ r. p r ≡ true) rows → b ≡ list_any p rows
any_told p rows true e = sym (list_any-from_Any p rows (e.0 refl))
any_told p rows false e = cases (list_any p rows) (λ q. absurd (true≢false (sym (e.1 (Any-from_list_any p rows q))))) (λ q. sym q)

pub has_any : (i : ℕ) (rows : List Row) → list_any (λ (r : Row). eqb r.id i) rows ≡ has_row i rows
unfolding has_row
has_any i [] = refl
has_any i (r ∷ rows) = rw (has_any i rows)

pub range_all : (rows : List Row) → list_all in_range rows ≡ rows_in_range rows
unfolding rows_in_range
range_all [] = refl
range_all (r ∷ rows) = rw (range_all rows)

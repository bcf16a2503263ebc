-- What a refusal leaves, and what stands past the last row.
use Prim.Native.Nat.{ℕ, suc, ◌+◌, ◌≤◌, ◌<◌}
use native.Mathlib.Nat.{le_of_lt}
use native.Mathlib.Omega.{arith}
use mathlib.Core.Path.{◌≡◌, refl, ap}
use mathlib.Core.List.{List, [], ◌∷◌, ◌++◌, append-nil}
use lib.ListN.{length, drop, length-take, length-map, drop_of_length-le}
use lib.Seq.{take_at, drop_at, take_all, drop-set-lt}
use lib.Dec.{eqb, leb}
use borrow.Author.Tests.{eq-eqb, ne_eqb, eqb-true, leb-true, leb-false}
use Rattle.peers.specs.declared.Row.{Row}
use Rattle.peers.specs.declared.PeerTable.{PeerTable}
use Rattle.peers.specs.Row.{new_row, heard_row, reported_row, tick_row}
use Rattle.peers.specs.Table.{rows_of, on_row, on_others}
use Rattle.peers.specs.Event.{unless_refused, with_rows, added_table, add_answer, after_add, heard_answer, after_heard, reported_answer, after_reported}
use Rattle.peers.specs.Event.{tick_answer, after_tick}
use Rattle.peers.specs.Meaning.{RefusalsKeepTheTable, RowsPastTheLastKept}
use Rattle.wire.proofs.Tests.{cases}

module _ (n : ℕ) (t u : PeerTable) where
  pub if_refused : (n ≡ 0 → ⊥) → unless_refused n t u ≡ t
  unfolding unless_refused
  if_refused h = rw (ne_eqb n 0 h)

  pub if_done : n ≡ 0 → unless_refused n t u ≡ u
  unfolding unless_refused
  if_done e = rw (eq-eqb n 0 e)

  -- what holds of the table that came in, and of the changed one after an answer of 0, holds of the
  -- table after
  pub either_way : (P : PeerTable → Type 0) → P t → (n ≡ 0 → P u) → P (unless_refused n t u)
  unfolding unless_refused
  either_way P p q = cases (eqb n 0) (λ e. rw e (q (eqb-true n 0 e))) (λ e. rw e p)

pub refusals_keep_the_table : RefusalsKeepTheTable
unfolding after_add after_heard after_reported after_tick
refusals_keep_the_table =
    record {
      add = λ i a p n now t h. if_refused (add_answer i now t) t (added_table (new_row i a p n now) t) h;
      heard = λ i n now t h. if_refused (heard_answer i n now t) t (with_rows (on_row i (heard_row n now)) t) h;
      reported = λ i s n now t h. if_refused (reported_answer i s n now t) t (with_rows (on_row i (reported_row s n now)) t) h;
      tick = λ now t h. if_refused (tick_answer now t) t (with_rows (on_others (tick_row now)) t) h;
    }

-- ---- rows changed one for one
pub length_on_row : (i : ℕ) (f : Row → Row) (rows : List Row) → length (on_row i f rows) ≡ length rows
unfolding on_row
length_on_row i f [] = refl
length_on_row i f (r ∷ rows) = cases (eqb r.id i) (λ e. rw e) (λ e. rw (e, length_on_row i f rows))

pub length_on_others : (f : Row → Row) (rows : List Row) → length (on_others f rows) ≡ length rows
unfolding on_others
length_on_others f [] = refl
length_on_others f (own ∷ rows) = ap suc (length-map rows f)

module _ (t : PeerTable) (g : List Row → List Row) (e : length (g (rows_of t)) ≡ length (rows_of t)) where
  short : t.count ≤ length t.rows → length (g (rows_of t)) ≡ t.count
  short l = omega (arith, length-take t.count t.rows)

  none : length t.rows < t.count → drop t.count t.rows ≡ []
  none l = drop_of_length-le t.rows (le_of_lt l)

  long : length t.rows < t.count → g (rows_of t) ++ drop t.count t.rows ≡ g (rows_of t)
  long l = rw (none l) (append-nil (g (rows_of t)))

  within : length t.rows < t.count → length (g (rows_of t)) ≤ t.count
  within l = omega (arith, length-take t.count t.rows)

  pub rows-changed : rows_of (with_rows g t) ≡ g (rows_of t)
  unfolding with_rows
  rows-changed =
      cases (leb t.count (length t.rows))
      (λ b. take_at (g (rows_of t)) (drop t.count t.rows) t.count (short (leb-true _ _ b)))
      (λ b. rw (long (leb-false _ _ b)) (take_all t.count (g (rows_of t)) (within (leb-false _ _ b))))

  past_changed : drop t.count (with_rows g t).rows ≡ drop t.count t.rows
  unfolding with_rows
  past_changed =
      cases (leb t.count (length t.rows))
      (λ b. drop_at (g (rows_of t)) (drop t.count t.rows) t.count (short (leb-true _ _ b)))
      (λ b. let l = leb-false _ _ b in rw (long l, none l) (drop_of_length-le (g (rows_of t)) (within l)))

abbrev PastKept : PeerTable → PeerTable → Type 0
PastKept t u = drop u.count u.rows ≡ drop u.count t.rows

pub past_added : (r : Row) (t : PeerTable) → PastKept t (added_table r t)
unfolding added_table
past_added r t = drop-set-lt (t.count + 1) t.rows t.count r (omega arith)

pub rows_past_the_last_kept : RowsPastTheLastKept
unfolding after_add after_heard after_reported after_tick with_rows
rows_past_the_last_kept =
    record {
      add = λ i a p n now t. either_way (add_answer i now t) t (added_table (new_row i a p n now) t) (PastKept t) refl (λ z. past_added
          (new_row i a p n now) t);
      heard = λ i n now t. either_way (heard_answer i n now t) t (with_rows (on_row i (heard_row n now)) t) (PastKept t) refl
          (λ z. past_changed t (on_row i (heard_row n now)) (length_on_row i (heard_row n now) (rows_of t)));
      reported = λ i s n now t. either_way (reported_answer i s n now t) t (with_rows (on_row i (reported_row s n now)) t) (PastKept t) refl
          (λ z. past_changed t (on_row i (reported_row s n now)) (length_on_row i (reported_row s n now) (rows_of t)));
      tick = λ now t. either_way (tick_answer now t) t (with_rows (on_others (tick_row now)) t) (PastKept t) refl
          (λ z. past_changed t (on_others (tick_row now)) (length_on_others (tick_row now) (rows_of t)));
    }

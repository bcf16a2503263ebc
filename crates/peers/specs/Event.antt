-- The answer of each event and the table after it.
use Rattle.std.specs.Prelude.{ℕ, ◌+◌, ◌≡◌, cond, not, ◌||◌, List, ◌∷◌, ◌++◌, drop, set, replicate, ltb, leb, eqb}
use Rattle.entry.specs.Refusal.{refusal_number}
use Rattle.entry.specs.Entry.{bad_time}
use Rattle.peers.specs.declared.Row.{Row}
use Rattle.peers.specs.declared.PeerTable.{PeerTable}
use Rattle.peers.specs.declared.Changed.{Changed}
use Rattle.peers.specs.Row.{new_row, heard_row, reported_row, tick_row}
use Rattle.peers.specs.Table.{rows_of, has_row, held_incarnation, on_row, on_others, is_own, sound_table}

-- what an event hands back: this table, and an answer with this number (R197, R229)
pub record Gives (c : Changed) (t : PeerTable) (n : ℕ) : Type 0 where
  pub table : c.table ≡ t
  pub answer : refusal_number c.answer ≡ n

-- a refusal hands back the table that came in (R29)
unfoldable pub unless_refused : ℕ → PeerTable → PeerTable → PeerTable
unless_refused n t u = cond (eqb n 0) u t

-- ---- a fresh table: 9
-- a row past the last of a fresh table (R144, R146)
abbrev pub no_row : Row
no_row = record { id = 0; address = 0; port = 0; state = 0; incarnation = 0; last_seen = 0 }

-- what a refused `fresh` hands back: no rows (R146, R198)
abbrev pub empty_table : PeerTable
empty_table = record { rows = replicate 10 no_row; count = 0 }

unfoldable pub fresh_answer : ℕ → ℕ  -- (R26, R43)
fresh_answer now = cond (bad_time now) 9 0

-- the own row alone (R146)
unfoldable pub fresh_table : ℕ → ℕ → ℕ → ℕ → ℕ → PeerTable
fresh_table i a p n now = record { rows = new_row i a p n now ∷ replicate 9 no_row; count = 1 }

unfoldable pub after_fresh : ℕ → ℕ → ℕ → ℕ → ℕ → PeerTable  -- (R146)
after_fresh i a p n now = unless_refused (fresh_answer now) empty_table (fresh_table i a p n now)

-- ---- added: 9, 17, 14, 13 (R20, R21, R44)
unfoldable pub add_answer : ℕ → ℕ → PeerTable → ℕ
add_answer i now t =
    cond (bad_time now) 9
    (cond (not (sound_table t)) 17
    (cond (has_row i (rows_of t)) 14
    (cond (leb 10 t.count) 13
    0)))

unfoldable pub added_table : Row → PeerTable → PeerTable  -- (R152)
added_table r t = record { rows = set t.rows t.count r; count = t.count + 1 }

unfoldable pub after_add : ℕ → ℕ → ℕ → ℕ → ℕ → PeerTable → PeerTable  -- (R152)
after_add i a p n now t = unless_refused (add_answer i now t) t (added_table (new_row i a p n now) t)

-- ---- heard directly, and reported: 9, 17, 15, 11, 12 (R45)
-- the checks of the id's row: 15, 11, 12 (R18, R19, R22)
unfoldable pub row_answer : ℕ → ℕ → List Row → ℕ
row_answer i n rows =
    cond (is_own i rows) 15
    (cond (not (has_row i rows)) 11
    (cond (ltb n (held_incarnation i rows)) 12
    0))

unfoldable pub heard_answer : ℕ → ℕ → ℕ → PeerTable → ℕ
heard_answer i n now t =
    cond (bad_time now) 9
    (cond (not (sound_table t)) 17
    (row_answer i n (rows_of t)))

unfoldable pub reported_answer : ℕ → ℕ → ℕ → ℕ → PeerTable → ℕ
reported_answer i s n now t =
    cond (bad_time now) 9
    (cond (ltb 2 s || not (sound_table t)) 17
    (row_answer i n (rows_of t)))

-- the rows changed, and those past the last as they were (R153, R155, R157)
unfoldable pub with_rows : (List Row → List Row) → PeerTable → PeerTable
with_rows f t = record { rows = f (rows_of t) ++ drop t.count t.rows; count = t.count }

unfoldable pub after_heard : ℕ → ℕ → ℕ → PeerTable → PeerTable  -- (R153)
after_heard i n now t = unless_refused (heard_answer i n now t) t (with_rows (on_row i (heard_row n now)) t)

unfoldable pub after_reported : ℕ → ℕ → ℕ → ℕ → PeerTable → PeerTable  -- (R155)
after_reported i s n now t = unless_refused (reported_answer i s n now t) t (with_rows (on_row i (reported_row s n now)) t)

-- ---- tick: 9, 17 (R46)
unfoldable pub tick_answer : ℕ → PeerTable → ℕ
tick_answer now t =
    cond (bad_time now) 9
    (cond (not (sound_table t)) 17
    0)

unfoldable pub after_tick : ℕ → PeerTable → PeerTable  -- (R157)
after_tick now t = unless_refused (tick_answer now t) t (with_rows (on_others (tick_row now)) t)

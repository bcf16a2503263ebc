-- The rows of a table and when a table is sound.
use Rattle.std.specs.Prelude.{ℕ, Bool, true, false, cond, not, ◌&&◌, ◌||◌, List, [], ◌∷◌, map, take, leb, eqb}
use Rattle.peers.specs.declared.Row.{Row}
use Rattle.peers.specs.declared.PeerTable.{PeerTable}
use Rattle.peers.specs.Row.{in_range}

-- the rows below `count`; of a count over 10, the ten there are (R143, R151)
abbrev pub rows_of : PeerTable → List Row
rows_of t = take t.count t.rows

-- whether an id has a row (R18, R21)
unfoldable pub has_row : ℕ → List Row → Bool
has_row i [] = false
has_row i (r ∷ rows) = eqb r.id i || has_row i rows

-- the incarnation held for an id (R19)
unfoldable pub held_incarnation : ℕ → List Row → ℕ
held_incarnation i [] = 0
held_incarnation i (r ∷ rows) = cond (eqb r.id i) r.incarnation (held_incarnation i rows)

-- the state held for an id
unfoldable pub held_state : ℕ → List Row → ℕ
held_state i [] = 0
held_state i (r ∷ rows) = cond (eqb r.id i) r.state (held_state i rows)

-- the first row of an id changed (R153)
unfoldable pub on_row : ℕ → (Row → Row) → List Row → List Row
on_row i f [] = []
on_row i f (r ∷ rows) = cond (eqb r.id i) (f r ∷ rows) (r ∷ on_row i f rows)

-- every row but the own changed (R157)
unfoldable pub on_others : (Row → Row) → List Row → List Row
on_others f [] = []
on_others f (own ∷ rows) = own ∷ map f rows

-- the own row is the first: the own id is its id (R22, R147)
unfoldable pub is_own : ℕ → List Row → Bool
is_own i [] = false
is_own i (own ∷ rows) = eqb own.id i

-- no id has two rows (R149)
unfoldable pub distinct : List Row → Bool
distinct [] = true
distinct (r ∷ rows) = not (has_row r.id rows) && distinct rows

unfoldable pub own_alive : List Row → Bool  -- (R148)
own_alive [] = false
own_alive (own ∷ rows) = eqb own.state 0

unfoldable pub rows_in_range : List Row → Bool  -- (R150)
rows_in_range [] = true
rows_in_range (r ∷ rows) = in_range r && rows_in_range rows

-- 1 to 10 rows, ids distinct, the own row first and ALIVE, states and times in range (R151)
unfoldable pub sound_table : PeerTable → Bool
sound_table t = leb 1 t.count && leb t.count 10 && distinct (rows_of t) && own_alive (rows_of t) && rows_in_range (rows_of t)

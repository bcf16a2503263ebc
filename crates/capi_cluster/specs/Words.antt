-- A peer table as 61 words.
use Rattle.std.specs.Prelude.{ℕ, zero, suc, ◌+◌, ◌*◌, ◌^◌, Bool, true, ◌&&◌, List, [], ◌∷◌, ◌++◌, length, ltb, eqb}
use Rattle.peers.specs.declared.Row.{Row}
use Rattle.peers.specs.declared.PeerTable.{PeerTable}
use Rattle.capi_words.specs.Words.{word}

-- the number of rows, then ten rows of six words (R238)
-- a row: id, address, port, state, incarnation, last seen (R144)
abbrev pub row_words : Row → List ℕ
row_words r = r.id ∷ r.address ∷ r.port ∷ r.state ∷ r.incarnation ∷ r.last_seen ∷ []

unfoldable pub rows_words : List Row → List ℕ
rows_words [] = []
rows_words (r ∷ rows) = row_words r ++ rows_words rows

unfoldable pub table_words : PeerTable → List ℕ
table_words t = t.count ∷ rows_words t.rows

-- where row k begins
abbrev pub row_at : ℕ → ℕ
row_at k = 1 + 6 * k

-- the words of row k fit their fields
unfoldable pub row_fits : ℕ → List ℕ → Bool
row_fits k w =
    ltb (word w (row_at k)) (2 ^ 8) && ltb (word w (row_at k + 1)) (2 ^ 32) && ltb (word w (row_at k + 2)) (2 ^ 16)
    && ltb (word w (row_at k + 3)) (2 ^ 8) && ltb (word w (row_at k + 4)) (2 ^ 32)

-- row k
unfoldable pub row_of : ℕ → List ℕ → Row
row_of k w = record {
  id = word w (row_at k);
  address = word w (row_at k + 1);
  port = word w (row_at k + 2);
  state = word w (row_at k + 3);
  incarnation = word w (row_at k + 4);
  last_seen = word w (row_at k + 5);
}

-- the words of the first n rows fit
unfoldable pub rows_fit : ℕ → List ℕ → Bool
rows_fit zero w = true
rows_fit (suc n) w = row_fits n w && rows_fit n w

-- the first n rows
unfoldable pub rows_of : ℕ → List ℕ → List Row
rows_of zero w = []
rows_of (suc n) w = rows_of n w ++ row_of n w ∷ []

-- 61 words, and each fits its field, in the rows past the last too (R238)
unfoldable pub is_table : List ℕ → Bool
is_table w = eqb (length w) 61 && ltb (word w 0) (2 ^ 8) && rows_fit 10 w

unfoldable pub table_of : List ℕ → PeerTable
table_of w = record { rows = rows_of 10 w; count = word w 0 }

-- Which ids a table admits.
use Rattle.std.specs.Prelude.{ℕ, zero, suc, Bool, true, false, not, ◌&&◌, ◌||◌, List, [], ◌∷◌, eqb}
use Rattle.peers.specs.declared.Row.{Row}
use Rattle.peers.specs.declared.PeerTable.{PeerTable}
use Rattle.peers.specs.declared.Admission.{Admission}
use Rattle.peers.specs.declared.Admission.TheVariants.{Home, Standing}
use Rattle.peers.specs.Table.{rows_of}

-- HOME admits every peer with a row; STANDING admits those not DOWN (R84, R85)
abbrev pub admits_row : Admission → Row → Bool
admits_row Home r = true
admits_row Standing r = not (eqb r.state 2)

-- some row has the id and is admitted (R84, R85)
unfoldable pub admits_among : Admission → List Row → ℕ → Bool
admits_among a [] i = false
admits_among a (r ∷ rows) i = (eqb r.id i && admits_row a r) || admits_among a rows i

unfoldable pub admits : Admission → PeerTable → ℕ → Bool
admits a t i = admits_among a (rows_of t) i

-- the values of a test at n numbers from k on
unfoldable pub values_from : (ℕ → Bool) → ℕ → ℕ → List Bool
values_from f k zero = []
values_from f k (suc n) = f k ∷ values_from f (suc k) n

-- for each id from 0 to 255, whether it is admitted (R84, R85)
unfoldable pub admitted_flags : Admission → PeerTable → List Bool
admitted_flags a t = values_from (admits a t) 0 256

-- Which delivery of a key wins.
use Rattle.std.specs.Prelude.{ℕ, suc, Bool, true, cond, not, ◌&&◌, List, [], ◌∷◌, Option, None, Some}
use Rattle.wire.specs.Order.{same_bytes}
use Rattle.entry.specs.Entry.{Entry, beats}

-- a delivery of the key k
unfoldable pub is_of : List ℕ → Entry → Bool
is_of k d = same_bytes k d.key

-- no delivery of the key beats e
unfoldable pub unbeaten : List ℕ → List Entry → Entry → Bool
unbeaten k [] e = true
unbeaten k (d ∷ ds) e = not (is_of k d && beats d e) && unbeaten k ds e

-- a delivery and its place in the list, counted from 0 (R246)
pub record Placed : Type 0 where
  pub place : ℕ
  pub entry : Entry

-- the first of some deliveries, from place i on, that is of the key and that none of all of them
-- beats
unfoldable pub first_unbeaten : List ℕ → List Entry → ℕ → List Entry → Option Placed
first_unbeaten k all i [] = None
first_unbeaten k all i (d ∷ ds) = cond (is_of k d && unbeaten k all d) (Some (record { place = i; entry = d })) (first_unbeaten k all (suc i) ds)

-- the winner: the first delivery of the key that no other of the key beats; none where no delivery
-- is of the key (R248)
unfoldable pub winner : List ℕ → List Entry → Option Placed
winner k es = first_unbeaten k es 0 es

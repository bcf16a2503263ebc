-- What the private functions promise.
use Rattle.std.specs.Prelude.{Bool, false, ◌≡◌, List, ◌++◌, map, ℕ, ◌≤◌, length, get_or, take, drop}
use Rattle.ring.specs.Lists.{filter, firsts}
use Rattle.ring.specs.Place.{node}

-- the ring from the place at k on and round
unfoldable pub turned : ℕ → List ℕ → List ℕ
turned k ring = drop k ring ++ take k ring

-- a flag for each node
abbrev pub flagged : List Bool → ℕ → Bool
flagged flags n = get_or flags n false

-- what a walk from the place at k leaves: the nodes taken are the first `count` of `nodes`
pub record Walked (flags : List Bool) (k r : ℕ) (ring nodes : List ℕ) (count : ℕ) : Type 0 where
  pub size : length nodes ≡ 3
  pub most : count ≤ r
  pub taken : take count nodes ≡ take r (firsts (filter (flagged flags) (map node (turned k ring))))

-- The owner walk, from the position x round the ring. `admitted` says which nodes are admitted.
use Rattle.std.specs.Prelude.{Bool, cond, ◌&&◌, List, [], ◌∷◌, ◌++◌, map, ℕ, leb, take}
use Rattle.ring.specs.Lists.{elem, filter, firsts, count_below}
use Rattle.ring.specs.Place.{token, node}

-- the places from the first whose token is at or above x on, and the places before it (R80, R81)
unfoldable pub from : ℕ → List ℕ → List ℕ
from x [] = []
from x (p ∷ ring) = cond (leb x (token p)) (p ∷ ring) (from x ring)

unfoldable pub before : ℕ → List ℕ → List ℕ
before x [] = []
before x (p ∷ ring) = cond (leb x (token p)) [] (p ∷ before x ring)

-- once round from that first place; if there is none, from the first of all (R80, R81)
unfoldable pub around : ℕ → List ℕ → List ℕ
around x ring = from x ring ++ before x ring

-- the nodes of the places in that order (R81)
abbrev pub nodes_around : ℕ → List ℕ → List ℕ
nodes_around x ring = map node (around x ring)

-- each admitted node the first time it is met (R82)
unfoldable pub met : (ℕ → Bool) → ℕ → List ℕ → List ℕ
met admitted x ring = firsts (filter admitted (nodes_around x ring))

-- until r are taken (R82)
unfoldable pub owners_of : (ℕ → Bool) → ℕ → ℕ → List ℕ → List ℕ
owners_of admitted x r ring = take r (met admitted x ring)

-- how many admitted nodes have a place (R17, R86)
unfoldable pub admitted_with_place : (ℕ → Bool) → List ℕ → ℕ
admitted_with_place admitted ring = count_below (λ n. admitted n && elem n (map node ring)) 256

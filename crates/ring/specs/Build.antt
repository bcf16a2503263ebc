-- The ring of some ids with v vnodes each, under the salt s.
use Rattle.std.specs.Prelude.{Bool, cond, not, ◌||◌, List, [], ◌∷◌, ◌++◌, ℕ, zero, suc, ◌*◌, ltb, length}
use Rattle.ring.specs.Answer.{Answer, gives, refuses, written}
use Rattle.ring.specs.Lists.{distinct, sorted}
use Rattle.ring.specs.Place.{place_of}

-- the places of node n, vnodes 0 to v − 1 (R74)
unfoldable pub node_places : ℕ → ℕ → ℕ → List ℕ
node_places n zero s = []
node_places n (suc v) s = place_of n v s ∷ node_places n v s

-- those of all ids (R75)
unfoldable pub places : List ℕ → ℕ → ℕ → List ℕ
places [] v s = []
places (n ∷ ids) v s = node_places n v s ++ places ids v s

-- the ring: all places in ascending order (R77)
unfoldable pub ring_of : List ℕ → ℕ → ℕ → List ℕ
ring_of ids v s = sorted (places ids v s)

-- more than 10 ids, a vnode count outside 1 to 64, or an id listed twice (R24, R73, R74)
unfoldable pub bad_arguments : List ℕ → ℕ → Bool
bad_arguments ids v = ltb 10 (length ids) || ltb v 1 || ltb 64 v || not (distinct ids)

-- the checks in order: 17, 4; a success gives the number of places (R41, R78)
unfoldable pub build_answer : List ℕ → ℕ → List ℕ → Answer
build_answer ids v ring =
    cond (bad_arguments ids v) (refuses 17)
    (cond (ltb (length ring) (length ids * v)) (refuses 4)
    (gives (length ids * v)))

-- the ring slice after the call (R78)
unfoldable pub build_output : List ℕ → ℕ → ℕ → List ℕ → List ℕ
build_output ids v s ring = written (build_answer ids v ring) (ring_of ids v s) ring

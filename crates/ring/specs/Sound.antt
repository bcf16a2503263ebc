-- When a ring slice is sound.
use Rattle.std.specs.Prelude.{Bool, true, ◌&&◌, List, [], ◌∷◌, ℕ, ◌^◌, ltb, leb, length}
use Rattle.ring.specs.Lists.{ascending}
use Rattle.ring.specs.Place.{vnode}

-- each below 2^48 with vnode below 64 (R79)
unfoldable pub in_range : List ℕ → Bool
in_range [] = true
in_range (p ∷ ring) = ltb p (2 ^ 48) && ltb (vnode p) 64 && in_range ring

-- at most 640 places, strictly ascending, each below 2^48 with vnode below 64 (R23, R79)
unfoldable pub sound_ring : List ℕ → Bool
sound_ring ring = leb (length ring) 640 && ascending ring && in_range ring

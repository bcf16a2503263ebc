-- The order of stamps and the order of keys.
use Rattle.std.specs.Prelude.{ℕ, Bool, true, false, cond, List, ltb, eqb}
use Rattle.wire.specs.Order.{bytes_below}
use Rattle.entry.specs.declared.Stamp.{Stamp}

abbrev pub least : Stamp  -- (R90, R230)
least = record { phys = 0; logical = 0; node = 0 }

-- phys, then logical, then node (R88, R89)
unfoldable pub stamp_below : Stamp → Stamp → Bool
stamp_below s t =
    cond (ltb s.phys t.phys) true
    (cond (eqb s.phys t.phys)
    (cond (ltb s.logical t.logical) true
    (cond (eqb s.logical t.logical) (ltb s.node t.node) false))
    false)

-- keys go by bytes, a prefix before the longer key (R108)
abbrev pub key_below : List ℕ → List ℕ → Bool
key_below = bytes_below

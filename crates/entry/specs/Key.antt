-- Which keys are refused (1).
use Rattle.std.specs.Prelude.{ℕ, Bool, ◌||◌, List, [], ◌∷◌, length, ltb, eqb}
use Rattle.wire.specs.Order.{starts_with}

-- the key begins with `_sys:`, `_ring:`, `_hint:` or `_gossip:` (R25)
unfoldable pub reserved : List ℕ → Bool
reserved k =
    starts_with (95 ∷ 115 ∷ 121 ∷ 115 ∷ 58 ∷ []) k || starts_with (95 ∷ 114 ∷ 105 ∷ 110 ∷ 103 ∷ 58 ∷ []) k
    || starts_with (95 ∷ 104 ∷ 105 ∷ 110 ∷ 116 ∷ 58 ∷ []) k || starts_with (95 ∷ 103 ∷ 111 ∷ 115 ∷ 115 ∷ 105 ∷ 112 ∷ 58 ∷ []) k

-- length 0 or over 64, or reserved (R8, R25, R227)
unfoldable pub bad_key : List ℕ → Bool
bad_key k = eqb (length k) 0 || ltb 64 (length k) || reserved k

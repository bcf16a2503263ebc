-- Byte strings compared.
use Rattle.std.specs.Prelude.{ℕ, Bool, true, false, cond, List, [], ◌∷◌, length, take, ltb, eqb}
use Rattle.std.specs.declared.cmp.Ordering.{Ordering}
use Rattle.std.specs.declared.cmp.Ordering.TheVariants.{Less, Equal, Greater}

unfoldable pub same_bytes : List ℕ → List ℕ → Bool  -- (R108)
same_bytes [] [] = true
same_bytes [] (b ∷ s) = false
same_bytes (a ∷ r) [] = false
same_bytes (a ∷ r) (b ∷ s) = cond (eqb a b) (same_bytes r s) false

-- the first byte that differs decides; a prefix stands before the longer string (R108, R256)
unfoldable pub bytes_below : List ℕ → List ℕ → Bool
bytes_below [] [] = false
bytes_below [] (b ∷ s) = true
bytes_below (a ∷ r) [] = false
bytes_below (a ∷ r) (b ∷ s) = cond (ltb a b) true (cond (eqb a b) (bytes_below r s) false)

-- where a stands against b (R108)
unfoldable pub comparison : List ℕ → List ℕ → Ordering
comparison a b = cond (bytes_below a b) Less (cond (same_bytes a b) Equal Greater)

-- s begins with p (R25)
unfoldable pub starts_with : List ℕ → List ℕ → Bool
starts_with p s = same_bytes p (take (length p) s)

-- Fields of bytes and their zero fill.
use Rattle.std.specs.Prelude.{ℕ, ◌-◌, List, ◌++◌, length, take, drop, replicate}

unfoldable pub zeros : ℕ → List ℕ  -- (R106)
zeros n = replicate n 0

-- what of s fits w bytes, and zeros up to w bytes (R106)
unfoldable pub padded : ℕ → List ℕ → List ℕ
padded w s = take w s ++ zeros (w - length s)

-- the w bytes at an offset
unfoldable pub field : ℕ → ℕ → List ℕ → List ℕ
field at w s = take w (drop at s)

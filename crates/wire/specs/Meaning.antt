-- What big-endian bytes and the order of byte strings mean.
use Rattle.std.specs.Prelude.{◌≡◌, ◌⊎◌, ◌↔◌, true, List, ◌∷◌, ◌++◌, ℕ, ◌^◌, ◌<◌, length}
use Rattle.wire.specs.Number.{be, num, Bytes}
use Rattle.wire.specs.Order.{bytes_below}

-- a number that fits its bytes reads back (R3)
abbrev pub NumBe : Type 0
NumBe = (w n : ℕ) → n < 256 ^ w → num (be w n) ≡ n

-- the bytes of the number that bytes stand for are those bytes (R3)
abbrev pub BeNum : Type 0
BeNum = (s : List ℕ) → Bytes s → be (length s) (num s) ≡ s

-- b is a and more bytes
pub record ProperPrefix (a b : List ℕ) : Type 0 where
  pub next : ℕ
  pub rest : List ℕ
  pub longer : b ≡ a ++ next ∷ rest

-- a and b begin alike, and where they first differ a has the lesser byte
pub record FirstLess (a b : List ℕ) : Type 0 where
  pub front : List ℕ
  pub less : ℕ
  pub less_rest : List ℕ
  pub more : ℕ
  pub more_rest : List ℕ
  pub first : a ≡ front ++ less ∷ less_rest
  pub second : b ≡ front ++ more ∷ more_rest
  pub differ : less < more

-- bytes are below others exactly if they are a proper prefix of them, or have the lesser byte where
-- the two first differ (R108, R256)
abbrev pub BytesBelowExactly : Type 0
BytesBelowExactly = (a b : List ℕ) → bytes_below a b ≡ true ↔ ProperPrefix a b ⊎ FirstLess a b

-- A number that no byte holds, and the one that is passed on in its place.
use mathlib.Core.Path.{◌≡◌}
use mathlib.Core.Logic.{inl, inr}
use Prim.Native.Nat.{ℕ, ◌≤◌}
use lib.Dec.{leb}
use borrow.Author.Tests.{leb-true}
use Rattle.wire.proofs.Tests.{test}
use Rattle.capi_words.specs.Words.{byte_of}

-- what holds of the number, and of 255 where that stands for it, holds of what is passed on
pub either : (P : ℕ → Type 0) (n b : ℕ) → b ≡ byte_of n → P n → (256 ≤ n → P 255) → P b
either P n b e small large = elim (test (leb 256 n)) [
  | inl l ↦ rw (rw l at e) (large (leb-true 256 n l))
  | inr l ↦ rw (rw l at e) small
]

-- Fields written in order: numbers, and zeros in the last.
use mathlib.Core.Path.{◌≡◌}
use Prim.Native.Nat.{ℕ, ◌+◌, ◌≤◌}
use mathlib.Core.List.{List, ◌++◌}
use native.Mathlib.Omega.{arith}
use lib.ListN.{length, replicate}
use borrow.Rule.Slice.PartMut.{mid_of, put_mid}
use Rattle.wire.specs.Number.{be}
use Rattle.wire.specs.Fill.{zeros}
use Rattle.wire.proofs.Number.{length-be}
use Rattle.wire.proofs.Fill.{length-zeros}
use Rattle.wire.proofs.Writing.{Written, write_next, written_all}

module _ (s₀ : List ℕ) (a k : ℕ) (p s ys : List ℕ) (w : Written a p s₀ s) where
  -- n in the next k bytes
  pub write_number : (n : ℕ) → a + k ≤ length s₀ → ys ≡ be (length (mid_of a k s)) n → Written (a + k) (p ++ be k n) s₀ (put_mid a k s ys)
  write_number n le e = write_next (λ (j : ℕ). be j n) a k p s₀ s ys (length-be k n) le w e

  -- zeros in the last
  pub write_fill : length s₀ ≡ a + k → ys ≡ replicate (length (mid_of a k s)) 0 → put_mid a k s ys ≡ p ++ zeros k
  unfolding zeros
  write_fill long e =
      written_all (a + k) (p ++ zeros k) s₀ (put_mid a k s ys) long
      (write_next zeros a k p s₀ s ys (length-zeros k) (omega arith) w e)

-- A slice that is written part by part from the front.
use mathlib.Core.Path.{◌≡◌, refl, ap, ◌∙◌}
use Prim.Native.Nat.{ℕ, ◌+◌, ◌≤◌}
use mathlib.Core.List.{List, [], ◌++◌, append_assoc, append-nil}
use native.Mathlib.Omega.{arith}
use lib.ListN.{length, take, drop, length-append, length-drop, drop_of_length-le}
use lib.Seq.{length-take-le, take_at, drop_at, drop-drop}
use borrow.Rule.Slice.PartMut.{mid_of, put_mid}

-- p stands at the first a bytes, and the rest is as it was
pub record Written (a : ℕ) (p s₀ s : List ℕ) : Type 0 where
  pub is : s ≡ p ++ drop a s₀
  pub long : length p ≡ a

pub written_none : (s : List ℕ) → Written 0 [] s s
written_none s = record { is = refl; long = refl }

-- the next k bytes are filled with f k
pub write_next : (f : ℕ → List ℕ) (a k : ℕ) (p s₀ s ys : List ℕ) → length (f k) ≡ k → a + k ≤ length s₀ → Written a p s₀ s → ys ≡ f (length (mid_of a k s))
    → Written (a + k) (p ++ f k) s₀ (put_mid a k s ys)
write_next f a k p s₀ s ys fk le w e =
    let d : drop a s ≡ drop a s₀ = ap (drop a) w.is ∙ drop_at p (drop a s₀) a w.long in
    let t : take a s ≡ p = ap (take a) w.is ∙ take_at p (drop a s₀) a w.long in
    let m : length (mid_of a k s) ≡ k = ap (λ (l : List ℕ). length (take k l)) d ∙ length-take-le k (drop a s₀) (rw length-drop (omega arith)) in
    let y : ys ≡ f k = e ∙ ap f m in
    record {
      is = rw (t, d, y, drop-drop, append_assoc);
      long = length-append p (f k) ∙ omega (arith, w.long);
    }

pub written_all : (a : ℕ) (p s₀ s : List ℕ) → length s₀ ≡ a → Written a p s₀ s → s ≡ p
written_all a p s₀ s h w = w.is ∙ ap (λ (r : List ℕ). p ++ r) (drop_of_length-le s₀ {i = a} (omega arith)) ∙ append-nil p

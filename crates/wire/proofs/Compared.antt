-- How a comparison of two byte strings came out.
use Prim.Native.Nat.{ℕ}
use mathlib.Core.Path.{◌≡◌}
use mathlib.Core.Logic.{inl, inr}
use mathlib.Core.Bool.{true, false}
use mathlib.Core.List.{List}
use Rattle.wire.specs.Order.{same_bytes, bytes_below, comparison}
use Rattle.std.specs.declared.cmp.Ordering.TheVariants as order
use Rattle.std.specs.Ordering.{is_lt}
use Rattle.wire.proofs.Tests.{test, false_of, never}

-- values of which an equation would make 0 and 1 equal are distinct
pub distinct : {A B : Type 0} (a b : B) → (a ≡ b → ◌≡◌ {A = ℕ} 0 1) → a ≡ b → A
distinct a b f e = never (f e)

pub same_not_below : order.Equal ≡ order.Less → ⊥
same_not_below = distinct order.Equal order.Less (λ e. cc)

pub above_not_below : order.Greater ≡ order.Less → ⊥
above_not_below = distinct order.Greater order.Less (λ e. cc)

module _ (j k : List ℕ) where
  pub came_below : comparison j k ≡ order.Less → bytes_below j k ≡ true
  unfolding comparison
  came_below h = elim (test (bytes_below j k)) [
    | inl p ↦ p
    | inr p ↦ elim (test (same_bytes j k)) [
      | inl q ↦ distinct order.Equal order.Less (λ e. cc) (rw (p, q) at h)
      | inr q ↦ distinct order.Greater order.Less (λ e. cc) (rw (p, q) at h)
    ]
  ]

  pub came_same : comparison j k ≡ order.Equal → (bytes_below j k ≡ false) × (same_bytes j k ≡ true)
  unfolding comparison
  came_same h = elim (test (bytes_below j k)) [
    | inl p ↦ distinct order.Less order.Equal (λ e. cc) (rw p at h)
    | inr p ↦ elim (test (same_bytes j k)) [
      | inl q ↦ (p, q)
      | inr q ↦ distinct order.Greater order.Equal (λ e. cc) (rw (p, q) at h)
    ]
  ]

  pub came_above : comparison j k ≡ order.Greater → (bytes_below j k ≡ false) × (same_bytes j k ≡ false)
  unfolding comparison
  came_above h = elim (test (bytes_below j k)) [
    | inl p ↦ distinct order.Less order.Greater (λ e. cc) (rw p at h)
    | inr p ↦ elim (test (same_bytes j k)) [
      | inl q ↦ distinct order.Equal order.Greater (λ e. cc) (rw (p, q) at h)
      | inr q ↦ (p, q)
    ]
  ]

  pub came_not_below : (comparison j k ≡ order.Less → ⊥) → bytes_below j k ≡ false
  unfolding comparison
  came_not_below h = false_of (bytes_below j k) (λ p. h (rw p))

  -- the library's test of an order
  pub lt_below : is_lt (comparison j k) ≡ bytes_below j k
  unfolding comparison
  lt_below = elim (test (bytes_below j k)) [
    | inl p ↦ rw p
    | inr p ↦ elim (test (same_bytes j k)) [ inl q ↦ rw (p, q) | inr q ↦ rw (p, q) ]
  ]

-- A part of a slice that may run past its end is a field.
use mathlib.Core.Path.{◌≡◌, sym, ◌∙◌}
use mathlib.Core.Logic.{inl, inr}
use Prim.Native.Nat.{ℕ, ◌+◌, ◌≤◌, ◌<◌}
use mathlib.Core.List.{List}
use native.Mathlib.Omega.{arith}
use lib.ListN.{length, take, drop, drop_of_length-le, length-take, length-drop}
use lib.Seq.{take_all, take-nil}
use lib.Dec.{leb, eqb}
use borrow.Author.Tests.{eq-eqb, ne_eqb, leb-true, leb-false}
use Rattle.wire.specs.Fill.{field}
use Rattle.wire.proofs.Tests.{test}

pub field_none : (at w n : ℕ) (s : List ℕ) → length s ≤ at → n ≡ 0 → (r : List ℕ) → r ≡ take n (drop (length s) s) → r ≡ field at w s
unfolding field
field_none at w n s h z r e = rw (e, z, drop_of_length-le s h) (sym (take-nil w))

-- what is read past a place, and no further than the end
pub field_past_all : (at w : ℕ) (s : List ℕ) → length s ≤ w → field at w s ≡ drop at s
unfolding field
field_past_all at w s h = take_all w (drop at s) (omega (arith, length-drop at s))

-- a field that is as long as it should be
pub field_whole : (at w : ℕ) (s : List ℕ) → 0 < w → eqb (length (field at w s)) w ≡ leb (at + w) (length s)
unfolding field
field_whole at w s h = elim (test (leb (at + w) (length s))) [
  | inl p ↦ eq-eqb (length (take w (drop at s))) w (length-take w (drop at s) ∙ omega (arith, length-drop at s, leb-true (at + w) (length s) p)) ∙ sym p
  | inr p ↦ ne_eqb (length (take w (drop at s))) w (λ e. omega (arith, length-take w (drop at s), length-drop at s, leb-false (at + w) (length s) p)) ∙ sym p
]

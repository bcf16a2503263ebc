-- The halves of a result.
use mathlib.Core.Path.{refl}
use mathlib.Core.Logic.{inl, inr}
use mathlib.Core.Bool.{Bool, true, false, cond}
use mathlib.Core.List.{List}
use Prim.Native.Nat.{ℕ, ◌^◌, ◌≤◌, ◌<◌}
use native.Mathlib.Omega.{arith}
use lib.ListN.{length}
use lib.Dec.{ltb, eqb}
use Rattle.entry.specs.declared.Refusal.{Refusal}
use Rattle.entry.specs.declared.Refusal.TheVariants as refusal
use Rattle.entry.specs.Refusal.{number, last_number}
use Rattle.entry.proofs.Numbers.{number-range}
use Rattle.frame.specs.Writing.{write_refusal}
use Rattle.capi_words.specs.Result.{packed}
use Rattle.capi_words.specs.Meaning.{Told, TakenApart, Alone}

-- ---- the two halves of a word
pub taken : (r a most : ℕ) → Told r → a ≤ most → most < 2 ^ 16 → TakenApart (packed r a) r a most
taken r a most x y z = record { numbered = x; counted = y; upper = omega arith; lower = omega arith }

pub alone : (n : ℕ) → Told n → Alone n
alone n x = taken n 0 0 x (omega arith) (omega arith)

-- ---- what is told is 0 or a number
pub tells_none : Told 0
tells_none = inl refl

pub tells : (r : Refusal) → Told (number r)
tells r = inr (r, refl)

-- and so at most the last number
pub told_most : (n : ℕ) → Told n → n ≤ last_number
told_most n t = elim t [ inl z ↦ omega arith | inr r ↦ omega (arith, (number-range r.0).1, r.1) ]

-- what holds of both sides of a test
pub both : {A : Type 0} (P : A → Type 0) (b : Bool) (x y : A) → P x → P y → P (cond b x y)
both P true x y p q = p
both P false x y p q = q

pub tells_both : (b : Bool) (x y : ℕ) → Told x → Told y → Told (cond b x y)
tells_both b x y p q = both Told b x y p q

pub tells_write : (n : ℕ) (f w : List ℕ) → Told n → Told (write_refusal n f w)
unfolding write_refusal
tells_write n f w h = tells_both (eqb n 0) _ n (tells_both (ltb (length w) (length f)) 4 0 (tells refusal.NoRoom) tells_none) h

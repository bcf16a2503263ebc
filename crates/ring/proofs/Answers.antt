-- Laws of answers.
use mathlib.Core.Path.{◌≡◌, sym, ap}
use mathlib.Core.List.{List}
use Prim.Native.Nat.{ℕ}
use Rattle.wire.proofs.Tests.{never}
use Rattle.ring.specs.Answer.{Answer, gives, refuses, written}

-- what a call says and what it writes, as its contract names them
pub answer_output : {A B : Type 0} → A × B → record { answer : A; output : B }
answer_output p = record { answer = p.0; output = p.1 }

-- an answer and the slice that goes with it
pub told : (front lent : List ℕ) {a b : Answer} → a ≡ b → (b ≡ a) × (written b front lent ≡ written a front lent)
told front lent e = (sym e, ap (λ (c : Answer). written c front lent) (sym e))

pub given : {n m : ℕ} → gives n ≡ gives m → n ≡ m
given e = cc

pub refused : {n m : ℕ} → refuses n ≡ refuses m → n ≡ m
refused e = cc

pub not_given : {A : Type 0} {n m : ℕ} → refuses n ≡ gives m → A
not_given e = never (cc)

-- Laws of the fields of a frame and of the numbers in them.
use mathlib.Core.Path.{◌≡◌, sym, ap, ◌∙◌}
use mathlib.Core.List.{List, [], ◌∷◌, ◌++◌}
use Prim.Native.Nat.{ℕ, ◌+◌, ◌^◌, ◌≤◌, ◌<◌}
use native.Mathlib.Nat.{add-zero}
use lib.ListN.{length, take, get_or}
use lib.Seq.{drop-cons}
use Rattle.wire.specs.Number.{be, num, Bytes}
use Rattle.wire.specs.Fill.{field}
use Rattle.wire.proofs.Number.{num-be, length-be}
use Rattle.wire.proofs.Fill.{field_here, field_past}
use Rattle.wire.proofs.Fields as fields
use Rattle.frame.specs.Reading.{number_at}

-- a field after another
pub field_join : (a w c v : ℕ) (s : List ℕ) → a + w ≡ c → field a w s ++ field c v s ≡ field a (w + v) s
field_join a w c v s e = ap (λ (i : ℕ). field a w s ++ field i v s) (sym e) ∙ sym (fields.field_split a w v s)

-- a field with other parts before and after it
pub field_inside : (a w : ℕ) (s p x q : List ℕ) → s ≡ p ++ (x ++ q) → length p ≡ a → length x ≡ w → field a w s ≡ x
field_inside a w s p x q e h k =
    ap (field a w) e ∙ ap (λ (i : ℕ). field i w (p ++ (x ++ q))) (sym (add-zero a)) ∙ field_past a 0 w p (x ++ q) h ∙ field_here w x q k

-- ---- numbers in fields
pub number_inside : (a w n : ℕ) (s p q : List ℕ) → s ≡ p ++ (be w n ++ q) → length p ≡ a → n < 256 ^ w → number_at a w s ≡ n
unfolding number_at
number_inside a w n s p q e h k = ap num (field_inside a w s p (be w n) q e h (length-be w n)) ∙ num-be w n k

pub number_byte : (at : ℕ) (s : List ℕ) → at < length s → number_at at 1 s ≡ get_or s at 0
unfolding number_at
number_byte = fields.num_byte

pub field_byte : (at : ℕ) (s : List ℕ) → at < length s → field at 1 s ≡ number_at at 1 s ∷ []
unfolding field
field_byte at s h = ap (take 1) (drop-cons s at 0 h) ∙ ap (λ (x : ℕ). x ∷ []) (sym (number_byte at s h))

module _ (s : List ℕ) (bs : Bytes s) (at w : ℕ) where
  pub number_lt : at + w ≤ length s → number_at at w s < 256 ^ w
  unfolding number_at
  number_lt h = fields.num-field-lt at w s bs

  -- the bytes of a number that was read
  pub be-number : at + w ≤ length s → be w (number_at at w s) ≡ field at w s
  unfolding number_at
  be-number h = fields.be-field at w s bs h

-- what the code reads at an offset
pub number_read : (r at w : ℕ) (s : List ℕ) → r ≡ num (field at w s) → r ≡ number_at at w s
unfolding number_at
number_read r at w s h = h

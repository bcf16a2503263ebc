-- The folds and the loop of the code: all bytes of a list, and the bits of one.
use mathlib.Core.Path.{◌≡◌, refl, sym, ap, ◌∙◌}
use mathlib.Core.List.{List, [], ◌∷◌}
use Prim.Native.Nat.{ℕ, zero, suc, ◌+◌, ◌*◌, ◌/◌, ◌≤◌}
use native.Mathlib.Numerals.{add-one}
use lib.ListN.{length, take, drop}
use native.Mathlib.Omega.{arith}
use Rattle.std.specs.Prelude.{fold}
use Rattle.std.specs.Simd.{first_chunks}
use Rattle.std.proofs.lemmas.List.{drop-take}
use Rattle.checksum.specs.Crc32c.{bit_step, steps, byte_step, run}
use Rattle.checksum.specs.Table.{byte_step_with, bytes_with, block_with, blocks_with, run_with}

pub run_fold : (s : List ℕ) (c : ℕ) → fold byte_step c s ≡ run c s
unfolding run
run_fold [] c = refl
run_fold (b ∷ s) c = run_fold s (byte_step c b)

take_less : (n m : ℕ) (s : List ℕ) → n ≤ m → take n (take m s) ≡ take n s
take_less zero m s h = refl
take_less (suc n) zero s h = absurd (omega arith)
take_less (suc n) (suc m) [] h = refl
take_less (suc n) (suc m) (x ∷ s) h = ap (λ (l : List ℕ). x ∷ l) (take_less n m s (omega arith))

-- one bit after the others
pub steps_last : (n c : ℕ) → steps (suc n) c ≡ bit_step (steps n c)
unfolding steps
steps_last zero c = refl
steps_last (suc n) c = steps_last n (bit_step c)

pub one_more : (n c x y : ℕ) → x ≡ steps n c → y ≡ bit_step x → y ≡ steps (n + 1) c
one_more n c x y e f = f ∙ ap bit_step e ∙ rw (add-one n) (sym (steps_last n c))

module _ (t : List ℕ) where
  pub bytes_fold : (s : List ℕ) (c : ℕ) → fold (byte_step_with t) c s ≡ bytes_with t c s
  unfolding bytes_with
  bytes_fold [] c = refl
  bytes_fold (b ∷ s) c = bytes_fold s (byte_step_with t c b)

  -- a block is the first sixteen bytes of what is left
  block_first : (s : List ℕ) (c : ℕ) → block_with t c (take 16 s) ≡ block_with t c s
  unfolding block_with
  block_first s c =
      let e : take 8 (drop 8 (take 16 s)) ≡ take 8 (drop 8 s) = rw (drop-take 8 8 s) (take_less 8 8 (drop 8 s) (omega arith)) in
      rw (e, take_less 8 16 s (omega arith))

  blocks_fold : (n : ℕ) (s : List ℕ) (c : ℕ) → fold (block_with t) c (first_chunks 16 n s) ≡ blocks_with t n c s
  unfolding blocks_with
  blocks_fold zero s c = refl
  blocks_fold (suc n) s c =
      ap (λ (x : ℕ). fold (block_with t) x (first_chunks 16 n (drop 16 s))) (block_first s c) ∙ blocks_fold n (drop 16 s) (block_with t c s)

  pub run_parts : (s : List ℕ) (c : ℕ)
      → fold (byte_step_with t) (fold (block_with t) c (first_chunks 16 (length s / 16) s)) (drop (length s / 16 * 16) s) ≡ run_with t c s
  unfolding run_with
  run_parts s c = bytes_fold (drop (length s / 16 * 16) s) _ ∙ rw (blocks_fold (length s / 16) s c)

-- What holds of results, and of words that are put to the front of a lent slice.
use Rattle.std.specs.Prelude.{ℕ, ◌/◌, ◌%◌, ◌^◌, ◌≤◌, ◌≡◌, ◌⊎◌, List}
use Rattle.entry.specs.Refusal.{Numbered}
use Rattle.frame.specs.Writing.{write_refusal, after_write}
use Rattle.capi_words.specs.Result.{packed}

-- what a result tells of a refusal: 0 for none, or one of the numbers (R199, R236)
abbrev pub Told : ℕ → Type 0
Told n = (n ≡ 0) ⊎ Numbered n

-- a result is taken apart: its upper 16 bits are the refusal, 0 for none or one of the numbers, and
-- its lower 16 bits the answer, which is at most `most` (R199, R236)
pub record TakenApart (result refusal answer most : ℕ) : Type 0 where
  pub numbered : Told refusal
  pub counted : answer ≤ most
  pub upper : result / (2 ^ 16) ≡ refusal
  pub lower : result % (2 ^ 16) ≡ answer

-- a refusal alone
abbrev pub Alone : ℕ → Type 0
Alone refusal = TakenApart (packed refusal 0) refusal 0 0

-- a refusal leaves the words as they came (R29, R170)
abbrev pub PutKeeps : ℕ → List ℕ → Type 0
PutKeeps n f = (w : List ℕ) → (write_refusal n f w ≡ 0 → ⊥) → after_write n f w ≡ w

-- What the answers mean: a number that is given, or a refusal with its number.
use Rattle.std.specs.Prelude.{ℕ, Result, Ok, Err, List, ◌++◌, length, drop}
use Rattle.entry.specs.Refusal.{number}
use Rattle.entry.specs.declared.Refusal.{Refusal}

pub data Answer : Type 0 where
  gives : ℕ → Answer
  refuses : ℕ → Answer

-- a key's position, how many places were built, or how many owners were found (R199)
abbrev pub meaning : Result ℕ Refusal → Answer
meaning (Ok n) = gives n
meaning (Err r) = refuses (number r)

-- a success writes to the front of the lent slice and leaves the later elements; a refusal writes
-- nothing (R29, R31)
abbrev pub written : Answer → List ℕ → List ℕ → List ℕ
written (gives n) front lent = front ++ drop (length front) lent
written (refuses n) front lent = lent

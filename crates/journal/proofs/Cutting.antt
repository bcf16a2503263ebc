-- The cases of a cut.
use mathlib.Core.Path.{◌≡◌}
use mathlib.Core.Bool.{true}
use mathlib.Core.List.{List}
use Prim.Native.Nat.{ℕ, ◌+◌, ◌≤◌}
use native.Mathlib.Omega.{arith}
use lib.ListN.{length, take, drop}
use borrow.Author.Tests.{eq-eqb}
use Rattle.std.proofs.lemmas.Bool.Decides.{nat_tests}
use Rattle.wire.specs.Number.{num}
use Rattle.wire.specs.Fill.{field}
use Rattle.wire.proofs.Fields.{num-field}
use Rattle.frame.specs.Layout.{max_len}
use Rattle.journal.specs.Journal.{time_in, len_in, whole, no_record, piece_of}

module _ (s : List ℕ) where
  pub cut_end : length s ≡ 0 → no_record true 0 ≡ piece_of s
  unfolding piece_of
  cut_end h = rw (eq-eqb (length s) 0 h)

  pub cut_whole : 8 ≤ length s → 6 ≤ len_in s → len_in s ≤ max_len → 8 + len_in s ≤ length s → whole (time_in s) (8 + len_in s) ≡ piece_of s
  unfolding piece_of
  cut_whole m a b h = grind (arith, nat_tests)

  -- the numbers as they are read
  pub len_read : num (take 8 (take 2 (drop 6 s))) ≡ len_in s
  unfolding len_in field
  len_read = num-field 6 2 s (omega arith)

  pub time_read : num (take 8 (take 6 s)) ≡ time_in s
  unfolding time_in field
  time_read = num-field 0 6 s (omega arith)

-- what a cut's answers are found by
pub ruleset cut_rules = (len_read, time_read, nat_tests)

-- What the answers of an offer, of a merge and of a purge mean.
use Rattle.std.specs.Prelude.{ℕ, Bool, true, false, Result, Ok, Err}
use Rattle.entry.specs.declared.Refusal.{Refusal}
use Rattle.entry.specs.Refusal.{number}
use Rattle.store.specs.declared.Offered.{Offered}
use Rattle.store.specs.declared.Offered.TheVariants as offered

-- the three successes of an offer; a merge, with how many entries it passed over; a purge, with how
-- many it removed; and a refusal with its number (R120, R199, R259, R260)
pub data Answer : Type 0 where
  stored replaced kept : Answer
  merged purged refused : ℕ → Answer

unfoldable pub is_refused : Answer → Bool
is_refused stored = false
is_refused replaced = false
is_refused kept = false
is_refused (merged n) = false
is_refused (purged n) = false
is_refused (refused n) = true

abbrev pub answer_of : Result Offered Refusal → Answer
answer_of (Ok offered.Stored) = stored
answer_of (Ok offered.Replaced) = replaced
answer_of (Ok offered.Kept) = kept
answer_of (Err r) = refused (number r)

abbrev pub merge_answer_of : Result ℕ Refusal → Answer
merge_answer_of (Ok n) = merged n
merge_answer_of (Err r) = refused (number r)

abbrev pub purge_answer_of : Result ℕ Refusal → Answer
purge_answer_of (Ok n) = purged n
purge_answer_of (Err r) = refused (number r)

-- The clock's functions on four words.
use Rattle.std.specs.Prelude.{ℕ, cond, List}
use Rattle.clock.specs.declared.Clock.{Clock}
use Rattle.clock.specs.Clock.{Stepped}
use Rattle.clock.specs.Answer.{clock_after, step_refusal_of}
use Rattle.capi.specs.Words.{is_clock, clock_of, clock_words}

-- the refusal of a step: 17 for words that are no clock, then the step's own, or 0 (R237)
unfoldable pub step_refusal : (Clock → Stepped) → List ℕ → ℕ
step_refusal step w = cond (is_clock w) (step_refusal_of (step (clock_of w))) 17

-- the words after it (R170, R245)
unfoldable pub step_words : (Clock → Stepped) → List ℕ → List ℕ
step_words step w = cond (is_clock w) (clock_words (clock_after (clock_of w) (step (clock_of w)))) w

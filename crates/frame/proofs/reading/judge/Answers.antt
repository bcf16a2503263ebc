use Rattle.frame.proofs.Answers.{on_bad_key, large_value, both_good}
use mathlib.Core.Path.{ap}
use mathlib.Core.Bool.{not}
use Rattle.frame.proofs.reading.judge.Goals as goal

pub returns-then-not-is_acceptable_key : goal.returns-then-not-is_acceptable_key
returns-then-not-is_acceptable_key c =
    let a = c.args in
    on_bad_key a.key.now a.value.now _ c.is_acceptable_key.ensures (ap not c.if-not-is_acceptable_key.true)

pub returns-then-value-gt-MAX_VALUE : goal.returns-then-value-gt-MAX_VALUE
returns-then-value-gt-MAX_VALUE c =
    let a = c.args in
    large_value a.key.now a.value.now _ c.is_acceptable_key.ensures (ap not c.if-not-is_acceptable_key.false) c.if-value-gt-MAX_VALUE.true

pub returns : goal.returns
returns c =
    let a = c.args in
    both_good a.key.now a.value.now _ c.is_acceptable_key.ensures (ap not c.if-not-is_acceptable_key.false) c.if-value-gt-MAX_VALUE.false

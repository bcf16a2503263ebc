use borrow.Author.Rules.{rules}
use mathlib.Core.Path.{◌≡◌}
use Rattle.std.specs.Prelude.{Err}
use Rattle.frame.specs.Reading.{read_body}
use Rattle.frame.proofs.Answers.{value_left_over, value_large, value_said}
use Rattle.frame.proofs.reading.read_value.Goals as goal

pub returns-in_err-value : goal.returns-in_err-value
returns-in_err-value c =
    let v = c.in_err-value.ensures.is in
    let e : Err c.in_err-value.field-0.0 ≡ read_body 17 c.args.frame.now = rw v.1 (value_left_over _ v.0) in
    search rules

pub returns-then-value-gt-MAX_VALUE : goal.returns-then-value-gt-MAX_VALUE
returns-then-value-gt-MAX_VALUE c =
    let w = c.in_ok-value.ensures.is in
    value_large _ _ w.0 w.1 c.if-value-gt-MAX_VALUE.true

pub returns : goal.returns
returns c =
    let w = c.in_ok-value.ensures.is in
    value_said _ _ w.0 w.1 c.if-value-gt-MAX_VALUE.false

use Rattle.frame.proofs.Answers.{ok_left_over, not_found-left_over, ok_said, not_found-said}
use Rattle.frame.proofs.reading.read_empty.Goals as goal

pub returns-then-frame-ne8-clause-ok : goal.returns-then-frame-ne8-clause-ok
returns-then-frame-ne8-clause-ok c = ok_left_over _ c.if-frame-ne8.true

pub returns-then-frame-ne8-clause-not_found : goal.returns-then-frame-ne8-clause-not_found
returns-then-frame-ne8-clause-not_found c = not_found-left_over _ c.if-frame-ne8.true

pub returns-clause-ok : goal.returns-clause-ok
returns-clause-ok c = ok_said _ c.if-frame-ne8.false

pub returns-clause-not_found : goal.returns-clause-not_found
returns-clause-not_found c = not_found-said _ c.if-frame-ne8.false

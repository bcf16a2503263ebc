use Rattle.frame.proofs.Answers.{err_left_over, err_zero, err_said}
use Rattle.frame.proofs.reading.read_err.Goals as goal

pub returns-then-frame-ne9 : goal.returns-then-frame-ne9
returns-then-frame-ne9 c = err_left_over _ c.if-frame-ne9.true

pub returns-then-number-eq0 : goal.returns-then-number-eq0
returns-then-number-eq0 c = err_zero _ c.if-frame-ne9.false c.if-number-eq0.true

pub returns : goal.returns
returns c = err_said _ c.if-frame-ne9.false c.if-number-eq0.false (c.type_inv.frame 4).fits

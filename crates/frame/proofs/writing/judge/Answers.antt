use Rattle.frame.proofs.Bodies.{short_if_ok}
use Rattle.frame.proofs.writing.judge.Goals as goal

pub returns-clause-short : goal.returns-clause-short
returns-clause-short c = short_if_ok _ _ c.judge.ensures

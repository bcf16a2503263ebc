use Rattle.frame.specs.Reading.{read_answer}
use Rattle.deliveries.specs.Cut.{cut_answer}
use Rattle.deliveries.proofs.Cutting.{cut_by}
use Rattle.deliveries.proofs.cut_delivery.Goals as goal

pub returns : goal.returns
unfolding cut_answer
returns c = cut_by read_answer _ _ _ _ c.first_length-end.ensures.0 c.read.ensures c.cut_in.ensures

use Rattle.frame.specs.Reading.{read_body}
use Rattle.deliveries.specs.Cut.{cut_unchecked}
use Rattle.deliveries.proofs.Cutting.{cut_by}
use Rattle.deliveries.proofs.cut_unchecked.Goals as goal

pub returns : goal.returns
unfolding cut_unchecked
returns c = cut_by (read_body 4) _ _ _ _ c.first_length-end.ensures.0 c.read_repl_unchecked.ensures c.cut_in.ensures

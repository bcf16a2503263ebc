use Rattle.checksum.specs.Table.{byte_step_with}
use Rattle.checksum.proofs.byte_step.Goals as goal

pub returns : goal.returns
unfolding byte_step_with
returns c = rw c.entry.ensures

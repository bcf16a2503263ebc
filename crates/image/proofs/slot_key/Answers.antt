use mathlib.Core.Path.{ap₂, ◌∙◌}
use lib.ListN.{take}
use Rattle.wire.specs.Fill.{field}
use Rattle.image.specs.Image.{key_in}
use Rattle.image.proofs.slot_key.Goals as goal

pub returns : goal.returns
unfolding key_in field
returns c = c.part-2.ensures ∙ ap₂ take c.number_at-n.ensures.is c.part.ensures

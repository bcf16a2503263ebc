use mathlib.Core.Path.{◌∙◌}
use Rattle.entry.proofs.Fields.{stamp_lt}
use Rattle.entry.proofs.Stamp.is_below.Goals as goal

pub returns : goal.returns
returns c = c.lt.ensures ∙ stamp_lt c.args.self c.args.other

use mathlib.Core.Path.{refl}
use Rattle.frame.specs.Message.{not_found}
use Rattle.node.proofs.Replying.{replies, not_found-taken}
use Rattle.node.proofs.request.give_nothing.Goals as goal

pub returns : goal.returns
returns c = replies not_found _ not_found-taken c.requires _ _ c.write_not_found.ensures _ _ 0 _ c.unwrap_or.ensures refl

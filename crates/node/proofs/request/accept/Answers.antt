use mathlib.Core.Path.{refl}
use Rattle.frame.specs.Message.{ok}
use Rattle.node.proofs.Replying.{replies, ok_taken}
use Rattle.node.proofs.request.accept.Goals as goal

pub returns : goal.returns
returns c = replies ok _ ok_taken c.requires _ _ c.write_ok.ensures _ _ 0 _ c.unwrap_or.ensures refl

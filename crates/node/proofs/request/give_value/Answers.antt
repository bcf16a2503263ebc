use mathlib.Core.Path.{refl}
use Rattle.frame.specs.Message.{value}
use Rattle.frame.proofs.Bodies.{value_taken}
use Rattle.node.proofs.Replying.{replies}
use Rattle.node.proofs.request.give_value.Goals as goal

pub returns : goal.returns
returns c =
    replies (value c.args.value.now) _ (value_taken _ c.requires.1) c.requires.0 _ _ c.write_value.ensures _ _ 0 _
    c.unwrap_or.ensures refl

use Rattle.frame.specs.Layout.{type_of, body, frame_of}
use Rattle.frame.proofs.Bodies.{get_refusal}
use Rattle.frame.proofs.write_get.Goals as goal

pub returns : goal.returns
unfolding type_of body frame_of
returns c = rw (get_refusal c.args.key.now) c.write_keyed.ensures

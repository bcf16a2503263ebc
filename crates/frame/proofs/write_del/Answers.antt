use Rattle.frame.specs.Layout.{type_of, body, frame_of}
use Rattle.frame.proofs.Bodies.{del_refusal}
use Rattle.frame.proofs.write_del.Goals as goal

pub returns : goal.returns
unfolding type_of body frame_of
returns c = rw (del_refusal c.args.key.now) c.write_keyed.ensures

use Rattle.frame.specs.Message.{message_refusal, time_fault, key_fault, value_fault, argument_fault}
use Rattle.frame.specs.Layout.{type_of, body, frame_of}
use Rattle.frame.proofs.write_ok.Goals as goal

pub returns : goal.returns
unfolding message_refusal time_fault key_fault value_fault argument_fault type_of body frame_of
returns c = c.write_empty.ensures

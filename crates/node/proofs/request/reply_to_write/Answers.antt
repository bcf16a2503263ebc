use mathlib.Core.Path.{refl}
use Rattle.node.proofs.Settling.{settled, settled_refused}
use Rattle.node.proofs.request.reply_to_write.Goals as goal

pub returns-in-Ok : goal.returns-in-Ok
returns-in-Ok c = λ s. rw c.in-Ok.is (settled s _ _ _ _ _ s _ _ refl c.accept.ensures)

pub returns-in-Err : goal.returns-in-Err
returns-in-Err c = λ s. rw c.in-Err.is (settled_refused s _ _ _ _ _ _ refl c.refuse.ensures)

use mathlib.Core.Path.{refl}
use Rattle.entry.specs.Refusal.{number}
use Rattle.frame.specs.Message.{err}
use Rattle.node.proofs.Replying.{replies, refusal_taken}
use Rattle.node.proofs.request.refuse.Goals as goal

pub returns : goal.returns
returns c =
    replies (err (number c.args.refusal)) _ (refusal_taken c.args.refusal) c.requires _ _
    (rw c.number.ensures at c.write_err.ensures) _ _ (number c.args.refusal) _
    c.unwrap_or.ensures refl

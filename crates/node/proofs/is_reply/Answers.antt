use mathlib.Core.Path.{sym}
use borrow.Author.Tests.{lt-leb}
use Rattle.node.proofs.Replying.{type_short, type_byte}
use Rattle.node.proofs.is_reply.Goals as goal

pub returns-then-frame-ge3 : goal.returns-then-frame-ge3
returns-then-frame-ge3 c = rw (type_byte c.args.frame.now c.if-frame-ge3.true)

pub returns-else-frame-ge3 : goal.returns-else-frame-ge3
returns-else-frame-ge3 c = rw (lt-leb 3 _ c.if-frame-ge3.false) (sym (type_short c.args.frame.now c.if-frame-ge3.false))

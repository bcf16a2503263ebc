use borrow.Author.Rules.{rules}
use mathlib.Core.Path.{sym}
use Rattle.ring.proofs.Meeting.{turned_first, turned_second}
use Rattle.ring.proofs.walking.place_at.Goals as goal

pub returns-then-j-left : goal.returns-then-j-left
returns-then-j-left c = sym (turned_first _ c.args.ring.now (search rules) _ c.if-j-left.true)

pub returns-else-j-left : goal.returns-else-j-left
returns-else-j-left c = sym (turned_second _ c.args.ring.now (search rules) _ c.if-j-left.false (search rules))

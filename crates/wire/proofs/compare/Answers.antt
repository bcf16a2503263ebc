use Rattle.std.proofs.Common.{arith}
use mathlib.Core.Path.{◌∙◌}
use Rattle.wire.proofs.Order.{differ_at, slice_cmp_comparison}
use Rattle.wire.proofs.compare.Goals as goal

pub returns-then-a-i : goal.returns-then-a-i
returns-then-a-i c = c.cmp.ensures ∙ differ_at c.loop-i.i c.args.a.now c.args.b.now c.loop-i.invariant
    (omega (arith, c.min.ensures, c.min-i-end.ensures, c.loop-i-test.true)) (omega (arith, c.min.ensures, c.min-i-end.ensures, c.loop-i-test.true)) c.if-a-i.true

pub returns : goal.returns
returns c = c.cmp-2.ensures ∙ slice_cmp_comparison c.args.a.now c.args.b.now

use Rattle.std.proofs.Common.{arith, ◌≡◌, ◌-◌, suc, sym}
use Rattle.ring.proofs.Scan.{ascending_by_index, not_ascending, ascending_more}
use Rattle.ring.proofs.checking.is_ascending.Goals as goal

pub loop-i-init : goal.loop-i-init
loop-i-init c = λ k h. absurd (omega arith)

pub returns-then-ring-i : goal.returns-then-ring-i
returns-then-ring-i c =
    let i = c.loop-i.i in
    let z : suc (i - 1) ≡ i = omega (arith, c.loop-i.auto.i) in
    sym (not_ascending c.args.ring.now (i - 1) (rw z c.loop-i-test.true) (rw z c.if-ring-i.true))

pub loop-i-preserved : goal.loop-i-preserved
loop-i-preserved c = ascending_more c.args.ring.now c.loop-i.i c.loop-i.auto.i c.loop-i.invariant c.if-ring-i.false

pub returns : goal.returns
returns c = sym (ascending_by_index c.args.ring.now (λ k h. c.loop-i.invariant k (omega (arith, c.loop-i-test.false))))

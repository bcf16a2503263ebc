use native.Mathlib.Omega.{arith}
use Rattle.deliveries.proofs.Cutting.{short_length, cut_length, whole_length}
use Rattle.deliveries.proofs.first_length.Goals as goal

pub returns-then-n-lt2 : goal.returns-then-n-lt2
returns-then-n-lt2 c = (short_length c.args.list.now c.if-n-lt2.true, omega arith)

pub overflow_add-result : goal.overflow_add-result
overflow_add-result c = omega (arith, c.if-n-len.false)

pub returns-then-n-len : goal.returns-then-n-len
returns-then-n-len c =
    let s = c.args.list.now in
    (cut_length s _ c.get_be-len.ensures c.if-n-len.true, omega arith)

pub returns-else-n-len : goal.returns-else-n-len
returns-else-n-len c =
    let s = c.args.list.now in
    (whole_length s _ c.get_be-len.ensures c.if-n-lt2.false c.if-n-len.false, omega (arith, c.if-n-lt2.false, c.if-n-len.false))

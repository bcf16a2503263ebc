use native.Mathlib.Omega.{arith}
use mathlib.Core.Path.{◌≡◌, refl, sym, ap, ◌∙◌}
use mathlib.Core.Bool.{Bool, ◌&&◌}
use Prim.Native.Nat.{ℕ}
use mathlib.Core.List.{List}
use lib.ListN.{length, take, get_or}
use lib.Seq.{take_all}
use lib.Dec.{eqb}
use Rattle.wire.specs.Fill.{zeros}
use Rattle.wire.specs.Order.{same_bytes}
use Rattle.wire.proofs.Zeros.{zero_next, sum_zero}
use Rattle.wire.proofs.block_is_zero.Goals as goal

pub loop-b-init : goal.loop-b-init
unfolding same_bytes zeros
loop-b-init c = (refl, omega arith)

pub overflow_add-sum : goal.overflow_add-sum
overflow_add-sum c = omega (arith, c.type_inv.s c.loop-b.b-index)

pub loop-b-preserved : goal.loop-b-preserved
loop-b-preserved c =
    let l = c.loop-b in
    let s = c.args.s.now in (
      sum_zero l.sum (get_or s l.b-index 0) ∙ ap (λ (b : Bool). b && eqb (get_or s l.b-index 0) 0) l.invariant.0
          ∙ sym (zero_next l.b-index s (omega arith)),
      omega (arith, c.type_inv.s l.b-index),
    )

pub returns : goal.returns
returns c =
    let l = c.loop-b in
    let s = c.args.s.now in
    let e : l.b-index ≡ length s = omega arith in
    l.invariant.0 ∙ ap (λ (n : ℕ). same_bytes (take n s) (zeros n)) e
    ∙ ap (λ (t : List ℕ). same_bytes t (zeros (length s))) (take_all (length s) s (omega arith))

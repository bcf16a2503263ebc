use native.Mathlib.Omega.{arith}
use mathlib.Core.Path.{◌≡◌, refl, sym, ◌∙◌}
use lib.ListN.{take, get_or, length-take}
use Rattle.std.proofs.lemmas.List.{get_or-take}
use Rattle.wire.specs.Number.{num, num_from}
use Rattle.wire.proofs.Number.{num_next, num_room, num_wider, num_first}
use Rattle.wire.proofs.get_be.Goals as goal

pub loop-b-init : goal.loop-b-init
unfolding num num_from
loop-b-init c = (refl, omega arith)

pub overflow_mul-x : goal.overflow_mul-x
overflow_mul-x c =
    let l = c.loop-b in
    omega (arith, num_room l.b-index l.x (omega (arith, length-take c.min.result c.args.s.now)) l.invariant.1)

pub overflow_add-x : goal.overflow_add-x
overflow_add-x c =
    let l = c.loop-b in
    let s = c.args.s.now in
    let m = c.min.result in
    let b : get_or (take m s) l.b-index 0 ≡ get_or s l.b-index 0 = get_or-take m s l.b-index 0 (omega (arith, length-take m s)) in
    omega (arith, b, num_room l.b-index l.x (omega (arith, length-take m s)) l.invariant.1, c.type_inv.s l.b-index)

pub loop-b-preserved : goal.loop-b-preserved
loop-b-preserved c =
    let l = c.loop-b in
    let s = c.args.s.now in
    let m = c.min.result in
    let b : get_or (take m s) l.b-index 0 ≡ get_or s l.b-index 0 = get_or-take m s l.b-index 0 (omega (arith, length-take m s)) in
    rw b (
      rw l.invariant.0 (sym (num_next s l.b-index (omega (arith, length-take m s)))),
      num_wider l.b-index l.x _ l.invariant.1 (c.type_inv.s l.b-index).fits,
    )

pub returns : goal.returns
returns c =
    let l = c.loop-b in
    let s = c.args.s.now in
    l.invariant.0 ∙ num_first l.b-index s (omega (arith, length-take c.min.result s))

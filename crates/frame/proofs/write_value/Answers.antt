use native.Mathlib.Omega.{arith}
use mathlib.Core.Path.{sym}
use Prim.Native.Nat.{ℕ, ◌+◌}
use lib.ListN.{length}
use Rattle.frame.specs.Layout.{counted, type_of, body, frame_of}
use Rattle.frame.proofs.Envelopes.{length-envelope}
use Rattle.frame.proofs.Bodies.{value_refused, value_taken, length-counted}
use Rattle.frame.proofs.Buffers.{frame_refused, frame_no_room, body-written}
use Rattle.frame.proofs.write_value.Goals as goal

pub returns-then-value-gt-MAX_VALUE : goal.returns-then-value-gt-MAX_VALUE
returns-then-value-gt-MAX_VALUE c = frame_refused _ _ _ _ (sym (value_refused _ c.if-value-gt-MAX_VALUE.true))

pub returns-then-out-n : goal.returns-then-out-n
unfolding type_of body frame_of
returns-then-out-n c =
    let v = c.args.value.now in
    frame_no_room _ _ _ (value_taken v c.if-value-gt-MAX_VALUE.false) (omega (arith, length-envelope 17 (counted 2 v), length-counted 2 v))

pub returns : goal.returns
unfolding type_of body frame_of
returns c =
    let a = c.args in
    let v = a.value.now in
    body-written (λ (i : ℕ). counted 2 v) _ 17 (length v + 2) a.out.now _ _ _ (value_taken v c.if-value-gt-MAX_VALUE.false) (omega (arith, length-counted 2 v))
    c.if-out-n.false c.put_counted.ensures c.seal.ensures

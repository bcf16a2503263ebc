use native.Mathlib.Omega.{arith}
use mathlib.Core.Path.{sym}
use Prim.Native.Nat.{ℕ}
use Rattle.wire.specs.Number.{be}
use Rattle.wire.proofs.Number.{length-be}
use Rattle.frame.specs.Layout.{type_of, body, frame_of}
use Rattle.frame.proofs.Envelopes.{length-envelope}
use Rattle.frame.proofs.Bodies.{err_refused, err_taken}
use Rattle.frame.proofs.Buffers.{frame_refused, frame_no_room, body-written}
use Rattle.frame.proofs.write_err.Goals as goal

pub returns-then-number-eq0 : goal.returns-then-number-eq0
returns-then-number-eq0 c = frame_refused _ _ _ _ (sym (err_refused _ c.if-number-eq0.true))

pub returns-then-out-lt9 : goal.returns-then-out-lt9
unfolding type_of body frame_of
returns-then-out-lt9 c =
    let n = c.args.number in
    frame_no_room _ _ _ (err_taken n c.if-number-eq0.false (omega arith)) (omega (arith, length-envelope 20 (be 1 n), length-be 1 n))

pub returns : goal.returns
unfolding type_of body frame_of
returns c =
    let a = c.args in
    let n = a.number in
    body-written (λ (i : ℕ). be i n) _ 20 1 a.out.now _ _ _ (err_taken n c.if-number-eq0.false (omega arith)) (length-be 1 n) c.if-out-lt9.false
    c.put_be.ensures c.seal.ensures

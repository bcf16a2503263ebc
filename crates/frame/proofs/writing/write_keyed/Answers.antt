use borrow.Author.Rules.{rules}
use native.Mathlib.Omega.{arith}
use Rattle.std.specs.Prelude.{Err}
use mathlib.Core.Path.{◌≡◌, sym}
use Prim.Native.Nat.{ℕ, ◌+◌}
use lib.ListN.{length}
use Rattle.frame.specs.Layout.{number_of, counted}
use Rattle.frame.proofs.Envelopes.{length-envelope}
use Rattle.frame.proofs.Bodies.{length-counted}
use Rattle.frame.proofs.Buffers.{frame_refused, frame_no_room, body-written}
use Rattle.frame.proofs.writing.write_keyed.Goals as goal

pub returns-in_err-judge : goal.returns-in_err-judge
returns-in_err-judge c =
    let r : c.from_residual.result ≡ Err c.in_err-judge.field-0.0 = search rules in
    rw r (frame_refused _ _ _ _ c.in_err-judge.ensures.is)

pub returns-then-out-n : goal.returns-then-out-n
returns-then-out-n c =
    let a = c.args in
    frame_no_room _ _ _ (sym c.in_ok-judge.ensures.is) (omega (arith, length-envelope (number_of a.kind) (counted 1 a.key.now), length-counted 1 a.key.now))

pub returns : goal.returns
returns c =
    let a = c.args in
    body-written (λ (i : ℕ). counted 1 a.key.now) _ (number_of a.kind) (length a.key.now + 1) a.out.now _ _ _ (sym c.in_ok-judge.ensures.is)
    (omega (arith, length-counted 1 a.key.now)) c.if-out-n.false c.put_counted.ensures c.seal.ensures

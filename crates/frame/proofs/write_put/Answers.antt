use borrow.Author.Rules.{rules}
use native.Mathlib.Omega.{arith}
use Rattle.std.specs.Prelude.{Err}
use mathlib.Core.Path.{◌≡◌, sym, ◌∙◌}
use Prim.Native.Nat.{ℕ, ◌+◌}
use lib.ListN.{length}
use Rattle.frame.specs.Message.{put}
use Rattle.frame.specs.Layout.{type_of, body, frame_of}
use Rattle.frame.proofs.Envelopes.{length-envelope}
use Rattle.frame.proofs.Bodies.{put_refusal, length-put}
use Rattle.frame.proofs.Buffers.{frame_refused, frame_no_room, body-written}
use Rattle.frame.proofs.write_put.Goals as goal

pub returns-in_err-judge : goal.returns-in_err-judge
returns-in_err-judge c =
    let r : c.from_residual.result ≡ Err c.in_err-judge.field-0.0 = search rules in
    rw r (frame_refused _ _ _ _ (c.in_err-judge.ensures.is ∙ sym (put_refusal _ _)))

pub returns-then-out-n : goal.returns-then-out-n
unfolding type_of frame_of
returns-then-out-n c =
    let a = c.args in
    frame_no_room _ _ _ (put_refusal _ _ ∙ (sym c.in_ok-judge.ensures.is))
    (omega (arith, length-envelope 1 (body (put a.key.now a.value.now)), length-put a.key.now a.value.now))

pub returns : goal.returns
unfolding type_of frame_of
returns c =
    let a = c.args in
    body-written (λ (i : ℕ). body (put a.key.now a.value.now)) _ 1 (length a.key.now + length a.value.now + 3) a.out.now _ _ _
    (put_refusal _ _ ∙ (sym c.in_ok-judge.ensures.is)) (length-put a.key.now a.value.now) c.if-out-n.false c.put_pair.ensures
    c.seal.ensures

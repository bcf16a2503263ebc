use borrow.Author.Rules.{rules}
use native.Mathlib.Omega.{arith}
use Rattle.std.specs.Prelude.{Err}
use mathlib.Core.Path.{◌≡◌, sym, ◌∙◌}
use Prim.Native.Nat.{ℕ, ◌+◌}
use lib.ListN.{length}
use Rattle.entry.specs.Entry.{entry_in}
use Rattle.frame.specs.Message.{repl}
use Rattle.frame.specs.Layout.{type_of, body, frame_of}
use Rattle.frame.proofs.Envelopes.{length-envelope}
use Rattle.frame.proofs.Bodies.{repl_refusal, entry_short, length_repl}
use Rattle.frame.proofs.Buffers.{frame_refused, frame_no_room, body-written}
use Rattle.frame.proofs.write_repl.Goals as goal

pub returns-in_err-judge : goal.returns-in_err-judge
returns-in_err-judge c =
    let r : c.from_residual.result ≡ Err c.in_err-judge.field-0.0 = search rules in
    rw r (frame_refused _ _ _ _ (c.in_err-judge.ensures ∙ sym (repl_refusal _)))

pub overflow_add-n-2 : goal.overflow_add-n-2
overflow_add-n-2 c =
    let k = entry_short _ (sym c.in_ok-judge.ensures) in omega arith

pub overflow_add-n-3 : goal.overflow_add-n-3
overflow_add-n-3 c =
    let k = entry_short _ (sym c.in_ok-judge.ensures) in omega arith

pub returns-then-out-n : goal.returns-then-out-n
unfolding type_of frame_of
returns-then-out-n c =
    let a = c.args in
    let e = (entry_in a.entry) in
    frame_no_room _ _ _ (repl_refusal e ∙ (sym c.in_ok-judge.ensures)) (omega (arith, length-envelope 4 (body (repl e)), length_repl e))

pub seal-requires : goal.seal-requires
seal-requires c =
    let k = entry_short _ (sym c.in_ok-judge.ensures) in (omega arith, omega arith)

pub returns : goal.returns
unfolding type_of frame_of
returns c =
    let a = c.args in
    let e = (entry_in a.entry) in
    body-written (λ (i : ℕ). body (repl e)) _ 4 (length e.key + length e.value + 13) a.out.now _ _ _
    (repl_refusal e ∙ (sym c.in_ok-judge.ensures)) (length_repl e)
    c.if-out-n.false c.put_entry.ensures c.seal.ensures

use borrow.Author.Rules.{rules}
use native.Mathlib.Omega.{arith}
use mathlib.Core.Path.{◌≡◌, sym, ◌∙◌}
use mathlib.Core.Bool.{true}
use Rattle.std.specs.Prelude.{Err}
use Rattle.frame.specs.Reading.{envelope_holds, read_answer}
use Rattle.frame.proofs.Answers.{frame_long, frame_read, frame_unknown, frame_bad}
use Rattle.frame.proofs.read.Goals as goal

pub returns-then-not-envelope_holds : goal.returns-then-not-envelope_holds
returns-then-not-envelope_holds c = frame_bad _ (sym c.envelope_holds.ensures ∙ c.if-not-envelope_holds.true)

pub bounds-frame-2 : goal.bounds-frame-2
bounds-frame-2 c =
    let holds : envelope_holds c.args.frame.now ≡ true = sym c.envelope_holds.ensures ∙ c.if-not-envelope_holds.false in
    omega (arith, frame_long _ holds)

pub read_body-requires : goal.read_body-requires
read_body-requires c =
    let holds : envelope_holds c.args.frame.now ≡ true = sym c.envelope_holds.ensures ∙ c.if-not-envelope_holds.false in
    frame_long _ holds

pub returns-in_err-kind : goal.returns-in_err-kind
returns-in_err-kind c =
    let holds : envelope_holds c.args.frame.now ≡ true = sym c.envelope_holds.ensures ∙ c.if-not-envelope_holds.false in
    let k = c.in_err-kind.ensures in
    let e : Err c.in_err-kind.field-0.0 ≡ read_answer c.args.frame.now = rw k.0 (frame_unknown _ holds k.1) in
    search rules

pub returns : goal.returns
returns c =
    let holds : envelope_holds c.args.frame.now ≡ true = sym c.envelope_holds.ensures ∙ c.if-not-envelope_holds.false in
    frame_read _ holds c.in_ok-kind.kind _ c.in_ok-kind.ensures c.read_body.ensures

use borrow.Author.Rules.{rules}
use mathlib.Core.Path.{◌≡◌, sym, ap, ap₂, ◌∙◌}
use mathlib.Core.List.{List}
use Prim.Native.Nat.{ℕ}
use Rattle.std.specs.Prelude.{Err}
use Rattle.entry.specs.Key.{bad_key}
use Rattle.frame.specs.declared.answer.Message.TheVariants.{Put}
use Rattle.frame.specs.Message.{too_large}
use Rattle.frame.specs.Reading.{said_as, judged_as, read_body}
use Rattle.frame.proofs.Answers.{put_left_over, put_judged}
use Rattle.frame.proofs.reading.read_put.Goals as goal

pub returns-in_err-value : goal.returns-in_err-value
returns-in_err-value c =
    let v = c.in_err-value.ensures.is in
    let e : Err c.in_err-value.field-0.0 ≡ read_body 1 c.args.frame.now = rw v.1 (put_left_over _ _ c.key_in-key.ensures.is v.0) in
    search rules

pub returns-in_err-judge : goal.returns-in_err-judge
returns-in_err-judge c =
    let k = c.key_in-key.result in
    let v = c.in_ok-value.value in
    let w = c.in_ok-value.ensures.is in
    let j = c.judge.ensures ∙ ap₂ (λ (a b : List ℕ). judged_as (bad_key a) (too_large b) (tt {0})) c.of.ensures c.of-2.ensures in
    let e : Err c.in_err-judge.field-0.0 ≡ read_body 1 c.args.frame.now =
    ap (said_as (λ u. Put k v)) (sym c.in_err-judge.was) ∙ put_judged _ _ c.key_in-key.ensures.is v w.0 w.1 _ j in
    search rules

pub returns : goal.returns
returns c =
    let k = c.key_in-key.result in
    let v = c.in_ok-value.value in
    let w = c.in_ok-value.ensures.is in
    let j = c.judge.ensures ∙ ap₂ (λ (a b : List ℕ). judged_as (bad_key a) (too_large b) (tt {0})) c.of.ensures c.of-2.ensures in
    ap (said_as (λ u. Put k v)) (sym c.in_ok-judge.was) ∙ put_judged _ _ c.key_in-key.ensures.is v w.0 w.1 _ j

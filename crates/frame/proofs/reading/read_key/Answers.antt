use borrow.Author.Rules.{rules}
use mathlib.Core.Path.{◌≡◌, sym, ap, ◌∙◌}
use mathlib.Core.List.{List, []}
use Prim.Native.Nat.{ℕ}
use Rattle.std.specs.Prelude.{Err}
use Rattle.entry.specs.Key.{bad_key}
use Rattle.frame.specs.declared.answer.Message.TheVariants.{Get, Del}
use Rattle.frame.specs.Message.{too_large}
use Rattle.frame.specs.Reading.{said_as, judged_as}
use Rattle.frame.proofs.Answers.{get_alone, del_alone, key_left_over, key_judged}
use Rattle.frame.proofs.reading.read_key.Goals as goal

pub returns-then-frame-key-clause-get : goal.returns-then-frame-key-clause-get
returns-then-frame-key-clause-get c = key_left_over _ 2 Get (get_alone _) _ c.key_in-key.ensures.is c.if-frame-key.true

pub returns-in_err-judge-clause-get : goal.returns-in_err-judge-clause-get
returns-in_err-judge-clause-get c =
    let s = c.args.frame.now in
    let k = c.key_in-key.result in
    let r : c.from_residual.result ≡ Err c.in_err-judge.field-0.0 = search rules in
    let j = c.judge.ensures ∙ ap (λ (a : List ℕ). judged_as (bad_key a) (too_large []) (tt {0})) c.of.ensures in
    ap (said_as Get) r ∙ ap (said_as (λ u. Get k)) (sym c.in_err-judge.was)
    ∙ key_judged s 2 Get (get_alone s) k c.key_in-key.ensures.is c.if-frame-key.false _ j

pub returns-clause-get : goal.returns-clause-get
returns-clause-get c =
    let s = c.args.frame.now in
    let k = c.key_in-key.result in
    let j = c.judge.ensures ∙ ap (λ (a : List ℕ). judged_as (bad_key a) (too_large []) (tt {0})) c.of.ensures in
    ap (said_as (λ u. Get k)) (sym c.in_ok-judge.was) ∙ key_judged s 2 Get (get_alone s) k c.key_in-key.ensures.is c.if-frame-key.false _ j

pub returns-then-frame-key-clause-del : goal.returns-then-frame-key-clause-del
returns-then-frame-key-clause-del c = key_left_over _ 3 Del (del_alone _) _ c.key_in-key.ensures.is c.if-frame-key.true

pub returns-in_err-judge-clause-del : goal.returns-in_err-judge-clause-del
returns-in_err-judge-clause-del c =
    let s = c.args.frame.now in
    let k = c.key_in-key.result in
    let r : c.from_residual.result ≡ Err c.in_err-judge.field-0.0 = search rules in
    let j = c.judge.ensures ∙ ap (λ (a : List ℕ). judged_as (bad_key a) (too_large []) (tt {0})) c.of.ensures in
    ap (said_as Del) r ∙ ap (said_as (λ u. Del k)) (sym c.in_err-judge.was)
    ∙ key_judged s 3 Del (del_alone s) k c.key_in-key.ensures.is c.if-frame-key.false _ j

pub returns-clause-del : goal.returns-clause-del
returns-clause-del c =
    let s = c.args.frame.now in
    let k = c.key_in-key.result in
    let j = c.judge.ensures ∙ ap (λ (a : List ℕ). judged_as (bad_key a) (too_large []) (tt {0})) c.of.ensures in
    ap (said_as (λ u. Del k)) (sym c.in_ok-judge.was) ∙ key_judged s 3 Del (del_alone s) k c.key_in-key.ensures.is c.if-frame-key.false _ j

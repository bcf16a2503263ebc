use borrow.Author.Rules.{rules}
use mathlib.Core.Path.{◌≡◌, refl, sym, ap, ap₂, ◌∙◌}
use mathlib.Core.Bool.{true, false}
use mathlib.Core.List.{List, []}
use Prim.Native.Nat.{ℕ, ◌+◌}
use lib.ListN.{get_or}
use borrow.Author.Tests.{not-true, not-false}
use Rattle.std.specs.Prelude.{Err}
use Rattle.entry.specs.Key.{bad_key}
use Rattle.entry.specs.Order.{least}
use Rattle.entry.specs.Entry.{entry_of, bad_flag}
use Rattle.frame.specs.declared.answer.Message.TheVariants.{Repl}
use Rattle.frame.specs.Message.{too_large}
use Rattle.frame.specs.Reading.{part, said_as, judged_as, stamp_in, read_body}
use Rattle.frame.proofs.Answers.{repl_left_over, repl_flag, repl_judged}
use Rattle.frame.proofs.reading.read_repl.Goals as goal

pub returns-in_err-value : goal.returns-in_err-value
returns-in_err-value c =
    let v = c.in_err-value.ensures.is in
    let e : Err c.in_err-value.field-0.0 ≡ read_body 4 c.args.frame.now = rw v.1 (repl_left_over _ _ c.key_in-key.ensures.is v.0) in
    search rules

pub returns-then-not-flag_holds : goal.returns-then-not-flag_holds
returns-then-not-flag_holds c =
    let s = c.args.frame.now in
    let v = c.in_ok-value.value in
    let w = c.in_ok-value.ensures.is in
    let f : bad_flag (entry_of [] (part v s) (get_or s (c.key_in-key.result.len + 5) 0) least) ≡ true =
    rw (← c.of.ensures) (not-false _ (sym c.flag_holds.ensures ∙ c.if-not-flag_holds.true)) in
    repl_flag s _ c.key_in-key.ensures.is v w.0 w.1 f

pub returns-in_err-judge : goal.returns-in_err-judge
returns-in_err-judge c =
    let s = c.args.frame.now in
    let k = c.key_in-key.result in
    let v = c.in_ok-value.value in
    let w = c.in_ok-value.ensures.is in
    let f : bad_flag (entry_of [] (part v s) (get_or s (k.len + 5) 0) least) ≡ false =
    rw (← c.of.ensures) (not-true _ (sym c.flag_holds.ensures ∙ c.if-not-flag_holds.false)) in
    let j = c.judge.ensures ∙ ap₂ (λ (a b : List ℕ). judged_as (bad_key a) (too_large b) (tt {0})) c.of-2.ensures c.of-3.ensures in
    let e : Err c.in_err-judge.field-0.0 ≡ read_body 4 s =
    ap (said_as (λ u. Repl (record { key = k; value = v; flag = get_or s (k.len + 5) 0; stamp = stamp_in (k.len + 6) s }))) (sym c.in_err-judge.was)
    ∙ repl_judged s k c.key_in-key.ensures.is v w.0 w.1 f _ refl _ j in
    search rules

pub returns : goal.returns
returns c =
    let s = c.args.frame.now in
    let k = c.key_in-key.result in
    let v = c.in_ok-value.value in
    let w = c.in_ok-value.ensures.is in
    let f : bad_flag (entry_of [] (part v s) (get_or s (k.len + 5) 0) least) ≡ false =
    rw (← c.of.ensures) (not-true _ (sym c.flag_holds.ensures ∙ c.if-not-flag_holds.false)) in
    let j = c.judge.ensures ∙ ap₂ (λ (a b : List ℕ). judged_as (bad_key a) (too_large b) (tt {0})) c.of-2.ensures c.of-3.ensures in
    ap (said_as (λ u. Repl (record { key = k; value = v; flag = get_or s (k.len + 5) 0; stamp = c.stamp_at.result }))) (sym c.in_ok-judge.was)
    ∙ repl_judged s k c.key_in-key.ensures.is v w.0 w.1 f _ c.stamp_at.ensures _ j

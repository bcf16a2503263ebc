use borrow.Author.Rules.{rules}
use native.Mathlib.Omega.{arith}
use mathlib.Core.Path.{◌≡◌, sym, ap, ◌∙◌}
use Prim.Native.Nat.{◌≤◌}
use mathlib.Core.Bool.{true, false}
use lib.ListN.{length}
use borrow.Author.Tests.{not-true, not-false}
use Rattle.std.specs.Prelude.{None, Some, Err, MatchOption}
use Rattle.entry.specs.Key.{bad_key}
use Rattle.explain.specs.Explain.{answer_of}
use Rattle.explain.specs.Walk.{entries_in}
use Rattle.explain.proofs.Answering.{count_readable, says_unreadable, says_bad_key, says_no_room, told_place, says_best}
use Rattle.explain.proofs.explain.Goals as goal

pub returns-in_err-n-clause-told : goal.returns-in_err-n-clause-told
returns-in_err-n-clause-told c =
    let r : c.from_residual.result ≡ Err c.in_err-n.field-0.0 = search rules in
    let a = c.args in
    ap answer_of r ∙ (says_unreadable a.deliveries.now a.key.now a.reasons.now _ c.in_err-n.ensures).0

pub returns-in_err-n-clause-left : goal.returns-in_err-n-clause-left
returns-in_err-n-clause-left c =
    let a = c.args in
    (says_unreadable a.deliveries.now a.key.now a.reasons.now _ c.in_err-n.ensures).1

pub returns-then-not-is_acceptable_key-clause-told : goal.returns-then-not-is_acceptable_key-clause-told
returns-then-not-is_acceptable_key-clause-told c =
    let listed = count_readable c.args.deliveries.now _ c.in_ok-n.ensures in
    let bad : bad_key c.args.key.now ≡ true = not-false _ (sym c.is_acceptable_key.ensures ∙ c.if-not-is_acceptable_key.true) in
    let a = c.args in
    (says_bad_key a.deliveries.now a.key.now a.reasons.now listed.0 bad).0

pub returns-then-not-is_acceptable_key-clause-left : goal.returns-then-not-is_acceptable_key-clause-left
returns-then-not-is_acceptable_key-clause-left c =
    let listed = count_readable c.args.deliveries.now _ c.in_ok-n.ensures in
    let bad : bad_key c.args.key.now ≡ true = not-false _ (sym c.is_acceptable_key.ensures ∙ c.if-not-is_acceptable_key.true) in
    let a = c.args in
    (says_bad_key a.deliveries.now a.key.now a.reasons.now listed.0 bad).1

pub returns-then-reasons-n-clause-told : goal.returns-then-reasons-n-clause-told
returns-then-reasons-n-clause-told c =
    let listed = count_readable c.args.deliveries.now _ c.in_ok-n.ensures in
    let good : bad_key c.args.key.now ≡ false = not-true _ (sym c.is_acceptable_key.ensures ∙ c.if-not-is_acceptable_key.false) in
    let a = c.args in
    (says_no_room a.deliveries.now a.key.now a.reasons.now listed.0 good (omega (arith, listed.1, c.if-reasons-n.true))).0

pub returns-then-reasons-n-clause-left : goal.returns-then-reasons-n-clause-left
returns-then-reasons-n-clause-left c =
    let listed = count_readable c.args.deliveries.now _ c.in_ok-n.ensures in
    let good : bad_key c.args.key.now ≡ false = not-true _ (sym c.is_acceptable_key.ensures ∙ c.if-not-is_acceptable_key.false) in
    let a = c.args in
    (says_no_room a.deliveries.now a.key.now a.reasons.now listed.0 good (omega (arith, listed.1, c.if-reasons-n.true))).1

pub find_winner-best-requires : goal.find_winner-best-requires
find_winner-best-requires c = (count_readable c.args.deliveries.now _ c.in_ok-n.ensures).0

pub write_reasons-requires : goal.write_reasons-requires
write_reasons-requires c =
    let listed = count_readable c.args.deliveries.now _ c.in_ok-n.ensures in
    let roomy : length (entries_in c.args.deliveries.now) ≤ length c.args.reasons.now = omega (arith, listed.1, c.if-reasons-n.false) in
    (listed.0, roomy, c.find_winner-best.ensures)

pub returns-clause-told : goal.returns-clause-told
returns-clause-told c =
    let listed = count_readable c.args.deliveries.now _ c.in_ok-n.ensures in
    let good : bad_key c.args.key.now ≡ false = not-true _ (sym c.is_acceptable_key.ensures ∙ c.if-not-is_acceptable_key.false) in
    let roomy : length (entries_in c.args.deliveries.now) ≤ length c.args.reasons.now = omega (arith, listed.1, c.if-reasons-n.false) in
    let a = c.args in
    let m : MatchOption c.find_winner-best.result (c.map.result ≡ None) (λ w. c.map.result ≡ Some w.place) = search rules in
    told_place c.find_winner-best.result c.map.result m
    ∙ (says_best a.deliveries.now a.key.now a.reasons.now listed.0 good roomy _ c.find_winner-best.ensures _ c.write_reasons.ensures).0

pub returns-clause-left : goal.returns-clause-left
returns-clause-left c =
    let listed = count_readable c.args.deliveries.now _ c.in_ok-n.ensures in
    let good : bad_key c.args.key.now ≡ false = not-true _ (sym c.is_acceptable_key.ensures ∙ c.if-not-is_acceptable_key.false) in
    let roomy : length (entries_in c.args.deliveries.now) ≤ length c.args.reasons.now = omega (arith, listed.1, c.if-reasons-n.false) in
    let a = c.args in
    (says_best a.deliveries.now a.key.now a.reasons.now listed.0 good roomy _ c.find_winner-best.ensures _ c.write_reasons.ensures).1

use mathlib.Core.Path.{refl, sym, ap, ◌∙◌}
use lib.ListN.{length}
use Prim.Native.Nat.{◌+◌, ◌-◌}
use borrow.Author.Tests.{eq-eqb, ne_eqb}
use Rattle.frame.specs.Reading.{span, vlen}
use Rattle.frame.proofs.Fields.{number_read}
use Rattle.frame.proofs.Checks.{ends_short, ends_by_length}
use Rattle.frame.proofs.reading.value_in.Goals as goal

pub returns-then-frame-at-clause-is : goal.returns-then-frame-at-clause-is
returns-then-frame-at-clause-is c = (sym (ends_short c.args.at c.args.frame.now c.if-frame-at.true), refl)

pub returns-then-number_at-len-clause-is : goal.returns-then-number_at-len-clause-is
returns-then-number_at-len-clause-is c =
    let a = c.args in
    let e = ends_by_length a.at a.frame.now c.number_at.result c.if-frame-at.false (number_read _ a.at 2 a.frame.now c.number_at.ensures.is) in
    (sym e ∙ ne_eqb c.number_at.result (length a.frame.now - 6 - a.at) c.if-number_at-len.true, refl)

pub returns-clause-is : goal.returns-clause-is
unfolding vlen
returns-clause-is c =
    let a = c.args in
    let e = ends_by_length a.at a.frame.now c.number_at.result c.if-frame-at.false (number_read _ a.at 2 a.frame.now c.number_at.ensures.is) in (
      sym e ∙ eq-eqb c.number_at.result (length a.frame.now - 6 - a.at) c.if-number_at-len.false,
      ap (span (a.at + 2)) (sym c.if-number_at-len.false ∙ number_read _ a.at 2 a.frame.now c.number_at.ensures.is),
    )

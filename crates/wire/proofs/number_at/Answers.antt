use mathlib.Core.Path.{◌≡◌, ap, ◌∙◌}
use mathlib.Core.List.{List}
use Prim.Native.Nat.{ℕ}
use lib.ListN.{take}
use Rattle.wire.specs.Number.{num}
use Rattle.wire.specs.Fill.{field}
use Rattle.wire.proofs.Fill.{field_whole}
use Rattle.wire.proofs.Fields.{num_first_field, num-field-lt}
use Rattle.wire.proofs.number_at.Goals as goal

pub returns-then-cut-width : goal.returns-then-cut-width
returns-then-cut-width c =
    let a = c.args in
    let e = c.get_be.ensures ∙ ap (λ (l : List ℕ). num (take 8 l)) c.part-cut.ensures ∙ num_first_field a.at a.width a.s.now in
    record { is = e; fits = rw e (num-field-lt a.at _ a.s.now (λ i. (c.type_inv.s i).fits)) }

pub returns : goal.returns
returns c =
    let a = c.args in
    let whole : take a.width c.part-cut.result.now ≡ field a.at a.width a.s.now =
    ap (take a.width) c.part-cut.ensures ∙ field_whole a.at a.width a.s.now in
    let e = c.get_be-2.ensures ∙ ap (λ (l : List ℕ). num (take 8 l)) whole ∙ num_first_field a.at a.width a.s.now in
    record { is = e; fits = rw e (num-field-lt a.at _ a.s.now (λ i. (c.type_inv.s i).fits)) }

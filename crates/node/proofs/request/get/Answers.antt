use mathlib.Core.Path.{◌≡◌, refl, ap, ◌∙◌}
use Rattle.std.specs.Prelude.{Ok}
use Rattle.store.specs.Lookup.{value_part}
use Rattle.node.specs.Handler.{gets}
use Rattle.node.proofs.Settling.{settled, settled_as, settled_refused}
use Rattle.node.proofs.Serving.{looked_as, value_at_lem, value_fits}
use Rattle.node.proofs.request.get.Goals as goal

pub give_value-requires : goal.give_value-requires
give_value-requires c =
    let s = c.args.store.now in
    let found = c.in-Ok-Value.is ∙ ap Ok c.in-Ok-Value.field-0-is in
    let value_is : c.of.result.now ≡ value_part s c.args.key.now =
    c.of.ensures ∙ (value_at_lem s c.requires.is_sound c.args.key.now _ c.in-Ok-Value.span c.lookup_unchecked.ensures found).1 in
    (c.requires.room, rw value_is (value_fits s c.requires.is_sound c.args.key.now))

pub returns-in-Ok-Value : goal.returns-in-Ok-Value
unfolding gets
returns-in-Ok-Value c =
    let a = c.args in
    let s = a.store.now in
    let found = c.in-Ok-Value.is ∙ ap Ok c.in-Ok-Value.field-0-is in
    let value_is : c.of.result.now ≡ value_part s a.key.now =
    c.of.ensures ∙ (value_at_lem s c.requires.is_sound a.key.now _ c.in-Ok-Value.span c.lookup_unchecked.ensures found).1 in
    settled_as _ _ _ _ _ _ _ _
    (looked_as s c.requires.is_sound a.key.now a.clock _ _ c.lookup_unchecked.ensures found)
    (settled _ _ _ _ _ _ _ _ _ refl (rw value_is at c.give_value.ensures))

pub returns-in-Ok-Deleted : goal.returns-in-Ok-Deleted
unfolding gets
returns-in-Ok-Deleted c =
    let a = c.args in
    settled_as _ _ _ _ _ _ _ _
    (looked_as a.store.now c.requires.is_sound a.key.now a.clock _ _ c.lookup_unchecked.ensures (c.in-Ok-Deleted.is ∙ ap Ok c.in-Ok-Deleted.field-0-is))
    (settled _ _ _ _ _ _ _ _ _ refl c.give_nothing.ensures)

pub returns-in-Ok-Never : goal.returns-in-Ok-Never
unfolding gets
returns-in-Ok-Never c =
    let a = c.args in
    settled_as _ _ _ _ _ _ _ _
    (looked_as a.store.now c.requires.is_sound a.key.now a.clock _ _ c.lookup_unchecked.ensures (c.in-Ok-Never.is ∙ ap Ok c.in-Ok-Never.field-0-is))
    (settled _ _ _ _ _ _ _ _ _ refl c.give_nothing-in-Ok-Never.ensures)

pub returns-in-Err : goal.returns-in-Err
unfolding gets
returns-in-Err c =
    let a = c.args in
    settled_as _ _ _ _ _ _ _ _
    (looked_as a.store.now c.requires.is_sound a.key.now a.clock _ _ c.lookup_unchecked.ensures c.in-Err.is)
    (settled_refused _ _ _ _ _ _ _ refl c.refuse.ensures)

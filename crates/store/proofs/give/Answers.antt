use native.Mathlib.Omega.{arith}
use mathlib.Core.Path.{◌≡◌, ap, ◌∙◌}
use Rattle.std.specs.Prelude.{Ok}
use Rattle.image.specs.Image.{slot_entry}
use Rattle.store.specs.Unchecked.{placement}
use Rattle.store.specs.declared.Placement.TheVariants.{Insert}
use Rattle.store.proofs.Ways.{insert_fits, replace_fits, inserted_as}
use Rattle.store.proofs.give.Goals as goal

pub open_slot-requires : goal.open_slot-requires
open_slot-requires c =
    insert_fits c.args.receiver.now _ _ (rw c.in-Ok-Insert.field-0-is at c.in-Ok-Insert.ensures)

pub write_slot-requires : goal.write_slot-requires
write_slot-requires c =
    let f = insert_fits c.args.receiver.now _ _ (rw c.in-Ok-Insert.field-0-is at c.in-Ok-Insert.ensures) in
    (omega (arith, f.0, f.1, c.open_slot.auto.store), c.requires)

pub write_slot-requires-in-Ok-Replace : goal.write_slot-requires-in-Ok-Replace
write_slot-requires-in-Ok-Replace c =
    (replace_fits c.args.receiver.now _ _ (rw c.in-Ok-Replace.field-0-is at c.in-Ok-Replace.ensures), c.requires)

pub returns-in-Ok-Insert : goal.returns-in-Ok-Insert
returns-in-Ok-Insert c =
    let s = c.args.receiver.now in
    let p : Ok (Insert c.in-Ok-Insert.at) ≡ placement s (slot_entry c.args.slot.now) =
    rw c.in-Ok-Insert.field-0-is at c.in-Ok-Insert.ensures ∙ ap (placement s) c.slot_entry.ensures in
    inserted_as s _ _ p c.args.slot.now _ _ c.open_slot.ensures c.write_slot.ensures

use mathlib.Core.Path.{ap, ◌∙◌}
use Rattle.image.specs.Image.{stamp_in}
use Rattle.store.proofs.Overtaking.{not_held, held_stamp}
use Rattle.store.proofs.is_overtaken.Goals as goal

pub returns-in-Ok : goal.returns-in-Ok
returns-in-Ok c =
    let a = c.args in
    held_stamp a.store.now a.key.now _ a.stamp c.in-Ok.ensures _ _ (c.slot_stamp.ensures ∙ ap stamp_in c.slot.ensures) c.is_below.ensures

pub returns-in-Err : goal.returns-in-Err
returns-in-Err c =
    let a = c.args in
    not_held a.store.now a.key.now _ a.stamp c.in-Err.ensures

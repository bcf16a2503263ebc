use mathlib.Core.Path.{◌∙◌}
use borrow.Author.Tests.{ne_eqb}
use Rattle.store.proofs.Purging.{slot_active, slot_deleted}
use Rattle.store.proofs.clear.is_cleared.Goals as goal

pub returns-then-slot_flag-eq-TOMBSTONE : goal.returns-then-slot_flag-eq-TOMBSTONE
returns-then-slot_flag-eq-TOMBSTONE c =
    let a = c.args in
    slot_deleted a.line a.slot.now _ c.slot_flag.ensures c.if-slot_flag-eq-TOMBSTONE.true _ c.slot_stamp.ensures

pub returns-else-slot_flag-eq-TOMBSTONE : goal.returns-else-slot_flag-eq-TOMBSTONE
returns-else-slot_flag-eq-TOMBSTONE c =
    let a = c.args in
    ne_eqb c.slot_flag.result 1 c.if-slot_flag-eq-TOMBSTONE.false ∙ slot_active a.line a.slot.now _ c.slot_flag.ensures c.if-slot_flag-eq-TOMBSTONE.false

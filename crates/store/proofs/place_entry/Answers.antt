use native.Mathlib.Omega.{arith}
use mathlib.Core.Path.{refl}
use Rattle.entry.specs.Entry.{entry_in}
use Rattle.image.specs.Image.{slot_bytes}
use Rattle.store.specs.Unchecked.{after_placed}
use Rattle.store.proofs.Ways.{insert_fits, replace_fits, left_as, inserted_as}
use Rattle.store.proofs.place_entry.Goals as goal

pub returns-in_err-at-clause-left : goal.returns-in_err-at-clause-left
unfolding after_placed
returns-in_err-at-clause-left c = left_as c.args.store.now (entry_in c.args.entry) _ c.in_err-at.ensures (slot_bytes (entry_in c.args.entry)) _ refl

pub open_slot-requires : goal.open_slot-requires
open_slot-requires c = insert_fits c.args.store.now _ _ (rw c.in-Insert.is at c.in_ok-at.ensures)

pub write_entry-requires : goal.write_entry-requires
write_entry-requires c =
    let f = insert_fits c.args.store.now _ _ (rw c.in-Insert.is at c.in_ok-at.ensures) in
    omega (arith, f.0, f.1, c.open_slot.auto.store)

pub write_entry-requires-in-Replace : goal.write_entry-requires-in-Replace
write_entry-requires-in-Replace c = replace_fits c.args.store.now _ _ (rw c.in-Replace.is at c.in_ok-at.ensures)

pub returns-in-Insert-clause-left : goal.returns-in-Insert-clause-left
unfolding after_placed
returns-in-Insert-clause-left c =
    inserted_as c.args.store.now (entry_in c.args.entry) _ (rw c.in-Insert.is at c.in_ok-at.ensures) (slot_bytes (entry_in c.args.entry)) _ _
    c.open_slot.ensures c.write_entry.ensures

pub returns-in-Replace-clause-left : goal.returns-in-Replace-clause-left
unfolding after_placed
returns-in-Replace-clause-left c =
    left_as c.args.store.now (entry_in c.args.entry) _ (rw c.in-Replace.is at c.in_ok-at.ensures) (slot_bytes (entry_in c.args.entry)) _
    c.write_entry-in-Replace.ensures

pub returns-in-Kept-clause-left : goal.returns-in-Kept-clause-left
unfolding after_placed
returns-in-Kept-clause-left c =
    left_as c.args.store.now (entry_in c.args.entry) _ (rw c.in-Kept.is at c.in_ok-at.ensures) (slot_bytes (entry_in c.args.entry)) _ refl

use Rattle.entry.specs.Entry.{entry_in}
use Rattle.store.proofs.Ways.{place_kept, place_cut, place_over, place_old, place_full, place_short, place_new}
use Rattle.store.proofs.placement_of.Goals as goal

pub returns-then-not-beats : goal.returns-then-not-beats
returns-then-not-beats c =
    place_kept c.args.store.now (entry_in c.args.entry) _ c.in-Ok.ensures _ _ c.slot_entry.ensures c.slot.ensures _ (c.beats.ensures _ _)
    c.if-not-beats.true

pub returns-then-not-has_slot : goal.returns-then-not-has_slot
returns-then-not-has_slot c =
    place_cut c.args.store.now (entry_in c.args.entry) _ c.in-Ok.ensures _ _ c.slot_entry.ensures c.slot.ensures _ (c.beats.ensures _ _)
    c.if-not-beats.false _ c.has_slot.ensures c.if-not-has_slot.true

pub returns-else-not-has_slot : goal.returns-else-not-has_slot
returns-else-not-has_slot c =
    place_over c.args.store.now (entry_in c.args.entry) _ c.in-Ok.ensures _ _ c.slot_entry.ensures c.slot.ensures _ (c.beats.ensures _ _)
    c.if-not-beats.false _ c.has_slot.ensures c.if-not-has_slot.false

pub returns-then-entry-purge_line : goal.returns-then-entry-purge_line
returns-then-entry-purge_line c =
    place_old c.args.store.now (entry_in c.args.entry) _ c.in-Err.ensures _ c.purge_line.ensures.is c.if-entry-purge_line.true

pub returns-then-slot_count-used : goal.returns-then-slot_count-used
returns-then-slot_count-used c =
    place_full c.args.store.now (entry_in c.args.entry) _ c.in-Err.ensures _ c.purge_line.ensures.is c.if-entry-purge_line.false
    _ _ c.slot_count.ensures.is c.used_count-used.ensures.is c.if-slot_count-used.true

pub returns-then-not-has_slot-2 : goal.returns-then-not-has_slot-2
returns-then-not-has_slot-2 c =
    place_short c.args.store.now (entry_in c.args.entry) _ c.in-Err.ensures _ c.purge_line.ensures.is c.if-entry-purge_line.false
    _ _ c.slot_count.ensures.is c.used_count-used.ensures.is c.if-slot_count-used.false _ c.has_slot-in-Err.ensures c.if-not-has_slot-2.true

pub returns-else-not-has_slot-2 : goal.returns-else-not-has_slot-2
returns-else-not-has_slot-2 c =
    place_new c.args.store.now (entry_in c.args.entry) _ c.in-Err.ensures _ c.purge_line.ensures.is c.if-entry-purge_line.false
    _ _ c.slot_count.ensures.is c.used_count-used.ensures.is c.if-slot_count-used.false _ c.has_slot-in-Err.ensures c.if-not-has_slot-2.false

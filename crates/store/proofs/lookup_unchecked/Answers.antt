use Rattle.store.proofs.Ways.{look_bad, look_never, look_deleted, look_value}
use Rattle.store.proofs.lookup_unchecked.Goals as goal

pub returns-then-not-is_acceptable_key : goal.returns-then-not-is_acceptable_key
returns-then-not-is_acceptable_key c =
    look_bad c.args.store.now c.args.key.now _ c.is_acceptable_key.ensures c.if-not-is_acceptable_key.true

pub returns-in_default : goal.returns-in_default
returns-in_default c =
    look_never c.args.store.now c.args.key.now _ c.is_acceptable_key.ensures c.if-not-is_acceptable_key.false _ c.in_default.ensures

pub returns-then-slot_flag-eq-TOMBSTONE : goal.returns-then-slot_flag-eq-TOMBSTONE
returns-then-slot_flag-eq-TOMBSTONE c =
    look_deleted c.args.store.now c.args.key.now _ c.is_acceptable_key.ensures c.if-not-is_acceptable_key.false _ c.in-Ok.ensures
    _ c.slot-held.ensures _ c.slot_flag.ensures c.if-slot_flag-eq-TOMBSTONE.true

pub returns : goal.returns
returns c =
    look_value c.args.store.now c.args.key.now _ c.is_acceptable_key.ensures c.if-not-is_acceptable_key.false _ c.in-Ok.ensures
    _ c.slot-held.ensures _ c.slot_flag.ensures c.if-slot_flag-eq-TOMBSTONE.false _ c.slot_value-len.ensures

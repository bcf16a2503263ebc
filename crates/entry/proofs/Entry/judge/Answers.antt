use native.Mathlib.Omega.{arith}
use Rattle.entry.specs.Entry.{entry_in}
use Rattle.entry.proofs.Accept.{opposite_true, opposite_false, refused_9, refused_1, refused_2, refused_flag, refused_tombstone, accepted_tombstone}
use Rattle.entry.proofs.Accept.{accepted_active}
use mathlib.Core.Path.{ap}
use mathlib.Core.Bool.{not}
use Rattle.entry.proofs.Entry.judge.Goals as goal

pub returns-then-self-ge-TIME_LIMIT : goal.returns-then-self-ge-TIME_LIMIT
returns-then-self-ge-TIME_LIMIT c =
    let e = c.args.self in
    refused_9 (entry_in e) c.if-self-ge-TIME_LIMIT.true

pub returns-then-not-is_acceptable_key : goal.returns-then-not-is_acceptable_key
returns-then-not-is_acceptable_key c =
    let e = c.args.self in
    refused_1 (entry_in e)
    c.if-self-ge-TIME_LIMIT.false (opposite_true _ _ c.is_acceptable_key.ensures (ap not c.if-not-is_acceptable_key.true))

pub returns-then-self-gt-MAX_VALUE : goal.returns-then-self-gt-MAX_VALUE
returns-then-self-gt-MAX_VALUE c =
    let e = c.args.self in
    refused_2 (entry_in e)
    c.if-self-ge-TIME_LIMIT.false (opposite_false _ _ c.is_acceptable_key.ensures (ap not c.if-not-is_acceptable_key.false)) c.if-self-gt-MAX_VALUE.true

pub returns-then-self-gt-TOMBSTONE : goal.returns-then-self-gt-TOMBSTONE
returns-then-self-gt-TOMBSTONE c =
    let e = c.args.self in
    refused_flag (entry_in e)
    c.if-self-ge-TIME_LIMIT.false (opposite_false _ _ c.is_acceptable_key.ensures
    (ap not c.if-not-is_acceptable_key.false)) c.if-self-gt-MAX_VALUE.false c.if-self-gt-TOMBSTONE.true

pub returns-then-self-gt0 : goal.returns-then-self-gt0
returns-then-self-gt0 c =
    let e = c.args.self in
    refused_tombstone (entry_in e)
    c.if-self-ge-TIME_LIMIT.false (opposite_false _ _ c.is_acceptable_key.ensures (ap not c.if-not-is_acceptable_key.false))
    c.if-self-gt-MAX_VALUE.false (omega arith) c.if-self-gt0.true

pub returns-else-self-gt0 : goal.returns-else-self-gt0
returns-else-self-gt0 c =
    let e = c.args.self in
    accepted_tombstone (entry_in e)
    c.if-self-ge-TIME_LIMIT.false (opposite_false _ _ c.is_acceptable_key.ensures (ap not c.if-not-is_acceptable_key.false))
    c.if-self-gt-MAX_VALUE.false (omega arith) c.if-self-gt0.false

pub returns-else-self-ne-ACTIVE : goal.returns-else-self-ne-ACTIVE
returns-else-self-ne-ACTIVE c =
    let e = c.args.self in
    accepted_active (entry_in e)
    c.if-self-ge-TIME_LIMIT.false (opposite_false _ _ c.is_acceptable_key.ensures
    (ap not c.if-not-is_acceptable_key.false)) c.if-self-gt-MAX_VALUE.false c.if-self-ne-ACTIVE.false

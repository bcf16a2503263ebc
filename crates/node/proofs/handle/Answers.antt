use mathlib.Core.Path.{◌≡◌, refl, sym, ◌∙◌}
use Rattle.std.proofs.Common.{rules}
use Rattle.frame.proofs.RoundTrips.{read_lies_within}
use Rattle.node.proofs.Handling.{no_room, handles, refuses, unsound, bad_times, reply_type, served, unread}
use Rattle.node.proofs.handle.Goals as goal

pub returns-then-reply-lt-MAX_FRAME : goal.returns-then-reply-lt-MAX_FRAME
returns-then-reply-lt-MAX_FRAME c =
    let a = c.args in
    no_room a.store.now a.clock a.time a.frame.now a.reply.now c.if-reply-lt-MAX_FRAME.true

pub returns-then-not-is_sound : goal.returns-then-not-is_sound
returns-then-not-is_sound c =
    let a = c.args in
    refuses a.store.now a.clock a.time a.frame.now a.reply.now c.if-reply-lt-MAX_FRAME.false _ _ _ 5
    (unsound a.store.now a.clock a.time a.frame.now a.reply.now (sym c.is_sound.ensures ∙ c.if-not-is_sound.true))
    refl c.refuse.ensures

pub returns-then-time-ge-TIME_LIMIT : goal.returns-then-time-ge-TIME_LIMIT
returns-then-time-ge-TIME_LIMIT c =
    let a = c.args in
    refuses a.store.now a.clock a.time a.frame.now a.reply.now c.if-reply-lt-MAX_FRAME.false _ _ _ 9
    (bad_times a.store.now a.clock a.time a.frame.now a.reply.now (sym c.if-not-is_sound.ensures) c.then-time-ge-TIME_LIMIT.either)
    refl c.refuse-then-time-ge-TIME_LIMIT.ensures

pub returns-then-is_reply : goal.returns-then-is_reply
returns-then-is_reply c =
    let a = c.args in
    refuses a.store.now a.clock a.time a.frame.now a.reply.now c.if-reply-lt-MAX_FRAME.false _ _ _ 3
    (reply_type a.store.now a.clock a.time a.frame.now a.reply.now (sym c.if-not-is_sound.ensures) c.if-time-ge-TIME_LIMIT.false
    c.if-clock-ge-TIME_LIMIT.false (sym c.if-is_reply.ensures))
    refl c.refuse-then-is_reply.ensures

pub returns-in_default : goal.returns-in_default
returns-in_default c =
    let a = c.args in
    let r : c.unwrap_err.result ≡ c.in_default.field-0 = search rules in
    refuses a.store.now a.clock a.time a.frame.now a.reply.now c.if-reply-lt-MAX_FRAME.false _ _ _ _
    (unread a.store.now a.clock a.time a.frame.now a.reply.now (sym c.if-not-is_sound.ensures) c.if-time-ge-TIME_LIMIT.false
    c.if-clock-ge-TIME_LIMIT.false (sym c.if-is_reply.ensures) _ (rw r c.in_default.ensures))
    refl c.refuse-in_default.ensures

pub serve-requires-clause-within : goal.serve-requires-clause-within
serve-requires-clause-within c = read_lies_within _ _ (sym c.in-Ok.ensures)

pub returns : goal.returns
returns c =
    let a = c.args in
    handles a.store.now a.clock a.time a.frame.now a.reply.now c.if-reply-lt-MAX_FRAME.false _ _ _ _
    (served a.store.now a.clock a.time a.frame.now a.reply.now (sym c.if-not-is_sound.ensures) c.if-time-ge-TIME_LIMIT.false
    c.if-clock-ge-TIME_LIMIT.false (sym c.if-is_reply.ensures) _ c.in-Ok.ensures)
    c.serve.ensures

use native.Mathlib.Omega.{arith}
use mathlib.Core.Path.{refl}
use lib.ListN.{drop, length-drop}
use mathlib.Core.Bool.{true, false}
use Rattle.journal.proofs.Pieces.{whole_within}
use Rattle.replayer.proofs.Turning.{cut_piece, turn-answers, turn_waits, turn_ends, turn_stops}
use Rattle.replayer.proofs.turn.Goals as goal

pub answer-requires : goal.answer-requires
answer-requires c =
    let a = c.args in
    let h = cut_piece a.progress.taken a.input.now _ _ c.cut_record.ensures c.in-Record.is in
    let w = whole_within (drop a.progress.taken a.input.now) _ _ h in
    (c.requires, omega (arith, w.0), omega (arith, w.2, length-drop a.progress.taken a.input.now, c.requires.within))

pub returns-in-Record : goal.returns-in-Record
returns-in-Record c =
    let a = c.args in
    let h = cut_piece a.progress.taken a.input.now _ _ c.cut_record.ensures c.in-Record.is in
    turn-answers a.store.now a.reply.now a.output.now a.input.now a.progress c.requires a.ended
    _ _ _ _ _ _ h c.answer.ensures

pub returns-in-Broken : goal.returns-in-Broken
returns-in-Broken c =
    let a = c.args in
    let h = cut_piece a.progress.taken a.input.now _ _ c.cut_record.ensures c.in-Broken.is in
    turn_stops a.store.now a.reply.now a.output.now a.input.now a.progress c.requires a.ended
    _ false _ h refl c.stop_bad.ensures.told c.stop_bad.ensures.left

pub returns-in-Short : goal.returns-in-Short
returns-in-Short c =
    let a = c.args in
    let h = cut_piece a.progress.taken a.input.now _ _ c.cut_record.ensures c.in-Short.is in
    turn_stops a.store.now a.reply.now a.output.now a.input.now a.progress c.requires a.ended
    _ true _ h (rw c.if-ended.true) c.stop_bad-in-Short.ensures.told c.stop_bad-in-Short.ensures.left

pub returns-in-End : goal.returns-in-End
returns-in-End c =
    let a = c.args in
    let h = cut_piece a.progress.taken a.input.now _ _ c.cut_record.ensures c.in-End.is in
    turn_ends a.store.now a.reply.now a.output.now a.input.now a.progress c.requires a.ended
    _ h c.if-ended-2.true refl

pub returns-in-Short-2 : goal.returns-in-Short-2
returns-in-Short-2 c =
    let a = c.args in
    let h = cut_piece a.progress.taken a.input.now _ _ c.cut_record.ensures c.in-Short-2.is in
    turn_waits a.store.now a.reply.now a.output.now a.input.now a.progress c.requires a.ended
    _ 3 h c.if-ended.false refl

pub returns-in-End-2 : goal.returns-in-End-2
returns-in-End-2 c =
    let a = c.args in
    let h = cut_piece a.progress.taken a.input.now _ _ c.cut_record.ensures c.in-End-2.is in
    turn_waits a.store.now a.reply.now a.output.now a.input.now a.progress c.requires a.ended
    _ 0 h c.if-ended-2.false refl

use mathlib.Core.Path.{sym}
use lib.Seq.{length-take-le}
use native.Mathlib.Omega.{arith}
use Rattle.replayer.proofs.Answers.{call_within, call_short}
use Rattle.replayer.proofs.Turning.{answer_leaves}
use Rattle.replayer.proofs.answer.Goals as goal

pub slice_bounds-append-end : goal.slice_bounds-append-end
slice_bounds-append-end c =
    call_within _ _ _ _ _ _ _ _ c.handle-handled.ensures

pub slice_bounds-append-end-2 : goal.slice_bounds-append-end-2
slice_bounds-append-end-2 c =
    sym (length-take-le _ _ (call_within _ _ _ _ _ _ _ _ c.handle-handled.ensures))

pub append-filled-requires : goal.append-filled-requires
append-filled-requires c =
    omega (arith, c.requires.0.room, call_short _ _ _ _ _ _ _ _ c.handle-handled.ensures)

pub returns : goal.returns
returns c =
    let a = c.args in
    answer_leaves a.store.now a.reply.now a.output.now a.input.now a.progress c.requires.0 a.time a.size c.requires.1
    c.handle-handled.result _ _ _ _ c.handle-handled.ensures c.append-filled.ensures.told c.append-filled.ensures.left

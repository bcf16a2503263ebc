use Rattle.std.proofs.Common.{arith}
use Rattle.replay.proofs.Turns.{can_go_on, turn_goes_on, turn_stops}
use Rattle.replay.proofs.turn.Goals as goal

pub past-requires : goal.past-requires
past-requires g c =
    let a = c.args in
    let l = rw c.of-came.ensures at c.advance-progress.ensures in
    let k = can_go_on a.store.now a.reply.now a.input.now a.output.now a.state c.requires _ _ _ _ l in
    (k.order, omega (arith, k.within, k.inputs))

pub returns-then-is_err : goal.returns-then-is_err
returns-then-is_err g c =
    let a = c.args in
    let l = rw c.of-came.ensures at c.advance-progress.ensures in
    let r = turn_stops a.store.now a.reply.now a.input.now a.output.now a.state c.requires _ _ _ _ l
    _ c.past.ensures c.advance-progress.auto.output in
    record { within = r.0; called = r.1 }

pub go_on-requires : goal.go_on-requires
go_on-requires g c =
    let a = c.args in
    let l = rw c.of-came.ensures at c.advance-progress.ensures in
    can_go_on a.store.now a.reply.now a.input.now a.output.now a.state c.requires _ _ _ _ l

pub returns : goal.returns
returns g c =
    let a = c.args in
    let l = rw c.of-came.ensures at c.advance-progress.ensures in
    let r = turn_goes_on a.store.now a.reply.now a.input.now a.output.now a.state c.requires _ _ _ _ l
    _ _ c.go_on.ensures c.go_on.auto.input c.advance-progress.auto.output in
    record { within = r.0; called = r.1 }

use Rattle.replayer.proofs.Running.{running_first, running_fits, running_ends, running_less, running_again}
use Rattle.replayer.proofs.advance.Goals as goal

pub loop-store-init : goal.loop-store-init
loop-store-init c =
    let a = c.args in
    running_first a.store.now a.input.now a.reply.now a.output.now a.ended a.clock

pub turn-progress-requires : goal.turn-progress-requires
turn-progress-requires c =
    let test = c.goes_on in
    let l = c.loop-store in
    let a = c.args in
    running_fits a.store.now a.input.now a.reply.now a.output.now a.ended a.clock
    l.store l.reply l.output l.progress l.invariant _ test.ensures c.loop-store-test.true

pub loop-store-smaller : goal.loop-store-smaller
loop-store-smaller c =
    let test = c.goes_on in
    let l = c.loop-store in
    let a = c.args in
    let made = c.turn-progress in
    running_less a.store.now a.input.now a.reply.now a.output.now a.ended a.clock
    l.store l.reply l.output l.progress l.invariant _ test.ensures _ _ _ _ made.ensures c.loop-store-test.true

pub loop-store-preserved : goal.loop-store-preserved
loop-store-preserved c =
    let test = c.goes_on in
    let l = c.loop-store in
    let a = c.args in
    let made = c.turn-progress in
    running_again a.store.now a.input.now a.reply.now a.output.now a.ended a.clock
    l.store l.reply l.output l.progress l.invariant _ test.ensures _ _ _ _ made.ensures c.loop-store-test.true
    made.auto.output made.auto.store made.auto.reply

pub returns : goal.returns
returns c =
    let test = c.goes_on in
    let l = c.loop-store in
    let a = c.args in
    running_ends a.store.now a.input.now a.reply.now a.output.now a.ended a.clock
    l.store l.reply l.output l.progress l.invariant _ test.ensures c.loop-store-test.false

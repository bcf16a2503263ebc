use mathlib.Core.Path.{refl}
use Rattle.node.proofs.Settling.{settled_as, settled_refused, done_settles}
use Rattle.node.proofs.Serving.{got, deleted, put, replicated, no_request}
use Rattle.node.proofs.request.serve.Goals as goal

pub returns-in-Put : goal.returns-in-Put
returns-in-Put c =
    let a = c.args in
    settled_as _ _ _ _ _ _ _ _
    (put a.store.now a.clock a.time a.frame.now a.message _ _ _ _ c.in-Put.is c.of-key.ensures c.of-value.ensures)
    (done_settles _ _ _ _ _ _ _ _ c.write_locally-done.ensures c.reply_to_write.ensures)

pub returns-in-Get : goal.returns-in-Get
returns-in-Get c =
    let a = c.args in
    settled_as _ _ _ _ _ _ _ _
    (got a.store.now a.clock a.time a.frame.now a.message _ _ c.in-Get.is c.of.ensures) c.get.ensures

pub returns-in-Del : goal.returns-in-Del
returns-in-Del c =
    let a = c.args in
    settled_as _ _ _ _ _ _ _ _
    (deleted a.store.now a.clock a.time a.frame.now a.message _ _ c.in-Del.is c.of-in-Del.ensures)
    (done_settles _ _ _ _ _ _ _ _ c.write_locally-done-in-Del.ensures c.reply_to_write-in-Del.ensures)

pub returns-in-Repl : goal.returns-in-Repl
returns-in-Repl c =
    let a = c.args in
    settled_as _ _ _ _ _ _ _ _
    (replicated a.store.now a.clock a.time a.frame.now a.message _ _ c.in-Repl.is c.of-in-Repl.ensures)
    (done_settles _ _ _ _ _ _ _ _ c.take_replica-done.ensures c.reply_to_write-in-Repl.ensures)

pub returns-in_default : goal.returns-in_default
returns-in_default c =
    let a = c.args in
    let n = c.in_default in
    settled_as _ _ _ _ _ _ _ _ (no_request a.store.now a.clock a.time a.frame.now a.message n.not-Put n.not-Get n.not-Del n.not-Repl)
    (settled_refused _ _ _ _ _ _ _ refl c.refuse.ensures)

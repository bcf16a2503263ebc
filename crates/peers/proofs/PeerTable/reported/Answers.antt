use Rattle.peers.specs.Row.{reported_row}
use Rattle.peers.specs.Table.{on_row}
use Rattle.peers.specs.Event.{with_rows, reported_answer, after_reported}
use Rattle.peers.proofs.Answers.{refused_gives, row_gives}
use Rattle.peers.proofs.PeerTable.reported.Goals as goal

pub returns-in-Err : goal.returns-in-Err
unfolding after_reported
returns-in-Err c =
    let a = c.args in
    refused_gives _ a.self (with_rows (on_row a.id (reported_row a.state a.incarnation a.now)) a.self) _
    (reported_answer a.id a.state a.incarnation a.now a.self) c.refused.ensures c.in-Err.ensures.told

pub returns-in-Ok : goal.returns-in-Ok
unfolding after_reported
returns-in-Ok c =
    let a = c.args in
    row_gives _ a.self c.reported.result a.id _ (reported_answer a.id a.state a.incarnation a.now a.self) (reported_row a.state a.incarnation a.now)
    c.done.ensures c.reported.ensures c.in-Ok.ensures.place c.in-Ok.ensures.told

use Rattle.std.proofs.Common.{◌∙◌}
use Rattle.peers.specs.Row.{heard_row}
use Rattle.peers.specs.Table.{on_row}
use Rattle.peers.specs.Event.{with_rows, heard_answer, after_heard}
use Rattle.peers.proofs.Answers.{refused_gives, heard_is, row_gives}
use Rattle.peers.proofs.PeerTable.heard.Goals as goal

pub returns-in-Err : goal.returns-in-Err
unfolding after_heard
returns-in-Err c =
    let a = c.args in
    refused_gives _ a.self (with_rows (on_row a.id (heard_row a.incarnation a.now)) a.self) _ (heard_answer a.id a.incarnation a.now a.self)
    c.refused.ensures (c.in-Err.ensures.told ∙ heard_is a.id a.incarnation a.now a.self)

pub returns-in-Ok : goal.returns-in-Ok
unfolding after_heard
returns-in-Ok c =
    let a = c.args in
    row_gives _ a.self c.heard.result a.id _ (heard_answer a.id a.incarnation a.now a.self) (heard_row a.incarnation a.now) c.done.ensures
    c.heard.ensures c.in-Ok.ensures.place (c.in-Ok.ensures.told ∙ heard_is a.id a.incarnation a.now a.self)

use Rattle.std.proofs.Common.{rules}
use Rattle.peers.specs.Event.{heard_answer, after_heard}
use Rattle.capi_cluster.proofs.sp_peers_heard.Goals as goal

pub returns : goal.returns
returns c =
    let a = c.args in
    let n = c.event.ensures (heard_answer a.id a.incarnation a.time) (after_heard a.id a.incarnation a.time) (λ t d p. search rules) in
    record { told = n.0; left = n.1 }

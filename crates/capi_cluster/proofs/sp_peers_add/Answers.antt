use Rattle.std.proofs.Common.{rules}
use Rattle.peers.specs.Event.{add_answer, after_add}
use Rattle.capi_cluster.proofs.sp_peers_add.Goals as goal

pub returns : goal.returns
returns c =
    let a = c.args in
    let n = c.event.ensures (add_answer a.id a.time) (after_add a.id a.address a.port a.incarnation a.time) (λ t d p. search rules) in
    record { told = n.0; left = n.1 }

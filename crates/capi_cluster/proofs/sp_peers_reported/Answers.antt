use Rattle.std.proofs.Common.{rules}
use Rattle.peers.specs.Event.{reported_answer, after_reported}
use Rattle.capi_cluster.proofs.Bytes.{reported_gives}
use Rattle.capi_cluster.proofs.sp_peers_reported.Goals as goal

pub returns : goal.returns
returns c =
    let a = c.args in
    let n = c.event.ensures (reported_answer a.id a.state a.incarnation a.time) (after_reported a.id a.state a.incarnation a.time)
    (λ t d p. reported_gives a.id a.incarnation a.time t a.state _ d c.byte_of-said.ensures (search rules)) in
    record { told = n.0; left = n.1 }

use Rattle.std.proofs.Common.{rules}
use Rattle.peers.specs.Event.{tick_answer, after_tick}
use Rattle.capi_cluster.proofs.sp_peers_tick.Goals as goal

pub returns : goal.returns
returns c =
    let a = c.args in
    let n = c.event.ensures (tick_answer a.time) (after_tick a.time) (λ t d p. search rules) in
    record { told = n.0; left = n.1 }

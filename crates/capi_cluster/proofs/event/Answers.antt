use Rattle.std.proofs.Common.{arith}
use Rattle.capi_cluster.proofs.Rows.{table_parts}
use Rattle.capi_cluster.proofs.Events.{event_refused, is_form, event_done}
use Rattle.capi_cluster.proofs.event.Goals as goal

pub returns-in-Err : goal.returns-in-Err
returns-in-Err g c = λ answer after h.
    event_refused c.args.time answer after c.args.words.now c.refused.result c.in-Err.why c.in-Err.ensures.told c.refused.ensures

pub put_table-requires : goal.put_table-requires
put_table-requires g c =
    let p = table_parts _ (is_form c.args.time (λ t. 0) (λ t. t) c.args.words.now 0 c.in-Ok.ensures.told) in
    omega arith

pub returns-in-Ok : goal.returns-in-Ok
returns-in-Ok g c = λ answer after h.
    event_done c.args.time answer after c.args.words.now _ c.in-Ok.ensures.told c.in-Ok.peers _ c.put_table.new.out
    c.in-Ok.ensures.table (h _ _ c.change-changed.ensures) c.done.ensures c.put_table.ensures

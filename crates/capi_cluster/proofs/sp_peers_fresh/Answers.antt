use Rattle.std.proofs.Common.{arith, sym}
use mathlib.Core.Path.{◌≡◌}
use Rattle.peers.specs.Event.{fresh_answer, after_fresh}
use Rattle.capi_cluster.specs.Words.{table_words}
use Rattle.capi_words.proofs.Fronts.{front_refused, front_no_room}
use Rattle.capi_cluster.proofs.Events.{fresh_long, fresh-put}
use Rattle.capi_cluster.proofs.sp_peers_fresh.Goals as goal

pub returns-in-Err : goal.returns-in-Err
returns-in-Err c =
    let a = c.args in
    let table = after_fresh a.id a.address a.port a.incarnation a.time in
    let e = rw (c.in-Err.is) at c.fresh-made.ensures.answer in
    let p = front_refused (fresh_answer a.time) (table_words table) a.table.now _ c.in-Err.why e c.refused.ensures in
    record { told = p.told; left = p.left }

pub returns-then-table-lt-TABLE_WORDS : goal.returns-then-table-lt-TABLE_WORDS
returns-then-table-lt-TABLE_WORDS c =
    let a = c.args in
    let z : fresh_answer a.time ≡ 0 = sym (rw (c.in-Ok.is) at c.fresh-made.ensures.answer) in
    let l = fresh_long a.id a.address a.port a.incarnation a.time z in
    let table = after_fresh a.id a.address a.port a.incarnation a.time in
    let p = front_no_room (fresh_answer a.time) (table_words table) a.table.now _ z
    (omega (arith, l, c.if-table-lt-TABLE_WORDS.true)) c.refused-then-table-lt-TABLE_WORDS.ensures in
    record { told = p.told; left = p.left }

pub returns-else-table-lt-TABLE_WORDS : goal.returns-else-table-lt-TABLE_WORDS
returns-else-table-lt-TABLE_WORDS c =
    let a = c.args in
    let z : fresh_answer a.time ≡ 0 = sym (rw (c.in-Ok.is) at c.fresh-made.ensures.answer) in
    let p = fresh-put a.id a.address a.port a.incarnation a.time a.table.now _ _ c.fresh-made.ensures z c.if-table-lt-TABLE_WORDS.false
    c.put_table.ensures in
    record { told = p.told; left = p.left }

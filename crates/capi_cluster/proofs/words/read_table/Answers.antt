use Rattle.std.proofs.Common.{arith, refl, length-set}
use Rattle.capi_cluster.specs.Words.{rows_of}
use Rattle.capi_cluster.proofs.Rows.{table_parts, fit_at, read_next, table_read}
use Rattle.capi_cluster.proofs.words.read_table.Goals as goal

pub loop-k-init : goal.loop-k-init
unfolding rows_of
loop-k-init c = (refl, refl, refl)

pub row_of-requires : goal.row_of-requires
row_of-requires c =
    let p = table_parts _ c.requires in
    (p.size, c.loop-k-test.true, fit_at 10 c.loop-k.k _ p.rows c.loop-k-test.true)

pub loop-k-preserved : goal.loop-k-preserved
loop-k-preserved c =
    let l = c.loop-k in
    (rw length-set l.invariant.0, l.invariant.1, read_next c.args.words.now l.table.rows l.k _ (omega arith) l.invariant.2 c.row_of.ensures)

pub bounds-words-0 : goal.bounds-words-0
bounds-words-0 c = let p = table_parts _ c.requires in omega arith

pub overflow_cast-table : goal.overflow_cast-table
overflow_cast-table c = let p = table_parts _ c.requires in omega arith

pub returns : goal.returns
returns c =
    let l = c.loop-k in
    rw l.invariant.1 (table_read c.args.words.now l.table.rows l.k c.loop-k-test.false l.auto.k-end l.invariant.0 l.invariant.2)

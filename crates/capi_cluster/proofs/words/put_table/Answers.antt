use Rattle.std.proofs.Common.{arith, ◌≡◌, length, length-set}
use Rattle.capi_cluster.proofs.Rows.{write_none, write_row, write_all}
use Rattle.capi_cluster.proofs.words.put_table.Goals as goal

pub loop-k-init : goal.loop-k-init
loop-k-init c = (rw length-set c.requires, write_none c.args.table c.args.out.now c.requires)

pub loop-k-preserved : goal.loop-k-preserved
loop-k-preserved c =
    let l = c.loop-k in
    let t = c.args.table in
    let ten : length t.rows ≡ 10 = omega arith in (
      l.invariant.0,
      write_row t l.k _ l.out _ (omega arith) (omega arith) l.invariant.1 c.put_row.ensures,
    )

pub returns : goal.returns
returns c =
    let l = c.loop-k in
    let t = c.args.table in
    let ten : length t.rows ≡ 10 = omega arith in
    write_all t l.k c.args.out.now l.out ten (omega arith) l.auto.k-end l.invariant.1

use Rattle.std.proofs.Common.{rules, ◌≡◌, ◌<◌, sym, ◌∙◌, true, false, length, length-set, get_or}
use Rattle.peers.specs.Table.{rows_of}
use Rattle.peers.specs.Admitted.{admits_row}
use Rattle.peers.specs.Event.{no_row}
use Rattle.peers.proofs.Flags.{told_first, told_all, told_skipped, told-set}
use Rattle.peers.proofs.PeerTable.admitted.Goals as goal
use Rattle.peers.proofs.PeerTable.admitted.Goals.{then-is_admitted, else-is_admitted}

pub loop-row-init : goal.loop-row-init
loop-row-init c = (search rules, told_first _ _)

pub loop-row-preserved : goal.loop-row-preserved
loop-row-preserved c =
    let l = c.loop-row in
    let a = c.args in
    let rows = c.listed-row-items.ensures in
    let lt : l.row-index < length (rows_of a.self) = rw rows at c.loop-row-test.true in
    elim c.if-is_admitted.branch [
      | then-is_admitted w ↦
          let adm : admits_row a.admission (get_or (rows_of a.self) l.row-index no_row) ≡ true =
          rw rows at (sym c.is_admitted.ensures ∙ w.if-is_admitted.true) in (
            rw (w.flags-is, length-set) l.invariant.0,
            rw (w.flags-is, w.from.ensures, rows) (told-set a.admission a.self l.flags l.row-index l.invariant.1 lt l.invariant.0 adm),
          )
      | else-is_admitted w ↦
          let adm : admits_row a.admission (get_or (rows_of a.self) l.row-index no_row) ≡ false =
          rw rows at (sym c.is_admitted.ensures ∙ w.if-is_admitted.false) in (
            rw w.flags-is l.invariant.0,
            rw w.flags-is (told_skipped a.admission a.self l.flags l.row-index l.invariant.1 lt adm),
          )
    ]

pub returns : goal.returns
returns c =
    let l = c.loop-row in
    let a = c.args in
    told_all a.admission a.self l.flags l.row-index l.invariant.1 l.invariant.0 (rw c.listed-row-items.ensures at c.loop-row-test.false)

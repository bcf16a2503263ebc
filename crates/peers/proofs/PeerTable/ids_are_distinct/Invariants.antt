use Rattle.std.proofs.Common.{◌≡◌, drop}
use Rattle.peers.specs.Table.{distinct}
use Rattle.peers.proofs.PeerTable.ids_are_distinct.Given as goal

abbrev pub invariant-loop-i : goal.invariant-loop-i
invariant-loop-i l = distinct (drop l.i l.rows) ≡ distinct l.rows

use Rattle.std.proofs.Common.{◌≡◌}
use Rattle.peers.specs.Row.{tick_row}
use Rattle.peers.proofs.Ticked.{table_to}
use Rattle.peers.proofs.PeerTable.ticked.Given as goal

abbrev pub invariant-loop-i : goal.invariant-loop-i
invariant-loop-i l = l.self ≡ table_to (tick_row l.now) l.i l.initial.self

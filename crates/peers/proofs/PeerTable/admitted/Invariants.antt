use Rattle.std.proofs.Common.{◌≡◌, length}
use Rattle.peers.proofs.Flags.{Told}
use Rattle.peers.proofs.PeerTable.admitted.Given as goal

abbrev pub invariant-loop-row : goal.invariant-loop-row
invariant-loop-row l = (length l.flags ≡ 256) × Told l.admission l.fn.self l.flags l.row-index

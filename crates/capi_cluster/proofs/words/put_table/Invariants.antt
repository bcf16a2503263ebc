use Rattle.std.proofs.Common.{◌≤◌, length}
use Rattle.wire.proofs.Writing.{Written}
use Rattle.capi_cluster.specs.Words.{row_at}
use Rattle.capi_cluster.proofs.Rows.{words_to}
use Rattle.capi_cluster.proofs.words.put_table.Given as goal

abbrev pub invariant-loop-k : goal.invariant-loop-k
invariant-loop-k l = (61 ≤ length l.initial.out) × Written (row_at l.k) (words_to l.table l.k) l.initial.out l.out

use Rattle.std.proofs.Common.{◌≡◌, length, take}
use Rattle.capi_words.specs.Words.{word}
use Rattle.capi_cluster.specs.Words.{rows_of}
use Rattle.capi_cluster.proofs.words.read_table.Given as goal

abbrev pub invariant-loop-k : goal.invariant-loop-k
invariant-loop-k l = (length l.table.rows ≡ 10) × (l.table.count ≡ word l.words 0) × (take l.k l.table.rows ≡ rows_of l.k l.words)

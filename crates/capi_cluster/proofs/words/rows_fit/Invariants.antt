use Rattle.std.specs.Prelude.{◌≡◌, true}
use Rattle.capi_cluster.specs.Words.{rows_fit}
use Rattle.capi_cluster.proofs.words.rows_fit.Given as goal

abbrev pub invariant-loop-k : goal.invariant-loop-k
invariant-loop-k l = rows_fit l.k l.words ≡ true

use Rattle.std.proofs.Common.{arith}
use Rattle.capi_cluster.proofs.Rows.{row_parts}
use Rattle.capi_cluster.proofs.words.row_of.Goals as goal

pub overflow_cast-result : goal.overflow_cast-result
overflow_cast-result c = let p = row_parts _ _ c.requires.2 in omega arith

pub overflow_cast-result-2 : goal.overflow_cast-result-2
overflow_cast-result-2 c = let p = row_parts _ _ c.requires.2 in omega arith

pub overflow_cast-result-3 : goal.overflow_cast-result-3
overflow_cast-result-3 c = let p = row_parts _ _ c.requires.2 in omega arith

pub overflow_cast-result-4 : goal.overflow_cast-result-4
overflow_cast-result-4 c = let p = row_parts _ _ c.requires.2 in omega arith

pub overflow_cast-result-5 : goal.overflow_cast-result-5
overflow_cast-result-5 c = let p = row_parts _ _ c.requires.2 in omega arith

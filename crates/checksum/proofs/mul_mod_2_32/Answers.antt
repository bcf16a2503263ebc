use borrow.Author.Rules.{rules}
use Rattle.checksum.proofs.Product.{below}
use Rattle.checksum.proofs.mul_mod_2_32.Goals as goal

pub overflow_mul-result : goal.overflow_mul-result
overflow_mul-result c = record { fits = below 32 (search rules) (search rules) }

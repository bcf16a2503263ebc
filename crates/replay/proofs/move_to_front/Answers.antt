use mathlib.Core.Path.{◌≡◌, ◌∙◌}
use mathlib.Core.List.{List, ◌++◌}
use Prim.Native.Nat.{ℕ, ◌+◌, ◌-◌}
use native.Mathlib.Omega.{arith}
use lib.ListN.{drop}
use Rattle.std.specs.List.{copy_within}
use Rattle.wire.specs.Fill.{field}
use Rattle.replay.proofs.move_to_front.Goals as goal

moved : (b : List ℕ) (at n : ℕ) → copy_within b at (at + n) 0 ≡ field at n b ++ drop n b
unfolding field
moved b at n = let k : at + n - at ≡ n = omega arith in let z : 0 + n ≡ n = omega arith in rw (k, z)

pub returns : goal.returns
returns c = c.copy_within.ensures.after ∙ moved c.args.buffer.now c.args.part.at c.args.part.len

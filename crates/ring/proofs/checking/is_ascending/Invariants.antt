use Rattle.std.proofs.Common.{ℕ, suc, ◌<◌, get_or}
use Rattle.ring.proofs.checking.is_ascending.Given as goal

abbrev pub invariant-loop-i : goal.invariant-loop-i
invariant-loop-i l = (k : ℕ) → suc k < l.i → get_or l.ring k 0 < get_or l.ring (suc k) 0

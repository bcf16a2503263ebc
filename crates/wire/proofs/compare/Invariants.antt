use Rattle.std.specs.Prelude.{◌≡◌, take}
use Rattle.wire.proofs.compare.Given as goal

-- the bytes before are the same
abbrev pub invariant-loop-i : goal.invariant-loop-i
invariant-loop-i l = take l.i l.a ≡ take l.i l.b

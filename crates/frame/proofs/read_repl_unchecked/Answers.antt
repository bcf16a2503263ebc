use native.Mathlib.Omega.{arith}
use mathlib.Core.Path.{refl, sym}
use Prim.Native.Nat.{◌+◌}
use Rattle.frame.specs.Reading.{span, klen}
use Rattle.frame.proofs.Checks.{ends_short}
use Rattle.frame.proofs.Answers.{repl_left_over}
use Rattle.frame.proofs.read_repl_unchecked.Goals as goal

pub returns : goal.returns
returns c =
    let s = c.args.frame.now in
    repl_left_over s (span 5 (klen s)) refl (sym (ends_short (klen s + 15) s (omega (arith, c.if-frame-ge8.false))))

use mathlib.Core.Path.{◌≡◌, ◌∙◌}
use native.Mathlib.Omega.{arith}
use Rattle.replayer.proofs.Filling.{err_written, err_put}
use Rattle.replayer.proofs.stop_bad.Goals as goal

pub overflow_add-result : goal.overflow_add-result
overflow_add-result c =
    let n : c.unwrap_or-written.result ≡ 9 =
    c.unwrap_or-written.ensures ∙ err_written c.args.progress.filled _ _ _ c.requires (rw c.number-number.ensures at c.write_err.ensures) in
    omega arith

pub returns-clause-told : goal.returns-clause-told
returns-clause-told c =
    rw (c.unwrap_or-written.ensures ∙ err_written c.args.progress.filled _ _ _ c.requires (rw c.number-number.ensures at c.write_err.ensures))

pub returns-clause-left : goal.returns-clause-left
returns-clause-left c = err_put c.args.progress.filled c.args.output.now _ c.requires (rw c.number-number.ensures at c.write_err.ensures).buffer

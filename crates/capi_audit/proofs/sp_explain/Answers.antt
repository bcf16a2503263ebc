use mathlib.Core.Path.{ap, ◌∙◌}
use Rattle.capi_audit.specs.Audit.{explained_word}
use Rattle.capi_audit.proofs.Places.{explained_small}
use Rattle.capi_audit.proofs.sp_explain.Goals as goal

pub explained-requires : goal.explained-requires
explained-requires c =
    let a = c.args in
    rw c.explain.ensures.told (explained_small a.list.now a.key.now a.reasons.now)

pub returns : goal.returns
returns c =
    record { told = c.explained.ensures ∙ ap explained_word c.explain.ensures.told; left = c.explain.ensures.left }

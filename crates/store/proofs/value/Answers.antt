use Rattle.std.proofs.Common.{rules}
use mathlib.Core.Path.{sym, ◌∙◌}
use Rattle.store.proofs.Looking.{value_stands, not_found}
use Rattle.store.proofs.value.Goals as goal
use Rattle.store.proofs.value.Goals.{in_default-via-in-Ok+in_default, in_default-via-in_default}

pub returns-in-Ok-Value : goal.returns-in-Ok-Value
returns-in-Ok-Value c =
    c.of.ensures ∙ (value_stands c.args.store.now c.args.key.now _ _ (sym (rw c.in-Ok-Value.field-0-is at c.in-Ok-Value.ensures))).1

pub returns-in_default : goal.returns-in_default
returns-in_default c =
    not_found c.args.store.now c.args.key.now c.lookup.result c.lookup.ensures
    (λ p e. elim c.in_default.branch [ in_default-via-in-Ok+in_default w ↦ search rules | in_default-via-in_default w ↦ cc ])

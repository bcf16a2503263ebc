use mathlib.Core.Path.{◌∙◌}
use Rattle.capi_audit.proofs.Places.{count_packed}
use Rattle.capi_audit.proofs.sp_deliveries.Goals as goal

pub returns : goal.returns
returns c = c.counted.ensures ∙ count_packed _ _ c.count.ensures

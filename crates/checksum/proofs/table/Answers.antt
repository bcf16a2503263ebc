use mathlib.Core.Path.{refl, ◌∙◌}
use mathlib.Core.List.{map}
use Rattle.checksum.specs.Crc32c.{bit_step, steps}
use Rattle.checksum.proofs.Rows.{spanned, spanned_rows, powers, spanned_table}
use Rattle.checksum.proofs.table.Goals as goal

-- antt computes the rule over the whole of the constant, once.
pub returns : goal.returns
unfolding bit_step steps spanned spanned_rows powers
returns c = ◌∙◌ {b = spanned_rows 16 (map (steps 8) (powers 8))} refl spanned_table

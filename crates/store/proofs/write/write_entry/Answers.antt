use native.Mathlib.Omega.{arith}
use mathlib.Core.Path.{◌≡◌, ◌∙◌}
use Prim.Native.Nat.{◌+◌, ◌-◌}
use Rattle.entry.specs.Entry.{entry_in}
use Rattle.image.specs.Layout.{slot_width, slot_start}
use Rattle.image.specs.Image.{slot_bytes}
use Rattle.image.proofs.SlotLaws.{slot_with_lem}
use Rattle.store.proofs.Splices.{slot_long, replace_done}
use Rattle.store.proofs.write.write_entry.Goals as goal

pub returns : goal.returns
returns c =
    let a = c.args in
    let e = entry_in a.entry in
    let k : slot_start a.at + slot_width - slot_start a.at ≡ slot_width = omega arith in
    replace_done a.at a.store.now c.requires _ _ (slot_bytes e) k
    (c.put_slot.ensures ∙ slot_with_lem e _ (slot_long a.at a.store.now c.requires _ k))

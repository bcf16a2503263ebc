use native.Mathlib.Omega.{arith}
use mathlib.Core.Path.{◌≡◌}
use Prim.Native.Nat.{◌+◌, ◌-◌}
use Rattle.image.specs.Layout.{slot_width, slot_start}
use Rattle.store.proofs.Splices.{replace_done}
use Rattle.store.proofs.write.write_slot.Goals as goal

pub returns : goal.returns
returns c =
    let a = c.args in
    let k : slot_start a.at + slot_width - slot_start a.at ≡ slot_width = omega arith in
    replace_done a.at a.store.now c.requires.0 _ _ a.slot.now k c.copy_from_slice.ensures.after

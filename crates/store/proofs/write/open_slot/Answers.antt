use native.Mathlib.Omega.{arith}
use mathlib.Core.Path.{◌≡◌, refl, ap}
use Prim.Native.Nat.{ℕ, ◌+◌, ◌-◌, ◌*◌}
use Rattle.image.specs.Layout.{slot_width, slot_start}
use Rattle.image.specs.Image.{used_of}
use Rattle.store.proofs.Splices.{open_done}
use Rattle.store.proofs.write.open_slot.Goals as goal

pub returns : goal.returns
returns c =
    let a = c.args in
    let s = a.store.now in
    let n : c.used_count-count.result + 1 ≡ used_of s + 1 = ap (λ (u : ℕ). u + 1) c.used_count-count.ensures.is in
    let k : slot_start (c.used_count-count.result + 1) - slot_start a.at ≡ slot_width * (used_of s - a.at) + slot_width = omega (arith, c.requires.0) in
    open_done a.at s c.requires.0 c.requires.1 _ n _ c.put_be.ensures _ k _ _ refl c.shift_up.ensures

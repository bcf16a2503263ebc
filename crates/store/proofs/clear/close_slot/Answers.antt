use native.Mathlib.Omega.{arith}
use mathlib.Core.Path.{◌≡◌, refl, ap}
use Prim.Native.Nat.{ℕ, ◌-◌, ◌*◌}
use Rattle.image.specs.Layout.{slot_width, slot_start}
use Rattle.image.specs.Image.{used_of}
use Rattle.store.proofs.Closing.{close_done}
use Rattle.store.proofs.clear.close_slot.Goals as goal

pub returns : goal.returns
returns c =
    let a = c.args in
    let s = a.store.now in
    let u : c.used_count-used.result ≡ used_of s = c.used_count-used.ensures.is in
    let k : slot_start c.used_count-used.result - slot_start a.at ≡ slot_width * (used_of s - a.at) = omega (arith, c.requires.0) in
    close_done a.at s c.requires.0 c.requires.1 _ (ap (λ (n : ℕ). n - 1) u) _ c.put_be.ensures _ k _ _ refl c.shift_down.ensures

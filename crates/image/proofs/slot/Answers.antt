use native.Mathlib.Omega.{arith}
use mathlib.Core.Path.{◌≡◌, refl}
use Prim.Native.Nat.{◌-◌}
use lib.ListN.{length}
use Rattle.image.specs.Layout.{slot_width, slot_start}
use Rattle.image.specs.Slot.{slot_at}
use Rattle.image.proofs.Fields.{field_none}
use Rattle.image.proofs.slot.Goals as goal

pub returns-then-n-lt-HEADER_WIDTH : goal.returns-then-n-lt-HEADER_WIDTH
unfolding slot_at
returns-then-n-lt-HEADER_WIDTH c =
    let a = c.args in
    let s = a.store.now in
    let z : length s - length s ≡ 0 = omega arith in
    field_none (slot_start a.i) slot_width _ s (omega (arith, c.if-n-lt-HEADER_WIDTH.true)) z _ refl

pub returns-then-n-i : goal.returns-then-n-i
unfolding slot_at
returns-then-n-i c =
    let a = c.args in
    let s = a.store.now in
    let z : length s - length s ≡ 0 = omega arith in
    field_none (slot_start a.i) slot_width _ s (omega (arith, c.if-n-i.true)) z _ refl

pub returns : goal.returns
unfolding slot_at
returns c = c.part.ensures

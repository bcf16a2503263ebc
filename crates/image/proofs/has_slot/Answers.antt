use native.Mathlib.Omega.{arith}
use mathlib.Core.Path.{◌≡◌, ap, ◌∙◌}
use Prim.Native.Nat.{ℕ, ◌+◌}
use mathlib.Core.List.{List}
use lib.ListN.{length}
use lib.Dec.{eqb, leb}
use Rattle.image.specs.Layout.{slot_width, slot_start}
use Rattle.image.specs.Slot.{slot_at}
use Rattle.image.proofs.Fields.{field_whole}
use Rattle.image.proofs.has_slot.Goals as goal

pub returns : goal.returns
unfolding slot_at
returns c =
    let a = c.args in
    let s = a.store.now in
    let e : slot_start a.i + slot_width ≡ slot_start (a.i + 1) = omega arith in
    ap (λ (l : List ℕ). eqb (length l) slot_width) c.slot.ensures ∙ field_whole (slot_start a.i) slot_width s (omega arith)
    ∙ ap (λ (n : ℕ). leb n (length s)) e

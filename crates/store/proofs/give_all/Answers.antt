use native.Mathlib.Omega.{arith}
use mathlib.Core.Path.{◌≡◌, ap, ◌∙◌}
use mathlib.Core.List.{List}
use Prim.Native.Nat.{ℕ, ◌<◌}
use lib.ListN.{length}
use Rattle.image.specs.Image.{slot_bytes, slot_entry, used_of, entries_of}
use Rattle.image.specs.Slot.{slot_at}
use Rattle.image.proofs.SlotLaws.{length_slot}
use Rattle.image.proofs.ImageLaws.{entry_at, used_is, sound_is}
use Rattle.store.specs.Unchecked.{placement, written_at, after_placed}
use Rattle.store.proofs.Splices.{slot_is}
use Rattle.store.proofs.Ways.{give_next, give_end}
use Rattle.store.proofs.give_all.Goals as goal

pub give-requires : goal.give-requires
give-requires c =
    let used-slot : c.loop-i.i < used_of c.args.giver.now = omega (arith, c.used_count-i-end.ensures.is, c.loop-i-test.true) in
    let sealed-slot : let t = slot_at c.loop-i.i c.args.giver.now in t ≡ slot_bytes (slot_entry t) = let g =
    c.args.giver.now in slot_is g (sound_is g c.requires) c.loop-i.i used-slot in
    ap length (c.slot.ensures ∙ sealed-slot) ∙ length_slot _

pub loop-i-preserved : goal.loop-i-preserved
unfolding after_placed
loop-i-preserved c =
    let used-slot : c.loop-i.i < used_of c.args.giver.now = omega (arith, c.used_count-i-end.ensures.is, c.loop-i-test.true) in
    let sealed-slot : let t = slot_at c.loop-i.i c.args.giver.now in t ≡ slot_bytes (slot_entry t) = let g =
    c.args.giver.now in slot_is g (sound_is g c.requires) c.loop-i.i used-slot in
    let l = c.loop-i in
    let g = c.args.giver.now in
    let t = slot_at l.i g in
    let given : c.give.new.receiver ≡ written_at (placement l.receiver (slot_entry t)) (slot_bytes (slot_entry t)) l.receiver =
    c.give.ensures ∙ ap (λ (x : List ℕ). written_at (placement l.receiver (slot_entry x)) x l.receiver) c.slot.ensures
    ∙ ap (λ (w : List ℕ). written_at (placement l.receiver (slot_entry t)) w l.receiver) sealed-slot in
    give_next (entries_of g) l.i _ (entry_at l.i g used-slot) _ _ given ∙ l.invariant

pub returns : goal.returns
returns c =
    let g = c.args.giver.now in
    give_end (entries_of g) c.loop-i.i _ _ (omega (arith, c.used_count-i-end.ensures.is, c.loop-i-test.false, used_is g))
    c.loop-i.invariant

use native.Mathlib.Omega.{arith}
use mathlib.Core.Path.{◌≡◌, sym, ap, ◌∙◌}
use mathlib.Core.List.{List}
use Prim.Native.Nat.{ℕ, ◌-◌}
use Rattle.image.specs.Image.{slot_entry}
use Rattle.image.specs.Slot.{slot_at}
use Rattle.store.specs.Purge.{cleared}
use Rattle.store.proofs.Purging.{clear_start, clear_few, clear_fits, clear_gone, clear_stays}
use Rattle.store.proofs.clear.clear.Goals as goal

pub loop-i-init : goal.loop-i-init
loop-i-init c =
    let a = c.args in
    clear_start a.line a.store.now _ c.requires c.used_count-i.ensures.is

pub close_slot-requires : goal.close_slot-requires
close_slot-requires c =
    clear_fits c.loop-i.invariant c.requires c.loop-i-test.true

pub overflow_add-count : goal.overflow_add-count
overflow_add-count c =
    omega (arith, clear_few c.loop-i.invariant, c.used_count-i.ensures.is, c.used_count-i.ensures.small, c.loop-i-test.true)

pub loop-i-preserved-then-is_cleared : goal.loop-i-preserved-then-is_cleared
loop-i-preserved-then-is_cleared c =
    let judged : c.is_cleared.result ≡ cleared c.args.line (slot_entry (slot_at (c.loop-i.i - 1) c.loop-i.store)) = let line =
    c.args.line in c.is_cleared.ensures ∙ ap (λ (t : List ℕ). cleared line (slot_entry t)) c.slot.ensures in
    clear_gone c.loop-i.invariant c.requires c.loop-i-test.true (sym judged ∙ c.if-is_cleared.true)
    _ c.close_slot.ensures c.close_slot.auto.store

pub loop-i-preserved : goal.loop-i-preserved
loop-i-preserved c =
    let judged : c.is_cleared.result ≡ cleared c.args.line (slot_entry (slot_at (c.loop-i.i - 1) c.loop-i.store)) = let line =
    c.args.line in c.is_cleared.ensures ∙ ap (λ (t : List ℕ). cleared line (slot_entry t)) c.slot.ensures in
    clear_stays c.loop-i.invariant c.requires c.loop-i-test.true (sym judged ∙ c.if-is_cleared.false)

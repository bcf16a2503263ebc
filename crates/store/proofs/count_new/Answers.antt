use native.Mathlib.Omega.{arith}
use mathlib.Core.Path.{sym, ◌∙◌}
use Rattle.image.proofs.ImageLaws.{used_is}
use Rattle.store.proofs.Ways.{counting_held, counting_old, counting_new, counting_end}
use Rattle.store.proofs.count_new.Goals as goal
use Rattle.store.proofs.count_new.Goals.{then-slot_stamp-line, else-slot_stamp-line}

pub loop-j-preserved-then-is_ok : goal.loop-j-preserved-then-is_ok
loop-j-preserved-then-is_ok c =
    counting_held _ _ c.args.giver.now _ _ _ c.loop-j.invariant (omega (arith, c.used_count-j-end.ensures.is)) _ _ c.slot-given.ensures c.slot_key.ensures
    _ c.seek.ensures (sym c.is_ok.ensures.value ∙ c.if-is_ok.true)

pub loop-j-preserved : goal.loop-j-preserved
loop-j-preserved c =
    let g = c.args.giver.now in
    elim c.if-slot_stamp-line.branch [
      | then-slot_stamp-line w ↦ rw (w.new-is, w.passed-is)
          (counting_old _ _ g _ _ _ c.loop-j.invariant (omega (arith, c.used_count-j-end.ensures.is)) _ _ c.slot-given.ensures c.slot_key.ensures
          _ c.seek.ensures (sym c.is_ok.ensures.value ∙ c.if-is_ok.false) _ c.slot_stamp.ensures _ c.purge_line-line.ensures.is w.if-slot_stamp-line.true)
      | else-slot_stamp-line w ↦ rw (w.new-is, w.passed-is)
          (counting_new _ _ g _ _ _ c.loop-j.invariant (omega (arith, c.used_count-j-end.ensures.is)) _ _ c.slot-given.ensures c.slot_key.ensures
          _ c.seek.ensures (sym c.is_ok.ensures.value ∙ c.if-is_ok.false) _ c.slot_stamp.ensures _ c.purge_line-line.ensures.is w.if-slot_stamp-line.false)
    ]

pub returns : goal.returns
returns c = counting_end _ _ _ c.loop-j.j _ _ c.loop-j.invariant (omega (arith, c.used_count-j-end.ensures.is, used_is c.args.giver.now))

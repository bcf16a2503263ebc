use native.Mathlib.Omega.{arith}
use mathlib.Core.Path.{◌≡◌}
use Rattle.image.specs.Image.{entries_of}
use Rattle.image.proofs.ImageLaws.{used_is}
use Rattle.store.proofs.Seeking.{seek_end, seek_below, seek_same, seek_above}
use Rattle.store.proofs.seek.Goals as goal

pub returns-in-Less : goal.returns-in-Less
returns-in-Less c =
    seek_below _ c.args.store.now _ c.loop-i.invariant (omega (arith, c.used_count-used.ensures.is)) (omega (arith, c.used_count-used.ensures.small)) _ _
    c.slot_key.ensures c.slot.ensures _ c.compare.ensures c.in-Less.is

pub returns-in-Equal : goal.returns-in-Equal
returns-in-Equal c =
    seek_same _ c.args.store.now _ c.loop-i.invariant (omega (arith, c.used_count-used.ensures.is)) (omega (arith, c.used_count-used.ensures.small)) _ _
    c.slot_key.ensures c.slot.ensures _ c.compare.ensures c.in-Equal.is

pub loop-i-preserved : goal.loop-i-preserved
loop-i-preserved c =
    seek_above _ c.args.store.now _ c.loop-i.invariant (omega (arith, c.used_count-used.ensures.is)) (omega (arith, c.used_count-used.ensures.small)) _ _
    c.slot_key.ensures c.slot.ensures _ c.compare.ensures c.in-Greater.is

pub returns : goal.returns
returns c =
    let used = c.used_count-used in
    let s = c.args.store.now in
    let last : c.loop-i.i ≡ used.result = omega arith in
    seek_end c.args.key.now (entries_of s) used.result (rw last at c.loop-i.invariant) (omega (arith, used.ensures.small))
    (omega (arith, used.ensures.is, used_is s))

use native.Mathlib.Omega.{arith}
use lib.ListN.{length}
use Rattle.wire.proofs.Writing.{written_none}
use Rattle.image.specs.Image.{slot_head}
use Rattle.image.proofs.Writing.{write_number, write_fill}
use Rattle.image.proofs.put_head.Goals as goal

pub returns : goal.returns
unfolding slot_head
returns c =
    let a = c.args in
    let h = a.head.now in
    let w1 = write_number h 0 1 _ _ _ (written_none h) (length a.entry.key.now) (omega (arith, c.requires)) c.put_be.ensures in
    let w2 = write_number h 1 1 _ _ _ w1 a.entry.flag (omega (arith, c.requires)) c.put_be-2.ensures in
    let w3 = write_number h 2 2 _ _ _ w2 (length a.entry.value.now) (omega (arith, c.requires)) c.put_be-3.ensures in
    let w4 = write_number h 4 6 _ _ _ w3 a.entry.stamp.phys (omega (arith, c.requires)) c.put_be-4.ensures in
    let w5 = write_number h 10 2 _ _ _ w4 a.entry.stamp.logical (omega (arith, c.requires)) c.put_be-5.ensures in
    let w6 = write_number h 12 1 _ _ _ w5 a.entry.stamp.node (omega (arith, c.requires)) c.put_be-6.ensures in
    write_fill h 13 3 _ _ _ w6 c.requires (c.fill.ensures.after (λ y e. e))

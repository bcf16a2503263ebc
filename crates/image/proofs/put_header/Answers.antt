use borrow.Author.Tests.{eq-eqb, ne_eqb}
use native.Mathlib.Omega.{arith}
use mathlib.Core.Path.{◌≡◌, sym, ◌∙◌}
use lib.ListN.{length}
use Rattle.wire.proofs.Writing.{written_none}
use Rattle.image.specs.Layout.{header_width, slot_width}
use Rattle.image.specs.Image.{header}
use Rattle.image.specs.Slot.{header_with}
use Rattle.image.proofs.Writing.{write_number, write_fill}
use Rattle.image.proofs.put_header.Goals as goal

pub returns-then-head-ne-HEADER_WIDTH : goal.returns-then-head-ne-HEADER_WIDTH
unfolding header_with
returns-then-head-ne-HEADER_WIDTH c = sym (rw (ne_eqb (length c.args.head.now) header_width c.if-head-ne-HEADER_WIDTH.true))

pub returns : goal.returns
unfolding header_with header
returns c =
    let a = c.args in
    let s = a.head.now in
    let n : length s ≡ header_width = c.if-head-ne-HEADER_WIDTH.false in
    let w1 = write_number s 0 2 _ _ _ (written_none s) a.slots (omega arith) c.put_be.ensures in
    let w2 = write_number s 2 2 _ _ _ w1 0 (omega arith) c.put_be-2.ensures in
    let w3 = write_number s 4 2 _ _ _ w2 slot_width (omega arith) c.put_be-3.ensures in
    let w4 = write_number s 6 2 _ _ _ w3 header_width (omega arith) c.put_be-4.ensures in
    let w5 = write_number s 8 6 _ _ _ w4 0 (omega arith) c.put_be-5.ensures in
    write_fill s 14 2 _ _ _ w5 n (c.fill.ensures.after (λ y e. e)) ∙ sym (rw (eq-eqb (length s) header_width n))

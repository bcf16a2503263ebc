use native.Mathlib.Omega.{arith}
use mathlib.Core.Path.{◌∙◌, sym}
use Prim.Native.Nat.{◌-◌}
use lib.ListN.{length}
use Rattle.frame.proofs.Fields.{number_byte, number_read}
use Rattle.frame.proofs.Checks.{fails, decided}
use Rattle.frame.proofs.reading.envelope_holds.Goals as goal

pub returns-then-n-lt8 : goal.returns-then-n-lt8
returns-then-n-lt8 c = fails c.args.frame.now (λ k. omega arith)

pub returns-then-n-gt-MAX_FRAME : goal.returns-then-n-gt-MAX_FRAME
returns-then-n-gt-MAX_FRAME c = fails c.args.frame.now (λ k. omega arith)

pub returns-then-number_at-n : goal.returns-then-number_at-n
returns-then-number_at-n c = fails c.args.frame.now (λ k. omega (arith, number_read _ 0 2 c.args.frame.now c.number_at.ensures.is, c.if-number_at-n.true))

pub returns-then-frame-ne0 : goal.returns-then-frame-ne0
returns-then-frame-ne0 c =
    let s = c.args.frame.now in
    fails s (λ k. c.if-frame-ne0.true (sym (number_byte 3 s (omega arith)) ∙ k.flags))

pub returns : goal.returns
returns c =
    let s = c.args.frame.now in
    let long = c.if-n-lt8.false in
    decided s (λ i. (c.type_inv.frame i).fits) long c.if-n-gt-MAX_FRAME.false (sym (number_read _ 0 2 s c.number_at.ensures.is) ∙ c.if-number_at-n.false)
    (number_byte 3 s (omega arith) ∙ c.if-frame-ne0.false) c.number_at-2.result c.crc32c.result
    (number_read _ (length s - 4) 4 s c.number_at-2.ensures.is)
    c.crc32c.ensures (omega arith)

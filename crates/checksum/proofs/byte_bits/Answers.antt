use Rattle.std.proofs.Common.{arith, ◌≡◌, refl, ap, ◌∙◌}
use Rattle.std.specs.Int.Bits.{bit_xor}
use Rattle.checksum.specs.Crc32c.{steps, byte_step}
use Rattle.checksum.proofs.Loops.{one_more}
use Rattle.checksum.proofs.byte_bits.Goals as goal

pub loop-init : goal.loop-init
unfolding steps
loop-init c = refl

pub loop-preserved : goal.loop-preserved
loop-preserved c = one_more _ _ _ c.bit_step-x.result c.loop.invariant c.bit_step-x.ensures

pub returns : goal.returns
unfolding byte_step
returns c =
    let e : c.loop.counter ≡ 8 = omega arith in
    c.loop.invariant ∙ ap (λ n. steps n (bit_xor c.args.c c.args.b)) e

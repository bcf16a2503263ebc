use native.Mathlib.Omega.{arith}
use mathlib.Core.Path.{◌≡◌, sym, ap, ◌∙◌}
use mathlib.Core.Bool.{Bool, ◌&&◌}
use lib.ListN.{take, drop}
use Rattle.wire.proofs.Zeros.{all_zero, zero_block}
use Rattle.wire.proofs.all_zero.Goals as goal

pub returns-then-not-block_is_zero : goal.returns-then-not-block_is_zero
returns-then-not-block_is_zero c =
    let r = c.loop-rest.rest.now in
    let b : c.block_is_zero.result ≡ all_zero (take 64 r) = c.block_is_zero.ensures ∙ ap all_zero c.split_at.ensures.front in
    sym (sym c.loop-rest.invariant ∙ zero_block 64 r c.block_is_zero.result (omega arith) b
    ∙ ap (λ (b : Bool). b && all_zero (drop 64 r)) c.if-not-block_is_zero.true)

pub loop-rest-preserved : goal.loop-rest-preserved
loop-rest-preserved c =
    let r = c.loop-rest.rest.now in
    let b : c.block_is_zero.result ≡ all_zero (take 64 r) = c.block_is_zero.ensures ∙ ap all_zero c.split_at.ensures.front in
    ap all_zero c.split_at.ensures.back
    ∙ sym (zero_block 64 r c.block_is_zero.result (omega arith) b ∙ ap (λ (b : Bool). b && all_zero (drop 64 r)) c.if-not-block_is_zero.false)
    ∙ c.loop-rest.invariant

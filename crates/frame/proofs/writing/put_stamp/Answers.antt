use native.Mathlib.Omega.{arith}
use mathlib.Core.Path.{refl}
use Prim.Native.Nat.{ℕ}
use mathlib.Core.List.{[]}
use Rattle.wire.specs.Number.{be}
use Rattle.wire.proofs.Number.{length-be}
use Rattle.wire.proofs.Writing.{written_none, written_all}
use Rattle.frame.specs.Layout.{stamp_bytes}
use Rattle.frame.proofs.Buffers.{write_part}
use Rattle.frame.proofs.writing.put_stamp.Goals as goal

pub returns : goal.returns
unfolding stamp_bytes
returns c =
    let s = c.args.out.now in
    let a = c.args.stamp in
    let n = c.requires in
    let w1 = write_part (λ (w : ℕ). be w a.phys) 0 6 6 [] s s _ refl (omega arith) (length-be 6 a.phys) (written_none s) c.put_be.ensures in
    let w2 = write_part (λ (w : ℕ). be w a.logical) 6 2 8 _ s _ _ refl (omega arith) (length-be 2 a.logical) w1 c.put_be-2.ensures in
    let w3 = write_part (λ (w : ℕ). be w a.node) 8 1 9 _ s _ _ refl (omega arith) (length-be 1 a.node) w2 c.put_be-3.ensures in
    written_all 9 _ s _ n w3

use native.Mathlib.Omega.{arith}
use mathlib.Core.Path.{◌≡◌, ap, ◌∙◌}
use Prim.Native.Nat.{ℕ, ◌-◌}
use mathlib.Core.List.{List, [], ◌++◌}
use lib.ListN.{length}
use borrow.Rule.Slice.PartMut.{put_mid}
use Rattle.wire.specs.Number.{be}
use Rattle.wire.specs.Fill.{padded}
use Rattle.wire.proofs.Number.{length-be}
use Rattle.wire.proofs.Fill.{length-padded, padded_exact}
use Rattle.wire.proofs.Writing.{written_none, written_all}
use Rattle.frame.specs.Layout.{counted}
use Rattle.frame.proofs.Buffers.{write_part}
use Rattle.frame.proofs.writing.put_counted.Goals as goal

pub returns : goal.returns
unfolding counted
returns c =
    let out = c.args.out.now in
    let s = c.args.s.now in
    let w = c.args.width in
    let m = put_mid 0 (w - 0) out c.put_be.new.out in
    let w1 = write_part (λ (k : ℕ). be k (length s)) 0 w w [] out out c.put_be.new.out (omega arith) (omega arith) (length-be w (length s))
    (written_none out) c.put_be.ensures in
    let n : length out ≡ length m = omega arith in
    let w2 = write_part (λ (k : ℕ). padded k s) w (length s) (length m) (be w (length s)) out m c.put_padded.new.out (omega arith)
    (omega arith) (length-padded (length s) s) w1 c.put_padded.ensures in
    written_all (length m) _ out _ n w2 ∙ ap (λ (r : List ℕ). be w (length s) ++ r) (padded_exact s)

use native.Mathlib.Omega.{arith}
use Prim.Native.Nat.{ℕ, ◌+◌, ◌-◌}
use mathlib.Core.List.{[]}
use lib.ListN.{length}
use borrow.Rule.Slice.PartMut.{put_mid}
use Rattle.wire.proofs.Writing.{written_none, written_all}
use Rattle.frame.specs.Layout.{counted, body}
use Rattle.frame.proofs.Bodies.{length-counted}
use Rattle.frame.proofs.Buffers.{write_part}
use Rattle.frame.proofs.writing.put_pair.Goals as goal

pub returns : goal.returns
unfolding body
returns c =
    let a = c.args in
    let out = a.out.now in
    let k = a.key.now in
    let v = a.value.now in
    let lk = length-counted 1 k in
    let lv = length-counted 2 v in
    let m = put_mid 0 (length k + 1 - 0) out c.put_counted.new.out in
    let w1 = write_part (λ (i : ℕ). counted 1 k) 0 (length k + 1) (length k + 1) [] out out c.put_counted.new.out (omega arith) (omega arith) (omega arith)
    (written_none out) c.put_counted.ensures in
    let w2 = write_part (λ (i : ℕ). counted 2 v) (length k + 1) (length v + 2) (length m) (counted 1 k) out m c.put_counted-2.new.out (omega arith)
    (omega arith) (omega arith) w1 c.put_counted-2.ensures in
    written_all (length m) _ out _ (omega arith) w2

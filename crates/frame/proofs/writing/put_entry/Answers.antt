use native.Mathlib.Omega.{arith}
use mathlib.Core.Path.{◌≡◌, refl}
use Prim.Native.Nat.{ℕ, ◌+◌, ◌-◌}
use mathlib.Core.List.{[]}
use lib.ListN.{length}
use borrow.Rule.Slice.PartMut.{put_mid}
use Rattle.wire.specs.Number.{be}
use Rattle.wire.proofs.Number.{length-be}
use Rattle.wire.proofs.Writing.{written_none, written_all}
use Rattle.frame.specs.Layout.{counted, stamp_bytes, body}
use Rattle.frame.proofs.Bodies.{length-counted, length_stamp}
use Rattle.frame.proofs.Buffers.{write_part}
use Rattle.frame.proofs.writing.put_entry.Goals as goal

pub returns : goal.returns
unfolding body
returns c =
    let a = c.args in
    let out = a.out.now in
    let k = a.entry.key.now in
    let v = a.entry.value.now in
    let at = length k + 1 in
    let lk = length-counted 1 k in
    let lv = length-counted 2 v in
    let m1 = put_mid 0 (at - 0) out c.put_counted.new.out in
    let m2 = put_mid at (at + 1 - at) m1 c.put_be.new.out in
    let m3 = put_mid (at + 1) (at + 10 - (at + 1)) m2 c.put_stamp.new.out in
    let n : length m3 ≡ length out = omega (arith, c.out-2-1.given, c.out-1.given) in
    let w1 = write_part (λ (i : ℕ). counted 1 k) 0 at at [] out out c.put_counted.new.out (omega arith) (omega arith) (omega arith) (written_none out)
    c.put_counted.ensures in
    let w2 = write_part (λ (i : ℕ). be i a.entry.flag) at 1 (at + 1) _ out m1 c.put_be.new.out refl (omega arith) (length-be 1 a.entry.flag) w1
    c.put_be.ensures in
    let w3 = write_part (λ (i : ℕ). stamp_bytes a.entry.stamp) (at + 1) 9 (at + 10) _ out m2 c.put_stamp.new.out (omega arith) (omega arith)
    (length_stamp a.entry.stamp) w2 c.put_stamp.ensures in
    let w4 = write_part (λ (i : ℕ). counted 2 v) (at + 10) (length v + 2) (length m3) _ out m3 c.put_counted-2.new.out (omega arith) (omega arith)
    (omega arith) w3 c.put_counted-2.ensures in
    written_all (length m3) _ out _ (omega arith) w4

use native.Mathlib.Omega.{arith}
use mathlib.Core.Path.{refl}
use Prim.Native.Nat.{ℕ, ◌+◌}
use mathlib.Core.List.{[]}
use lib.ListN.{set}
use lib.Seq.{lt-length-set}
use borrow.Rule.Slice.PartMut.{put_mid}
use Rattle.wire.specs.Number.{be}
use Rattle.wire.proofs.Number.{length-be}
use Rattle.wire.proofs.Writing.{written_none}
use Rattle.frame.proofs.Buffers.{write_part, write_byte, length_sets, frame_sealed}
use Rattle.frame.proofs.writing.seal.Goals as goal

pub bounds-out-3 : goal.bounds-out-3
bounds-out-3 c =
    lt-length-set (put_mid 0 2 c.args.out.now c.put_be.new.out) 2 c.from.result (omega arith)

pub slice_bounds-crc32c-end : goal.slice_bounds-crc32c-end
slice_bounds-crc32c-end c =
    omega (arith, length_sets (put_mid 0 2 c.args.out.now c.put_be.new.out) c.from.result 0)

pub slice_bounds-put_be-end-2 : goal.slice_bounds-put_be-end-2
slice_bounds-put_be-end-2 c =
    omega (arith, length_sets (put_mid 0 2 c.args.out.now c.put_be.new.out) c.from.result 0)

pub shape_of-out : goal.shape_of-out
shape_of-out c =
    omega (arith, length_sets (put_mid 0 2 c.args.out.now c.put_be.new.out) c.from.result 0)

pub returns : goal.returns
returns c =
    let s = c.args.out.now in
    let n = c.args.n in
    let t = c.from.result in
    let room = c.requires.1 in
    let w1 = write_part (λ (w : ℕ). be w (n + 6)) 0 2 2 [] s s c.put_be.new.out refl (omega arith) (length-be 2 (n + 6)) (written_none s)
    c.put_be.ensures in
    let w2 = write_byte 2 t (be 2 (n + 6)) s (put_mid 0 2 s c.put_be.new.out) (omega arith) w1 in
    let w3 = write_byte 3 0 _ s (set (put_mid 0 2 s c.put_be.new.out) 2 t) (omega arith) w2 in
    rw (← c.from.ensures) (frame_sealed t n s _ room w3 c.crc32c-sum.result c.put_be-2.new.out c.crc32c-sum.ensures c.put_be-2.ensures)

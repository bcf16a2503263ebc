use native.Mathlib.Omega.{arith}
use mathlib.Core.Path.{refl, sym}
use mathlib.Core.List.{[], append-nil}
use lib.ListN.{take}
use Rattle.frame.specs.Layout.{number_of}
use Rattle.frame.proofs.Envelopes.{length-envelope}
use Rattle.frame.proofs.Buffers.{write_front, same_written, frame_no_room, sealed-written}
use Rattle.frame.proofs.writing.write_empty.Goals as goal

pub returns-then-out-lt8 : goal.returns-then-out-lt8
returns-then-out-lt8 c =
    frame_no_room 0 _ c.args.out.now refl (omega (arith, length-envelope (number_of c.args.kind) []))

pub returns : goal.returns
returns c =
    let out = c.args.out.now in
    sealed-written 0 (number_of c.args.kind) 0 [] out out _ _ refl refl c.if-out-lt8.false
    (same_written (sym (append-nil (take 4 out))) (write_front out (omega arith))) c.seal.ensures

use native.Mathlib.Omega.{arith}
use mathlib.Core.Path.{◌≡◌, refl, ap, ◌∙◌}
use mathlib.Core.List.{List, ◌++◌}
use Prim.Native.Nat.{ℕ, ◌+◌, ◌-◌}
use lib.ListN.{length, take, drop, length-drop, length-append}
use lib.Seq.{length-take-le}
use Rattle.wire.specs.Fill.{zeros}
use Rattle.wire.proofs.Fill.{length-zeros, padded_min}
use Rattle.wire.proofs.Writing.{Written, write_next, written_all}
use Rattle.wire.proofs.put_padded.Goals as goal

pub returns : goal.returns
unfolding zeros
returns c =
    let o = c.args.out.now in
    let s = c.args.s.now in
    let n = c.min-n.result in
    let first = c.copy_from_slice.new.self in
    let copied : first ≡ take n s = c.copy_from_slice.ensures.after in
    let long : length first ≡ n = ap length copied ∙ length-take-le n s (omega arith) in
    let whole : length (first ++ drop n o) ≡ length o = length-append first (drop n o) ∙ omega (arith, length-drop n o) in
    let w1 : Written n first o (first ++ drop n o) = record { is = refl; long = long } in
    let k = length (first ++ drop n o) - n in
    let w2 = write_next zeros n k first o _ _ (length-zeros k) (omega arith) w1 (c.fill.ensures.after (λ y h. h)) in
    written_all (n + k) _ o _ (omega arith) w2
    ∙ ap (λ (p : List ℕ). p ++ zeros k) copied
    ∙ ap (λ (l : ℕ). take n s ++ zeros (l - n)) whole
    ∙ padded_min n (length o) s (omega arith)

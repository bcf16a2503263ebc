use Rattle.std.proofs.Common.{arith, ◌≡◌, ◌/◌, ap, ◌∙◌, ℕ, [], ◌∷◌, length, take, drop}
use Rattle.std.specs.Simd.{first_chunks}
use Rattle.checksum.specs.Table.{block_with}
use Rattle.checksum.proofs.block_step.Goals as goal

pub returns : goal.returns
unfolding block_with
returns c =
    let s = c.args.s.now in
    let sixteen : length s ≡ 16 = omega arith in
    let two : length s / 8 ≡ 2 = omega arith in
    let words : c.as_chunks.result.0.now ≡ take 8 s ∷ take 8 (drop 8 s) ∷ [] =
    c.as_chunks.ensures.front ∙ ap (λ (n : ℕ). first_chunks 8 n s) two in
    rw (c.lanes-2.ensures, c.word-2.ensures, c.lanes.ensures, c.word.ensures, words)

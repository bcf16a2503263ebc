use Rattle.std.proofs.Common.{arith, ◌≡◌, ◌∙◌, length}
use Rattle.checksum.proofs.Words.{le_word}
use Rattle.checksum.proofs.word.Goals as goal

pub returns : goal.returns
returns c =
    let eight : length c.args.s.now ≡ 8 = omega arith in
    c.from_le_bytes.ensures ∙ le_word c.args.s.now eight

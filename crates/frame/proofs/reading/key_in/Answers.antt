use native.Mathlib.Omega.{arith}
use Rattle.frame.specs.Reading.{klen}
use Rattle.frame.proofs.Fields.{number_byte}
use Rattle.frame.proofs.reading.key_in.Goals as goal

pub returns-clause-is : goal.returns-clause-is
unfolding klen
returns-clause-is c =
    let n = c.requires in
    let e = number_byte 4 c.args.frame.now (omega arith) in
    cc

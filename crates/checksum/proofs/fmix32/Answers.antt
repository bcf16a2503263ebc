use Rattle.checksum.specs.Fmix32.{fmix32}
use Rattle.checksum.proofs.fmix32.Goals as goal

pub returns : goal.returns
unfolding fmix32
returns c = rw (c.mul_mod_2_32-b.ensures, c.mul_mod_2_32-a.ensures)

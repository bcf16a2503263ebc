use Rattle.checksum.proofs.ByTable.{checksum_with}
use Rattle.checksum.proofs.crc32c_with.Goals as goal

pub returns : goal.returns
returns c = checksum_with c.crc32c_part.ensures

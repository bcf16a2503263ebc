use Rattle.checksum.proofs.ByTable.{eight_lanes}
use Rattle.checksum.proofs.lanes.Goals as goal

pub returns : goal.returns
returns c =
    let a = c.args in
    rw (
      c.lane-7.ensures,
      c.lane-6.ensures,
      c.lane-5.ensures,
      c.lane-4.ensures,
      c.lane-3.ensures,
      c.lane-2.ensures,
      c.lane.ensures,
      c.entry.ensures,
    )
    (eight_lanes a.t.now a.base a.v)

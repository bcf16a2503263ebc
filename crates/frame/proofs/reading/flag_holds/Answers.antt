use Rattle.frame.proofs.Checks.{tombstone_flag, other_flag}
use Rattle.frame.proofs.reading.flag_holds.Goals as goal

pub returns-then-flag-eq-TOMBSTONE : goal.returns-then-flag-eq-TOMBSTONE
returns-then-flag-eq-TOMBSTONE c =
    let a = c.args in tombstone_flag a.value.now a.flag c.if-flag-eq-TOMBSTONE.true

pub returns : goal.returns
returns c =
    let a = c.args in other_flag a.value.now a.flag c.if-flag-eq-TOMBSTONE.false

use Rattle.image.specs.Layout.{slot_width}
use Rattle.store.proofs.Closing.{down_done}
use Rattle.store.proofs.clear.shift_down.Goals as goal

pub returns : goal.returns
returns c = down_done slot_width c.args.part.now _ _ c.requires c.copy_within.ensures.after (c.fill.ensures.after (λ y e. e))

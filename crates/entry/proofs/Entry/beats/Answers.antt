use mathlib.Core.Path.{◌≡◌, sym, ap, ◌∙◌}
use mathlib.Core.Bool.{false}
use Rattle.wire.proofs.Compared.{lt_below}
use Rattle.std.specs.Ordering.{is_lt}
use Rattle.entry.specs.Order.{stamp_below}
use Rattle.entry.proofs.EntryOrder.{above_beats, below_loses, by_flags, by_values}
use Rattle.entry.proofs.Entry.beats.Goals as goal

pub returns-then-is_below : goal.returns-then-is_below
returns-then-is_below c j k = sym (above_beats _ _ (sym c.is_below.ensures ∙ c.if-is_below.true))

pub returns-then-is_below-2 : goal.returns-then-is_below-2
returns-then-is_below-2 c j k = sym (below_loses _ _ (sym c.is_below-2.ensures ∙ c.if-is_below-2.true))

pub returns-then-other-self : goal.returns-then-other-self
returns-then-other-self c j k =
    let not_above : stamp_below c.args.other.stamp c.args.self.stamp ≡ false = sym c.is_below.ensures ∙ c.if-is_below.false in
    let not_below : stamp_below c.args.self.stamp c.args.other.stamp ≡ false = sym c.is_below-2.ensures ∙ c.if-is_below-2.false in
    by_flags _ _ not_above not_below c.if-other-self.true

pub returns : goal.returns
returns c j k =
    let not_above : stamp_below c.args.other.stamp c.args.self.stamp ≡ false = sym c.is_below.ensures ∙ c.if-is_below.false in
    let not_below : stamp_below c.args.self.stamp c.args.other.stamp ≡ false = sym c.is_below-2.ensures ∙ c.if-is_below-2.false in
    c.is_lt.ensures ∙ ap is_lt c.compare.ensures ∙ lt_below _ _ ∙ by_values _ _ not_above not_below c.if-other-self.false

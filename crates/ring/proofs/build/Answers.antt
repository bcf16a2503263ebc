use Rattle.ring.proofs.Answers.{answer_output}
use mathlib.Core.Path.{◌≡◌, sym, ◌∙◌}
use mathlib.Core.Bool.{false}
use native.Mathlib.Nat.{lt_of_le_of_lt}
use lib.Dec.{lit<}
use Rattle.ring.specs.Answer.{refuses}
use Rattle.ring.specs.Build.{bad_arguments}
use Rattle.ring.proofs.Filling.{length-places, fit_640, tells, unfit, lacks_room, is_built}
use Rattle.ring.proofs.build.Goals as goal

pub returns-then-bad_arguments : goal.returns-then-bad_arguments
returns-then-bad_arguments c = answer_output (tells _ _ _ _ (refuses 17) (unfit _ _ _ (sym c.bad_arguments.ensures ∙ c.if-bad_arguments.true)))

pub overflow_mul-places : goal.overflow_mul-places
overflow_mul-places c =
    let fit : bad_arguments c.args.ids.now c.args.vnodes ≡ false = sym c.bad_arguments.ensures ∙ c.if-bad_arguments.false in
    record { fits = lt_of_le_of_lt (fit_640 _ _ fit) (lit< tt) }

pub returns-then-ring-places : goal.returns-then-ring-places
returns-then-ring-places c =
    let fit : bad_arguments c.args.ids.now c.args.vnodes ≡ false = sym c.bad_arguments.ensures ∙ c.if-bad_arguments.false in
    answer_output (tells _ _ _ _ (refuses 4) (lacks_room _ _ _ fit c.if-ring-places.true))

pub fill-requires : goal.fill-requires
fill-requires c =
    let fit : bad_arguments c.args.ids.now c.args.vnodes ≡ false =
    sym c.bad_arguments.ensures
    ∙ c.if-bad_arguments.false in record { room = rw length-places c.if-ring-places.false; most = rw length-places (fit_640 _ _ fit) }

pub returns : goal.returns
returns c =
    let fit : bad_arguments c.args.ids.now c.args.vnodes ≡ false = sym c.bad_arguments.ensures ∙ c.if-bad_arguments.false in
    answer_output (is_built _ _ _ fit _ _ c.if-ring-places.false c.fill.ensures)

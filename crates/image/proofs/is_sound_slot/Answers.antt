use mathlib.Core.Path.{sym, ap, ◌∙◌}
use Rattle.entry.specs.Entry.{refusal_of}
use Rattle.image.proofs.Soundness.{bad_length, bad_klen, bad_vlen, bad_verdict, good_verdict}
use Rattle.image.proofs.is_sound_slot.Goals as goal

pub returns-then-slot-ne-SLOT_WIDTH : goal.returns-then-slot-ne-SLOT_WIDTH
returns-then-slot-ne-SLOT_WIDTH c = bad_length c.args.slot.now c.if-slot-ne-SLOT_WIDTH.true

pub returns-then-klen-gt-MAX_KEY : goal.returns-then-klen-gt-MAX_KEY
returns-then-klen-gt-MAX_KEY c =
    bad_klen c.args.slot.now c.number_at-klen.result c.number_at-klen.ensures.is c.if-klen-gt-MAX_KEY.true

pub returns-then-vlen-gt-MAX_VALUE : goal.returns-then-vlen-gt-MAX_VALUE
returns-then-vlen-gt-MAX_VALUE c =
    bad_vlen c.args.slot.now c.number_at-vlen.result c.number_at-vlen.ensures.is c.if-vlen-gt-MAX_VALUE.true

pub returns-then-is_err : goal.returns-then-is_err
returns-then-is_err c =
    bad_verdict c.args.slot.now _ (c.judge.ensures ∙ ap refusal_of c.slot_entry.ensures) (sym c.is_err.ensures.value ∙ c.if-is_err.true)

pub returns : goal.returns
returns c =
    c.is_sealed.ensures
    ∙ good_verdict c.args.slot.now _ (c.judge.ensures ∙ ap refusal_of c.slot_entry.ensures) (sym c.is_err.ensures.value ∙ c.if-is_err.false)

use native.Mathlib.Omega.{arith}
use mathlib.Core.Path.{sym, ◌∙◌}
use Rattle.image.specs.Image.{line_of, entries_of}
use Rattle.image.specs.Meaning.{Sound}
use Rattle.image.proofs.ImageLaws.{sound_is, used_is}
use Rattle.store.proofs.Ways.{told_left, merge_5, merge_giver_5, merge_35, merge_6, merge_done}
use Rattle.store.proofs.Seeking.{count_most}
use Rattle.store.proofs.merge.Goals as goal

pub returns-then-not-is_sound : goal.returns-then-not-is_sound
returns-then-not-is_sound c =
    let a = c.args in
    told_left (merge_5 a.receiver.now a.giver.now _ c.is_sound.ensures c.if-not-is_sound.true)

pub returns-then-not-is_sound-2 : goal.returns-then-not-is_sound-2
returns-then-not-is_sound-2 c =
    let a = c.args in
    told_left (merge_giver_5 a.receiver.now a.giver.now _ c.is_sound.ensures c.if-not-is_sound.false _ c.is_sound-2.ensures c.if-not-is_sound-2.true)

pub returns-then-purge_line : goal.returns-then-purge_line
returns-then-purge_line c =
    let a = c.args in
    told_left (merge_35 a.receiver.now a.giver.now _ c.is_sound.ensures c.if-not-is_sound.false _ c.is_sound-2.ensures c.if-not-is_sound-2.false
    _ _ c.purge_line.ensures.is c.purge_line-2.ensures.is c.if-purge_line.true)

pub overflow_add-used_count : goal.overflow_add-used_count
overflow_add-used_count c =
    let a = c.args in
    let k : Sound a.giver.now = sound_is a.giver.now (sym c.is_sound-2.ensures ∙ c.if-not-is_sound-2.false) in
    omega (
      arith,
      c.count_new-counts.ensures.new_is,
      c.used_count.ensures.small,
      count_most (line_of a.receiver.now) (entries_of a.receiver.now) (entries_of a.giver.now),
      used_is a.giver.now,
      k.room,
      k.most,
    )

pub returns-then-slot_count-used_count : goal.returns-then-slot_count-used_count
returns-then-slot_count-used_count c =
    let a = c.args in
    told_left (merge_6 a.receiver.now a.giver.now _ c.is_sound.ensures c.if-not-is_sound.false _ c.is_sound-2.ensures c.if-not-is_sound-2.false
    _ _ c.purge_line.ensures.is c.purge_line-2.ensures.is c.if-purge_line.false _ _ _ _
    c.slot_count.ensures.is c.used_count.ensures.is c.count_new-counts.ensures c.if-slot_count-used_count.true)

pub returns : goal.returns
returns c =
    let a = c.args in
    told_left (merge_done a.receiver.now a.giver.now _ c.is_sound.ensures c.if-not-is_sound.false _ c.is_sound-2.ensures c.if-not-is_sound-2.false
    _ _ c.purge_line.ensures.is c.purge_line-2.ensures.is c.if-purge_line.false _ _ _ _
    c.slot_count.ensures.is c.used_count.ensures.is c.count_new-counts.ensures c.if-slot_count-used_count.false _ c.give_all.ensures)

use Rattle.ring.proofs.Answers.{answer_output}
use mathlib.Core.Path.{◌≡◌, sym, ◌∙◌}
use mathlib.Core.Bool.{true, false}
use Prim.Native.Nat.{min}
use native.Mathlib.Omega.{arith}
use Rattle.peers.specs.Admitted.{admits}
use Rattle.ring.specs.Answer.{refuses}
use Rattle.ring.specs.Sound.{sound_ring}
use Rattle.ring.specs.Walk.{admitted_with_place}
use Rattle.ring.specs.Owners.{bad_request}
use Rattle.ring.proofs.Meeting.{before-le}
use Rattle.ring.proofs.Choosing.{count_met, put_owners, at_most_3, says, unfit, ring_unsound, too_few, no_room, all_written}
use Rattle.ring.proofs.Scan.{before_taken}
use Rattle.ring.proofs.owners.Goals as goal

pub returns-then-bad_request : goal.returns-then-bad_request
returns-then-bad_request c = answer_output (says _ _ _ _ _ _ (refuses 17) (unfit _ _ _ _ _ (sym c.bad_request.ensures ∙ c.if-bad_request.true)))

pub returns-then-not-is_sound : goal.returns-then-not-is_sound
returns-then-not-is_sound c =
    let fit : bad_request c.args.peers c.args.count ≡ false = sym c.bad_request.ensures ∙ c.if-bad_request.false in
    answer_output (says _ _ _ _ _ _ (refuses 16)
    (ring_unsound _ _ _ _ _ fit (sym c.is_sound.ensures ∙ c.if-not-is_sound.true)))

pub walk-taken-requires : goal.walk-taken-requires
walk-taken-requires c =
    let fit : bad_request c.args.peers c.args.count ≡ false = sym c.bad_request.ensures ∙ c.if-bad_request.false in
    let a = c.args in
    (rw (c.start.ensures, before_taken a.position a.ring.now) (before-le a.position a.ring.now), at_most_3 _ _ fit)

pub returns-then-met-wanted : goal.returns-then-met-wanted
returns-then-met-wanted c =
    let fit : bad_request c.args.peers c.args.count ≡ false = sym c.bad_request.ensures ∙ c.if-bad_request.false in
    let sound : sound_ring c.args.ring.now ≡ true = sym c.is_sound.ensures ∙ c.if-not-is_sound.false in
    let counted : let a = c.args in c.walk-taken.result.count ≡ min a.count (admitted_with_place (admits a.admission a.peers) a.ring.now) = let a =
    c.args in count_met _ _ _ c.admitted-flags.ensures _ a.position _ _ _ _
    (c.start.ensures ∙ before_taken a.position a.ring.now) c.walk-taken.ensures (at_most_3 _ _ fit) in
    answer_output (says _ _ _ _ _ _ (refuses 10)
    (too_few _ _ _ _ _ fit sound (omega (arith, counted))))

pub returns-then-out-wanted : goal.returns-then-out-wanted
returns-then-out-wanted c =
    let fit : bad_request c.args.peers c.args.count ≡ false = sym c.bad_request.ensures ∙ c.if-bad_request.false in
    let sound : sound_ring c.args.ring.now ≡ true = sym c.is_sound.ensures ∙ c.if-not-is_sound.false in
    let counted : let a = c.args in c.walk-taken.result.count ≡ min a.count (admitted_with_place (admits a.admission a.peers) a.ring.now) = let a =
    c.args in count_met _ _ _ c.admitted-flags.ensures _ a.position _ _ _ _
    (c.start.ensures ∙ before_taken a.position a.ring.now) c.walk-taken.ensures (at_most_3 _ _ fit) in
    answer_output (says _ _ _ _ _ _ (refuses 4)
    (no_room _ _ _ _ _ fit sound (omega (arith, counted)) c.if-out-wanted.true))

pub put-requires : goal.put-requires
put-requires c =
    let fit : bad_request c.args.peers c.args.count ≡ false = sym c.bad_request.ensures ∙ c.if-bad_request.false in
    let w = c.walk-taken.ensures in
    let m = at_most_3 _ _ fit in
    (omega (arith, w.most), omega (arith, w.most), w.size)

pub returns : goal.returns
returns c =
    let fit : bad_request c.args.peers c.args.count ≡ false = sym c.bad_request.ensures ∙ c.if-bad_request.false in
    let sound : sound_ring c.args.ring.now ≡ true = sym c.is_sound.ensures ∙ c.if-not-is_sound.false in
    let counted : let a = c.args in c.walk-taken.result.count ≡ min a.count (admitted_with_place (admits a.admission a.peers) a.ring.now) = let a =
    c.args in count_met _ _ _ c.admitted-flags.ensures _ a.position _ _ _ _
    (c.start.ensures ∙ before_taken a.position a.ring.now) c.walk-taken.ensures (at_most_3 _ _ fit) in
    let a = c.args in
    answer_output (all_written _ _ _ _ _ fit sound (omega (arith, counted)) _ _ c.if-out-wanted.false
    (c.put.ensures
    ∙ put_owners _ _ _ c.admitted-flags.ensures _ a.position _ _ _ _
    (c.start.ensures ∙ before_taken a.position a.ring.now) c.walk-taken.ensures (at_most_3 _ _ fit) a.out.now))

use Rattle.std.proofs.Common.{◌≡◌, refl, sym, ap, [], ◌∷◌}
use Rattle.ring.specs.Answer.{gives}
use Rattle.ring.specs.Place.{position_answer}
use Rattle.capi_cluster.specs.Ring.{refusal_in, given_in}
use Rattle.capi_words.proofs.Fronts.{front_no_room, front_put}
use Rattle.capi_cluster.proofs.Rings.{set_first, position_refused}
use Rattle.capi_cluster.proofs.sp_key_position.Goals as goal

pub returns-then-position-lt1 : goal.returns-then-position-lt1
returns-then-position-lt1 c =
    let a = c.args in
    let at = position_answer a.key.now a.salt in
    let e : gives c.in-Ok.at ≡ at = c.in-Ok.ensures in
    let p = front_no_room (refusal_in at) (given_in at ∷ []) a.position.now _ (sym (ap refusal_in e)) c.if-position-lt1.true
    c.refused-then-position-lt1.ensures in
    record { told = p.told; left = p.left }

pub returns-in-Err : goal.returns-in-Err
returns-in-Err c =
    let a = c.args in
    let at = position_answer a.key.now a.salt in
    let p = position_refused at a.position.now _ c.in-Err.why c.in-Err.ensures c.refused.ensures in record { told = p.told; left = p.left }

pub returns-else-position-lt1 : goal.returns-else-position-lt1
returns-else-position-lt1 c =
    let a = c.args in
    let at = position_answer a.key.now a.salt in
    let e : gives c.in-Ok.at ≡ at = c.in-Ok.ensures in
    let p = front_put (refusal_in at) (given_in at ∷ []) a.position.now 0 _ (sym (ap refusal_in e)) c.if-position-lt1.false refl
    (set_first a.position.now _ _ c.if-position-lt1.false (ap given_in e)) in
    record { told = p.told; left = p.left }

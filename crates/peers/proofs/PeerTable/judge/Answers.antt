use Rattle.std.proofs.Common.{sym, ◌∙◌}
use Rattle.peers.proofs.Answers.{peer_11, peer_15, peer_12, peer_0}
use Rattle.peers.proofs.PeerTable.judge.Goals as goal

pub returns-in_default-clause-told : goal.returns-in_default-clause-told
returns-in_default-clause-told c =
    let a = c.args in
    peer_11 a.id a.state a.incarnation a.now a.self.now c.if-now-ge-TIME_LIMIT.false c.if-state-gt-DOWN.false
    (sym c.is_sound.ensures ∙ c.if-not-is_sound.false) c.in_default.ensures

pub returns-then-at-eq0-clause-told : goal.returns-then-at-eq0-clause-told
returns-then-at-eq0-clause-told c =
    let a = c.args in
    peer_15 a.id a.state a.incarnation a.now a.self.now c.if-now-ge-TIME_LIMIT.false c.if-state-gt-DOWN.false
    (sym c.is_sound.ensures ∙ c.if-not-is_sound.false)
    c.in-Some.at c.in-Some.ensures c.if-at-eq0.true

pub returns-then-incarnation-self-clause-told : goal.returns-then-incarnation-self-clause-told
returns-then-incarnation-self-clause-told c =
    let a = c.args in
    peer_12 a.id a.state a.incarnation a.now a.self.now c.if-now-ge-TIME_LIMIT.false c.if-state-gt-DOWN.false
    (sym c.is_sound.ensures ∙ c.if-not-is_sound.false)
    c.in-Some.at c.in-Some.ensures c.if-at-eq0.false c.if-incarnation-self.true

pub returns-clause-told : goal.returns-clause-told
returns-clause-told c =
    let a = c.args in
    peer_0 a.id a.state a.incarnation a.now a.self.now c.if-now-ge-TIME_LIMIT.false c.if-state-gt-DOWN.false
    (sym c.is_sound.ensures ∙ c.if-not-is_sound.false)
    c.in-Some.at c.in-Some.ensures c.if-at-eq0.false c.if-incarnation-self.false

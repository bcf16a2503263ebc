use borrow.Author.Rules.{rules}
use mathlib.Core.Path.{◌∙◌}
use mathlib.Core.List.{map}
use Prim.Native.Nat.{◌<◌}
use native.Mathlib.Nat.{sub-zero}
use native.Mathlib.Omega.{arith}
use lib.ListN.{take, length-set}
use Rattle.ring.specs.Place.{node}
use Rattle.ring.specs.Helpers.{turned}
use Rattle.ring.proofs.Meeting.{gather_full, gather_end}
use Rattle.ring.proofs.Meeting.{length_nodes, length-turned, turn-take, turn_skip, turn_end}
use Rattle.ring.proofs.walking.walk.Goals as goal
use Rattle.ring.proofs.walking.walk.Goals.{then-free-n, else-free-n}

pub loop-j-init : goal.loop-j-init
loop-j-init c = (search rules, search rules, search rules, rw sub-zero)

pub bounds-nodes-count : goal.bounds-nodes-count
bounds-nodes-count c = omega (arith, c.loop-j.invariant.0, c.requires.1, c.if-count-r.false)

pub loop-j-preserved : goal.loop-j-preserved
loop-j-preserved c =
    let l = c.loop-j in
    let a = c.args in
    let more : l.count < a.r = omega (arith, l.invariant.0, c.if-count-r.false) in
    elim c.if-free-n.branch [
      | then-free-n w ↦ (
        rw w.count-is (omega arith),
        rw (w.free-is, length-set) l.invariant.1,
        rw (w.nodes-is, length-set) l.invariant.2,
        rw (w.free-is, w.nodes-is, w.count-is)
            (turn-take (turned a.start a.ring.now) l.free l.nodes a.r l.count l.j c.place_at.result
            (rw (length-turned a.start a.ring.now c.requires.0) c.loop-j-test.true)
            more c.place_at.ensures (omega arith) w.if-free-n.true
            ∙ l.invariant.3),
      )
      | else-free-n w ↦ (
        rw w.count-is (omega arith),
        rw w.free-is l.invariant.1,
        rw w.nodes-is l.invariant.2,
        rw (w.free-is, w.nodes-is, w.count-is)
            (turn_skip (turned a.start a.ring.now) l.free l.nodes a.r l.count l.j c.place_at.result
            (rw (length-turned a.start a.ring.now c.requires.0) c.loop-j-test.true)
            more c.place_at.ensures w.if-free-n.false
            ∙ l.invariant.3),
      )
    ]

pub returns-then-count-r : goal.returns-then-count-r
returns-then-count-r c =
    let l = c.loop-j in
    let a = c.args in
    record {
      size = l.invariant.2;
      most = l.invariant.0;
      taken =
          turn_end (take l.count l.nodes) _ a.r a.flags (map node (turned a.start a.ring.now))
          (gather_full (map node (turned a.start a.ring.now)) l.free a.r l.count l.j (omega (arith, c.if-count-r.true)))
          l.invariant.3;
    }

pub returns : goal.returns
returns c =
    let l = c.loop-j in
    let a = c.args in
    record {
      size = l.invariant.2;
      most = l.invariant.0;
      taken =
          turn_end (take l.count l.nodes) _ a.r a.flags (map node (turned a.start a.ring.now))
          (gather_end (map node (turned a.start a.ring.now)) l.free a.r l.count l.j
          (rw (length_nodes a.start a.ring.now c.requires.0) c.loop-j-test.false))
          l.invariant.3;
    }

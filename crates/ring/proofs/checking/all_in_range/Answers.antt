use Rattle.std.proofs.Common.{rules, ◌≡◌, ◌∙◌, ◌↔◌, IsTrue, true}
use Rattle.std.specs.List.{All}
use Rattle.peers.proofs.Scan.{all_told}
use Rattle.ring.proofs.Scan.{fits, range_all}
use Rattle.ring.proofs.checking.all_in_range.Goals as goal

pub returns : goal.returns
returns c =
    let e : IsTrue c.all.result ↔ All (λ p. fits p ≡ true) c.args.ring.now = search rules in
    all_told fits c.args.ring.now c.all.result e ∙ range_all c.args.ring.now

use Rattle.std.proofs.Common.{rules, ◌≡◌, ◌↔◌, ◌∙◌, IsTrue, true}
use Rattle.std.specs.List.{All}
use Rattle.peers.specs.declared.Row.{Row}
use Rattle.peers.specs.Row.{in_range}
use Rattle.peers.specs.Table.{rows_of}
use Rattle.peers.proofs.Scan.{all_told, range_all}
use Rattle.peers.proofs.PeerTable.rows_are_in_range.Goals as goal

pub returns : goal.returns
returns c =
    let rows = rows_of c.args.self.now in
    let e : IsTrue c.all.result ↔ All (λ (r : Row). in_range r ≡ true) rows = search rules in
    all_told in_range rows c.all.result e ∙ range_all rows

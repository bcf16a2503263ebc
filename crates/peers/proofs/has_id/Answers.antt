use Rattle.std.proofs.Common.{rules, ◌≡◌, ◌↔◌, ◌∙◌, IsTrue, true, eqb}
use Rattle.std.specs.List.{Any}
use Rattle.peers.specs.declared.Row.{Row}
use Rattle.peers.proofs.Scan.{any_told, has_any}
use Rattle.peers.proofs.has_id.Goals as goal

pub returns : goal.returns
returns c =
    let a = c.args in
    let e : IsTrue c.any.result ↔ Any (λ (r : Row). eqb r.id a.id ≡ true) a.rows.now = search rules in
    any_told (λ (r : Row). eqb r.id a.id) a.rows.now c.any.result e ∙ has_any a.id a.rows.now

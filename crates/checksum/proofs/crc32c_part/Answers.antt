use Rattle.std.proofs.Common.{rules, ◌≡◌, ap, ap₂, ◌∙◌, ℕ, List, fold}
use Rattle.checksum.specs.Table.{byte_step_with, block_with, run_with}
use Rattle.checksum.proofs.Loops.{run_parts}
use Rattle.checksum.proofs.ByTable.{part_with}
use Rattle.checksum.proofs.crc32c_part.Goals as goal

pub returns : goal.returns
returns c =
    let a = c.args in
    let t = a.table.now in
    let parts = c.as_chunks.ensures in
    let e : c.byte_run.result ≡ run_with t a.start a.bytes.now =
    c.byte_run.ensures
    ∙ ap₂ (λ (x : ℕ) (l : List ℕ). fold (byte_step_with t) x l) (c.block_run.ensures ∙ ap (fold (block_with t) a.start) parts.front) parts.back
    ∙ run_parts t a.bytes.now a.start in
    part_with t a.bytes.now a.start c.byte_run.result (λ k. (c.type_inv.bytes k).fits) (search rules) e

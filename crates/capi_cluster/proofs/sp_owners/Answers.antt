use Rattle.std.proofs.Common.{sym, ap, ◌∙◌, ℕ}
use Rattle.capi_words.specs.Result.{packed}
use Rattle.capi_cluster.proofs.Bytes.{count_answer_lem, count_output}
use Rattle.capi_cluster.proofs.Rings.{bad_admission, bad_words, good_form, said, walk_bad, walk_done}
use Rattle.capi_cluster.proofs.sp_owners.Goals as goal

pub returns-in_default : goal.returns-in_default
returns-in_default c =
    let a = c.args in
    let bad = sym (bad_admission a.admission a.table.now c.in_default.ensures) in
    let p = walk_bad a.ring.now a.table.now a.position a.admission a.count a.out.now _ bad c.refused.ensures in
    record { told = p.told; left = p.left }

pub returns-in_default-table_of : goal.returns-in_default-table_of
returns-in_default-table_of c =
    let a = c.args in
    let bad = sym (bad_words a.admission a.table.now c.in_default-table_of.ensures) in
    let p = walk_bad a.ring.now a.table.now a.position a.admission a.count a.out.now _ bad c.refused-in_default-table_of.ensures in
    record { told = p.told; left = p.left }

pub returns : goal.returns
returns c =
    let a = c.args in
    let who = c.in-Some.ensures in
    let peers = c.in-Some-table_of.ensures in
    let good = good_form a.admission a.table.now who.0 peers.0 in
    let e = c.byte_of-wanted.ensures in
    let answer = c.owners.ensures.answer ∙ count_answer_lem a.ring.now _ _ a.count _ a.out.now e in
    let output = c.owners.ensures.output ∙ count_output a.ring.now _ _ a.position a.count _ a.out.now e in
    let told = c.done.ensures ∙ ap (λ (n : ℕ). packed n 0) (said c.owners.result) in
    let p = walk_done a.ring.now a.table.now a.position a.admission a.count a.out.now _ _ _ _ _ good peers.1 who.1 answer told output in
    record { told = p.told; left = p.left }

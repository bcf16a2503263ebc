use Rattle.std.proofs.Common.{arith, ap, ◌∙◌}
use Rattle.capi_cluster.specs.Ring.{answer_word}
use Rattle.capi_cluster.proofs.Bytes.{vnodes_answer, vnodes_output}
use Rattle.capi_cluster.proofs.Rings.{built_most, counted_word}
use Rattle.capi_cluster.proofs.sp_ring_build.Goals as goal

pub returns : goal.returns
returns c =
    let a = c.args in
    let b = c.byte_of.result in
    let answer = c.build.ensures.answer in
    record {
      told = c.counted.ensures ∙ counted_word c.build.result (rw answer (omega (arith, built_most a.ids.now b a.ring.now)))
          ∙ ap answer_word (answer ∙ vnodes_answer a.ids.now a.vnodes b a.ring.now c.byte_of.ensures);
      left = c.build.ensures.output ∙ vnodes_output a.ids.now a.vnodes b a.salt a.ring.now c.byte_of.ensures;
    }

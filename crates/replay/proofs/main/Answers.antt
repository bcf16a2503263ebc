use Rattle.std.proofs.Common.{ℕ, refl, replicate}
use Rattle.std.proofs.lemmas.List.{length-replicate}
use Rattle.wire.specs.Fill.{zeros}
use Rattle.replayer.specs.Replies.{start}
use Rattle.replay.proofs.Turns.{created}
use Rattle.replay.proofs.main.Goals as goal

pub run-requires : goal.run-requires
unfolding start zeros
run-requires c = (created (replicate 59616 0) _ (length-replicate {A = ℕ} 59616 0) c.create.ensures.left, refl)

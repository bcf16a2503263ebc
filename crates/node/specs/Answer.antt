-- What the answer of the handler means.
use Rattle.std.specs.Prelude.{ℕ, ◌≡◌, List}
use Rattle.entry.specs.Refusal.{refusal_number}
use Rattle.clock.specs.declared.Clock.{Clock}
use Rattle.node.specs.declared.Handled.{Handled}
use Rattle.node.specs.Handler.{Result, handled}

-- a call's answer and what it leaves are those of a result
pub record Leaves (x : Result) (r : Handled) (store reply : List ℕ) : Type 0 where
  pub store_is : store ≡ x.store
  pub clock_is : r.clock ≡ x.clock
  pub reply_is : reply ≡ x.reply
  pub written_is : r.written ≡ x.written
  pub answer_is : refusal_number r.answer ≡ x.refusal

-- the promise of the handler (R197)
abbrev pub Handles : List ℕ → Clock → ℕ → List ℕ → List ℕ → Handled → List ℕ → List ℕ → Type 0
Handles store c now frame reply r store' reply' = Leaves (handled store c now frame reply) r store' reply'

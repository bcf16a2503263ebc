-- The request handler on a clock's words.
use Rattle.std.specs.Prelude.{ℕ, cond, List}
use Rattle.node.specs.Handler.{handled}
use Rattle.capi_words.specs.Result.{packed}
use Rattle.capi.specs.Words.{is_clock, clock_of, clock_words}

-- 17 for words that are no clock, with nothing written; then the handler's refusal, and the length of the reply (R245)
unfoldable pub handle_refusal : List ℕ → List ℕ → ℕ → List ℕ → List ℕ → ℕ
handle_refusal store w time frame reply = cond (is_clock w) (handled store (clock_of w) time frame reply).refusal 17

unfoldable pub handle_length : List ℕ → List ℕ → ℕ → List ℕ → List ℕ → ℕ
handle_length store w time frame reply = cond (is_clock w) (handled store (clock_of w) time frame reply).written 0

abbrev pub handle_word : List ℕ → List ℕ → ℕ → List ℕ → List ℕ → ℕ
handle_word store w time frame reply = packed (handle_refusal store w time frame reply) (handle_length store w time frame reply)

-- the store, the clock's words and the reply after it (R170, R245)
unfoldable pub handle_store : List ℕ → List ℕ → ℕ → List ℕ → List ℕ → List ℕ
handle_store store w time frame reply = cond (is_clock w) (handled store (clock_of w) time frame reply).store store

unfoldable pub handle_clock : List ℕ → List ℕ → ℕ → List ℕ → List ℕ → List ℕ  -- (R170, R245)
handle_clock store w time frame reply = cond (is_clock w) (clock_words (handled store (clock_of w) time frame reply).clock) w

unfoldable pub handle_reply : List ℕ → List ℕ → ℕ → List ℕ → List ℕ → List ℕ
handle_reply store w time frame reply = cond (is_clock w) (handled store (clock_of w) time frame reply).reply reply

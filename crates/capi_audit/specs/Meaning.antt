-- What holds of the results.
use Rattle.std.specs.Prelude.{ℕ, ◌<◌, ◌≡◌, List}
use Rattle.deliveries.specs.List.{count_answer}
use Rattle.explain.specs.Explain.{won, explain_answer}
use Rattle.capi_words.specs.Meaning.{TakenApart}
use Rattle.capi_audit.specs.Audit.{count_refusal, count_given, count_word, explained_refusal, explained_given, explained_word}

-- every result of the functions is taken apart; no winner's place is 65535 (R236, R246, R254)
pub record AuditResultsTakenApart : Type 0 where
  pub deliveries : (list : List ℕ) → let a = count_answer list in TakenApart (count_word a) (count_refusal a) (count_given a) 1000
  pub explain : (list key out : List ℕ) → let a = explain_answer list key out in TakenApart (explained_word a) (explained_refusal a) (explained_given a) 65535
  pub place : (list key out : List ℕ) (i : ℕ) → explain_answer list key out ≡ won i → i < 1000

-- The report: which delivery of a key is in force, and why each other one is not.
use Rattle.std.specs.Prelude.{ℕ, Bool, true, false, cond, List, [], ◌++◌, length, drop, ltb, Option, None, Some, Result, Ok, Err}
use Rattle.entry.specs.declared.Refusal.{Refusal}
use Rattle.entry.specs.Refusal.{number}
use Rattle.entry.specs.Key.{bad_key}
use Rattle.entry.specs.Entry.{Entry}
use Rattle.deliveries.specs.List.{deliveries_of}
use Rattle.explain.specs.Winner.{Placed, winner}
use Rattle.explain.specs.Reason.{reasons_for}

-- the place of the winner, NONE, or a refusal
pub data Answer : Type 0 where
  won : ℕ → Answer
  no_delivery : Answer
  refused : ℕ → Answer

abbrev pub answer_of : Result (Option ℕ) Refusal → Answer  -- (R199)
answer_of (Ok (Some i)) = won i
answer_of (Ok None) = no_delivery
answer_of (Err r) = refused (number r)

unfoldable pub is_refused : Answer → Bool
is_refused (won i) = false
is_refused no_delivery = false
is_refused (refused n) = true

-- the winner's place, or NONE (R248)
abbrev pub named : Option Placed → Answer
named None = no_delivery
named (Some w) = won w.place

-- 17 for the list, then 1 for the key, then 4 for an output of fewer bytes than deliveries (R252)
abbrev pub explain_for : Option (List Entry) → List ℕ → ℕ → Answer
explain_for None k room = refused 17
explain_for (Some es) k room =
    cond (bad_key k) (refused 1)
    (cond (ltb room (length es)) (refused 4)
    (named (winner k es)))

unfoldable pub explain_answer : List ℕ → List ℕ → List ℕ → Answer
explain_answer list k out = explain_for (deliveries_of list) k (length out)

-- the deliveries of a list; none of a list that is not readable
abbrev pub listed : Option (List Entry) → List Entry
listed None = []
listed (Some es) = es

-- the bytes stand at the output's front, and later bytes stay (R31, R250)
unfoldable pub reported : List ℕ → List Entry → List ℕ → List ℕ
reported k es out = reasons_for k es (winner k es) ++ drop (length es) out

-- the output after the call: a refusal touches no byte (R29, R252)
unfoldable pub after_explain : List ℕ → List ℕ → List ℕ → List ℕ
after_explain list k out = cond (is_refused (explain_answer list k out)) out (reported k (listed (deliveries_of list)) out)

-- The places in a result, and the results taken apart.
use Prim.Native.Nat.{ℕ, ◌≤◌, ◌<◌}
use native.Mathlib.Omega.{arith}
use mathlib.Core.Path.{◌≡◌, refl, ap, ◌∙◌}
use mathlib.Core.List.{List}
use Rattle.std.specs.Prelude.{Option, None, Some, Result, Ok, Err}
use lib.ListN.{length}
use Rattle.wire.proofs.Tests.{never}
use Rattle.entry.specs.declared.Refusal.{Refusal}
use Rattle.entry.specs.declared.Refusal.TheVariants as refusal
use Rattle.entry.specs.Refusal.{refusal_number}
use Rattle.entry.specs.Entry.{Entry}
use Rattle.store.proofs.Listings.{nth_within}
use Rattle.deliveries.specs.List.{deliveries_of, count_of, counted, count_answer}
use Rattle.deliveries.proofs.Runs.{readable_run}
use Rattle.explain.specs.Winner.{Placed, winner}
use Rattle.explain.specs.Explain.{won, named, explain_answer}
use Rattle.explain.proofs.Winning.{winner_wins}
use Rattle.explain.proofs.Refusals.{said}
use Rattle.capi_words.specs.Result.{packed, count_in}
use Rattle.capi_words.specs.Meaning.{TakenApart}
use Rattle.capi_words.proofs.Halves.{taken, tells_none, tells}
use Rattle.capi_audit.specs.Audit.{count_refusal, count_given, count_word, explained_refusal, explained_given, explained_word}
use Rattle.capi_audit.specs.Meaning.{AuditResultsTakenApart}

-- a readable list has at most 1,000 deliveries
at_most : (list : List ℕ) (es : List Entry) → deliveries_of list ≡ Some es → length es ≤ 1000
at_most list es h = (readable_run list es h).1

-- ---- the number of deliveries
count_taken : (o : Option (List Entry)) → ((es : List Entry) → o ≡ Some es → length es ≤ 1000)
    → TakenApart (count_word (counted o)) (count_refusal (counted o)) (count_given (counted o)) 1000
count_taken None h = taken 17 0 1000 (tells refusal.BadArgument) (omega arith) (omega arith)
count_taken (Some es) h = taken 0 (length es) 1000 tells_none (h es refl) (omega arith)

deliveries_taken : (list : List ℕ) → TakenApart (count_word (count_answer list)) (count_refusal (count_answer list)) (count_given (count_answer list)) 1000
unfolding count_answer
deliveries_taken list = count_taken (deliveries_of list) (at_most list)

-- ---- the report
named-taken : (k : List ℕ) (es : List Entry) → length es ≤ 1000 → (o : Option Placed) → winner k es ≡ o
    → TakenApart (explained_word (named o)) (explained_refusal (named o)) (explained_given (named o)) 65535 × ((i : ℕ) → named o ≡ won i → i < 1000)
named-taken k es l None h = (taken 0 65535 65535 tells_none (omega arith) (omega arith), λ i e. never (cc))
named-taken k es l (Some w) h =
    let p : w.place < 1000 = omega (arith, nth_within w.place es w.entry (winner_wins k es w h).there) in
    (taken 0 w.place 65535 tells_none (omega (arith, p)) (omega arith), λ i e. let q : w.place ≡ i = cc in omega (arith, p, q))

answer-taken : (list key out : List ℕ)
    → let a = explain_answer list key out in TakenApart (explained_word a) (explained_refusal a) (explained_given a) 65535 × ((i : ℕ) → a ≡ won i → i < 1000)
answer-taken list key out = said list key out
    (λ o a. ((es : List Entry) → o ≡ Some es → length es ≤ 1000)
    → TakenApart (explained_word a) (explained_refusal a) (explained_given a) 65535 × ((i : ℕ) → a ≡ won i → i < 1000))
    (record {
      unreadable = λ m. (taken 17 0 65535 (tells refusal.BadArgument) (omega arith) (omega arith), λ i h. never (cc));
      on_bad_key = λ es b m. (taken 1 0 65535 (tells refusal.BadKey) (omega arith) (omega arith), λ i h. never (cc));
      no_room = λ es b l m. (taken 4 0 65535 (tells refusal.NoRoom) (omega arith) (omega arith), λ i h. never (cc));
      answered = λ es b l m. named-taken key es (m es refl) (winner key es) refl;
    })
    (at_most list)

pub audit_results_taken_apart : AuditResultsTakenApart
audit_results_taken_apart = record {
  deliveries = deliveries_taken;
  explain = λ list key out. (answer-taken list key out).0;
  place = λ list key out. (answer-taken list key out).1;
}

-- ---- in the words of the calls
-- a count as far as 16 bits go is the whole count
packed_count : (r : Result ℕ Refusal) → count_given (count_of r) ≤ 1000 → packed (refusal_number r) (count_in r) ≡ count_word (count_of r)
packed_count (Ok n) h = omega arith
packed_count (Err r) h = refl

pub count_packed : (list : List ℕ) (r : Result ℕ Refusal) → count_of r ≡ count_answer list
    → packed (refusal_number r) (count_in r) ≡ count_word (count_answer list)
count_packed list r h =
    let l : count_given (count_of r) ≤ 1000 = rw h (deliveries_taken list).counted in
    packed_count r l ∙ ap count_word h

pub explained_small : (list key out : List ℕ) → explained_given (explain_answer list key out) ≤ 65535
explained_small list key out = (answer-taken list key out).0.counted

-- The report's answer and output, from what its parts found.
use Prim.Native.Nat.{ℕ, ◌≤◌, ◌<◌}
use mathlib.Core.Path.{◌≡◌, refl, sym, ap, ◌∙◌}
use mathlib.Core.Bool.{true, false}
use mathlib.Core.List.{List}
use Rattle.std.specs.Prelude.{Option, None, Some, Ok, MatchOption}
use lib.ListN.{length}
use borrow.Author.Tests.{lt-ltb, le-ltb}
use Rattle.wire.proofs.Tests.{never}
use Rattle.entry.specs.Key.{bad_key}
use Rattle.entry.specs.Refusal.{number}
use Rattle.entry.specs.Entry.{Entry}
use Rattle.entry.specs.declared.Refusal.{Refusal}
use Rattle.deliveries.specs.List.{deliveries_of, deliveries, refused as not_counted, counted, count_answer}
use Rattle.explain.specs.declared.walk.Best.{Best}
use Rattle.explain.specs.Winner.{Placed, winner}
use Rattle.explain.specs.Explain.{Answer, answer_of, refused, is_refused, named, explain_for, explain_answer, reported, after_explain}
use Rattle.explain.specs.Walk.{entries_in, Readable, placed}
use Rattle.explain.proofs.Refusals.{not_refused, answer_for, report_writes}

-- ---- what the count says
none_listed : (o : Option (List Entry)) (n : ℕ) → not_counted n ≡ counted o → (o ≡ None) × (n ≡ 17)
none_listed None n h = (refl, cc)
none_listed (Some es) n h = never (cc)

abbrev Lists : List ℕ → Option (List Entry) → ℕ → Type 0
Lists list o n = (deliveries_of list ≡ Some (entries_in list)) × (n ≡ length (entries_in list))

some_listed : (list : List ℕ) (o : Option (List Entry)) → deliveries_of list ≡ o → (n : ℕ) → deliveries n ≡ counted o → Lists list o n
unfolding entries_in
some_listed list None q n h = never (cc)
some_listed list (Some es) q n h = let l : n ≡ length es = cc in rw q (refl, l)

pub count_readable : (list : List ℕ) (n : ℕ) → deliveries n ≡ count_answer list → Readable list × (n ≡ length (entries_in list))
unfolding count_answer
count_readable list n h = some_listed list (deliveries_of list) refl n h

-- the place of the best, if there is one
pub told_place : (b : Option Best) (r : Option ℕ) → MatchOption b (r ≡ None) (λ w. r ≡ Some w.place) → answer_of (Ok r) ≡ named (placed b)
told_place None r h = rw h
told_place (Some w) r h = rw h

-- ---- the answer and the output
module _ (list k out : List ℕ) where
  abbrev Says : Answer → List ℕ → Type 0
  Says a after = (a ≡ explain_answer list k out) × (after ≡ after_explain list k out)

  refuses : (a : Answer) → is_refused a ≡ true → a ≡ explain_answer list k out → Says a out
  refuses a r h = (h, sym ((report_writes list k out).refused (ap is_refused (sym h) ∙ r)))

  pub says_unreadable : (r : Refusal) → not_counted (number r) ≡ count_answer list → Says (refused (number r)) out
  unfolding is_refused count_answer
  says_unreadable r h =
      let d = none_listed (deliveries_of list) (number r) h in
      rw d.1 (refuses (refused 17) refl (sym (answer_for list k out None d.0)))

  module _ (r : Readable list) where
    found_for : explain_answer list k out ≡ explain_for (Some (entries_in list)) k (length out)
    found_for = answer_for list k out (Some (entries_in list)) r

    pub says_bad_key : bad_key k ≡ true → Says (refused 1) out
    unfolding is_refused
    says_bad_key b = refuses (refused 1) refl (sym (found_for ∙ rw b refl))

    module _ (b : bad_key k ≡ false) where
      pub says_no_room : length out < length (entries_in list) → Says (refused 4) out
      unfolding is_refused
      says_no_room l = refuses (refused 4) refl (sym (found_for ∙ rw (b, lt-ltb (length out) (length (entries_in list)) l) refl))

      module _ (l : length (entries_in list) ≤ length out) where
        named-answer : explain_answer list k out ≡ named (winner k (entries_in list))
        named-answer = found_for ∙ rw (b, le-ltb (length out) (length (entries_in list)) l) refl

        written : (after : List ℕ) → after ≡ reported k (entries_in list) out → after ≡ after_explain list k out
        unfolding after_explain entries_in
        written after h = h ∙ rw (ap is_refused named-answer ∙ not_refused (winner k (entries_in list))) refl

        says_named : (a : Answer) → a ≡ named (winner k (entries_in list)) → (after : List ℕ) → after ≡ reported k (entries_in list) out → Says a after
        says_named a h after w = (h ∙ sym named-answer, written after w)

        pub says_best : (o : Option Placed) → o ≡ winner k (entries_in list) → (after : List ℕ) → after ≡ reported k (entries_in list) out
            → Says (named o) after
        says_best o h after w = says_named (named o) (ap named h) after w

-- When the report is refused, and what it writes.
use Prim.Native.Nat.{ℕ, ◌≤◌, ◌<◌}
use native.Mathlib.Omega.{arith}
use mathlib.Core.Path.{◌≡◌, refl, sym, ap, ◌∙◌}
use mathlib.Core.Logic.{◌⊎◌, inl, inr}
use mathlib.Core.Bool.{true, false, cond}
use mathlib.Core.List.{List, ◌++◌}
use Rattle.std.specs.Prelude.{Option, None, Some}
use lib.ListN.{length, drop, length-append, length-drop}
use lib.Seq.{drop_at}
use lib.Dec.{ltb}
use borrow.Author.Tests.{ltb-true, ltb-false, lt-ltb}
use Rattle.wire.proofs.Tests.{test, clash, never}
use Rattle.entry.specs.Key.{bad_key}
use Rattle.entry.specs.Entry.{Entry}
use Rattle.deliveries.specs.List.{deliveries_of}
use Rattle.explain.specs.Winner.{Placed, winner}
use Rattle.explain.specs.Reason.{reasons_for}
use Rattle.explain.specs.Explain.{Answer, won, no_delivery, refused, is_refused, named, explain_for, explain_answer, reported, after_explain}
use Rattle.explain.specs.Meaning.{ReportRefused, ReportWrites}
use Rattle.explain.proofs.Walking.{length_reasons}

-- ---- what the checks leave
-- what holds of the answer of each of them holds of the answer
module _ (k : List ℕ) (room : ℕ) (P : Option (List Entry) → Answer → Type 0) where
  pub record Checks : Type 0 where
    pub unreadable : P None (refused 17)
    pub on_bad_key : (es : List Entry) → bad_key k ≡ true → P (Some es) (refused 1)
    pub no_room : (es : List Entry) → bad_key k ≡ false → room < length es → P (Some es) (refused 4)
    pub answered : (es : List Entry) → bad_key k ≡ false → length es ≤ room → P (Some es) (named (winner k es))

  by_room : (c : Checks) (es : List Entry) → bad_key k ≡ false → P (Some es) (cond (ltb room (length es)) (refused 4) (named (winner k es)))
  by_room c es b = elim (test (ltb room (length es))) [
    | inl r ↦ rw r (c.no_room es b (ltb-true room (length es) r))
    | inr r ↦ rw r (c.answered es b (ltb-false room (length es) r))
  ]

  pub by_check : Checks → (o : Option (List Entry)) → P o (explain_for o k room)
  by_check c None = c.unreadable
  by_check c (Some es) = elim (test (bad_key k)) [ inl b ↦ rw b (c.on_bad_key es b) | inr b ↦ rw b (by_room c es b) ]

refused_same : (m n : ℕ) → refused m ≡ refused n → m ≡ n
refused_same m n h = cc

apart : {A : Type 0} (m n : ℕ) → (m ≡ n → ⊥) → refused m ≡ refused n → A
apart m n x h = absurd (x (refused_same m n h))

-- an answer that names, or says that there is none, is no refusal
pub not_refused : (o : Option Placed) → is_refused (named o) ≡ false
unfolding is_refused
not_refused None = refl
not_refused (Some w) = refl

pub named_not : {A : Type 0} (o : Option Placed) (a : Answer) → is_refused a ≡ true → named o ≡ a → A
named_not o a r h = clash (ap is_refused h ∙ r) (not_refused o)

-- ---- each refusal exactly where its check is the first that fails
module _ (list k out : List ℕ) where
  pub said : (P : Option (List Entry) → Answer → Type 0) → Checks k (length out) P → P (deliveries_of list) (explain_answer list k out)
  unfolding explain_answer
  said P c = by_check k (length out) P c (deliveries_of list)

  -- the answer, for the deliveries of the list
  pub answer_for : (o : Option (List Entry)) → deliveries_of list ≡ o → explain_answer list k out ≡ explain_for o k (length out)
  unfolding explain_answer
  answer_for o d = ap (λ (x : Option (List Entry)). explain_for x k (length out)) d

  is_unreadable : explain_answer list k out ≡ refused 17 → deliveries_of list ≡ None
  unfolding is_refused
  is_unreadable = said (λ o a. a ≡ refused 17 → o ≡ None) (record {
    unreadable = λ h. refl;
    on_bad_key = λ es b h. apart 1 17 (omega arith) h;
    no_room = λ es b l h. apart 4 17 (omega arith) h;
    answered = λ es b l h. named_not (winner k es) (refused 17) refl h;
  })

  is_bad_key : explain_answer list k out ≡ refused 1 → (es : List Entry) × (deliveries_of list ≡ Some es) × (bad_key k ≡ true)
  unfolding is_refused
  is_bad_key = said (λ o a. a ≡ refused 1 → (es : List Entry) × (o ≡ Some es) × (bad_key k ≡ true)) (record {
    unreadable = λ h. apart 17 1 (omega arith) h;
    on_bad_key = λ es b h. (es, refl, b);
    no_room = λ es b l h. apart 4 1 (omega arith) h;
    answered = λ es b l h. named_not (winner k es) (refused 1) refl h;
  })

  abbrev TooLong : Option (List Entry) → Type 0
  TooLong o = (es : List Entry) × (o ≡ Some es) × (bad_key k ≡ false) × (length out < length es)

  is_no_room : explain_answer list k out ≡ refused 4 → TooLong (deliveries_of list)
  unfolding is_refused
  is_no_room = said (λ o a. a ≡ refused 4 → TooLong o) (record {
    unreadable = λ h. apart 17 4 (omega arith) h;
    on_bad_key = λ es b h. apart 1 4 (omega arith) h;
    no_room = λ es b l h. (es, refl, b, l);
    answered = λ es b l h. named_not (winner k es) (refused 4) refl h;
  })

  which : (n : ℕ) → explain_answer list k out ≡ refused n → (n ≡ 17) ⊎ (n ≡ 1) ⊎ (n ≡ 4)
  unfolding is_refused
  which n = said (λ o a. a ≡ refused n → (n ≡ 17) ⊎ (n ≡ 1) ⊎ (n ≡ 4)) (record {
    unreadable = λ h. inl (sym (refused_same 17 n h));
    on_bad_key = λ es b h. inr (inl (sym (refused_same 1 n h)));
    no_room = λ es b l h. inr (inr (sym (refused_same 4 n h)));
    answered = λ es b l h. named_not (winner k es) (refused n) refl h;
  })

pub report_refused : ReportRefused
report_refused list k out = record {
  unreadable = (is_unreadable list k out, answer_for list k out None);
  on_bad_key = (is_bad_key list k out, λ r. answer_for list k out (Some r.0) r.1 ∙ rw r.2 refl);
  no_room = (is_no_room list k out, λ r. answer_for list k out (Some r.0) r.1 ∙ rw (r.2, lt-ltb (length out) (length r.0) r.3) refl);
  numbers = which list k out;
}

-- ---- an answer with no refusal
pub record Unrefused (k : List ℕ) (es : List Entry) (room : ℕ) (a : Answer) : Type 0 where
  pub fits : length es ≤ room
  pub names : named (winner k es) ≡ a

-- what holds of the deliveries, if the list is readable
abbrev OfAll : (List Entry → Type 0) → Option (List Entry) → Type 0
OfAll P None = Unit {0}
OfAll P (Some es) = P es

pub unrefused : (list k out : List ℕ) (es : List Entry) (a : Answer) → deliveries_of list ≡ Some es → explain_answer list k out ≡ a → is_refused a ≡ false
    → Unrefused k es (length out) a
unfolding is_refused
unrefused list k out es a d h n =
    let s = said list k out (λ o b. is_refused b ≡ false → OfAll (λ fs. Unrefused k fs (length out) b) o) (record {
      unreadable = λ r. tt;
      on_bad_key = λ fs b r. clash refl r;
      no_room = λ fs b l r. clash refl r;
      answered = λ fs b l r. record { fits = l; names = refl };
    }) in
    (rw (d, h) at s) n

pub names_won : (o : Option Placed) (p : ℕ) → named o ≡ won p → (w : Placed) × (o ≡ Some w) × (w.place ≡ p)
names_won None p h = never (cc)
names_won (Some w) p h = (w, refl, cc)

pub names_none : (o : Option Placed) → named o ≡ no_delivery → o ≡ None
names_none None h = refl
names_none (Some w) h = never (cc)

-- ---- what is written
pub report_writes : ReportWrites
unfolding after_explain reported
report_writes list k out = record {
  refused = λ r. rw r refl;
  reported = λ es d r.
      let u = unrefused list k out es (explain_answer list k out) d refl r in
      let m = length_reasons k es (winner k es) in
      let e : after_explain list k out ≡ reasons_for k es (winner k es) ++ drop (length es) out = rw (r, d) refl in (
        u.fits,
        ap length e ∙ length-append (reasons_for k es (winner k es)) (drop (length es) out) ∙ omega (arith, m, length-drop (length es) out, u.fits),
        ap (drop (length es)) e ∙ drop_at (reasons_for k es (winner k es)) (drop (length es) out) (length es) m,
      );
}

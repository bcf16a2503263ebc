-- The answers of the ring's functions.
use mathlib.Core.Path.{◌≡◌, refl, ap, ◌∙◌}
use mathlib.Core.Logic.{inl, inr}
use mathlib.Core.Bool.{true, false, not, ◌||◌, or-true}
use mathlib.Core.List.{List, [], ◌∷◌, ◌++◌}
use Prim.Native.Nat.{ℕ, ◌*◌, ◌≤◌, ◌<◌}
use native.Mathlib.Omega.{arith}
use native.Mathlib.Nat.{mul-le-mul}
use lib.ListN.{length, drop, set}
use lib.Dec.{leb, ltb}
use borrow.Author.Tests.{le-leb, lt-leb, ltb-false}
use Rattle.wire.proofs.Tests.{test, or-false}
use Rattle.peers.specs.declared.PeerTable.{PeerTable}
use Rattle.peers.specs.declared.Admission.{Admission}
use Rattle.entry.specs.declared.Refusal.{Refusal}
use Rattle.entry.specs.Refusal.{number, refusal_number}
use Rattle.std.specs.Prelude.{Result, Ok, Err}
use Rattle.ring.specs.Answer.{Answer, meaning}
use Rattle.ring.specs.Lists.{distinct}
use Rattle.ring.specs.Build.{bad_arguments, build_answer}
use Rattle.ring.specs.Owners.{owners_answer, owners_output}
use Rattle.capi_words.specs.Result.{packed, count_in}
use Rattle.capi_cluster.specs.Words.{is_table, table_of}
use Rattle.capi_words.proofs.Fronts.{Puts, front_refused}
use Rattle.capi_cluster.specs.Ring.{refusal_in, given_in, answer_word, admission_of, bad_form, owners_refusal, owners_bytes}

-- a ring has at most 640 places
pub built_most : (ids : List ℕ) (v : ℕ) (ring : List ℕ) → given_in (build_answer ids v ring) ≤ 10 * 64
unfolding build_answer bad_arguments
built_most ids v ring = elim (test (ltb 10 (length ids) || ltb v 1 || ltb 64 v || not (distinct ids))) [
  | inl b ↦ rw b (omega arith)
  | inr b ↦ elim (test (ltb (length ring) (length ids * v))) [
    | inl l ↦ rw (b, l) (omega arith)
    | inr l ↦
        let x = or-false (ltb 10 (length ids) || ltb v 1 || ltb 64 v) (not (distinct ids)) b in
        let y = or-false (ltb 10 (length ids) || ltb v 1) (ltb 64 v) x.0 in
        let z = or-false (ltb 10 (length ids)) (ltb v 1) y.0 in
        let m : length ids * v ≤ 10 * 64 = mul-le-mul (ltb-false 10 (length ids) z.0) (ltb-false 64 v y.1) in
        rw (b, l) (omega arith)
  ]
]

-- ---- a key's position
-- the first word alone
pub set_first : (lent : List ℕ) (x y : ℕ) → 1 ≤ length lent → x ≡ y → set lent 0 x ≡ (y ∷ []) ++ drop 1 lent
set_first [] x y h e = absurd (omega arith)
set_first (a ∷ lent) x y h e = rw e

-- a key that has no position
pub position_refused : (x : Answer) (lent : List ℕ) (r : ℕ) (why : Refusal) → meaning (Err why) ≡ x
    → r ≡ packed (number why) 0 → Puts (refusal_in x) (given_in x ∷ []) lent r lent
position_refused x lent r why h = front_refused (refusal_in x) (given_in x ∷ []) lent r why (ap refusal_in h)

-- ---- what a result says
pub said : (d : Result ℕ Refusal) → refusal_number d ≡ refusal_in (meaning d)
said (Ok n) = refl
said (Err r) = refl

pub counted_word : (d : Result ℕ Refusal) → given_in (meaning d) < 65536 → packed (refusal_number d) (count_in d) ≡ answer_word (meaning d)
counted_word (Ok n) h = omega arith
counted_word (Err r) h = refl

-- ---- the form of an owner walk's arguments
module _ (a : ℕ) (w : List ℕ) where
  pub bad_admission : 2 ≤ a → true ≡ bad_form a w
  unfolding bad_form
  bad_admission h = rw (le-leb 2 a h)

  pub bad_words : is_table w ≡ false → true ≡ bad_form a w
  unfolding bad_form
  bad_words h = rw (h, or-true (leb 2 a))

  pub good_form : a < 2 → is_table w ≡ true → bad_form a w ≡ false
  unfolding bad_form
  good_form h e = rw (lt-leb 2 a h, e)

module _ (ring w : List ℕ) (position a count : ℕ) (out : List ℕ) (r : ℕ) where
  -- the result and the output of an owner walk
  pub record Walks (after : List ℕ) : Type 0 where
    pub told : r ≡ packed (owners_refusal ring w a count out) 0
    pub left : after ≡ owners_bytes ring w position a count out

  pub walk_bad : bad_form a w ≡ true → r ≡ packed 17 0 → Walks out
  unfolding owners_refusal owners_bytes
  walk_bad b e = record { told = rw b e; left = rw b }

  pub walk_done : (t : PeerTable) (who : Admission) (n : Answer) (after : List ℕ) → bad_form a w ≡ false → t ≡ table_of w → who ≡ admission_of a
      → n ≡ owners_answer ring t who count out → r ≡ packed (refusal_in n) 0 → after ≡ owners_output ring t position who count out → Walks after
  unfolding owners_refusal owners_bytes
  walk_done t who n after b te we ne re ae = record {
    told = rw (b, ← te, ← we) (re ∙ ap (λ (x : Answer). packed (refusal_in x) 0) ne);
    left = rw (b, ← te, ← we) ae;
  }

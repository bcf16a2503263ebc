-- Events on the words of a table.
use mathlib.Core.Path.{◌≡◌, refl, ap, ◌∙◌}
use mathlib.Core.Logic.{inl, inr}
use mathlib.Core.Bool.{true, false}
use mathlib.Core.List.{List, [], ◌++◌, append-nil}
use Prim.Native.Nat.{ℕ, ◌^◌, ◌≤◌}
use native.Mathlib.Omega.{arith}
use lib.ListN.{length, drop, drop_of_length-le}
use lib.Dec.{leb}
use Rattle.wire.proofs.Tests.{test}
use Rattle.entry.specs.declared.Refusal.{Refusal}
use Rattle.entry.specs.Refusal.{number, refusal_number}
use Rattle.entry.proofs.Numbers.{number_not_zero}
use Rattle.peers.specs.declared.PeerTable.{PeerTable}
use Rattle.peers.specs.declared.Changed.{Changed}
use Rattle.peers.specs.Table.{sound_table}
use Rattle.peers.specs.Event.{Gives, unless_refused, fresh_answer, fresh_table, after_fresh}
use Rattle.peers.specs.Event.{add_answer, after_add, heard_answer, after_heard}
use Rattle.peers.specs.Event.{reported_answer, after_reported, tick_answer, after_tick}
use Rattle.peers.specs.Meaning.{RefusalKeeps}
use Rattle.peers.proofs.Refused.{refusals_keep_the_table}
use Rattle.capi_words.specs.Result.{packed, flag}
use Rattle.capi_cluster.specs.Words.{is_table, table_of, table_words, rows_words}
use Rattle.capi_cluster.specs.Peers.{form_refusal, event_refusal, event_words, Notes, sound_words}
use Rattle.capi_cluster.specs.Meaning.{EventKeeps, RefusedTable}
use Rattle.capi_words.proofs.Fronts.{Puts, front_put, front_kept}
use Rattle.capi_cluster.proofs.Rows.{table_parts, table_layout}

-- ---- the result and the words of an event
module _ (time : ℕ) (answer : PeerTable → ℕ) (after : PeerTable → PeerTable) (w : List ℕ) (r : ℕ) where
  pub event_refused : (why : Refusal) → number why ≡ form_refusal time w → r ≡ packed (number why) 0 → Notes time answer after w r w
  unfolding form_refusal event_refusal event_words
  event_refused why e h = elim (test (leb (2 ^ 48) time)) [
    | inl p ↦ (rw p (rw (rw p at e) at h), rw p)
    | inr p ↦ elim (test (is_table w)) [
      | inl t ↦ absurd (number_not_zero why (rw (p, t) at e))
      | inr t ↦ (rw (p, t) (rw (rw (p, t) at e) at h), rw (p, t))
    ]
  ]

  module _ (pass : 0 ≡ form_refusal time w) where
    in_time : leb (2 ^ 48) time ≡ false
    unfolding form_refusal
    in_time = elim (test (leb (2 ^ 48) time)) [ inl p ↦ absurd (let x = rw p at pass in omega arith) | inr p ↦ p ]

    pub is_form : is_table w ≡ true
    unfolding form_refusal
    is_form = elim (test (is_table w)) [ inl t ↦ t | inr t ↦ absurd (let x = rw (in_time, t) at pass in omega arith) ]

    pub event_done : (t : PeerTable) (d : Changed) (out : List ℕ) → t ≡ table_of w → Gives d (after t) (answer t) → r ≡ packed (refusal_number d.answer) 0
        → out ≡ table_words d.table ++ drop 61 w → Notes time answer after w r out
    unfolding event_refusal event_words
    event_done t d out te g re oe = (
      rw (in_time, is_form, ← te) (re ∙ ap (λ (m : ℕ). packed m 0) g.answer),
      rw (in_time, is_form, ← te) (oe ∙ rw end (append-nil (table_words d.table)) ∙ ap table_words g.table),
    )
      where
        end : drop 61 w ≡ []
        end = drop_of_length-le w {i = 61} (omega (arith, (table_parts w is_form).size))

-- ---- a fresh table
-- it has 61 words
pub fresh_long : (i a p n now : ℕ) → fresh_answer now ≡ 0 → length (table_words (after_fresh i a p n now)) ≡ 61
unfolding table_words rows_words after_fresh unless_refused fresh_table
fresh_long i a p n now z = rw z

pub fresh-put : (i a p n now : ℕ) (lent after : List ℕ) (f : Changed) → Gives f (after_fresh i a p n now) (fresh_answer now) → fresh_answer now ≡ 0
    → 61 ≤ length lent → after ≡ table_words f.table ++ drop 61 lent → Puts (fresh_answer now) (table_words (after_fresh i a p n now)) lent 0 after
fresh-put i a p n now lent after f g z h e =
    let l = fresh_long i a p n now z in
    front_put (fresh_answer now) (table_words (after_fresh i a p n now)) lent 0 after z (omega arith) refl
    (rw l (e ∙ ap (λ (t : PeerTable). table_words t ++ drop 61 lent) g.table))

-- ---- a refused event
event_kept : (time : ℕ) (answer : PeerTable → ℕ) (after : PeerTable → PeerTable) → RefusalKeeps answer after → EventKeeps time answer after
unfolding event_refusal event_words
event_kept time answer after keeps w h = elim (test (leb (2 ^ 48) time)) [
  | inl p ↦ rw p
  | inr p ↦ elim (test (is_table w)) [
    | inl t ↦ rw (p, t) (ap table_words (keeps (table_of w) (rw (p, t) at h)) ∙ table_layout.same w t)
    | inr f ↦ rw (p, f)
  ]
]

pub refused_table : RefusedTable
refused_table =
    let kept = refusals_keep_the_table in
    record {
      fresh = λ i a p n now. front_kept (fresh_answer now) (table_words (after_fresh i a p n now));
      add = λ i a p n now. event_kept now (add_answer i now) (after_add i a p n now) (kept.add i a p n now);
      heard = λ i n now. event_kept now (heard_answer i n now) (after_heard i n now) (kept.heard i n now);
      reported = λ i s n now. event_kept now (reported_answer i s n now) (after_reported i s n now) (kept.reported i s n now);
      tick = λ now. event_kept now (tick_answer now) (after_tick now) (kept.tick now);
    }

-- ---- soundness
module _ (w : List ℕ) where
  pub no_table_unsound : is_table w ≡ false → 0 ≡ flag (sound_words w)
  unfolding sound_words
  no_table_unsound f = rw f

  pub table_sound : (t : PeerTable) → is_table w ≡ true → t ≡ table_of w → flag (sound_table t) ≡ flag (sound_words w)
  unfolding sound_words
  table_sound t h e = rw (h, e)

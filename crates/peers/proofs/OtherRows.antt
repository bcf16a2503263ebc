-- Heard and reported leave every row but the one of the id.
use Prim.Native.Nat.{ℕ, zero, suc}
use mathlib.Core.Path.{◌≡◌, refl, sym, ◌∙◌}
use mathlib.Core.Bool.{false}
use mathlib.Core.List.{List, [], ◌∷◌, ◌++◌}
use lib.ListN.{get_or, drop, take-append-drop}
use lib.Dec.{eqb}
use borrow.Author.Tests.{eqb-true}
use Rattle.wire.proofs.Tests.{cases}
use Rattle.peers.specs.declared.Row.{Row}
use Rattle.peers.specs.declared.PeerTable.{PeerTable}
use Rattle.peers.specs.Row.{heard_row, reported_row}
use Rattle.peers.specs.Table.{rows_of, on_row, is_own}
use Rattle.peers.specs.Event.{unless_refused, no_row, with_rows, heard_answer, after_heard, reported_answer, after_reported}
use Rattle.peers.specs.Meaning.{row_at, KeepsOthers, OtherRowsKept}
use Rattle.peers.proofs.Answers.{row_other, peer-row, heard_is}
use Rattle.peers.proofs.Refused.{either_way}

module _ (i : ℕ) (f : Row → Row) where
  own_kept : (rows past : List Row) → is_own i rows ≡ false → get_or (on_row i f rows ++ past) 0 no_row ≡ get_or (rows ++ past) 0 no_row
  unfolding on_row is_own
  own_kept [] past h = refl
  own_kept (own ∷ rows) past h = rw h

  other_kept : (rows past : List Row) (k : ℕ) → ((get_or (rows ++ past) k no_row).id ≡ i → ⊥)
      → get_or (on_row i f rows ++ past) k no_row ≡ get_or (rows ++ past) k no_row
  unfolding on_row
  other_kept [] past k h = refl
  other_kept (r ∷ rows) past zero h = cases (eqb r.id i) (λ e. absurd (h (eqb-true r.id i e))) (λ e. rw e)
  other_kept (r ∷ rows) past (suc k) h = cases (eqb r.id i) (λ e. rw e) (λ e. rw e (other_kept rows past k h))

  -- the first row of an id changed, unless the answer refuses, as it does for the own id
  others_kept : (answer : PeerTable → ℕ) → ((t : PeerTable) → answer t ≡ 0 → is_own i (rows_of t) ≡ false)
      → KeepsOthers i (λ t. unless_refused (answer t) t (with_rows (on_row i f) t))
  unfolding with_rows
  others_kept answer h =
      record {
        own = λ t. either_way (answer t) t (with_rows (on_row i f) t) (λ (u : PeerTable). row_at 0 u ≡ row_at 0 t) refl (λ z.
            rw (take-append-drop t.count t.rows) at (own_kept (rows_of t) (drop t.count t.rows) (h t z)));
        other = λ t k d. either_way (answer t) t (with_rows (on_row i f) t) (λ (u : PeerTable). row_at k u ≡ row_at k t) refl (λ z.
            let e = take-append-drop t.count t.rows in
            rw e at (other_kept (rows_of t) (drop t.count t.rows) k (rw e d)));
      }

reported_other : (i s n now : ℕ) (t : PeerTable) → reported_answer i s n now t ≡ 0 → is_own i (rows_of t) ≡ false
reported_other i s n now t z = row_other i n (rows_of t) (peer-row i s n now t (sym z))

pub other_rows_kept : OtherRowsKept
unfolding after_heard after_reported
other_rows_kept =
    record {
      heard = λ i n now. others_kept i (heard_row n now) (heard_answer i n now) (λ t z. reported_other i 0 n now t (heard_is i n now t ∙ z));
      reported = λ i s n now. others_kept i (reported_row s n now) (reported_answer i s n now) (reported_other i s n now);
    }

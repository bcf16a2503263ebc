-- The flags of the admitted ids, a row at a time, and what admission means.
use Prim.Native.Nat.{ℕ, zero, suc, ◌+◌, ◌≤◌, ◌<◌}
use native.Mathlib.Nat.{add-zero, zero-add}
use native.Mathlib.Omega.{arith}
use mathlib.Core.Path.{◌≡◌, refl, sym, ap, ◌∙◌}
use mathlib.Core.Bool.{Bool, true, false, not, ◌&&◌, ◌||◌, or-true, or-false, and-true, and-false, true≢false}
use mathlib.Core.List.{List, [], ◌∷◌}
use lib.ListN.{length, get_or, set, drop, drop_of_length-le, replicate, get_or-replicate}
use lib.Seq.{get_or-set_same, get_or-set_other, ext_get_or}
use lib.Dec.{eqb}
use borrow.Author.Tests.{eqb-true, eqb-false, not-true}
use Rattle.peers.specs.declared.Row.{Row}
use Rattle.peers.specs.declared.PeerTable.{PeerTable}
use Rattle.peers.specs.declared.Admission.{Admission}
use Rattle.peers.specs.declared.Admission.TheVariants.{Home, Standing}
use Rattle.peers.specs.Table.{rows_of, has_row, held_state, distinct}
use Rattle.peers.specs.Admitted.{admits_row, admits_among, admits, values_from, admitted_flags}
use Rattle.peers.specs.Event.{no_row}
use Rattle.peers.specs.Meaning.{FlagsSayAdmitted, HomeAdmitsEveryRow, StandingAdmitsNotDown}
use Rattle.wire.proofs.Tests.{cases, and-true as parts}
use Rattle.peers.proofs.Scan.{next_row}
use Rattle.peers.proofs.Sound.{sound_parts}

length_values : (f : ℕ → Bool) (k n : ℕ) → length (values_from f k n) ≡ n
unfolding values_from
length_values f k zero = refl
length_values f k (suc n) = ap suc (length_values f (suc k) n)

value_at_lem : (f : ℕ → Bool) (k n j : ℕ) → j < n → get_or (values_from f k n) j false ≡ f (k + j)
unfolding values_from
value_at_lem f k zero j h = absurd (omega arith)
value_at_lem f k (suc n) zero h = ap f (sym (add-zero k))
value_at_lem f k (suc n) (suc j) h = value_at_lem f (suc k) n j (omega arith) ∙ ap f (omega arith)

module _ (a : Admission) (t : PeerTable) where
  pub length_flags : length (admitted_flags a t) ≡ 256
  unfolding admitted_flags
  length_flags = length_values (admits a t) 0 256

  pub flag_at_lem : (i : ℕ) → i < 256 → get_or (admitted_flags a t) i false ≡ admits a t i
  unfolding admitted_flags
  flag_at_lem i h = value_at_lem (admits a t) 0 256 i h ∙ ap (admits a t) (zero-add i)

  -- what a flag and the rows from k on say together
  abbrev pub Told : List Bool → ℕ → Type 0
  Told flags k = (i : ℕ) → i < 256 → (get_or flags i false || admits_among a (drop k (rows_of t)) i) ≡ admits a t i

  pub told_first : Told (replicate 256 false) 0
  unfolding admits
  told_first i h = rw (get_or-replicate 256 i false false h)

  module _ (flags : List Bool) (k : ℕ) (told : Told flags k) where
    pub told_all : length flags ≡ 256 → length (rows_of t) ≤ k → flags ≡ admitted_flags a t
    unfolding admits_among
    told_all e h = ext_get_or false flags (admitted_flags a t) (e ∙ sym length_flags) (λ i b.
        sym (or-false (get_or flags i false)) ∙ (rw (drop_of_length-le (rows_of t) h) at (told i (omega arith))) ∙ sym (flag_at_lem i (omega arith)))

    module _ (h : k < length (rows_of t)) where
      pub told_skipped : admits_row a (get_or (rows_of t) k no_row) ≡ false → Told flags (k + 1)
      unfolding admits_among
      told_skipped e i b = rw (next_row (rows_of t) k h, e, and-false (eqb (get_or (rows_of t) k no_row).id i)) at (told i b)

      pub told-set : length flags ≡ 256 → admits_row a (get_or (rows_of t) k no_row) ≡ true → Told (set flags (get_or (rows_of t) k no_row).id true) (k + 1)
      unfolding admits_among
      told-set l e i b =
          cases (eqb (get_or (rows_of t) k no_row).id i)
          (λ p.
          let q : (get_or (rows_of t) k no_row).id ≡ i = eqb-true _ _ p in
          let u : admits a t i ≡ true = sym (rw (next_row (rows_of t) k h, e, p, or-true) at (told i b)) in
          rw (q, get_or-set_same flags i true false (omega arith), u))
          (λ p.
          let q : i ≡ (get_or (rows_of t) k no_row).id → ⊥ = λ z. eqb-false _ _ p (sym z) in
          rw (get_or-set_other flags (get_or (rows_of t) k no_row).id i true false q) (rw (next_row (rows_of t) k h, p) at (told i b)))

pub flags_say_admitted : FlagsSayAdmitted
flags_say_admitted = flag_at_lem

-- ---- HOME and STANDING
home_rows : (rows : List Row) (i : ℕ) → admits_among Home rows i ≡ has_row i rows
unfolding admits_among has_row
home_rows [] i = refl
home_rows (r ∷ rows) i = rw (and-true (eqb r.id i), home_rows rows i)

pub home_admits_every_row : HomeAdmitsEveryRow
unfolding admits
home_admits_every_row t i = home_rows (rows_of t) i

no_row_none : (a : Admission) (rows : List Row) (i : ℕ) → has_row i rows ≡ false → admits_among a rows i ≡ false
unfolding admits_among has_row
no_row_none a [] i h = refl
no_row_none a (r ∷ rows) i h =
    cases (eqb r.id i)
    (λ e. absurd (true≢false (rw e at h)))
    (λ e. rw e (no_row_none a rows i (rw e at h)))

standing_rows : (rows : List Row) (i : ℕ) → distinct rows ≡ true → admits_among Standing rows i ≡ (has_row i rows && not (eqb (held_state i rows) 2))
unfolding admits_among has_row held_state distinct
standing_rows [] i h = refl
standing_rows (r ∷ rows) i h =
    let d : has_row r.id rows ≡ false = not-true _ (parts (not (has_row r.id rows)) (distinct rows) h).0 in
    cases (eqb r.id i)
    (λ e. rw (e, no_row_none Standing rows i (rw (eqb-true r.id i e) at d)) (or-false _))
    (λ e. rw e (standing_rows rows i (parts (not (has_row r.id rows)) (distinct rows) h).1))

pub standing_admits_not_down : StandingAdmitsNotDown
unfolding admits
standing_admits_not_down t i s = standing_rows (rows_of t) i (sound_parts t s).apart

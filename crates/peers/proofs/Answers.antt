-- The answers of the events, check by check, and the table that goes with each.
use Prim.Native.Nat.{ℕ, suc, ◌^◌, ◌≤◌, ◌<◌}
use native.Mathlib.Nat.{lt_of_not-le}
use native.Mathlib.Omega.{arith}
use mathlib.Core.Path.{◌≡◌, refl, sym, ap, ◌∙◌}
use mathlib.Core.Bool.{Bool, true, false, not, cond, ◌||◌, true≢false}
use mathlib.Core.List.{List, [], ◌∷◌}
use lib.ListN.{length, get_or, set, drop, take-append-drop}
use lib.Seq.{set-append_left}
use lib.Dec.{eqb, ltb, leb}
use borrow.Author.Tests.{lt-ltb, le-ltb, ltb-false, lt-leb, leb-false, not-false}
use Rattle.std.specs.Prelude.{Some, None, position}
use Rattle.entry.specs.declared.Refusal.{Refusal}
use Rattle.entry.specs.Refusal.{number}
use Rattle.entry.proofs.Numbers.{number_not_0}
use Rattle.peers.specs.declared.Row.{Row}
use Rattle.peers.specs.declared.PeerTable.{PeerTable}
use Rattle.peers.specs.declared.Changed.{Changed}
use Rattle.peers.specs.Table.{rows_of, has_row, held_incarnation, on_row, is_own, sound_table, own_alive}
use Rattle.peers.specs.Event.{Gives, unless_refused, no_row, with_rows, fresh_answer, add_answer, row_answer, heard_answer, reported_answer, tick_answer}
use Rattle.wire.proofs.Tests.{cases, or-false}
use Rattle.peers.proofs.Scan.{index_of, found, not_found_lem, row_at_lem, place_found, place_none}
use Rattle.peers.proofs.Sound.{sound_parts}

-- a refusal hands back the table that came in, and a success the changed one
pub refused_gives : (c : Changed) (t u : PeerTable) (r : Refusal) (m : ℕ) → Gives c t (number r) → number r ≡ m → Gives c (unless_refused m t u) m
unfolding unless_refused
refused_gives c t u r m g e = record { table = g.table ∙ rw (← e, number_not_0 r); answer = g.answer ∙ e }

pub done_gives : (c : Changed) (t u v : PeerTable) (m : ℕ) → Gives c v 0 → v ≡ u → 0 ≡ m → Gives c (unless_refused m t u) m
unfolding unless_refused
done_gives c t u v m g e z = record { table = g.table ∙ rw (← z) e; answer = g.answer ∙ z }

-- ---- an event about a row
own_first : (i : ℕ) (rows : List Row) → own_alive rows ≡ true → index_of i rows ≡ 0 → is_own i rows ≡ true
unfolding index_of is_own own_alive
own_first i [] a e = a
own_first i (r ∷ rows) a e = cases (eqb r.id i) (λ p. p) (λ p. absurd (let z : suc (index_of i rows) ≡ 0 = rw p at e in omega arith))

own_not : (i : ℕ) (rows : List Row) → (index_of i rows ≡ 0 → ⊥) → is_own i rows ≡ false
unfolding index_of is_own
own_not i [] e = refl
own_not i (r ∷ rows) e = cases (eqb r.id i) (λ p. absurd (e (rw p))) (λ p. p)

held_at : (i : ℕ) (rows : List Row) → held_incarnation i rows ≡ (get_or rows (index_of i rows) no_row).incarnation
unfolding index_of held_incarnation
held_at i [] = refl
held_at i (r ∷ rows) = cases (eqb r.id i) (λ p. rw p) (λ p. rw p (held_at i rows))

on_row_at : (i : ℕ) (f : Row → Row) (rows : List Row) → on_row i f rows ≡ set rows (index_of i rows) (f (get_or rows (index_of i rows) no_row))
unfolding index_of on_row
on_row_at i f [] = refl
on_row_at i f (r ∷ rows) = cases (eqb r.id i) (λ p. rw p) (λ p. rw (p, on_row_at i f rows))

-- the row of an id changed is the row at its index changed
pub row-changed : (i k : ℕ) (f : Row → Row) (t : PeerTable) → k ≡ index_of i (rows_of t) → k < length (rows_of t)
    → record { rows = set t.rows k (f (get_or t.rows k no_row)); count = t.count } ≡ with_rows (on_row i f) t
unfolding with_rows
row-changed i k f t e h =
    let v = f (get_or t.rows k no_row) in
    let on : on_row i f (rows_of t) ≡ set (rows_of t) k v = rw (e, ← row_at_lem t (index_of i (rows_of t)) (omega arith)) (on_row_at i f (rows_of t)) in
    ap (λ (l : List Row). record { rows = l; count = t.count })
    (rw on (rw (take-append-drop t.count t.rows) at (set-append_left (rows_of t) (drop t.count t.rows) k v h)))

module _ (i n : ℕ) (t : PeerTable) (s : sound_table t ≡ true) where
  row_15 : index_of i (rows_of t) ≡ 0 → 15 ≡ row_answer i n (rows_of t)
  unfolding row_answer
  row_15 e = rw (own_first i (rows_of t) (sound_parts t s).alive e)

  module _ (o : index_of i (rows_of t) ≡ 0 → ⊥) where
    module _ (r : index_of i (rows_of t) < length (rows_of t)) where
      held_here : held_incarnation i (rows_of t) ≡ (get_or t.rows (index_of i (rows_of t)) no_row).incarnation
      held_here = rw (← row_at_lem t (index_of i (rows_of t)) r) (held_at i (rows_of t))

      row_12 : n < (get_or t.rows (index_of i (rows_of t)) no_row).incarnation → 12 ≡ row_answer i n (rows_of t)
      unfolding row_answer
      row_12 l = rw (own_not i (rows_of t) o, found i (rows_of t) r, held_here, lt-ltb _ _ l)

      row_0 : (get_or t.rows (index_of i (rows_of t)) no_row).incarnation ≤ n → 0 ≡ row_answer i n (rows_of t)
      unfolding row_answer
      row_0 l = rw (own_not i (rows_of t) o, found i (rows_of t) r, held_here, le-ltb _ _ l)

own_row : (i : ℕ) (rows : List Row) → has_row i rows ≡ false → is_own i rows ≡ false
unfolding has_row is_own
own_row i [] h = refl
own_row i (r ∷ rows) h = (or-false (eqb r.id i) (has_row i rows) h).0

module _ (i s n now : ℕ) (t : PeerTable) (h : now < 2 ^ 48) (l : s ≤ 2) (u : sound_table t ≡ true) where
  by_row : reported_answer i s n now t ≡ row_answer i n (rows_of t)
  unfolding reported_answer
  by_row = rw (lt-leb (2 ^ 48) now h, le-ltb 2 s l, u)

  pub peer_11 : None ≡ position (λ (r : Row). eqb r.id i) (rows_of t) → 11 ≡ reported_answer i s n now t
  unfolding row_answer
  peer_11 e = let none = place_none i (rows_of t) e in rw (by_row, own_row i (rows_of t) none, none)

  module _ (k : ℕ) (e : Some k ≡ position (λ (r : Row). eqb r.id i) (rows_of t)) where
    at_row : (k ≡ index_of i (rows_of t)) × (k < length (rows_of t))
    at_row = place_found i (rows_of t) k e

    pub peer_15 : k ≡ 0 → 15 ≡ reported_answer i s n now t
    peer_15 o = rw by_row (row_15 i n t u (sym at_row.0 ∙ o))

    module _ (o : k ≡ 0 → ⊥) where
      pub peer_12 : n < (get_or t.rows k no_row).incarnation → 12 ≡ reported_answer i s n now t
      peer_12 q = rw by_row (row_12 i n t u (λ z. o (at_row.0 ∙ z)) (rw at_row.0 at at_row.1) (rw at_row.0 at q))

      pub peer_0 : (get_or t.rows k no_row).incarnation ≤ n → 0 ≡ reported_answer i s n now t
      peer_0 q = rw by_row (row_0 i n t u (λ z. o (at_row.0 ∙ z)) (rw at_row.0 at at_row.1) (rw at_row.0 at q))

-- ---- what an answer of 0 tells
passed : (b : Bool) (k m : ℕ) → 0 ≡ cond b (suc k) m → (b ≡ false) × (0 ≡ m)
passed true k m z = absurd (omega arith)
passed false k m z = (refl, z)

pub fresh_time : (now : ℕ) → 0 ≡ fresh_answer now → now < 2 ^ 48
unfolding fresh_answer
fresh_time now z = leb-false (2 ^ 48) now (passed (leb (2 ^ 48) now) 8 0 z).0

pub tick_sound : (now : ℕ) (t : PeerTable) → 0 ≡ tick_answer now t → sound_table t ≡ true
unfolding tick_answer
tick_sound now t z = not-false _ (passed (not (sound_table t)) 16 0 (passed (leb (2 ^ 48) now) 8 (cond (not (sound_table t)) 17 0) z).1).0

module _ (i now : ℕ) (t : PeerTable) (z : 0 ≡ add_answer i now t) where
  pub add_time : now < 2 ^ 48
  unfolding add_answer
  add_time =
      leb-false (2 ^ 48) now
      (passed (leb (2 ^ 48) now) 8 (cond (not (sound_table t)) 17 (cond (has_row i (rows_of t)) 14 (cond (leb 10 t.count) 13 0))) z).0

  after-sound : ◌≡◌ {A = ℕ} 0 (cond (has_row i (rows_of t)) 14 (cond (leb 10 t.count) 13 0))
  unfolding add_answer
  after-sound =
      (passed (not (sound_table t)) 16 (cond (has_row i (rows_of t)) 14 (cond (leb 10 t.count) 13 0))
      (passed (leb (2 ^ 48) now) 8 (cond (not (sound_table t)) 17 (cond (has_row i (rows_of t)) 14 (cond (leb 10 t.count) 13 0))) z).1).1

  pub add_unknown : has_row i (rows_of t) ≡ false
  add_unknown = (passed (has_row i (rows_of t)) 13 (cond (leb 10 t.count) 13 0) after-sound).0

  pub add_room : t.count < 10
  add_room = leb-false 10 t.count (passed (leb 10 t.count) 12 0 (passed (has_row i (rows_of t)) 13 (cond (leb 10 t.count) 13 0) after-sound).1).0

module _ (i n : ℕ) (rows : List Row) (z : 0 ≡ row_answer i n rows) where
  pub row_other : is_own i rows ≡ false
  unfolding row_answer
  row_other = (passed (is_own i rows) 14 (cond (not (has_row i rows)) 11 (cond (ltb n (held_incarnation i rows)) 12 0)) z).0

  pub row_present : has_row i rows ≡ true
  unfolding row_answer
  row_present =
      let y = (passed (is_own i rows) 14 (cond (not (has_row i rows)) 11 (cond (ltb n (held_incarnation i rows)) 12 0)) z).1 in
      not-false _ (passed (not (has_row i rows)) 10 (cond (ltb n (held_incarnation i rows)) 12 0) y).0

module _ (i s n now : ℕ) (t : PeerTable) (z : 0 ≡ reported_answer i s n now t) where
  after_time : 0 ≡ cond (ltb 2 s || not (sound_table t)) 17 (row_answer i n (rows_of t))
  unfolding reported_answer
  after_time = (passed (leb (2 ^ 48) now) 8 (cond (ltb 2 s || not (sound_table t)) 17 (row_answer i n (rows_of t))) z).1

  pub peer_time : now < 2 ^ 48
  unfolding reported_answer
  peer_time = leb-false (2 ^ 48) now (passed (leb (2 ^ 48) now) 8 (cond (ltb 2 s || not (sound_table t)) 17 (row_answer i n (rows_of t))) z).0

  pub peer-range : s ≤ 2
  peer-range = ltb-false 2 s (or-false (ltb 2 s) (not (sound_table t)) (passed (ltb 2 s || not (sound_table t)) 16 (row_answer i n (rows_of t)) after_time).0).0

  pub peer-sound : sound_table t ≡ true
  peer-sound = not-false _ (or-false (ltb 2 s) (not (sound_table t)) (passed (ltb 2 s || not (sound_table t)) 16 (row_answer i n (rows_of t)) after_time).0).1

  pub peer-row : 0 ≡ row_answer i n (rows_of t)
  peer-row = (passed (ltb 2 s || not (sound_table t)) 16 (row_answer i n (rows_of t)) after_time).1

  -- the index of the peer's row
  pub peer_index : index_of i (rows_of t) < length (rows_of t)
  peer_index = lt_of_not-le (λ h. true≢false (sym (row_present i n (rows_of t) peer-row) ∙ not_found_lem i (rows_of t) h))

pub heard_is : (i n now : ℕ) (t : PeerTable) → reported_answer i 0 n now t ≡ heard_answer i n now t
unfolding reported_answer heard_answer
heard_is i n now t = refl

-- an event that takes the row of an id to another
pub row_gives : (c : Changed) (t : PeerTable) (r : Row) (i k m : ℕ) (f : Row → Row) → Gives c (record { rows = set t.rows k r; count = t.count }) 0
    → r ≡ f (get_or t.rows k no_row) → Some k ≡ position (λ (r : Row). eqb r.id i) (rows_of t) → 0 ≡ m
    → Gives c (unless_refused m t (with_rows (on_row i f) t)) m
row_gives c t r i k m f g d e z =
    let at = place_found i (rows_of t) k e in
    done_gives c t (with_rows (on_row i f) t) _ m g (rw d (row-changed i k f t at.0 at.1)) z

-- The rows of a table ticked one after the other, and what a tick does to each.
use Prim.Native.Nat.{ℕ, zero, suc, ◌+◌, ◌^◌, ◌≤◌, ◌<◌, max}
use native.Mathlib.Omega.{arith}
use native.Mathlib.Numerals.{add-one}
use native.Mathlib.Nat.{le_refl, max-eq_right}
use mathlib.Core.Path.{◌≡◌, refl, sym, ap, ◌∙◌}
use mathlib.Core.Bool.{true}
use mathlib.Core.List.{List, [], ◌∷◌, ◌++◌, map}
use lib.ListN.{length, get_or, set, drop, take-append-drop, get_or-append}
use lib.Seq.{set-append_left}
use lib.Dec.{leb, ltb, eqb}
use borrow.Author.Tests.{leb-true, eqb-true, eqb-false}
use Rattle.peers.specs.declared.Row.{Row}
use Rattle.peers.specs.declared.PeerTable.{PeerTable}
use Rattle.peers.specs.Row.{age_at, in_range, tick_state, tick_row}
use Rattle.peers.specs.Table.{rows_of, on_others, rows_in_range}
use Rattle.peers.specs.Event.{no_row, with_rows, tick_answer, after_tick}
use Rattle.peers.specs.Meaning.{row_at, age_state, TickNeverImproves, TickRowByRow, TickToTheWorse}
use Rattle.wire.proofs.Tests.{cases, and-true}
use Rattle.peers.proofs.Scan.{row_at_lem}
use Rattle.peers.proofs.Sound.{sound_parts}
use Rattle.peers.proofs.Answers.{tick_sound}
use Rattle.peers.proofs.Refused.{if_done, either_way}

-- the first k rows changed
abbrev map_to : (Row → Row) → ℕ → List Row → List Row
map_to f zero l = l
map_to f (suc k) [] = []
map_to f (suc k) (r ∷ l) = f r ∷ map_to f k l

map_to_step : (f : Row → Row) (k : ℕ) (l : List Row) → set (map_to f k l) k (f (get_or (map_to f k l) k no_row)) ≡ map_to f (suc k) l
map_to_step f zero [] = refl
map_to_step f zero (r ∷ l) = refl
map_to_step f (suc k) [] = refl
map_to_step f (suc k) (r ∷ l) = ap (λ (x : List Row). f r ∷ x) (map_to_step f k l)

map_to_all : (f : Row → Row) (k : ℕ) (l : List Row) → length l ≤ k → map_to f k l ≡ map f l
map_to_all f zero [] h = refl
map_to_all f zero (r ∷ l) h = absurd (omega arith)
map_to_all f (suc k) [] h = refl
map_to_all f (suc k) (r ∷ l) h = ap (λ (x : List Row). f r ∷ x) (map_to_all f k l (omega arith))

length_map_to : (f : Row → Row) (k : ℕ) (l : List Row) → length (map_to f k l) ≡ length l
length_map_to f zero l = refl
length_map_to f (suc k) [] = refl
length_map_to f (suc k) (r ∷ l) = ap suc (length_map_to f k l)

-- the rows below k changed, but for the own
abbrev pub others_to : (Row → Row) → ℕ → List Row → List Row
others_to f zero l = l
others_to f (suc k) [] = []
others_to f (suc k) (own ∷ l) = own ∷ map_to f k l

others_first : (f : Row → Row) (l : List Row) → others_to f 1 l ≡ l
others_first f [] = refl
others_first f (own ∷ l) = refl

others_step : (f : Row → Row) (k : ℕ) (l : List Row) → 0 < k → set (others_to f k l) k (f (get_or (others_to f k l) k no_row)) ≡ others_to f (suc k) l
others_step f zero l h = absurd (omega arith)
others_step f (suc k) [] h = refl
others_step f (suc k) (own ∷ l) h = ap (λ (x : List Row). own ∷ x) (map_to_step f k l)

others_all : (f : Row → Row) (k : ℕ) (l : List Row) → 0 < k → length l ≤ k → others_to f k l ≡ on_others f l
unfolding on_others
others_all f zero l p h = absurd (omega arith)
others_all f (suc k) [] p h = refl
others_all f (suc k) (own ∷ l) p h = ap (λ (x : List Row). own ∷ x) (map_to_all f k l (omega arith))

length_others : (f : Row → Row) (k : ℕ) (l : List Row) → length (others_to f k l) ≡ length l
length_others f zero l = refl
length_others f (suc k) [] = refl
length_others f (suc k) (own ∷ l) = ap suc (length_map_to f k l)

-- the table whose rows below k are changed, but for the own
abbrev pub table_to : (Row → Row) → ℕ → PeerTable → PeerTable
table_to f k t = record { rows = others_to f k (rows_of t) ++ drop t.count t.rows; count = t.count }

module _ (f : Row → Row) (t : PeerTable) where
  pub to_first : t ≡ table_to f 1 t
  to_first = rw (others_first f (rows_of t), take-append-drop t.count t.rows)

  module _ (k : ℕ) (p : 0 < k) where
    pub to_next : k < length (rows_of t) → (u : PeerTable) → u ≡ table_to f k t
        → record { rows = set u.rows k (f (get_or u.rows k no_row)); count = u.count } ≡ table_to f (k + 1) t
    to_next h u e =
        let l : k < length (others_to f k (rows_of t)) = rw (length_others f k (rows_of t)) h in
        rw (
          e,
          add-one k,
          get_or-append (others_to f k (rows_of t)) (drop t.count t.rows) no_row k l,
          set-append_left (others_to f k (rows_of t)) (drop t.count t.rows) k (f (get_or (others_to f k (rows_of t)) k no_row)) l,
          others_step f k (rows_of t) p,
        )

    pub to_end : length (rows_of t) ≤ k → table_to f k t ≡ with_rows (on_others f) t
    unfolding with_rows
    to_end h = rw (others_all f k (rows_of t) p h)

-- ---- a tick never improves a state
worst_state : (age s : ℕ) → s ≤ 2 → tick_state age s ≡ max s (age_state age)
unfolding tick_state age_state
worst_state age s h =
    cases (leb 15000 age)
    (λ p. rw p (sym (max-eq_right h)))
    (λ p. cases (leb 5000 age)
    (λ q. cases (eqb s 0)
    (λ z. rw (p, q, z) (let e : s ≡ 0 = eqb-true s 0 z in omega arith))
    (λ z. rw (p, q, z) (let e : s ≡ 0 → ⊥ = eqb-false s 0 z in omega arith)))
    (λ q. rw (p, q) (omega arith)))

pub tick_to_the_worse : TickToTheWorse
unfolding tick_row
tick_to_the_worse now r h = worst_state (age_at r.last_seen now) r.state h

never_better : (now : ℕ) (r : Row) → in_range r ≡ true → r.state ≤ (tick_row now r).state
unfolding in_range
never_better now r e = rw (tick_to_the_worse now r (leb-true r.state 2 (and-true (leb r.state 2) (ltb r.last_seen (2 ^ 48)) e).0)) (omega arith)

map_never_better : (now : ℕ) (rows past : List Row) (k : ℕ) → rows_in_range rows ≡ true
    → (get_or (rows ++ past) k no_row).state ≤ (get_or (map (tick_row now) rows ++ past) k no_row).state
unfolding rows_in_range
map_never_better now [] past k h = le_refl _
map_never_better now (r ∷ rows) past zero h = never_better now r (and-true (in_range r) (rows_in_range rows) h).0
map_never_better now (r ∷ rows) past (suc k) h = map_never_better now rows past k (and-true (in_range r) (rows_in_range rows) h).1

others_never_better : (now : ℕ) (rows past : List Row) (k : ℕ) → rows_in_range rows ≡ true
    → (get_or (rows ++ past) k no_row).state ≤ (get_or (on_others (tick_row now) rows ++ past) k no_row).state
unfolding on_others rows_in_range
others_never_better now [] past k h = le_refl _
others_never_better now (own ∷ rows) past zero h = le_refl _
others_never_better now (own ∷ rows) past (suc k) h = map_never_better now rows past k (and-true (in_range own) (rows_in_range rows) h).1

pub tick_never_improves : TickNeverImproves
unfolding after_tick with_rows
tick_never_improves now k t =
    either_way (tick_answer now t) t (with_rows (on_others (tick_row now)) t) (λ (u : PeerTable). (row_at k t).state ≤ (row_at k u).state) (le_refl _) (λ z.
    let s = sound_parts t (tick_sound now t (sym z)) in
    rw (take-append-drop t.count t.rows) at (others_never_better now (rows_of t) (drop t.count t.rows) k s.range))

-- ---- row by row
others_own : (f : Row → Row) (rows past : List Row) → get_or (on_others f rows ++ past) 0 no_row ≡ get_or (rows ++ past) 0 no_row
unfolding on_others
others_own f [] past = refl
others_own f (own ∷ rows) past = refl

map_at : (f : Row → Row) (rows past : List Row) (k : ℕ) → k < length rows → get_or (map f rows ++ past) k no_row ≡ f (get_or rows k no_row)
map_at f [] past k h = absurd (omega arith)
map_at f (r ∷ rows) past zero h = refl
map_at f (r ∷ rows) past (suc k) h = map_at f rows past k (omega arith)

others_at : (f : Row → Row) (rows past : List Row) (k : ℕ) → 1 ≤ k → k < length rows → get_or (on_others f rows ++ past) k no_row ≡ f (get_or rows k no_row)
unfolding on_others
others_at f [] past k o h = absurd (omega arith)
others_at f (own ∷ rows) past zero o h = absurd (omega arith)
others_at f (own ∷ rows) past (suc k) o h = map_at f rows past k (omega arith)

pub tick_row_by_row : TickRowByRow
unfolding after_tick with_rows
tick_row_by_row =
    record {
      own = λ now t z.
          rw (if_done (tick_answer now t) t (with_rows (on_others (tick_row now)) t) z)
          (rw (take-append-drop t.count t.rows) at (others_own (tick_row now) (rows_of t) (drop t.count t.rows)));
      other = λ now k t z o h.
          rw (if_done (tick_answer now t) t (with_rows (on_others (tick_row now)) t) z)
          (others_at (tick_row now) (rows_of t) (drop t.count t.rows) k o h ∙ ap (tick_row now) (row_at_lem t k h));
    }

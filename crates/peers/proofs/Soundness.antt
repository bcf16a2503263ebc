-- Every event keeps a sound table sound.
use Prim.Native.Nat.{ℕ, ◌+◌, ◌^◌, ◌≤◌, ◌<◌, max}
use native.Mathlib.Numerals.{add-one}
use native.Mathlib.Omega.{arith}
use mathlib.Core.Path.{◌≡◌, refl, sym, ap, subst, ◌∙◌}
use mathlib.Core.Bool.{Bool, true, false, not, ◌&&◌, ◌||◌, true≢false}
use mathlib.Core.List.{List, [], ◌∷◌, ◌++◌, map}
use lib.ListN.{length}
use lib.Seq.{take_all, set_out, take-suc-set}
use lib.Dec.{eqb, leb, ltb}
use borrow.Author.Tests.{ne_eqb, eqb-false, leb-true, le-leb, lt-ltb, ltb-true, ltb-false, not-true}
use Rattle.peers.specs.declared.Row.{Row}
use Rattle.peers.specs.declared.PeerTable.{PeerTable}
use Rattle.peers.specs.Row.{in_range, new_row, heard_row, reported_row, tick_state, tick_row}
use Rattle.peers.specs.Table.{rows_of, has_row, on_row, on_others, is_own, distinct, own_alive, rows_in_range, sound_table}
use Rattle.peers.specs.Event.{with_rows, empty_table, fresh_answer, fresh_table, after_fresh, added_table, add_answer, after_add, heard_answer, after_heard}
use Rattle.peers.specs.Event.{reported_answer, after_reported, tick_answer, after_tick}
use Rattle.peers.specs.Meaning.{SoundnessKept, AddAppends}
use Rattle.wire.proofs.Tests.{cases, and-true}
use Rattle.peers.proofs.Sound.{both, Sound, sound_parts, sound_of}
use Rattle.peers.proofs.Answers.{fresh_time, add_time, add_unknown, add_room, heard_is, peer_time, peer-range, peer-row, row_other}
use Rattle.peers.proofs.Refused.{if_done, either_way, length_on_row, length_on_others, rows-changed}

-- ---- ids: whether they are distinct goes by the ids alone
ids : List Row → List ℕ
ids = map (λ (r : Row). r.id)

is_in : ℕ → List ℕ → Bool
is_in i [] = false
is_in i (j ∷ l) = eqb j i || is_in i l

all_differ : List ℕ → Bool
all_differ [] = true
all_differ (j ∷ l) = not (is_in j l) && all_differ l

has_by_ids : (i : ℕ) (rows : List Row) → has_row i rows ≡ is_in i (ids rows)
unfolding has_row is_in ids
has_by_ids i [] = refl
has_by_ids i (r ∷ rows) = rw (has_by_ids i rows)

distinct_by_ids : (rows : List Row) → distinct rows ≡ all_differ (ids rows)
unfolding distinct all_differ ids
distinct_by_ids [] = refl
distinct_by_ids (r ∷ rows) = rw (has_by_ids r.id rows, distinct_by_ids rows)

-- ---- a change of rows that keeps ids and ranges
record KeepsRow (f : Row → Row) : Type 0 where
  pub id : (r : Row) → (f r).id ≡ r.id
  pub range : (r : Row) → in_range r ≡ true → in_range (f r) ≡ true

module _ (f : Row → Row) (k : KeepsRow f) where
  ids_on_row : (i : ℕ) (rows : List Row) → ids (on_row i f rows) ≡ ids rows
  unfolding on_row ids
  ids_on_row i [] = refl
  ids_on_row i (r ∷ rows) = cases (eqb r.id i) (λ e. rw (e, k.id r)) (λ e. rw (e, ids_on_row i rows))

  ids_map : (rows : List Row) → ids (map f rows) ≡ ids rows
  unfolding ids
  ids_map [] = refl
  ids_map (r ∷ rows) = rw (k.id r, ids_map rows)

  ids_on_others : (rows : List Row) → ids (on_others f rows) ≡ ids rows
  unfolding on_others ids
  ids_on_others [] = refl
  ids_on_others (own ∷ rows) = ap (λ (l : List ℕ). own.id ∷ l) (ids_map rows)

  range_on_row : (i : ℕ) (rows : List Row) → rows_in_range rows ≡ true → rows_in_range (on_row i f rows) ≡ true
  unfolding on_row rows_in_range
  range_on_row i [] h = refl
  range_on_row i (r ∷ rows) h =
      let a = (and-true (in_range r) (rows_in_range rows) h).0 in
      let b = (and-true (in_range r) (rows_in_range rows) h).1 in
      cases (eqb r.id i) (λ e. rw e (both (k.range r a) b)) (λ e. rw e (both a (range_on_row i rows b)))

  range-map : (rows : List Row) → rows_in_range rows ≡ true → rows_in_range (map f rows) ≡ true
  unfolding rows_in_range
  range-map [] h = refl
  range-map (r ∷ rows) h = both (k.range r (and-true (in_range r) (rows_in_range rows) h).0) (range-map rows (and-true (in_range r) (rows_in_range rows) h).1)

  range_on_others : (rows : List Row) → rows_in_range rows ≡ true → rows_in_range (on_others f rows) ≡ true
  unfolding on_others rows_in_range
  range_on_others [] h = refl
  range_on_others (own ∷ rows) h = both (and-true (in_range own) (rows_in_range rows) h).0 (range-map rows (and-true (in_range own) (rows_in_range rows) h).1)

  alive_on_row : (i : ℕ) (rows : List Row) → is_own i rows ≡ false → own_alive (on_row i f rows) ≡ own_alive rows
  unfolding on_row is_own own_alive
  alive_on_row i [] h = refl
  alive_on_row i (own ∷ rows) h = rw h

  alive_on_others : (rows : List Row) → own_alive (on_others f rows) ≡ own_alive rows
  unfolding on_others own_alive
  alive_on_others [] = refl
  alive_on_others (own ∷ rows) = refl

count_kept : (t : PeerTable) (g : List Row → List Row) → (with_rows g t).count ≡ t.count
unfolding with_rows
count_kept t g = refl

-- rows changed one for one, with the same ids
module _ (t : PeerTable) (s : Sound t) where
  sound-changed : (g : List Row → List Row) → length (g (rows_of t)) ≡ length (rows_of t) → ids (g (rows_of t)) ≡ ids (rows_of t)
      → own_alive (g (rows_of t)) ≡ own_alive (rows_of t) → rows_in_range (g (rows_of t)) ≡ true → sound_table (with_rows g t) ≡ true
  sound-changed g e d a r =
      let c : rows_of (with_rows g t) ≡ g (rows_of t) = rows-changed t g e in
      sound_of (with_rows g t) (record {
        some = rw (count_kept t g) s.some;
        most = rw (count_kept t g) s.most;
        alive = rw c (a ∙ s.alive);
        range = rw c r;
        apart = rw (c, distinct_by_ids (g (rows_of t)), d, ← distinct_by_ids (rows_of t)) s.apart;
      })

  sound-row : (i : ℕ) (f : Row → Row) → KeepsRow f → is_own i (rows_of t) ≡ false → sound_table (with_rows (on_row i f) t) ≡ true
  sound-row i f k o =
      sound-changed (on_row i f)
      (length_on_row i f (rows_of t)) (ids_on_row f k i (rows_of t)) (alive_on_row f k i (rows_of t) o) (range_on_row f k i (rows_of t) s.range)

  sound_others : (f : Row → Row) → KeepsRow f → sound_table (with_rows (on_others f) t) ≡ true
  sound_others f k =
      sound-changed (on_others f)
      (length_on_others f (rows_of t)) (ids_on_others f k (rows_of t)) (alive_on_others f k (rows_of t)) (range_on_others f k (rows_of t) s.range)

heard_keeps : (n now : ℕ) → now < 2 ^ 48 → KeepsRow (heard_row n now)
unfolding heard_row in_range
heard_keeps n now h =
    record {
      id = λ r. refl;
      range = λ r e.
          let b : r.last_seen < 2 ^ 48 = ltb-true _ _ (and-true (leb r.state 2) (ltb r.last_seen (2 ^ 48)) e).1 in
          lt-ltb (max r.last_seen now) (2 ^ 48) (omega arith);
    }

reported_keeps : (s n now : ℕ) → s ≤ 2 → now < 2 ^ 48 → KeepsRow (reported_row s n now)
unfolding reported_row in_range
reported_keeps s n now w h =
    record {
      id = λ r. cases (ltb r.incarnation n) (λ p. rw p) (λ p. rw p);
      range = λ r e.
          let a : r.state ≤ 2 = leb-true _ _ (and-true (leb r.state 2) (ltb r.last_seen (2 ^ 48)) e).0 in
          let b : r.last_seen < 2 ^ 48 = ltb-true _ _ (and-true (leb r.state 2) (ltb r.last_seen (2 ^ 48)) e).1 in
          cases (ltb r.incarnation n)
          (λ p. cases (eqb s 0)
          (λ q. rw (p, q) (both (le-leb s 2 w) (lt-ltb (max r.last_seen now) (2 ^ 48) (omega arith))))
          (λ q. rw (p, q) (both (le-leb s 2 w) (lt-ltb r.last_seen (2 ^ 48) b))))
          (λ p. rw p (both (le-leb (max r.state s) 2 (omega arith)) (lt-ltb r.last_seen (2 ^ 48) b)));
    }

ticked_state : (age s : ℕ) → s ≤ 2 → tick_state age s ≤ 2
unfolding tick_state
ticked_state age s h =
    cases (leb 15000 age)
    (λ p. rw p (omega arith))
    (λ p. cases (leb 5000 age)
    (λ q. cases (eqb s 0) (λ z. rw (p, q, z) (omega arith)) (λ z. rw (p, q, z) h))
    (λ q. rw (p, q) h))

tick_keeps : (now : ℕ) → KeepsRow (tick_row now)
unfolding tick_row in_range
tick_keeps now =
    record {
      id = λ r. refl;
      range = λ r e.
          both
          (le-leb _ _ (ticked_state _ r.state (leb-true _ _ (and-true (leb r.state 2) (ltb r.last_seen (2 ^ 48)) e).0)))
          (and-true (leb r.state 2) (ltb r.last_seen (2 ^ 48)) e).1;
    }

-- ---- a row added
alive_append : (rows : List Row) (r : Row) → own_alive rows ≡ true → own_alive (rows ++ r ∷ []) ≡ true
unfolding own_alive
alive_append [] r h = absurd (true≢false (sym h))
alive_append (own ∷ rows) r h = h

range-append : (rows : List Row) (r : Row) → rows_in_range rows ≡ true → in_range r ≡ true → rows_in_range (rows ++ r ∷ []) ≡ true
unfolding rows_in_range
range-append [] r h e = both e refl
range-append (q ∷ rows) r h e = both (and-true (in_range q) (rows_in_range rows) h).0 (range-append rows r (and-true (in_range q) (rows_in_range rows) h).1 e)

has_append : (i : ℕ) (rows : List Row) (r : Row) → has_row i rows ≡ false → (r.id ≡ i → ⊥) → has_row i (rows ++ r ∷ []) ≡ false
unfolding has_row
has_append i [] r h d = rw (ne_eqb r.id i d)
has_append i (q ∷ rows) r h d =
    cases (eqb q.id i)
    (λ e. absurd (true≢false (rw e at h)))
    (λ e. rw e (has_append i rows r (rw e at h) d))

distinct_append : (rows : List Row) (r : Row) → distinct rows ≡ true → has_row r.id rows ≡ false → distinct (rows ++ r ∷ []) ≡ true
unfolding distinct has_row
distinct_append [] r h n = refl
distinct_append (q ∷ rows) r h n =
    let a = not-true _ (and-true (not (has_row q.id rows)) (distinct rows) h).0 in
    let b = (and-true (not (has_row q.id rows)) (distinct rows) h).1 in
    cases (eqb q.id r.id)
    (λ e. absurd (true≢false (rw e at n)))
    (λ e. both (ap not (has_append q.id rows r a (λ z. eqb-false q.id r.id e (sym z)))) (distinct_append rows r b (rw e at n)))

module _ (t : PeerTable) (r : Row) where
  pub rows_added : t.count < length t.rows → rows_of (added_table r t) ≡ rows_of t ++ r ∷ []
  unfolding added_table
  rows_added h = rw (add-one t.count) (take-suc-set t.rows t.count r h)

  -- an array with no room would be left as it is
  rows_same : length t.rows ≤ t.count → rows_of (added_table r t) ≡ rows_of t
  unfolding added_table
  rows_same h = rw (set_out t.rows t.count r h) (take_all (t.count + 1) t.rows (omega arith) ∙ sym (take_all t.count t.rows h))

  count_added : (added_table r t).count ≡ t.count + 1
  unfolding added_table
  count_added = refl

  sound_added : Sound t → t.count < 10 → in_range r ≡ true → has_row r.id (rows_of t) ≡ false → sound_table (added_table r t) ≡ true
  sound_added s c e n =
      sound_of (added_table r t) (record {
        some = rw count_added (omega arith);
        most = rw count_added (omega arith);
        alive = by_rows (λ (l : List Row). own_alive l ≡ true) (alive_append (rows_of t) r s.alive) s.alive;
        range = by_rows (λ (l : List Row). rows_in_range l ≡ true) (range-append (rows_of t) r s.range e) s.range;
        apart = by_rows (λ (l : List Row). distinct l ≡ true) (distinct_append (rows_of t) r s.apart n) s.apart;
      })
    where
      by_rows : (P : List Row → Type 0) → P (rows_of t ++ r ∷ []) → P (rows_of t) → P (rows_of (added_table r t))
      by_rows P p q =
          cases (ltb t.count (length t.rows))
          (λ b. subst P (sym (rows_added (ltb-true _ _ b))) p)
          (λ b. subst P (sym (rows_same (ltb-false _ _ b))) q)

new_in_range : (i a p n now : ℕ) → now < 2 ^ 48 → in_range (new_row i a p n now) ≡ true
unfolding in_range
new_in_range i a p n now h = lt-ltb now (2 ^ 48) h

pub add_appends : AddAppends
unfolding after_add
add_appends i a p n now t e z =
    rw (if_done (add_answer i now t) t (added_table (new_row i a p n now) t) z)
    (rows_added t (new_row i a p n now) (omega (arith, add_room i now t (sym z))))

fresh-sound : (i a p n now : ℕ) → now < 2 ^ 48 → sound_table (fresh_table i a p n now) ≡ true
unfolding sound_table fresh_table own_alive rows_in_range distinct has_row
fresh-sound i a p n now h = rw (new_in_range i a p n now h)

pub soundness_kept : SoundnessKept
unfolding after_fresh after_add after_heard after_reported after_tick
soundness_kept =
    record {
      fresh = λ i a p n now z. rw (if_done (fresh_answer now) empty_table (fresh_table i a p n now) z) (fresh-sound i a p n now (fresh_time now (sym z)));
      add = λ i a p n now t s.
          either_way (add_answer i now t) t (added_table (new_row i a p n now) t) (λ (u : PeerTable). sound_table u ≡ true) s (λ z.
          sound_added t (new_row i a p n now) (sound_parts t s) (add_room i now t (sym z)) (new_in_range i a p n now (add_time i now t (sym z)))
          (add_unknown i now t (sym z)));
      heard = λ i n now t s.
          either_way (heard_answer i n now t) t (with_rows (on_row i (heard_row n now)) t) (λ (u : PeerTable). sound_table u ≡ true) s (λ z.
          let y : 0 ≡ reported_answer i 0 n now t = sym (heard_is i n now t ∙ z) in
          sound-row t (sound_parts t s) i (heard_row n now) (heard_keeps n now (peer_time i 0 n now t y)) (row_other i n (rows_of t) (peer-row i 0 n now t y)));
      reported = λ i s n now t u.
          either_way (reported_answer i s n now t) t (with_rows (on_row i (reported_row s n now)) t) (λ (v : PeerTable). sound_table v ≡ true) u (λ z.
          sound-row t (sound_parts t u) i (reported_row s n now) (reported_keeps s n now (peer-range i s n now t (sym z)) (peer_time i s n now t (sym z)))
          (row_other i n (rows_of t) (peer-row i s n now t (sym z))));
      tick = λ now t s.
          either_way (tick_answer now t) t (with_rows (on_others (tick_row now)) t) (λ (u : PeerTable). sound_table u ≡ true) s (λ z.
          sound_others t (sound_parts t s) (tick_row now) (tick_keeps now));
    }

-- When a table is sound, check by check, and what each check of a sound table tells.
use Prim.Native.Nat.{◌≤◌}
use native.Mathlib.Omega.{arith}
use mathlib.Core.Path.{◌≡◌}
use mathlib.Core.Bool.{Bool, true, ◌&&◌}
use lib.ListN.{length, get_or}
use lib.Dec.{leb, eqb}
use borrow.Author.Tests.{leb-true, le-leb}
use Rattle.wire.proofs.Tests.{and-true}
use Rattle.peers.specs.declared.PeerTable.{PeerTable}
use Rattle.peers.specs.Table.{rows_of, distinct, own_alive, rows_in_range, sound_table}
use Rattle.peers.specs.Event.{no_row}
use Rattle.peers.proofs.Scan.{as_counted, row_at_lem, next_row}

pub both : {a b : Bool} → a ≡ true → b ≡ true → a && b ≡ true
both p q = rw (p, q)

pub record Sound (t : PeerTable) : Type 0 where
  pub some : 1 ≤ t.count
  pub most : t.count ≤ 10
  pub apart : distinct (rows_of t) ≡ true
  pub alive : own_alive (rows_of t) ≡ true
  pub range : rows_in_range (rows_of t) ≡ true

module _ (t : PeerTable) where
  pub sound_parts : sound_table t ≡ true → Sound t
  unfolding sound_table
  sound_parts h =
      let counted = leb 1 t.count && leb t.count 10 in
      let listed = counted && distinct (rows_of t) in
      let a = (and-true (listed && own_alive (rows_of t)) (rows_in_range (rows_of t)) h).0 in
      let d = (and-true listed (own_alive (rows_of t)) a).0 in
      let c = (and-true counted (distinct (rows_of t)) d).0 in
      record {
        some = leb-true _ _ (and-true (leb 1 t.count) (leb t.count 10) c).0;
        most = leb-true _ _ (and-true (leb 1 t.count) (leb t.count 10) c).1;
        apart = (and-true counted (distinct (rows_of t)) d).1;
        alive = (and-true listed (own_alive (rows_of t)) a).1;
        range = (and-true (listed && own_alive (rows_of t)) (rows_in_range (rows_of t)) h).1;
      }

  pub sound_of : Sound t → sound_table t ≡ true
  unfolding sound_table
  sound_of s = both (both (both (both (le-leb _ _ s.some) (le-leb _ _ s.most)) s.apart) s.alive) s.range

  module _ (e : length t.rows ≡ 10) (p : t.count ≡ 0 → ⊥) (q : t.count ≤ 10) where
    pub own_state : own_alive (rows_of t) ≡ eqb (get_or t.rows 0 no_row).state 0
    unfolding own_alive
    own_state = rw (next_row (rows_of t) 0 (omega (arith, as_counted t e q)), row_at_lem t 0 (omega (arith, as_counted t e q)))

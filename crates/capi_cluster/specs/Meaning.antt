-- What holds of the results, and of the words of a peer table.
use Rattle.std.specs.Prelude.{ℕ, ◌*◌, ◌^◌, ◌<◌, ◌≡◌, true, length}
use mathlib.Core.List.{List, [], ◌∷◌, Memᴰ}
use Rattle.peers.specs.declared.Row.{Row}
use Rattle.peers.specs.declared.PeerTable.{PeerTable}
use Rattle.peers.specs.Event.{fresh_answer, after_fresh, add_answer, after_add, heard_answer, after_heard, reported_answer, after_reported, tick_answer, after_tick}
use Rattle.ring.specs.Answer.{Answer}
use Rattle.ring.specs.Place.{position_answer}
use Rattle.ring.specs.Build.{build_answer}
use Rattle.frame.specs.Writing.{write_refusal}
use Rattle.capi_words.specs.Meaning.{TakenApart, Alone, PutKeeps}
use Rattle.capi_cluster.specs.Words.{table_words, is_table, table_of}
use Rattle.capi_cluster.specs.Peers.{event_refusal, event_words}
use Rattle.capi_cluster.specs.Ring.{refusal_in, given_in, answer_word, owners_refusal}

-- ---- results
-- every result of the functions (R236)
pub record ClusterResultsTakenApart : Type 0 where
  -- without an answer
  pub peers_fresh : (i a p n now : ℕ) (w : List ℕ) → Alone (write_refusal (fresh_answer now) (table_words (after_fresh i a p n now)) w)
  pub peers_add : (i now : ℕ) (w : List ℕ) → Alone (event_refusal now (add_answer i now) w)
  pub peers_heard : (i n now : ℕ) (w : List ℕ) → Alone (event_refusal now (heard_answer i n now) w)
  pub peers_reported : (i s n now : ℕ) (w : List ℕ) → Alone (event_refusal now (reported_answer i s n now) w)
  pub peers_tick : (now : ℕ) (w : List ℕ) → Alone (event_refusal now (tick_answer now) w)
  pub key_position : (key : List ℕ) (salt : ℕ) (w : List ℕ)
      → Alone (write_refusal (refusal_in (position_answer key salt)) (given_in (position_answer key salt) ∷ []) w)
  pub owners : (ring w : List ℕ) (admission count : ℕ) (out : List ℕ) → Alone (owners_refusal ring w admission count out)
  -- with one: a ring's places
  pub ring_build : (ids : List ℕ) (v : ℕ) (ring : List ℕ) → let a : Answer = build_answer ids v ring in
      TakenApart (answer_word a) (refusal_in a) (given_in a) (10 * 64)

-- ---- layout
-- words that are a table are those of the table they stand for, and the other way round (R238)
pub record TableLayout : Type 0 where
  pub back : (t : PeerTable) → length t.rows ≡ 10 → table_of (table_words t) ≡ t
  pub same : (w : List ℕ) → is_table w ≡ true → table_words (table_of w) ≡ w

-- each number is in the range of its field; the language keeps this of every table (R5, R144)
pub record RowInRange (r : Row) : Type 0 where
  pub id : r.id < 2 ^ 8
  pub address : r.address < 2 ^ 32
  pub port : r.port < 2 ^ 16
  pub state : r.state < 2 ^ 8
  pub incarnation : r.incarnation < 2 ^ 32

pub record TableInRange (t : PeerTable) : Type 0 where
  pub ten : length t.rows ≡ 10
  pub count : t.count < 2 ^ 8
  pub each : (r : Row) → Memᴰ r t.rows → RowInRange r

-- the words of a table are a table (R238)
abbrev pub TableWordsAre : Type 0
TableWordsAre = (t : PeerTable) → TableInRange t → is_table (table_words t) ≡ true

-- ---- a refusal leaves the words as they came (R29, R170, R245)
abbrev pub EventKeeps : ℕ → (PeerTable → ℕ) → (PeerTable → PeerTable) → Type 0
EventKeeps now answer after = (w : List ℕ) → (event_refusal now answer w ≡ 0 → ⊥) → event_words now after w ≡ w

pub record RefusedTable : Type 0 where
  pub fresh : (i a p n now : ℕ) → PutKeeps (fresh_answer now) (table_words (after_fresh i a p n now))
  pub add : (i a p n now : ℕ) → EventKeeps now (add_answer i now) (after_add i a p n now)
  pub heard : (i n now : ℕ) → EventKeeps now (heard_answer i n now) (after_heard i n now)
  pub reported : (i s n now : ℕ) → EventKeeps now (reported_answer i s n now) (after_reported i s n now)
  pub tick : (now : ℕ) → EventKeeps now (tick_answer now) (after_tick now)

-- The events of a peer table on 61 words.
use Rattle.std.specs.Prelude.{ℕ, ◌≡◌, Bool, cond, ◌&&◌, List}
use Rattle.entry.specs.Entry.{bad_time}
use Rattle.peers.specs.declared.PeerTable.{PeerTable}
use Rattle.peers.specs.declared.Changed.{Changed}
use Rattle.peers.specs.Event.{Gives}
use Rattle.peers.specs.Table.{sound_table}
use Rattle.capi_words.specs.Result.{packed}
use Rattle.capi_cluster.specs.Words.{is_table, table_of, table_words}

-- what comes before an event's own checks: 9 for the time, then 17 for words that are no table (R238)
unfoldable pub form_refusal : ℕ → List ℕ → ℕ
form_refusal time w = cond (bad_time time) 9 (cond (is_table w) 0 17)

-- the refusal of an event with these checks (R238)
unfoldable pub event_refusal : ℕ → (PeerTable → ℕ) → List ℕ → ℕ
event_refusal time answer w = cond (bad_time time) 9 (cond (is_table w) (answer (table_of w)) 17)

-- the words after an event that makes this of a table (R170, R245)
unfoldable pub event_words : ℕ → (PeerTable → PeerTable) → List ℕ → List ℕ
event_words time after w = cond (bad_time time) w (cond (is_table w) (table_words (after (table_of w))) w)

-- whatever a change of a table hands back is this table, with this answer
abbrev pub ChangesBy : (PeerTable → Changed → Type 0) → (PeerTable → ℕ) → (PeerTable → PeerTable) → Type 0
ChangesBy change answer after = (t : PeerTable) (d : Changed) → change t d → Gives d (after t) (answer t)

-- what an event tells of words w and leaves of them (R170, R245)
abbrev pub Notes : ℕ → (PeerTable → ℕ) → (PeerTable → PeerTable) → List ℕ → ℕ → List ℕ → Type 0
Notes time answer after w told left = (told ≡ packed (event_refusal time answer w) 0) × (left ≡ event_words time after w)

unfoldable pub sound_words : List ℕ → Bool
sound_words w = is_table w && sound_table (table_of w)

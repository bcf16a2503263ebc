-- What the events do to a table, and what admission means.
use Rattle.std.specs.Prelude.{ℕ, ◌≤◌, ◌<◌, max, ◌≡◌, true, false, cond, not, ◌&&◌, [], ◌∷◌, ◌++◌, length, get_or, drop, leb, eqb}
use Rattle.peers.specs.declared.Row.{Row}
use Rattle.peers.specs.declared.PeerTable.{PeerTable}
use Rattle.peers.specs.declared.Admission.{Admission}
use Rattle.peers.specs.declared.Admission.TheVariants.{Home, Standing}
use Rattle.peers.specs.Row.{age_at, new_row, tick_row}
use Rattle.peers.specs.Table.{rows_of, has_row, held_state, sound_table}
use Rattle.peers.specs.Admitted.{admits, admitted_flags}
use Rattle.peers.specs.Event.{no_row, fresh_answer, after_fresh, add_answer, after_add, heard_answer, after_heard}
use Rattle.peers.specs.Event.{reported_answer, after_reported, tick_answer, after_tick}

-- ---- soundness
abbrev pub KeepsSound : (PeerTable → PeerTable) → Type 0
KeepsSound event = (t : PeerTable) → sound_table t ≡ true → sound_table (event t) ≡ true

-- a fresh table that is not refused is sound, and every event keeps a sound table sound (R146, R151)
pub record SoundnessKept : Type 0 where
  pub fresh : (i a p n now : ℕ) → fresh_answer now ≡ 0 → sound_table (after_fresh i a p n now) ≡ true
  pub add : (i a p n now : ℕ) → KeepsSound (after_add i a p n now)
  pub heard : (i n now : ℕ) → KeepsSound (after_heard i n now)
  pub reported : (i s n now : ℕ) → KeepsSound (after_reported i s n now)
  pub tick : (now : ℕ) → KeepsSound (after_tick now)

-- ---- refusals
-- an event with an answer hands back the same table unless the answer is 0 (R29)
abbrev pub RefusalKeeps : (PeerTable → ℕ) → (PeerTable → PeerTable) → Type 0
RefusalKeeps answer event = (t : PeerTable) → (answer t ≡ 0 → ⊥) → event t ≡ t

pub record RefusalsKeepTheTable : Type 0 where
  pub add : (i a p n now : ℕ) → RefusalKeeps (add_answer i now) (after_add i a p n now)
  pub heard : (i n now : ℕ) → RefusalKeeps (heard_answer i n now) (after_heard i n now)
  pub reported : (i s n now : ℕ) → RefusalKeeps (reported_answer i s n now) (after_reported i s n now)
  pub tick : (now : ℕ) → RefusalKeeps (tick_answer now) (after_tick now)

-- ---- rows past the last
abbrev pub KeepsPast : (PeerTable → PeerTable) → Type 0
KeepsPast event = (t : PeerTable) → drop (event t).count (event t).rows ≡ drop (event t).count t.rows

pub record RowsPastTheLastKept : Type 0 where
  pub add : (i a p n now : ℕ) → KeepsPast (after_add i a p n now)
  pub heard : (i n now : ℕ) → KeepsPast (after_heard i n now)
  pub reported : (i s n now : ℕ) → KeepsPast (after_reported i s n now)
  pub tick : (now : ℕ) → KeepsPast (after_tick now)

-- an added peer's row stands after those there were (R152)
abbrev pub AddAppends : Type 0
AddAppends = (i a p n now : ℕ) (t : PeerTable) → length t.rows ≡ 10 → add_answer i now t ≡ 0
    → rows_of (after_add i a p n now t) ≡ rows_of t ++ new_row i a p n now ∷ []

-- ---- row by row
abbrev pub row_at : ℕ → PeerTable → Row
row_at k t = get_or t.rows k no_row

-- an event about an id leaves the own row, and every row of another id (R153, R155)
pub record KeepsOthers (i : ℕ) (event : PeerTable → PeerTable) : Type 0 where
  pub own : (t : PeerTable) → row_at 0 (event t) ≡ row_at 0 t
  pub other : (t : PeerTable) (k : ℕ) → ((row_at k t).id ≡ i → ⊥) → row_at k (event t) ≡ row_at k t

pub record OtherRowsKept : Type 0 where
  pub heard : (i n now : ℕ) → KeepsOthers i (after_heard i n now)
  pub reported : (i s n now : ℕ) → KeepsOthers i (after_reported i s n now)

-- ---- tick
-- a tick never improves a state (R161)
abbrev pub TickNeverImproves : Type 0
TickNeverImproves = (now k : ℕ) (t : PeerTable) → (row_at k t).state ≤ (row_at k (after_tick now t)).state

-- a tick that is not refused leaves the own row and ticks every other (R157)
pub record TickRowByRow : Type 0 where
  pub own : (now : ℕ) (t : PeerTable) → tick_answer now t ≡ 0 → row_at 0 (after_tick now t) ≡ row_at 0 t
  pub other : (now k : ℕ) (t : PeerTable) → tick_answer now t ≡ 0 → 1 ≤ k → k < length (rows_of t) → row_at k (after_tick now t) ≡ tick_row now (row_at k t)

-- the state that an age asks for: 15,000 or more DOWN, 5,000 or more SUSPECT (R159, R160)
unfoldable pub age_state : ℕ → ℕ
age_state age = cond (leb 15000 age) 2 (cond (leb 5000 age) 1 0)

-- a ticked row has the worse of its state and the state that its age asks for (R159, R160)
abbrev pub TickToTheWorse : Type 0
TickToTheWorse = (now : ℕ) (r : Row) → r.state ≤ 2 → (tick_row now r).state ≡ max r.state (age_state (age_at r.last_seen now))

-- ---- admission
-- the flag of an id says whether it is admitted (R84)
abbrev pub FlagsSayAdmitted : Type 0
FlagsSayAdmitted = (a : Admission) (t : PeerTable) (i : ℕ) → i < 256 → get_or (admitted_flags a t) i false ≡ admits a t i

-- HOME admits every peer with a row (R84)
abbrev pub HomeAdmitsEveryRow : Type 0
HomeAdmitsEveryRow = (t : PeerTable) (i : ℕ) → admits Home t i ≡ has_row i (rows_of t)

-- STANDING admits those not DOWN (R85)
abbrev pub StandingAdmitsNotDown : Type 0
StandingAdmitsNotDown = (t : PeerTable) (i : ℕ) → sound_table t ≡ true → admits Standing t i ≡ (has_row i (rows_of t) && not (eqb (held_state i (rows_of t)) 2))

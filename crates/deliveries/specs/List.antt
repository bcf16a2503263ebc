-- A list of deliveries: the REPL frames that a module received, one behind the other.
use Rattle.std.specs.Prelude.{ℕ, zero, suc, cond, List, [], ◌∷◌, length, drop, eqb}
use Rattle.std.specs.Prelude.{Option, None, Some, Result, Ok, Err}
use Rattle.entry.specs.declared.Refusal.{Refusal}
use Rattle.entry.specs.Refusal.{number}
use Rattle.entry.specs.Entry.{Entry}
use Rattle.frame.specs.Message.{put, get, del, repl, ok, value, not_found, err}
use Rattle.frame.specs.Reading.{Outcome, message, refused as unread, read_frame}
use Rattle.deliveries.specs.Cut.{first_length, first_frame}

-- the most deliveries of a list (R246)
abbrev pub max_deliveries : ℕ
max_deliveries = 1000

-- the entry that a REPL brings; no other message is a delivery (R246)
abbrev pub entry_in : Outcome → Option Entry
entry_in (message (put k v)) = None
entry_in (message (get k)) = None
entry_in (message (del k)) = None
entry_in (message (repl e)) = Some e
entry_in (message ok) = None
entry_in (message (value v)) = None
entry_in (message not_found) = None
entry_in (message (err n)) = None
entry_in (unread n) = None

-- the delivery at the front, if it is readable (R246)
unfoldable pub first_entry : List ℕ → Option Entry
first_entry s = entry_in (read_frame (first_frame s))

-- a first delivery, and those behind it
abbrev pub following : Option Entry → Option (List Entry) → Option (List Entry)
following None es = None
following (Some e) None = None
following (Some e) (Some es) = Some (e ∷ es)

-- the deliveries of a list of n at most, as they came; none if it is not readable (R246)
unfoldable pub deliveries_within : ℕ → List ℕ → Option (List Entry)
deliveries_within zero s = cond (eqb (length s) 0) (Some []) None
deliveries_within (suc n) s = cond (eqb (length s) 0) (Some []) (following (first_entry s) (deliveries_within n (drop (first_length s) s)))

unfoldable pub deliveries_of : List ℕ → Option (List Entry)
deliveries_of s = deliveries_within max_deliveries s

-- ---- how many they are
pub data Answer : Type 0 where
  deliveries : ℕ → Answer
  refused : ℕ → Answer

abbrev pub count_of : Result ℕ Refusal → Answer  -- (R199)
count_of (Ok n) = deliveries n
count_of (Err r) = refused (number r)

-- 17 if the list is not readable (R247)
abbrev pub counted : Option (List Entry) → Answer
counted None = refused 17
counted (Some es) = deliveries (length es)

unfoldable pub count_answer : List ℕ → Answer
count_answer s = counted (deliveries_of s)

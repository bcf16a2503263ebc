-- Looking a key up.
use Rattle.std.specs.Prelude.{ℕ, cond, not, List, [], length, eqb, Result, Ok, Err}
use Rattle.std.proofs.Math.Option.{Option, none, some}
use Rattle.entry.specs.declared.Refusal.{Refusal}
use Rattle.entry.specs.Refusal.{number}
use Rattle.entry.specs.Key.{bad_key}
use Rattle.entry.specs.Entry.{Entry}
use Rattle.image.specs.Layout.{value_start}
use Rattle.image.specs.Image.{sound, entries_of}
use Rattle.store.specs.Held.{find, index_of}
use Rattle.store.specs.declared.Finding.{Finding as Found}
use Rattle.store.specs.declared.Finding.TheVariants as found

-- VALUE, with the place of the value in the store and its length; DELETED; NEVER; or a refusal with
-- its number (R123, R199)
pub data Finding : Type 0 where
  value : (at len : ℕ) → Finding
  deleted never : Finding
  refused : ℕ → Finding

abbrev pub finding_of : Result Found Refusal → Finding
finding_of (Ok (found.Value span)) = value span.at span.len
finding_of (Ok found.Deleted) = deleted
finding_of (Ok found.Never) = never
finding_of (Err r) = refused (number r)

-- what is said of a key whose entry, if there is one, stands in slot i (R123)
unfoldable pub finding_for : ℕ → Option Entry → Finding
finding_for i none = never
finding_for i (some h) = cond (eqb h.flag 1) deleted (value (value_start i) (length h.value))

-- its value, empty where there is none (R125)
unfoldable pub value_for : Option Entry → List ℕ
value_for none = []
value_for (some h) = cond (eqb h.flag 1) [] h.value

-- 5, then 1 (R39, R123, R125)
unfoldable pub lookup_answer : List ℕ → List ℕ → Finding
lookup_answer store key =
    cond (not (sound store)) (refused 5)
    (cond (bad_key key) (refused 1)
    (finding_for (index_of key (entries_of store)) (find key (entries_of store))))

unfoldable pub value_part : List ℕ → List ℕ → List ℕ  -- (R124, R125)
value_part store key =
    cond (not (sound store)) []
    (cond (bad_key key) []
    (value_for (find key (entries_of store))))

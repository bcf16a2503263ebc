-- Whether a stamp is overtaken by that of the entry held for a key: it is not above it.
use Rattle.std.specs.Prelude.{ℕ, ◌≡◌, Bool, true, false, not, List}
use Rattle.std.proofs.Math.Option.{Option, none, some}
use Rattle.entry.specs.declared.Stamp.{Stamp}
use Rattle.entry.specs.Order.{stamp_below}
use Rattle.entry.specs.Entry.{Entry}
use Rattle.image.specs.Image.{entries_of, sound}
use Rattle.store.specs.Held.{find}
use Rattle.store.specs.Unchecked.{seen}

-- by the held entry of the key, if there is one (R14)
unfoldable pub overtaken_by : Option Entry → Stamp → Bool
overtaken_by none t = false
overtaken_by (some h) t = not (stamp_below h.stamp t)

unfoldable pub overtaken : List ℕ → List ℕ → Stamp → Bool
overtaken store key t = overtaken_by (find key (entries_of store)) t

-- the same without the test of soundness, on any bytes (R198)
unfoldable pub overtaken_unchecked : List ℕ → List ℕ → Stamp → Bool
overtaken_unchecked store key t = overtaken_by (seen key (entries_of store)) t

abbrev pub OvertakenOnSound : Type 0
OvertakenOnSound = (s : List ℕ) → sound s ≡ true → (k : List ℕ) (t : Stamp) → overtaken_unchecked s k t ≡ overtaken s k t

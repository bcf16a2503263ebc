-- What the refusal numbers and the orders mean.
use Rattle.std.specs.Prelude.{◌≤◌, ◌<◌, ◌≡◌, ◌⊎◌, ◌↔◌, Bool, true, false}
use Rattle.wire.specs.Order.{bytes_below}
use Rattle.entry.specs.declared.Refusal.{Refusal}
use Rattle.entry.specs.declared.Stamp.{Stamp}
use Rattle.entry.specs.Refusal.{number, last_number}
use Rattle.entry.specs.Order.{least, stamp_below, key_below}
use Rattle.entry.specs.Entry.{Entry, Acceptable, beats}

-- every refusal has a number from 1 to the last (R7, R168)
abbrev pub NumberRange : Type 0
NumberRange = (r : Refusal) → (0 < number r) × (number r ≤ last_number)

-- a strict total order, of keys and of stamps (R89, R108)
pub record StrictTotal {A : Type 0} (below : A → A → Bool) : Type 0 where
  pub irreflexive : (a : A) → below a a ≡ false
  pub transitive : (a b c : A) → below a b ≡ true → below b c ≡ true → below a c ≡ true
  pub total : (a b : A) → below a b ≡ false → below b a ≡ false → a ≡ b

abbrev pub KeysStrictlyOrdered : Type 0
KeysStrictlyOrdered = StrictTotal key_below

abbrev pub StampsStrictlyOrdered : Type 0
StampsStrictlyOrdered = StrictTotal stamp_below

-- a stamp is below another exactly if its phys is less, or phys is equal and logical is less, or
-- both are equal and node is less (R89)
abbrev pub StampOrderByField : Type 0
StampOrderByField = (s t : Stamp) → stamp_below s t ≡ true
    ↔ (s.phys < t.phys)
    ⊎ ((s.phys ≡ t.phys) × (s.logical < t.logical))
    ⊎ ((s.phys ≡ t.phys) × (s.logical ≡ t.logical) × (s.node < t.node))

-- no stamp is below the least (R90)
abbrev pub LeastIsLeast : Type 0
LeastIsLeast = (s : Stamp) → stamp_below s least ≡ false

-- which of two entries of a key wins is a strict total order: two of which neither beats the other
-- are the same (R256)
pub record EntriesStrictlyOrdered : Type 0 where
  pub irreflexive : (e : Entry) → beats e e ≡ false
  pub transitive : (c d e : Entry) → beats c d ≡ true → beats d e ≡ true → beats c e ≡ true
  pub total : (d e : Entry) → d.key ≡ e.key → beats d e ≡ false → beats e d ≡ false → d ≡ e

-- an entry beats another exactly if its stamp is above, or stamps are equal and its flag is greater,
-- or both are equal and its value is greater by bytes (R256)
abbrev pub EntryOrderByField : Type 0
EntryOrderByField = (e h : Entry) → beats e h ≡ true
    ↔ (stamp_below h.stamp e.stamp ≡ true)
    ⊎ ((e.stamp ≡ h.stamp) × (h.flag < e.flag))
    ⊎ ((e.stamp ≡ h.stamp) × (e.flag ≡ h.flag) × (bytes_below h.value e.value ≡ true))

-- of two acceptable entries with equal stamps one beats the other exactly if it is a tombstone and
-- the other is active, or both are active and its value is greater by bytes (R256)
abbrev pub EqualStamps : Type 0
EqualStamps = (e h : Entry) → Acceptable e → Acceptable h → e.stamp ≡ h.stamp → beats e h ≡ true
    ↔ ((e.flag ≡ 1) × (h.flag ≡ 0))
    ⊎ ((e.flag ≡ 0) × (h.flag ≡ 0) × (bytes_below h.value e.value ≡ true))

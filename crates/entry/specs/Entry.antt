-- An entry, when it is acceptable, and which of two entries of a key wins.
use Rattle.std.specs.Prelude.{ℕ, ◌^◌, Bool, true, false, cond, ◌&&◌, ◌||◌, ◌≡◌, List, length, ltb, leb, eqb}
use Rattle.wire.specs.Order.{bytes_below}
use Rattle.entry.specs.declared.Stamp.{Stamp}
use Rattle.entry.specs.declared.Entry as lent
use Rattle.entry.specs.Key.{bad_key}
use Rattle.entry.specs.Order.{stamp_below}

-- the flag is 0 for an active entry and 1 for a tombstone (R62, R116)
pub record Entry : Type 0 where
  pub key : List ℕ
  pub value : List ℕ
  pub flag : ℕ
  pub stamp : Stamp

abbrev pub entry_of : List ℕ → List ℕ → ℕ → Stamp → Entry
entry_of k v f s = record { key = k; value = v; flag = f; stamp = s }

-- what a lent entry holds
abbrev pub entry_in : lent.Entry → Entry
entry_in e = entry_of e.key.now e.value.now e.flag e.stamp

-- a time that is 2^48 or more (R4, R16, R26)
abbrev pub bad_time : ℕ → Bool
bad_time t = leb (2 ^ 48) t

-- a flag that is neither 0 nor 1, or a tombstone with a value (R27, R62, R63)
unfoldable pub bad_flag : Entry → Bool
bad_flag e = ltb 1 e.flag || (eqb e.flag 1 && ltb 0 (length e.value))

-- the first of an offer's checks 9, 1, 2 and 17 that an entry fails, or 0 if it is acceptable (R9, R35, R116)
unfoldable pub refusal_of : Entry → ℕ
refusal_of e =
    cond (bad_time e.stamp.phys) 9
    (cond (bad_key e.key) 1
    (cond (ltb 512 (length e.value)) 2
    (cond (bad_flag e) 17
    0)))

abbrev pub Acceptable : Entry → Type 0
Acceptable e = refusal_of e ≡ 0

-- the contents of d are below those of e: an active entry's are below a tombstone's, and with one
-- flag the value decides, by bytes (R256)
unfoldable pub content_below : Entry → Entry → Bool
content_below d e =
    cond (ltb d.flag e.flag) true
    (cond (eqb d.flag e.flag) (bytes_below d.value e.value) false)

-- the one definition of which of two entries of a key wins: the one with the greater stamp, and at
-- equal stamps the one with the higher contents (R118, R119, R256)
unfoldable pub beats : Entry → Entry → Bool
beats e h =
    cond (stamp_below h.stamp e.stamp) true
    (cond (stamp_below e.stamp h.stamp) false
    (content_below h e))

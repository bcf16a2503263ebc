-- Nothing comes back: after a purge has removed a tombstone from a store, no write puts a value of
-- its key with a lower stamp there.
use Rattle.std.specs.Prelude.{ℕ, ◌^◌, ◌<◌, ◌≡◌, true, false, List, [], ◌∷◌}
use Rattle.wire.specs.Number.{Bytes}
use Rattle.wire.specs.Fill.{field}
use Rattle.entry.specs.Order.{stamp_below}
use Rattle.entry.specs.Entry.{Entry}
use Rattle.clock.specs.declared.Clock.{Clock}
use Rattle.image.specs.Image.{entries_of}
use Rattle.store.specs.Held.{◌∈◌}
use Rattle.store.specs.Answer.{is_refused}
use Rattle.store.specs.Lookup.{value, lookup_answer}
use Rattle.store.specs.Offer.{after_offer}
use Rattle.store.specs.Merge.{after_merge}
use Rattle.store.specs.Purge.{cleared, purge_answer, after_purge}
use Rattle.store.specs.Meaning.{Representable}
use Rattle.node.specs.Handler.{handled}

-- what may write a store (R263)
pub data Write : Type 0 where
  offer : Entry → Write
  merge : (giver : List ℕ) → Write
  request : Clock → (now : ℕ) (frame reply : List ℕ) → Write
  purge : (line : ℕ) → Write

unfoldable pub after_write : List ℕ → Write → List ℕ
after_write s (offer e) = after_offer s e
after_write s (merge giver) = after_merge s giver
after_write s (request c now frame reply) = (handled s c now frame reply).store
after_write s (purge line) = after_purge s line

unfoldable pub after_writes : List ℕ → List Write → List ℕ
after_writes s [] = s
after_writes s (w ∷ ws) = after_writes (after_write s w) ws

-- what the types let through: entries that `offer` can be given, frames made of bytes, node ids that
-- fit; any bytes are merged, and any line is purged to
abbrev pub CanBeGiven : List Write → Type 0
CanBeGiven [] = Unit
CanBeGiven (offer e ∷ ws) = Representable e × CanBeGiven ws
CanBeGiven (merge giver ∷ ws) = CanBeGiven ws
CanBeGiven (request c now frame reply ∷ ws) = Bytes frame × (c.node < 2 ^ 8) × CanBeGiven ws
CanBeGiven (purge line ∷ ws) = CanBeGiven ws

-- a purge of s to a line removed the tombstone t (R259, R263)
pub record Removed (s : List ℕ) (line : ℕ) (t : Entry) : Type 0 where
  pub accepted : is_refused (purge_answer s line) ≡ false
  pub held : t ∈ entries_of s
  pub gone : cleared line t ≡ true

-- a value that a lookup of a key gives stands in an active held entry of the key, whose stamp is not
-- below that of t, nor that of t again: one with a stamp that was reused does not come back either
-- (R263)
pub record NotBelow (s : List ℕ) (t : Entry) (at len : ℕ) : Type 0 where
  pub entry : Entry
  pub held : entry ∈ entries_of s
  pub same_key : entry.key ≡ t.key
  pub active : entry.flag ≡ 0
  pub is_value : field at len s ≡ entry.value
  pub not_below : stamp_below entry.stamp t.stamp ≡ false
  pub above : stamp_below t.stamp entry.stamp ≡ true

-- for every store, purge, removed tombstone and later writes (R263)
abbrev pub NothingComesBack : Type 0
NothingComesBack = (s : List ℕ) (line : ℕ) (t : Entry) → Removed s line t → (writes : List Write) → CanBeGiven writes
    → (at len : ℕ) → lookup_answer (after_writes (after_purge s line) writes) t.key ≡ value at len
    → NotBelow (after_writes (after_purge s line) writes) t at len

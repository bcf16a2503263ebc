-- A stamp beside that of the held entry of a key.
use Prim.Native.Nat.{ℕ}
use mathlib.Core.Path.{◌≡◌, ap}
use mathlib.Core.Bool.{Bool, true, false, not}
use mathlib.Core.List.{List}
use mathlib.Core.Option.{Option}
use Rattle.entry.specs.declared.Stamp.{Stamp}
use Rattle.entry.specs.Order.{stamp_below}
use Rattle.entry.specs.Entry.{Entry}
use Rattle.image.specs.Image.{slot_entry, stamp_in, entries_of}
use Rattle.image.specs.Slot.{slot_at}
use Rattle.store.specs.Unchecked.{Placed}
use Rattle.store.specs.Overtaken.{overtaken_by, overtaken, overtaken_unchecked, OvertakenOnSound}
use Rattle.store.proofs.Seeking.{seen-find}
use Rattle.store.proofs.OnSound.{ordered}
use Rattle.store.proofs.Ways.{not_seen, is_seen}

module _ (s k : List ℕ) (at : ℕ) (t : Stamp) where
  pub not_held : Placed k (entries_of s) at false → false ≡ overtaken_unchecked s k t
  unfolding overtaken_unchecked overtaken_by
  not_held p = rw (not_seen s k at p)

  pub held_stamp : Placed k (entries_of s) at true → (h : Stamp) (r : Bool) → h ≡ stamp_in (slot_at at s) → r ≡ stamp_below h t
      → not r ≡ overtaken_unchecked s k t
  unfolding overtaken_unchecked overtaken_by slot_entry
  held_stamp p h r e q = rw (is_seen s k at p, q, e)

pub overtaken_on_sound : OvertakenOnSound
unfolding overtaken_unchecked overtaken
overtaken_on_sound s h k t = ap (λ (o : Option Entry). overtaken_by o t) (seen-find k (entries_of s) (ordered s h))

-- The entries that a store holds, in key order, and what offering an entry does to them.
use Rattle.std.specs.Prelude.{Bool, true, false, cond, not, ◌&&◌, ℕ, zero, suc, ltb}
use mathlib.Core.List.{List, [], ◌∷◌, Memᴰ}
use Rattle.std.proofs.Math.Option.{Option, none, some}
use Rattle.wire.specs.Order.{same_bytes}
use Rattle.entry.specs.Order.{key_below}
use Rattle.entry.specs.Entry.{Entry, beats}

infix 40 ◌∈◌
abbrev pub ◌∈◌ : {A : Type 0} → A → List A → Type 0
a ∈ l = Memᴰ a l

-- the entry is put in at its key's place, or replaces the held one of its key if it beats that, or
-- the held one is kept (R117 to R119)
unfoldable pub put : Entry → List Entry → List Entry
put e [] = e ∷ []
put e (h ∷ hs) =
    cond (key_below e.key h.key) (e ∷ h ∷ hs)
    (cond (same_bytes e.key h.key) (cond (beats e h) (e ∷ hs) (h ∷ hs))
    (h ∷ put e hs))

-- each of some entries is offered in turn (R121)
unfoldable pub put_all : List Entry → List Entry → List Entry
put_all [] hs = hs
put_all (e ∷ es) hs = put_all es (put e hs)

-- the held entry of a key (R123)
unfoldable pub find : List ℕ → List Entry → Option Entry
find k [] = none
find k (h ∷ hs) = cond (same_bytes k h.key) (some h) (find k hs)

-- whether there is one
unfoldable pub is_held : Option Entry → Bool
is_held none = false
is_held (some h) = true

-- of an entry and what is held of its key, the one that is held next
unfoldable pub better : Entry → Option Entry → Option Entry
better e none = some e
better e (some h) = cond (beats e h) (some e) (some h)

-- the entry's phys is below the purge line, and its key is not held (R258)
unfoldable pub below_line : ℕ → List Entry → Entry → Bool
below_line line hs e = ltb e.stamp.phys line && not (is_held (find e.key hs))

-- how many entries stand before the first with a key
unfoldable pub index_of : List ℕ → List Entry → ℕ
index_of k [] = zero
index_of k (h ∷ hs) = cond (same_bytes k h.key) zero (suc (index_of k hs))

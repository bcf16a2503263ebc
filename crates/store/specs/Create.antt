-- A new store.
use Rattle.std.specs.Prelude.{ℕ, cond, not, ◌||◌, List, [], length, ltb, eqb}
use Rattle.image.specs.Layout.{most_slots, slot_start}
use Rattle.image.specs.Image.{image}

-- 17 if the slots are not 1 to 100, then 4 if the buffer isn't its exact length (R34, R101, R102)
unfoldable pub create_refusal : List ℕ → ℕ → ℕ
create_refusal buffer slots =
    cond (ltb slots 1 || ltb most_slots slots) 17
    (cond (not (eqb (length buffer) (slot_start slots))) 4
    0)

-- a store of c slots that holds nothing and was never purged (R115, R257)
unfoldable pub fresh_store : ℕ → List ℕ
fresh_store c = image c 0 []

unfoldable pub after_create : List ℕ → ℕ → List ℕ
after_create buffer slots = cond (eqb (create_refusal buffer slots) 0) (fresh_store slots) buffer

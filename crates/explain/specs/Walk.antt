-- What the walks over a readable list see and keep.
use Rattle.std.specs.Prelude.{ℕ, ◌+◌, ◌≡◌, cond, List, length, drop, eqb, Option, None, Some}
use Rattle.entry.specs.declared.Entry as lent_entry
use Rattle.entry.specs.Entry.{Entry, entry_in, beats}
use Rattle.deliveries.specs.declared.Delivery.{Delivery}
use Rattle.deliveries.specs.Cut.{cut_unchecked, delivery_in}
use Rattle.deliveries.specs.List.{deliveries_of}
use Rattle.explain.specs.declared.walk.Best.{Best}
use Rattle.explain.specs.Winner.{is_of, Placed}
use Rattle.explain.specs.Reason.{won, other_key, reason}
use Rattle.explain.specs.Explain.{listed}

-- the deliveries of a readable list
unfoldable pub entries_in : List ℕ → List Entry
entries_in list = listed (deliveries_of list)

abbrev pub Readable : List ℕ → Type 0
Readable list = deliveries_of list ≡ Some (entries_in list)

-- what a lent entry holds, if one is lent
abbrev pub lent : Option lent_entry.Entry → Option Entry
lent None = None
lent (Some e) = Some (entry_in e)

-- a delivery, if it is of the key
abbrev pub if_of : List ℕ → Option Entry → Option Entry
if_of k None = None
if_of k (Some d) = cond (is_of k d) (Some d) None

-- what is seen of the delivery at an offset, whatever the bytes are
unfoldable pub seen : List ℕ → ℕ → List ℕ → Option Entry
seen list at k = if_of k (delivery_in (drop at list) (cut_unchecked (drop at list)))

-- where the next one begins
abbrev pub end_in : List ℕ → ℕ → Option Delivery → ℕ
end_in list at None = length list
end_in list at (Some d) = at + d.end

unfoldable pub behind : List ℕ → ℕ → ℕ
behind list at = end_in list at (cut_unchecked (drop at list))

-- the best delivery so far, with its place
abbrev pub placed : Option Best → Option Placed
placed None = None
placed (Some b) = Some (record { place = b.place; entry = entry_in b.entry })

-- after what was seen at place i: a delivery of the key is the best so far if it is the first of it
-- or beats the best before
abbrev pub best_with : Option Placed → ℕ → Option Entry → Option Placed
best_with o i None = o
best_with None i (Some d) = Some (record { place = i; entry = d })
best_with (Some w) i (Some d) = cond (beats d w.entry) (Some (record { place = i; entry = d })) (Some w)

-- the byte of what was seen at place i
abbrev pub byte_by : Option Placed → ℕ → Option Entry → ℕ
byte_by o i None = other_key
byte_by None i (Some d) = other_key
byte_by (Some w) i (Some d) = cond (eqb i w.place) won (reason w.entry d)

-- Why a delivery lost, and the byte that says so.
use Rattle.std.specs.Prelude.{ℕ, suc, cond, not, List, [], ◌∷◌, length, replicate, eqb, Option, None, Some}
use Rattle.entry.specs.Entry.{Entry, content_below}
use Rattle.explain.specs.declared.walk.Reason.{Reason}
use Rattle.explain.specs.declared.walk.Reason.TheVariants as why
use Rattle.explain.specs.Winner.{is_of, Placed}

-- the bytes (R250)
abbrev pub won : ℕ
won = 0

abbrev pub earlier_time : ℕ
earlier_time = 1

abbrev pub lower_count : ℕ
lower_count = 2

abbrev pub lower_node : ℕ
lower_node = 3

abbrev pub same_entry : ℕ
same_entry = 4

abbrev pub other_key : ℕ
other_key = 5

abbrev pub lower_content : ℕ
lower_content = 6

-- the byte of each reason (R199, R250)
abbrev pub byte : Reason → ℕ
byte why.Won = won
byte why.EarlierTime = earlier_time
byte why.LowerCount = lower_count
byte why.LowerNode = lower_node
byte why.SameEntry = same_entry
byte why.OtherKey = other_key
byte why.LowerContent = lower_content

-- why the delivery d lost to the winner w: the first field of the stamp in which they differ, or,
-- at equal stamps, lower contents; or it is the winner's entry again (R249, R256)
unfoldable pub reason : Entry → Entry → ℕ
reason w d =
    cond (not (eqb d.stamp.phys w.stamp.phys)) earlier_time
    (cond (not (eqb d.stamp.logical w.stamp.logical)) lower_count
    (cond (not (eqb d.stamp.node w.stamp.node)) lower_node
    (cond (content_below d w) lower_content
    same_entry)))

-- the byte of the delivery d at place i, where w won (R250)
unfoldable pub byte_of : List ℕ → Placed → ℕ → Entry → ℕ
byte_of k w i d =
    cond (not (is_of k d)) other_key
    (cond (eqb i w.place) won
    (reason w.entry d))

-- of each of some deliveries, from place i on
unfoldable pub bytes_from : List ℕ → Placed → ℕ → List Entry → List ℕ
bytes_from k w i [] = []
bytes_from k w i (d ∷ ds) = byte_of k w i d ∷ bytes_from k w (suc i) ds

-- one byte for each delivery; all are of other keys where none won (R250)
abbrev pub reasons_for : List ℕ → List Entry → Option Placed → List ℕ
reasons_for k es None = replicate (length es) other_key
reasons_for k es (Some w) = bytes_from k w 0 es

-- What an auditor would ask of lists of deliveries.
use Rattle.std.specs.Prelude.{ℕ, ◌+◌, ◌≤◌, ◌≡◌, ◌↔◌, List, [], ◌∷◌, ◌++◌, length}
use Rattle.std.specs.Prelude.{Some}
use Rattle.entry.specs.Entry.{Entry, Acceptable}
use Rattle.frame.specs.Message.{repl, InRange}
use Rattle.frame.specs.Layout.{frame_of}
use Rattle.frame.specs.Reading.{message, read_frame}
use Rattle.deliveries.specs.declared.Delivery.{Delivery}
use Rattle.deliveries.specs.Cut.{first_length, cut_unchecked, delivery_in}
use Rattle.deliveries.specs.List.{first_entry, deliveries_of, deliveries, refused, count_answer}

-- ---- which lists are readable
-- frames one behind the other
unfoldable pub end_to_end : List (List ℕ) → List ℕ
end_to_end [] = []
end_to_end (f ∷ fs) = f ++ end_to_end fs

-- each of some frames reads as a REPL, and these are their entries
abbrev pub Read : List (List ℕ) → List Entry → Type 0
Read [] [] = Unit {0}
Read [] (e ∷ es) = ⊥
Read (f ∷ fs) [] = ⊥
Read (f ∷ fs) (e ∷ es) = (read_frame f ≡ message (repl e)) × Read fs es

-- the bytes are at most 1,000 such frames, one behind the other
pub record ReadableAs (es : List Entry) (s : List ℕ) : Type 0 where
  pub frames : List (List ℕ)
  pub bytes : s ≡ end_to_end frames
  pub read : Read frames es
  pub most : length es ≤ 1000

-- a list is readable exactly if it is made of such frames (R246)
abbrev pub ReadableExactly : Type 0
ReadableExactly = (s : List ℕ) (es : List Entry) → deliveries_of s ≡ Some es ↔ ReadableAs es s

-- so many deliveries are counted, and a list that is not readable is refused (R247)
pub record CountedExactly (s : List ℕ) : Type 0 where
  pub readable : (n : ℕ) → count_answer s ≡ deliveries n ↔ ((es : List Entry) × ReadableAs es s × (length es ≡ n))
  pub other : (n : ℕ) → count_answer s ≡ refused n ↔ ((n ≡ 17) × ((es : List Entry) → ReadableAs es s → ⊥))

abbrev pub CountExactly : Type 0
CountExactly = (s : List ℕ) → CountedExactly s

-- ---- what is written reads back
abbrev pub AllTaken : List Entry → Type 0
AllTaken [] = Unit {0}
AllTaken (e ∷ es) = Acceptable e × InRange (repl e) × AllTaken es

-- the REPL frames of some entries
unfoldable pub frames_of : List Entry → List (List ℕ)
frames_of [] = []
frames_of (e ∷ es) = frame_of (repl e) ∷ frames_of es

abbrev pub DeliveriesReadBack : Type 0
DeliveriesReadBack = (es : List Entry) → AllTaken es → length es ≤ 1000 → deliveries_of (end_to_end (frames_of es)) ≡ Some es

-- ---- the delivery at the front, with no test of its checksum
-- of a list that begins with a readable delivery it is that one (R198)
abbrev pub UncheckedIsFirst : Type 0
UncheckedIsFirst = (s : List ℕ) (e : Entry) → first_entry s ≡ Some e → delivery_in s (cut_unchecked s) ≡ Some e

-- and what it answers lies within the bytes, whatever they are (R198)
abbrev pub UncheckedLiesIn : Type 0
UncheckedLiesIn = (s : List ℕ) (d : Delivery) → cut_unchecked s ≡ Some d
    → (d.entry.key.at + d.entry.key.len ≤ d.end) × (d.entry.value.at + d.entry.value.len ≤ d.end) × (d.end ≡ first_length s) × (d.end ≤ length s)

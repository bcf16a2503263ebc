-- What a sound store is, and what is read back from an image.
use Rattle.std.specs.Prelude.{ℕ, ◌^◌, ◌≤◌, ◌<◌, ◌≡◌, true, List, [], ◌∷◌, length}
use Rattle.entry.specs.Entry.{Entry}
use Rattle.image.specs.Layout.{key_width, value_width, most_slots}
use Rattle.image.specs.Image.{image, slots_of, used_of, line_of, entries_of, all_acceptable, ascending, sound}

-- an entry whose parts fit the fields of a slot
pub record Fit (e : Entry) : Type 0 where
  pub key : length e.key ≤ key_width
  pub value : length e.value ≤ value_width
  pub flag : e.flag < 2 ^ 8
  pub phys : e.stamp.phys < 2 ^ 48
  pub logical : e.stamp.logical < 2 ^ 16
  pub node : e.stamp.node < 2 ^ 8

abbrev pub AllFit : List Entry → Type 0
AllFit [] = Unit {0}
AllFit (e ∷ es) = Fit e × AllFit es

-- what a store is that passes the test of soundness (R114)
pub record Sound (s : List ℕ) : Type 0 where
  pub some : 1 ≤ slots_of s
  pub most : slots_of s ≤ most_slots
  pub room : used_of s ≤ slots_of s
  pub each : all_acceptable (entries_of s) ≡ true
  pub order : ascending (entries_of s) ≡ true
  pub bytes : s ≡ image (slots_of s) (line_of s) (entries_of s)

abbrev pub SoundIs : Type 0
SoundIs = (s : List ℕ) → sound s ≡ true → Sound s

-- the image of acceptable entries in key order that fit its slots is sound, with any line (R114, R257)
abbrev pub SoundImage : Type 0
SoundImage = (c line : ℕ) (es : List Entry) → 1 ≤ c → c ≤ most_slots → line < 2 ^ 48 → length es ≤ c → AllFit es
    → all_acceptable es ≡ true → ascending es ≡ true → sound (image c line es) ≡ true

-- the entries of an image are read back from it (R193)
abbrev pub EntriesOfImage : Type 0
EntriesOfImage = (c line : ℕ) (es : List Entry) → AllFit es → length es < 2 ^ 16 → entries_of (image c line es) ≡ es

-- and so is its line (R257)
abbrev pub LineOfImage : Type 0
LineOfImage = (c line : ℕ) (es : List Entry) → line < 2 ^ 48 → line_of (image c line es) ≡ line

-- the line of a sound store is a time (R4, R257)
abbrev pub LineIsTime : Type 0
LineIsTime = (s : List ℕ) → sound s ≡ true → line_of s < 2 ^ 48

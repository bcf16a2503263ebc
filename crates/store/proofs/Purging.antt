-- The entries that stay when old tombstones are cleared, and a loop that clears them from the last.
use Prim.Native.Nat.{ℕ, zero, suc, ◌+◌, ◌-◌, ◌≤◌, ◌<◌}
use native.Mathlib.Omega.{arith}
use mathlib.Core.Path.{◌≡◌, refl, sym, ap, ap₂, ◌∙◌}
use mathlib.Core.Logic.{inl, inr}
use mathlib.Core.Bool.{true, false}
use mathlib.Core.List.{List, [], ◌∷◌, ◌++◌, append-nil}
use mathlib.Core.List.Memᴰ.{cases_cons as mem-cons}
use mathlib.Core.List.Memᴰ.{head}
use mathlib.Core.List.Memᴰ.{not-nil as mem-nil}
use mathlib.Core.List.Memᴰ.{tail}
use lib.ListN.{length, take, drop, get_or, length-append, length-drop, drop_of_length-le}
use lib.Seq.{length-take-le, append_snoc, take_at, drop_at, take_all}
use lib.Dec.{ltb}
use borrow.Author.Tests.{eq-eqb, ne_eqb}
use Rattle.wire.proofs.Tests.{test}
use Rattle.entry.specs.declared.Stamp.{Stamp}
use Rattle.entry.specs.Entry.{Entry}
use Rattle.image.specs.Layout.{slot_start}
use Rattle.image.specs.Image.{image, flag_in, stamp_in, slot_entry, slots_of, used_of, line_of, entries_of, sound}
use Rattle.image.specs.Slot.{slot_at}
use Rattle.image.specs.Meaning.{Sound}
use Rattle.image.proofs.ImageLaws.{sound_is, sound-length, entry_at, used_is}
use Rattle.store.specs.Held.{◌∈◌}
use Rattle.store.specs.Meaning.{Keeps}
use Rattle.store.specs.Purge.{cleared, remaining, removed, remove_at}
use Rattle.store.proofs.HeldLaws.{Above, Ascending}
use Rattle.store.proofs.Closing.{removed-image}
use Rattle.store.proofs.OnSound.{ordered, held_fits, image_keeps, fits_held, accepts_held}

-- ---- whether a slot is cleared, by its flag and its stamp
module _ (line : ℕ) (t : List ℕ) (flag : ℕ) (fe : flag ≡ flag_in t) where
  pub slot_active : (flag ≡ 1 → ⊥) → false ≡ cleared line (slot_entry t)
  unfolding cleared slot_entry
  slot_active f = sym (rw (ne_eqb (flag_in t) 1 (λ x. f (fe ∙ x))))

  pub slot_deleted : flag ≡ 1 → (m : Stamp) → m ≡ stamp_in t → ltb m.phys line ≡ cleared line (slot_entry t)
  unfolding cleared slot_entry
  slot_deleted f m me = ap (λ (x : Stamp). ltb x.phys line) me ∙ sym (rw (eq-eqb (flag_in t) 1 (sym fe ∙ f)))

module _ (line : ℕ) where
  -- ---- which entries stay
  pub mem-remaining : (es : List Entry) {d : Entry} → d ∈ remaining line es → (d ∈ es) × (cleared line d ≡ false)
  unfolding remaining
  mem-remaining [] m = absurd (mem-nil m)
  mem-remaining (e ∷ es) {d} m = elim (test (cleared line e)) [
    | inl p ↦ let r = mem-remaining es (rw p at m) in (tail r.0, r.1)
    | inr p ↦ elim (mem-cons (rw p at m)) [
      | inl q ↦ (head q, rw q p)
      | inr q ↦ let r = mem-remaining es q in (tail r.0, r.1)
    ]
  ]

  pub remaining-mem : (es : List Entry) {d : Entry} → d ∈ es → cleared line d ≡ false → d ∈ remaining line es
  unfolding remaining
  remaining-mem [] m h = absurd (mem-nil m)
  remaining-mem (e ∷ es) {d} m h = elim (mem-cons m) [
    | inl q ↦ rw (sym (ap (cleared line) q) ∙ h) (head q)
    | inr q ↦ elim (test (cleared line e)) [
      | inl p ↦ rw p (remaining-mem es q h)
      | inr p ↦ rw p (tail (remaining-mem es q h))
    ]
  ]

  pub remaining_above : (k : List ℕ) (es : List Entry) → Above k es → Above k (remaining line es)
  remaining_above k es a d m = a d (mem-remaining es m).0

  pub remaining-ascending : (es : List Entry) → Ascending es → Ascending (remaining line es)
  unfolding remaining
  remaining-ascending [] a = tt
  remaining-ascending (e ∷ es) a = elim (test (cleared line e)) [
    | inl p ↦ rw p (remaining-ascending es a.1)
    | inr p ↦ rw p (remaining_above e.key es a.0, remaining-ascending es a.1)
  ]

  -- ---- how many
  pub remaining-length : (es : List Entry) → length (remaining line es) + removed line es ≡ length es
  unfolding remaining removed
  remaining-length [] = refl
  remaining-length (e ∷ es) = elim (test (cleared line e)) [
    | inl p ↦ rw p (omega (arith, remaining-length es))
    | inr p ↦ rw p (omega (arith, remaining-length es))
  ]

  -- ---- a second time
  pub remaining_again : (es : List Entry) → remaining line (remaining line es) ≡ remaining line es
  unfolding remaining
  remaining_again [] = refl
  remaining_again (e ∷ es) = elim (test (cleared line e)) [
    | inl p ↦ rw p (remaining_again es)
    | inr p ↦ rw (p, p) (ap (λ (l : List Entry). e ∷ l) (remaining_again es))
  ]

  pub removed_again : (es : List Entry) → removed line (remaining line es) ≡ 0
  unfolding remaining removed
  removed_again [] = refl
  removed_again (e ∷ es) = elim (test (cleared line e)) [
    | inl p ↦ rw p (removed_again es)
    | inr p ↦ rw (p, p) (removed_again es)
  ]

  -- ---- a loop that clears from the last entry down: at i, those from i on have been
  abbrev pub clearing : ℕ → List Entry → List Entry
  clearing i es = take i es ++ remaining line (drop i es)

  mem_clearing : (i : ℕ) (es : List Entry) {d : Entry} → d ∈ clearing i es → d ∈ es
  mem_clearing zero es m = (mem-remaining es m).0
  mem_clearing (suc i) [] m = (mem-remaining [] m).0
  mem_clearing (suc i) (e ∷ es) m = elim (mem-cons m) [ inl q ↦ head q | inr q ↦ tail (mem_clearing i es q) ]

  clearing_ascending : (i : ℕ) (es : List Entry) → Ascending es → Ascending (clearing i es)
  clearing_ascending zero es a = remaining-ascending es a
  clearing_ascending (suc i) [] a = remaining-ascending [] a
  clearing_ascending (suc i) (e ∷ es) a = (λ d m. a.0 d (mem_clearing i es m), clearing_ascending i es a.1)

  clearing_length : (i : ℕ) (es : List Entry) → length (clearing i es) ≤ length es
  clearing_length zero es = omega (arith, remaining-length es)
  clearing_length (suc i) [] = omega (arith, remaining-length [])
  clearing_length (suc i) (e ∷ es) = omega (arith, clearing_length i es)

  -- the store meanwhile
  clearing_keeps : (i : ℕ) (s : List ℕ) → sound s ≡ true → Keeps s (clearing i (entries_of s)) (image (slots_of s) (line_of s) (clearing i (entries_of s)))
  clearing_keeps i s h =
      let es = entries_of s in
      image_keeps s (clearing i es) h (omega (arith, clearing_length i es, held_fits s h)) (λ d m. fits_held s h d (mem_clearing i es m))
      (λ d m. accepts_held s h d (mem_clearing i es m)) (clearing_ascending i es (ordered s h))

-- ---- a turn of that loop, at slot j
take_next : (j : ℕ) (es : List Entry) (e : Entry) → drop j es ≡ e ∷ drop (suc j) es → take (suc j) es ≡ take j es ++ (e ∷ [])
take_next zero [] e p = p
take_next zero (h ∷ es) e p = ap (take 1) p
take_next (suc j) [] e p = p
take_next (suc j) (h ∷ es) e p = ap (λ (l : List Entry). h ∷ l) (take_next j es e p)

module _ (line : ℕ) (s : List ℕ) (h : sound s ≡ true) (j : ℕ) (lt : j < used_of s) where
  abbrev es : List Entry
  es = entries_of s

  -- the slot's entry, and those that stay of the ones after it
  abbrev here : Entry
  here = slot_entry (slot_at j s)

  abbrev rest : List Entry
  rest = remaining line (drop (suc j) es)

  split : drop j es ≡ here ∷ drop (suc j) es
  split = entry_at j s lt

  length_before : length (take j es) ≡ j
  length_before = length-take-le j es (omega (arith, used_is s))

  clearing_next : clearing line (suc j) es ≡ take j es ++ (here ∷ rest)
  clearing_next = ap (λ (l : List Entry). l ++ rest) (take_next j es here split) ∙ append_snoc (take j es) here rest

  clearing_gone : cleared line here ≡ true → clearing line j es ≡ take j es ++ rest
  unfolding remaining
  clearing_gone c = rw (split, c)

  clearing_kept : cleared line here ≡ false → clearing line j es ≡ take j es ++ (here ∷ rest)
  unfolding remaining
  clearing_kept c = rw (split, c)

  module _ (t : List ℕ) (is : t ≡ image (slots_of s) (line_of s) (clearing line (suc j) es)) where
    keeps : Keeps s (clearing line (suc j) es) t
    keeps = rw is (clearing_keeps line (suc j) s h)

    sound-then : Sound t
    sound-then = sound_is t keeps.sound

    holds : entries_of t ≡ take j es ++ (here ∷ rest)
    holds = keeps.holds ∙ clearing_next

    used : j < used_of t
    used = omega (arith, used_is t, ap length holds ∙ length-append (take j es) (here ∷ rest), length_before)

    slot_fits : (j < used_of t) × (slot_start (used_of t) ≤ length t)
    slot_fits = (used, omega (arith, sound-length t sound-then, sound-then.room))

    from_slot : slot_entry (slot_at j t) ∷ drop (suc j) (entries_of t) ≡ here ∷ rest
    from_slot = sym (entry_at j t used) ∙ ap (drop j) holds ∙ drop_at (take j es) (here ∷ rest) j length_before

    -- no slot before it has changed
    same_entry_lem : slot_entry (slot_at j t) ≡ here
    same_entry_lem = ap (λ (l : List Entry). get_or l 0 here) from_slot

    slot_removed : cleared line (slot_entry (slot_at j t)) ≡ true → (remove_at j t ≡ image (slots_of s) (line_of s) (clearing line j es))
        × (removed line (drop j es) ≡ suc (removed line (drop (suc j) es)))
    unfolding removed
    slot_removed c =
        let d : cleared line here ≡ true = sym (ap (cleared line) same_entry_lem) ∙ c in
        let a : take j (entries_of t) ≡ take j es = ap (take j) holds ∙ take_at (take j es) (here ∷ rest) j length_before in
        let b : drop (suc j) (entries_of t) ≡ rest = ap (drop 1) from_slot in
        let l : take j (entries_of t) ++ drop (suc j) (entries_of t) ≡ clearing line j es = ap₂ (λ (x y : List Entry). x ++ y) a b ∙ sym (clearing_gone d) in
        let f = ap₂ (λ (n m : ℕ). image n m (take j (entries_of t) ++ drop (suc j) (entries_of t))) keeps.slots keeps.line in
        (removed-image t sound-then j used ∙ f ∙ ap (image (slots_of s) (line_of s)) l, rw (split, d))

    slot_stays : cleared line (slot_entry (slot_at j t)) ≡ false → (t ≡ image (slots_of s) (line_of s) (clearing line j es))
        × (removed line (drop j es) ≡ removed line (drop (suc j) es))
    unfolding removed
    slot_stays c =
        let d : cleared line here ≡ false = sym (ap (cleared line) same_entry_lem) ∙ c in
        (is ∙ ap (image (slots_of s) (line_of s)) (clearing_next ∙ sym (clearing_kept d)), rw (split, d))

-- what holds at i, where t is the store and n slots have been removed from s
pub record Clearing (line : ℕ) (s t : List ℕ) (n i : ℕ) : Type 0 where
  pub bytes : t ≡ image (slots_of s) (line_of s) (clearing line i (entries_of s))
  pub told : n ≡ removed line (drop i (entries_of s))
  pub within : i ≤ used_of s
  pub long : length t ≡ length s

pub clear_start : (line : ℕ) (s : List ℕ) (u : ℕ) → sound s ≡ true → u ≡ used_of s → Clearing line s s 0 u
unfolding remaining removed
clear_start line s u h e =
    let es = entries_of s in
    let d : drop u es ≡ [] = drop_of_length-le es {i = u} (omega (arith, used_is s)) in
    let a : clearing line u es ≡ es = ap₂ (λ (x y : List Entry). x ++ remaining line y) (take_all u es (omega (arith, used_is s))) d ∙ append-nil es in
    record { bytes = (sound_is s h).bytes ∙ ap (image (slots_of s) (line_of s)) (sym a); told = sym (ap (removed line) d); within = omega arith; long = refl }

module _ {line : ℕ} {s t : List ℕ} {n i : ℕ} (k : Clearing line s t n i) where
  -- a turn removes one at most
  pub clear_few : n + i ≤ used_of s
  clear_few = omega (arith, k.told, k.within, remaining-length line (drop i (entries_of s)), length-drop i (entries_of s), used_is s)

  module _ (h : sound s ≡ true) (more : 0 < i) where
    at_last : suc (i - 1) ≡ i
    at_last = omega arith

    in_use : i - 1 < used_of s
    in_use = omega (arith, k.within)

    bytes_then : t ≡ image (slots_of s) (line_of s) (clearing line (suc (i - 1)) (entries_of s))
    bytes_then = k.bytes ∙ ap (λ (m : ℕ). image (slots_of s) (line_of s) (clearing line m (entries_of s))) (sym at_last)

    told-then : n ≡ removed line (drop (suc (i - 1)) (entries_of s))
    told-then = k.told ∙ ap (λ (m : ℕ). removed line (drop m (entries_of s))) (sym at_last)

    pub clear_fits : (i - 1 < used_of t) × (slot_start (used_of t) ≤ length t)
    clear_fits = slot_fits line s h (i - 1) in_use t bytes_then

    pub clear_gone : cleared line (slot_entry (slot_at (i - 1) t)) ≡ true → (u : List ℕ) → u ≡ remove_at (i - 1) t → length u ≡ length t
        → Clearing line s u (n + 1) (i - 1)
    clear_gone c u ue l =
        let r = slot_removed line s h (i - 1) in_use t bytes_then c in
        record { bytes = ue ∙ r.0; told = omega (arith, told-then, r.1); within = omega (arith, k.within); long = l ∙ k.long }

    pub clear_stays : cleared line (slot_entry (slot_at (i - 1) t)) ≡ false → Clearing line s t n (i - 1)
    clear_stays c =
        let r = slot_stays line s h (i - 1) in_use t bytes_then c in
        record { bytes = r.0; told = told-then ∙ sym r.1; within = omega (arith, k.within); long = k.long }

-- The image: its length, what is read back from it, and what a sound store is.
use mathlib.Core.Path.{◌≡◌, refl, sym, ap, ap₂, ◌∙◌}
use Prim.Native.Nat.{ℕ, zero, suc, ◌+◌, ◌-◌, ◌*◌, ◌≤◌, ◌<◌}
use mathlib.Core.List.{List, [], ◌∷◌, ◌++◌, append_assoc}
use mathlib.Core.Bool.{true}
use native.Mathlib.Omega.{arith}
use native.Mathlib.Nat.{le_of_suc-le-suc, not-suc-le-zero}
use lib.ListN.{length, take, drop, length-append}
use lib.Seq.{take_at, drop_at, drop-drop}
use borrow.Author.Tests.{eqb-true, eq-eqb, leb-true, le-leb}
use Rattle.wire.specs.Number.{be, num}
use Rattle.wire.specs.Fill.{zeros, field}
use Rattle.wire.proofs.Tests.{and-true}
use Rattle.wire.proofs.Number.{length-be, num-be, num-be-lt}
use Rattle.wire.proofs.Fill.{length-zeros, field_here, field_past}
use Rattle.wire.proofs.Order.{same_bytes_eq, same_bytes_refl}
use Rattle.entry.specs.Entry.{Entry}
use Rattle.image.specs.Layout.{line_at, header_width, slot_width, most_slots, slot_start}
use Rattle.image.specs.Image.{slot_bytes, slots, header, image, slot_entry, entries_in, slots_of, used_of, line_of, entries_of, acceptable, all_acceptable}
use Rattle.image.specs.Image.{sound}
use Rattle.image.specs.Slot.{slot_at, header_with}
use Rattle.image.specs.Meaning.{AllFit, Sound, SoundIs, SoundImage, EntriesOfImage, LineOfImage, LineIsTime}
use Rattle.image.proofs.SlotLaws.{length_slot, slot_entry_lem, fit_of}

pub length-slots : (es : List Entry) → length (slots es) ≡ slot_width * length es
unfolding slots
length-slots [] = refl
length-slots (e ∷ es) = length-append (slot_bytes e) (slots es) ∙ omega (arith, length_slot e, length-slots es)

pub slots-append : (xs ys : List Entry) → slots (xs ++ ys) ≡ slots xs ++ slots ys
unfolding slots
slots-append [] ys = refl
slots-append (e ∷ xs) ys = ap (λ (r : List ℕ). slot_bytes e ++ r) (slots-append xs ys) ∙ sym (append_assoc (slot_bytes e) (slots xs) (slots ys))

pub length-header : (c u line : ℕ) → length (header c u line) ≡ header_width
unfolding header
length-header c u line = simp (length-append, length-be, length-zeros)

-- a header written over its bytes
pub header_with_lem : (c u line : ℕ) (s : List ℕ) → length s ≡ header_width → header_with c u line s ≡ header c u line
unfolding header_with
header_with_lem c u line s h = rw (eq-eqb (length s) header_width h)

pub length-image : (c line : ℕ) (es : List Entry) → length es ≤ c → length (image c line es) ≡ slot_start c
unfolding image
length-image c line es h = simp (length-append, length-header, length-slots, length-zeros) (omega arith)

-- bracketed to the right
pub flat_header : (c u line : ℕ) (r : List ℕ)
    → header c u line ++ r ≡ be 2 c ++ (be 2 u ++ (be 2 slot_width ++ (be 2 header_width ++ (be 6 line ++ (zeros 2 ++ r)))))
unfolding header
flat_header c u line r = simp append_assoc

pub flat_image : (c line : ℕ) (es : List Entry) → image c line es ≡ header c (length es) line ++ (slots es ++ zeros (slot_width * (c - length es)))
unfolding image
flat_image c line es = simp append_assoc

-- ---- what is read back
pub slots_of_image : (c line : ℕ) (es : List Entry) → c < 65536 → slots_of (image c line es) ≡ c
unfolding slots_of
slots_of_image c line es h = rw (flat_image, flat_header, field_here 2 (be 2 c) _ (length-be 2 c)) (num-be 2 c h)

pub used_of_image : (c line : ℕ) (es : List Entry) → length es < 65536 → used_of (image c line es) ≡ length es
unfolding used_of
used_of_image c line es h =
    rw (flat_image, flat_header, field_past 2 0 2 (be 2 c) _ (length-be 2 c), field_here 2 (be 2 (length es)) _ (length-be 2 _)) (num-be 2 (length es) h)

-- the line stands behind four numbers of two bytes
past_numbers : (c u line at w : ℕ) (r : List ℕ) → field (8 + at) w (header c u line ++ r) ≡ field at w (be 6 line ++ (zeros 2 ++ r))
past_numbers c u line at w r =
    let n : 8 + at ≡ 2 + (2 + (2 + (2 + at))) = omega arith in
    ap₂ (λ (k : ℕ) (l : List ℕ). field k w l) n (flat_header c u line r)
    ∙ field_past 2 _ w (be 2 c) _ (length-be 2 _) ∙ field_past 2 _ w (be 2 u) _ (length-be 2 _)
    ∙ field_past 2 _ w (be 2 slot_width) _ (length-be 2 _) ∙ field_past 2 at w (be 2 header_width) _ (length-be 2 _)

line-field : (c line : ℕ) (es : List Entry) → field line_at 6 (image c line es) ≡ be 6 line
line-field c line es =
    ap (field line_at 6) (flat_image c line es) ∙ past_numbers c (length es) line 0 6 _ ∙ field_here 6 (be 6 line) _ (length-be 6 line)

pub line_of_image : LineOfImage
unfolding line_of
line_of_image c line es h = ap num (line-field c line es) ∙ num-be 6 line h

module _ (e : Entry) (es : List Entry) (r : List ℕ) where
  pub first_slot : take slot_width (slots (e ∷ es) ++ r) ≡ slot_bytes e
  unfolding slots
  first_slot = ap (take slot_width) (append_assoc (slot_bytes e) (slots es) r) ∙ take_at (slot_bytes e) (slots es ++ r) slot_width (length_slot e)

  pub other_slots : drop slot_width (slots (e ∷ es) ++ r) ≡ slots es ++ r
  unfolding slots
  other_slots = ap (drop slot_width) (append_assoc (slot_bytes e) (slots es) r) ∙ drop_at (slot_bytes e) (slots es ++ r) slot_width (length_slot e)

entries_in_lem : (es : List Entry) (r : List ℕ) → AllFit es → entries_in (length es) (slots es ++ r) ≡ es
unfolding entries_in
entries_in_lem [] r f = refl
entries_in_lem (e ∷ es) r f =
    ap₂ (λ (a b : List ℕ). slot_entry a ∷ entries_in (length es) b) (first_slot e es r) (other_slots e es r)
    ∙ ap₂ (λ (x : Entry) (xs : List Entry). x ∷ xs) (slot_entry_lem e f.0) (entries_in_lem es r f.1)

pub entries_of_image : EntriesOfImage
unfolding entries_of
entries_of_image c line es f h =
    ap₂ entries_in (used_of_image c line es h)
    (ap (drop header_width) (flat_image c line es) ∙ drop_at (header c (length es) line) _ header_width (length-header c (length es) line))
    ∙ entries_in_lem es _ f

-- ---- the used slots of any bytes
pub length_entries_in : (n : ℕ) (s : List ℕ) → length (entries_in n s) ≡ n
unfolding entries_in
length_entries_in zero s = refl
length_entries_in (suc n) s = ap suc (length_entries_in n (drop slot_width s))

pub used_is : (s : List ℕ) → length (entries_of s) ≡ used_of s
unfolding entries_of
used_is s = length_entries_in (used_of s) (drop header_width s)

pub next_slot : (i : ℕ) → slot_width + slot_width * i ≡ slot_width * suc i
next_slot i = omega arith

entry_in_lem : (i n : ℕ) (t : List ℕ) → i < n → drop i (entries_in n t) ≡ slot_entry (field (slot_width * i) slot_width t) ∷ drop (suc i) (entries_in n t)
unfolding entries_in field
entry_in_lem i zero t h = absurd (not-suc-le-zero h)
entry_in_lem zero (suc n) t h = refl
entry_in_lem (suc i) (suc n) t h =
    entry_in_lem i n (drop slot_width t) (le_of_suc-le-suc h)
    ∙ ap (λ (l : List ℕ). slot_entry (take slot_width l) ∷ drop (suc i) (entries_in n (drop slot_width t)))
    (drop-drop (slot_width * i) slot_width t ∙ ap (λ (m : ℕ). drop m t) (next_slot i))

-- entry i is that of slot i
pub entry_at : (i : ℕ) (s : List ℕ) → i < used_of s → drop i (entries_of s) ≡ slot_entry (slot_at i s) ∷ drop (suc i) (entries_of s)
unfolding entries_of slot_at field
entry_at i s h =
    entry_in_lem i (used_of s) (drop header_width s) h
    ∙ ap (λ (l : List ℕ). slot_entry (take slot_width l) ∷ drop (suc i) (entries_in (used_of s) (drop header_width s))) (drop-drop
    (slot_width * i) header_width s)

-- ---- a sound store
pub sound_is : SoundIs
unfolding sound
sound_is s h =
    let t5 = and-true _ _ h in
    let t4 = and-true _ _ t5.0 in
    let t3 = and-true _ _ t4.0 in
    let t2 = and-true _ _ t3.0 in
    let t1 = and-true _ _ t2.0 in
    record {
      some = leb-true _ _ t1.0;
      most = leb-true _ _ t1.1;
      room = leb-true _ _ t2.1;
      each = t3.1;
      order = t4.1;
      bytes = same_bytes_eq _ _ t5.1;
    }

pub is_sound : (s : List ℕ) → Sound s → sound s ≡ true
unfolding sound
is_sound s k = rw (le-leb _ _ k.some, le-leb _ _ k.most, le-leb _ _ k.room, k.each, k.order, ← k.bytes) (same_bytes_refl s)

pub sound-image : SoundImage
unfolding sound
sound-image c line es lo hi time room f each order =
    rw (
      slots_of_image c line es (omega arith),
      used_of_image c line es (omega arith),
      line_of_image c line es time,
      entries_of_image c line es f (omega arith),
      le-leb 1 c lo,
      le-leb c most_slots hi,
      le-leb (length es) c room,
      each,
      order,
      same_bytes_refl (image c line es),
    )

-- past the header of a sound store
pub past_header : (s : List ℕ) → Sound s → drop header_width s ≡ slots (entries_of s) ++ zeros (slot_width * (slots_of s - length (entries_of s)))
past_header s k =
    ap (drop header_width) (k.bytes ∙ flat_image (slots_of s) (line_of s) (entries_of s))
    ∙ drop_at (header (slots_of s) (length (entries_of s)) (line_of s)) _ header_width (length-header (slots_of s) (length (entries_of s)) (line_of s))

heads : (a b : Entry) (r s : List Entry) → a ∷ r ≡ b ∷ s → (a ≡ b) × (r ≡ s)
heads a b r s h = (cc, cc)

fits_in : (es : List Entry) (r : List ℕ) → all_acceptable es ≡ true → entries_in (length es) (slots es ++ r) ≡ es → AllFit es
unfolding entries_in all_acceptable acceptable
fits_in [] r a h = tt
fits_in (e ∷ es) r a h =
    let t = and-true (acceptable e) (all_acceptable es) a in
    let k = heads _ _ _ _ (rw (first_slot e es r, other_slots e es r) at h) in
    (fit_of e (eqb-true _ _ t.0) k.0, fits_in es r t.1 k.1)

-- its entries fit: their numbers were read from fields
pub sound_fits : (s : List ℕ) → Sound s → AllFit (entries_of s)
unfolding entries_of
sound_fits s k = fits_in (entries_of s) (zeros (slot_width * (slots_of s - length (entries_of s)))) k.each (ap₂ entries_in (used_is s) (sym (past_header s k)))

pub sound-length : (s : List ℕ) → Sound s → length s ≡ slot_start (slots_of s)
sound-length s k = ap length k.bytes ∙ length-image (slots_of s) (line_of s) (entries_of s) (omega (arith, used_is s, k.room))

-- its line was read from a field
pub line_is_time : LineIsTime
unfolding line_of
line_is_time s h =
    let k = sound_is s h in
    let e : line_of s ≡ num (be 6 (line_of s)) = ap line_of k.bytes ∙ ap num (line-field (slots_of s) (line_of s) (entries_of s)) in
    rw e (num-be-lt 6 (line_of s))

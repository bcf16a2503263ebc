-- Bytes with a slot removed; in a sound store, the image of the entries without that slot's.
use Prim.Native.Nat.{ℕ, suc, ◌+◌, ◌-◌, ◌*◌, ◌≤◌, ◌<◌}
use native.Mathlib.Omega.{arith}
use native.Mathlib.Numerals.{add-one}
use mathlib.Core.Path.{◌≡◌, refl, sym, ap, ap₂, ◌∙◌}
use mathlib.Core.List.{List, ◌++◌, append_assoc, append-nil}
use lib.ListN.{length, take, drop, length-append, length-drop, drop_of_length-le, replicate}
use lib.Seq.{drop_at, drop-drop, length-take-le, take-add}
use borrow.Rule.Slice.PartMut.{mid_of, put_mid}
use Rattle.std.specs.List.{copy_within}
use Rattle.std.proofs.Math.Seq.{paste}
use Rattle.std.proofs.lemmas.List.{length-replicate}
use Rattle.std.proofs.lemmas.List.Edits.{length-paste, paste-paste, paste_all}
use Rattle.std.proofs.lemmas.Slice.{put_mid-paste}
use Rattle.wire.specs.Number.{be}
use Rattle.wire.specs.Fill.{zeros, field}
use Rattle.wire.proofs.Number.{length-be}
use Rattle.wire.proofs.Fill.{zeros-add}
use Rattle.entry.specs.Entry.{Entry}
use Rattle.image.specs.Layout.{used_at, width_at, line_at, header_fill_at, header_width, slot_width, slot_start}
use Rattle.image.specs.Image.{slots, header, image, slots_of, used_of, line_of, entries_of}
use Rattle.image.specs.Meaning.{Sound}
use Rattle.image.proofs.ImageLaws.{flat_image, flat_header}
use Rattle.store.specs.Unchecked.{splice}
use Rattle.store.specs.Purge.{remove_at}
use Rattle.store.proofs.Splices.{splice_part, splice_mid, drop-splice, image_of}
use Rattle.store.proofs.Splices.{length_before, length_from, length_front, length_moved, split_at, field_at, counted}

-- ---- bytes moved down by w, and zeros in the last w
pub down_done : (w : ℕ) (s t ys : List ℕ) → w ≤ length s → let i = length s - w in t ≡ copy_within s w (length s) 0
    → ys ≡ replicate (length (mid_of i (length s - i) t)) 0 → put_mid i (length s - i) t ys ≡ drop w s ++ zeros w
unfolding zeros
down_done w s t ys h te ye =
    let i = length s - w in
    let p : List ℕ = drop w s in
    let lp : i ≡ length p = omega (arith, length-drop w s) in
    let here : i ≡ 0 + i = omega arith in
    let k : length s - i ≡ w = omega arith in
    let z : List ℕ = replicate w 0 in
    let lz : w ≡ length z = sym (length-replicate w 0) in
    let lt : length t ≡ length s = ap length te ∙ length-paste s 0 p i (omega arith) (omega arith) in
    let lm : length (mid_of i (length s - i) t) ≡ w = length-take-le (length s - i) (drop i t) (omega (arith, length-drop i t)) ∙ k in
    let all : i + w ≡ length (p ++ z) = omega (arith, length-append p z) in
    put_mid-paste i (length s - i) t ys z w (ye ∙ ap (λ (m : ℕ). replicate m 0) lm) (sym k) lz
    ∙ ap₂ (λ (l : List ℕ) (m : ℕ). paste l m z w) te here ∙ paste-paste s 0 p z i w lp lz (omega arith)
    ∙ paste_all s 0 (p ++ z) (i + w) all
    ∙ ap (λ (l : List ℕ). (p ++ z) ++ l) (drop_of_length-le s {i = 0 + (i + w)} (omega arith)) ∙ append-nil (p ++ z)

-- the end of a part
drop-take : (w m : ℕ) (l : List ℕ) → w ≤ length l → drop w (take (w + m) l) ≡ take m (drop w l)
drop-take w m l h = ap (drop w) (take-add w m l) ∙ drop_at (take w l) (take m (drop w l)) w (length-take-le w l h)

-- ---- a used slot removed, in bytes that have the used slots
module _ (i : ℕ) (s : List ℕ) (lt : i < used_of s) (fits : slot_start (used_of s) ≤ length s) where
  -- U lowered
  abbrev lowered : List ℕ
  lowered = splice used_at width_at (be 2 (used_of s - 1)) s

  past_lowered : drop (slot_start i) lowered ≡ drop (slot_start i) s
  past_lowered = drop-splice used_at width_at (be 2 (used_of s - 1)) s (omega (arith, length-be 2 (used_of s - 1))) (omega arith) (slot_start i) (omega arith)

  pub close_done : (n : ℕ) → n ≡ used_of s - 1 → (us : List ℕ) → us ≡ be (length (mid_of used_at 2 s)) n → (k : ℕ) → k ≡ slot_width * (used_of s - i)
      → (t ys : List ℕ) → t ≡ put_mid used_at 2 s us → ys ≡ drop slot_width (mid_of (slot_start i) k t) ++ zeros slot_width
      → put_mid (slot_start i) k t ys ≡ remove_at i s
  unfolding remove_at field
  close_done n ne us ue k ke t ys te ye =
      let a = slot_start i in
      let m = slot_width * (used_of s - (i + 1)) in
      let two : length (mid_of used_at 2 s) ≡ 2 = length-take-le 2 (drop used_at s) (omega (arith, length-drop used_at s)) in
      let is : t ≡ lowered = te ∙ splice_mid used_at width_at 2 s us refl ∙ ap (λ (l : List ℕ). splice used_at width_at l s) (ue ∙ ap₂ be two ne) in
      let ks : k ≡ slot_width + m = omega arith in
      let next : a + slot_width ≡ slot_start (i + 1) = omega arith in
      let mid : drop slot_width (mid_of a k t) ≡ take m (drop (slot_start (i + 1)) s) =
      ap (λ (l : List ℕ). drop slot_width (take k (drop a l))) is ∙ ap₂ (λ (j : ℕ) (l : List ℕ). drop slot_width (take j l)) ks past_lowered
      ∙ drop-take slot_width m (drop a s) (omega (arith, length-drop a s)) ∙ ap (take m) (drop-drop slot_width a s ∙ ap (λ (j : ℕ). drop j s) next) in
      let y : ys ≡ take m (drop (slot_start (i + 1)) s) ++ zeros slot_width = ye ∙ ap (λ (l : List ℕ). l ++ zeros slot_width) mid in
      splice_mid a (slot_start (used_of s)) k t ys (omega arith) ∙ ap₂ (splice a (slot_start (used_of s))) y is

-- ---- in a sound store
module _ (s : List ℕ) (k : Sound s) (i : ℕ) (lt : i < used_of s) where
  abbrev es : List Entry
  es = entries_of s

  -- the bytes before slot i
  abbrev front : ℕ → List ℕ
  front u = header (slots_of s) u (line_of s) ++ slots (take i es)

  -- the slots after slot i
  abbrev after : List ℕ
  after = slots (drop (suc i) es)

  moved : field (slot_start (i + 1)) (slot_width * (used_of s - (i + 1))) s ≡ after
  moved =
      ap (λ (j : ℕ). field (slot_start j) (slot_width * (used_of s - j)) s) (add-one i)
      ∙ field_at s k (suc i) lt _ after _ (split_at s k (suc i) lt) (length_moved s k (suc i) lt)

  pub removed-image : remove_at i s ≡ image (slots_of s) (line_of s) (take i es ++ drop (suc i) es)
  unfolding remove_at
  removed-image =
      let u = used_of s in
      let c = slots_of s in
      let le : i ≤ u = omega arith in
      let unused = zeros (slot_width * (c - u)) in
      let w = after ++ zeros slot_width in
      let t = splice used_at width_at (be 2 (u - 1)) s in
      let is : t ≡ front (u - 1) ++ (slots (drop i es) ++ unused) = counted s k i le u (u - 1) _ s (split_at s k i le) in
      let z : slot_width + slot_width * (c - u) ≡ slot_width * (c - (u - 1)) = omega (arith, k.room) in
      let fill : zeros slot_width ++ unused ≡ zeros (slot_width * (c - (u - 1))) = zeros-add slot_width (slot_width * (c - u)) ∙ ap zeros z in
      let s1 : splice (slot_start i) (slot_start u) w t ≡ front (u - 1) ++ (w ++ unused) =
      splice_part (slot_start i) (slot_start u) (front (u - 1)) (slots (drop i es)) w unused t is (length_front s k i le (u - 1))
      (omega (arith, length_moved s k i le)) in
      let f : front (u - 1) ++ (w ++ unused) ≡ front (u - 1) ++ (after ++ zeros (slot_width * (c - (u - 1)))) =
      ap (λ (l : List ℕ). front (u - 1) ++ l) (append_assoc after (zeros slot_width) unused ∙ ap (λ (l : List ℕ). after ++ l) fill) in
      rw (moved, s1) (f ∙ sym (image_of c (line_of s) (u - 1) (take i es) (drop (suc i) es) (omega (
        arith,
        length_before s k i le,
        length_from s k
            (suc i) lt,
      ))))

-- ---- the line written anew
pub lined : (c old line : ℕ) (es : List Entry) → splice line_at header_fill_at (be 6 line) (image c old es) ≡ image c line es
lined c old line es =
    let u = length es in
    let front = be 2 c ++ (be 2 u ++ (be 2 slot_width ++ be 2 header_width)) in
    let rest = zeros 2 ++ (slots es ++ zeros (slot_width * (c - u))) in
    let flat : (l : ℕ) → image c l es ≡ front ++ (be 6 l ++ rest) = λ l. flat_image c l es ∙ flat_header c u l _ ∙ simp append_assoc in
    let eight : length front ≡ line_at = simp (length-append, length-be) in
    splice_part line_at header_fill_at front (be 6 old) (be 6 line) rest (image c old es) (flat old) eight (omega (arith, length-be 6 old)) ∙ sym (flat line)

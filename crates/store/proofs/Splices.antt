-- Bytes with a slot written over or put in; in a sound store, the image of the entries so changed.
use Prim.Native.Nat.{ℕ, suc, ◌+◌, ◌-◌, ◌*◌, ◌≤◌, ◌<◌}
use native.Mathlib.Omega.{arith}
use mathlib.Core.Path.{◌≡◌, refl, sym, ap, ap₂, ◌∙◌}
use mathlib.Core.List.{List, [], ◌∷◌, ◌++◌, append_assoc, append-nil}
use lib.ListN.{length, take, drop, length-append, length-drop, take-append-drop}
use lib.Seq.{take_at, drop_at, drop-drop, length-take-le, take-take}
use borrow.Rule.Slice.PartMut.{mid_of, put_mid}
use Rattle.wire.specs.Number.{be}
use Rattle.wire.specs.Fill.{zeros, field}
use Rattle.wire.proofs.Number.{length-be}
use Rattle.wire.proofs.Fill.{length-zeros, zeros-add, field_past, field_here}
use Rattle.entry.specs.Entry.{Entry}
use Rattle.image.specs.Layout.{used_at, width_at, header_width, slot_width, slot_start}
use Rattle.image.specs.Image.{slot_bytes, slots, header, image, slot_entry, slots_of, used_of, line_of, entries_of}
use Rattle.image.specs.Slot.{slot_at}
use Rattle.image.specs.Meaning.{Sound}
use Rattle.image.proofs.SlotLaws.{length_slot}
use Rattle.image.proofs.ImageLaws.{used_is, entry_at, length-header, length-slots, slots-append, flat_image, flat_header}
use Rattle.store.specs.Unchecked.{splice, replace_at, insert_at}

-- ---- a part replaced
pub splice_part : (a e : ℕ) (x y w z s : List ℕ) → s ≡ x ++ (y ++ z) → length x ≡ a → a + length y ≡ e → splice a e w s ≡ x ++ (w ++ z)
unfolding splice
splice_part a e x y w z s is la le =
    let d : drop e (x ++ (y ++ z)) ≡ z = ap (drop e) (sym (append_assoc x y z)) ∙ drop_at (x ++ y) z e (length-append x y ∙ omega arith) in
    rw (is, take_at x (y ++ z) a la, d) (append_assoc x w z)

-- what is lent and given back
pub splice_mid : (a e k : ℕ) (s ys : List ℕ) → e ≡ a + k → put_mid a k s ys ≡ splice a e ys s
unfolding splice
splice_mid a e k s ys h = rw (drop-drop k a s, h) (sym (append_assoc (take a s) ys (drop (a + k) s)))

-- by as many bytes
module _ (a e : ℕ) (w s : List ℕ) (n : a + length w ≡ e) (le : e ≤ length s) where
  length_front_of : length (take a s ++ w) ≡ e
  length_front_of = length-append (take a s) w ∙ omega (arith, length-take-le a s (omega arith))

  pub length-splice : length (splice a e w s) ≡ length s
  unfolding splice
  length-splice = length-append (take a s ++ w) (drop e s) ∙ omega (arith, length_front_of, length-drop e s)

  pub drop-splice : (m : ℕ) → e ≤ m → drop m (splice a e w s) ≡ drop m s
  unfolding splice
  drop-splice m h =
      let t = (take a s ++ w) ++ drop e s in
      let p : m ≡ e + (m - e) = omega arith in
      ap (λ (j : ℕ). drop j t) p ∙ sym (drop-drop (m - e) e t) ∙ ap (drop (m - e)) (drop_at (take a s ++ w) (drop e s) e length_front_of)
      ∙ drop-drop (m - e) e s ∙ ap (λ (j : ℕ). drop j s) (sym p)

-- the first bytes of what was put in
module _ (a e : ℕ) (v m s : List ℕ) (le : a ≤ length s) where
  spliced : splice a e (v ++ m) s ≡ take a s ++ (v ++ (m ++ drop e s))
  unfolding splice
  spliced = simp append_assoc

  splice-over : (b : ℕ) (w : List ℕ) → a + length v ≡ b → splice a b w (splice a e (v ++ m) s) ≡ splice a e (w ++ m) s
  unfolding splice
  splice-over b w n = splice_part a b (take a s) v w (m ++ drop e s) _ spliced (length-take-le a s le) n ∙ simp append_assoc

  field_spliced : (n : ℕ) → length v ≡ n → field a n (splice a e (v ++ m) s) ≡ v
  field_spliced n l =
      let z : a + 0 ≡ a = omega arith in
      ap₂ (λ (j : ℕ) (t : List ℕ). field j n t) (sym z) spliced ∙ field_past a 0 n (take a s) _ (length-take-le a s le) ∙ field_here n v _ l

-- ---- a slot written over, in bytes that have it
module _ (i : ℕ) (s : List ℕ) (fits : slot_start (i + 1) ≤ length s) where
  pub slot_long : (k : ℕ) → k ≡ slot_width → length (mid_of (slot_start i) k s) ≡ slot_width
  slot_long k e = length-take-le k (drop (slot_start i) s) (omega (arith, length-drop (slot_start i) s)) ∙ e

  pub replace_done : (k : ℕ) (ys w : List ℕ) → k ≡ slot_width → ys ≡ w → put_mid (slot_start i) k s ys ≡ replace_at i w s
  unfolding replace_at
  replace_done k ys w ke ye =
      splice_mid (slot_start i) (slot_start (i + 1)) k s ys (omega arith) ∙ ap (λ (l : List ℕ). splice (slot_start i) (slot_start (i + 1)) l s) ye

  pub slot_replaced : (w : List ℕ) → length w ≡ slot_width → slot_at i (replace_at i w s) ≡ w
  unfolding replace_at slot_at
  slot_replaced w l =
      ap (λ (v : List ℕ). field (slot_start i) slot_width (splice (slot_start i) (slot_start (i + 1)) v s)) (sym (append-nil w))
      ∙ field_spliced (slot_start i) (slot_start (i + 1)) w [] s (omega arith) slot_width l

-- ---- a slot put in, in bytes that have room for it
module _ (i : ℕ) (s : List ℕ) (le : i ≤ used_of s) (fits : slot_start (used_of s + 1) ≤ length s) where
  -- U raised
  abbrev raised : List ℕ
  raised = splice used_at width_at (be 2 (used_of s + 1)) s

  length_raised : length raised ≡ length s
  length_raised = length-splice used_at width_at (be 2 (used_of s + 1)) s (omega (arith, length-be 2 (used_of s + 1))) (omega arith)

  past_raised : drop (slot_start i) raised ≡ drop (slot_start i) s
  past_raised = drop-splice used_at width_at (be 2 (used_of s + 1)) s (omega (arith, length-be 2 (used_of s + 1))) (omega arith) (slot_start i) (omega arith)

  pub open_done : (n : ℕ) → n ≡ used_of s + 1 → (us : List ℕ) → us ≡ be (length (mid_of used_at 2 s)) n → (k : ℕ)
      → k ≡ slot_width * (used_of s - i) + slot_width
      → (t ys : List ℕ) → t ≡ put_mid used_at 2 s us
      → ys ≡ take slot_width (mid_of (slot_start i) k t) ++ take (length (mid_of (slot_start i) k t) - slot_width) (mid_of (slot_start i) k t)
      → put_mid (slot_start i) k t ys ≡ insert_at i (slot_at i s) s
  unfolding insert_at slot_at field
  open_done n ne us ue k ke t ys te ye =
      let a = slot_start i in
      let two : length (mid_of used_at 2 s) ≡ 2 = length-take-le 2 (drop used_at s) (omega (arith, length-drop used_at s)) in
      let is : t ≡ raised = te ∙ splice_mid used_at width_at 2 s us refl ∙ ap (λ (l : List ℕ). splice used_at width_at l s) (ue ∙ ap₂ be two ne) in
      let m : mid_of a k t ≡ take k (drop a s) = ap (λ (l : List ℕ). take k (drop a l)) is ∙ ap (take k) past_raised in
      let l : length (take k (drop a s)) - slot_width ≡ slot_width * (used_of s - i) =
      omega (arith, length-take-le k (drop a s) (omega (arith, length-drop a s))) in
      let y : ys ≡ take slot_width (drop a s) ++ take (slot_width * (used_of s - i)) (drop a s) =
      ye ∙ ap (λ (x : List ℕ). take slot_width x ++ take (length x - slot_width) x) m
      ∙ ap₂ (λ (x y : List ℕ). x ++ y) (take-take slot_width k (drop a s) (omega arith))
      (ap (λ (j : ℕ). take j (take k (drop a s))) l ∙ take-take (slot_width * (used_of s - i)) k (drop a s) (omega arith)) in
      splice_mid a (slot_start (used_of s + 1)) k t ys (omega arith) ∙ ap₂ (splice a (slot_start (used_of s + 1))) y is

  -- and then written
  pub opened : (v w : List ℕ) → length v ≡ slot_width → replace_at i w (insert_at i v s) ≡ insert_at i w s
  unfolding replace_at insert_at
  opened v w l =
      splice-over (slot_start i) (slot_start (used_of s + 1)) v (field (slot_start i) (slot_width * (used_of s - i)) s) raised (omega (arith, length_raised))
      (slot_start (i + 1)) w (omega arith)

  pub slot_inserted : (w : List ℕ) → length w ≡ slot_width → slot_at i (insert_at i w s) ≡ w
  unfolding insert_at slot_at
  slot_inserted w l =
      field_spliced (slot_start i) (slot_start (used_of s + 1)) w (field (slot_start i) (slot_width * (used_of s - i)) s) raised
      (omega (arith, length_raised)) slot_width l

-- ---- the image of two runs of entries
pub image_of : (c line u : ℕ) (xs ys : List Entry) → length xs + length ys ≡ u
    → image c line (xs ++ ys) ≡ (header c u line ++ slots xs) ++ (slots ys ++ zeros (slot_width * (c - u)))
image_of c line u xs ys n =
    let e : length (xs ++ ys) ≡ u = length-append xs ys ∙ n in
    flat_image c line (xs ++ ys) ∙ ap₂ (λ (m : ℕ) (l : List ℕ). header c m line ++ (l ++ zeros (slot_width * (c - m)))) e (slots-append xs ys)
    ∙ simp append_assoc

module _ (s : List ℕ) (k : Sound s) (i : ℕ) (le : i ≤ used_of s) where
  abbrev es : List Entry
  es = entries_of s

  -- the bytes before slot i
  abbrev front : ℕ → List ℕ
  front u = header (slots_of s) u (line_of s) ++ slots (take i es)

  pub length_before : length (take i es) ≡ i
  length_before = length-take-le i es (omega (arith, used_is s))

  pub length_from : length (drop i es) ≡ used_of s - i
  length_from = length-drop i es ∙ omega (arith, used_is s)

  pub length_front : (u : ℕ) → length (front u) ≡ slot_start i
  length_front u =
      length-append (header (slots_of s) u (line_of s)) (slots (take i es))
      ∙ omega (arith, length-header (slots_of s) u (line_of s), length-slots (take i es), length_before)

  pub length_moved : length (slots (drop i es)) ≡ slot_width * (used_of s - i)
  length_moved = length-slots (drop i es) ∙ ap (λ (n : ℕ). slot_width * n) length_from

  -- the bytes of the unused slots
  abbrev unused : List ℕ
  unused = zeros (slot_width * (slots_of s - used_of s))

  pub split_at : s ≡ front (used_of s) ++ (slots (drop i es) ++ unused)
  split_at =
      k.bytes ∙ ap (image (slots_of s) (line_of s)) (sym (take-append-drop i es))
      ∙ image_of (slots_of s) (line_of s) (used_of s) (take i es) (drop i es) (omega (arith, length_before, length_from))

  -- a part that starts where slot i does
  pub field_at : (n : ℕ) (x r : List ℕ) → s ≡ front (used_of s) ++ (x ++ r) → length x ≡ n → field (slot_start i) n s ≡ x
  field_at n x r is l =
      let z : slot_start i + 0 ≡ slot_start i = omega arith in
      ap₂ (λ (j : ℕ) (t : List ℕ). field j n t) (sym z) is ∙ field_past (slot_start i) 0 n (front (used_of s)) _ (length_front (used_of s)) ∙ field_here n x r l

  -- U written anew
  flat_front : (u : ℕ) (r : List ℕ)
      → front u ++ r
      ≡ be 2 (slots_of s) ++ (be 2 u ++ (be 2 slot_width ++ (be 2 header_width ++ (be 6 (line_of s) ++ (zeros 2 ++ (slots (take i es) ++ r))))))
  flat_front u r =
      append_assoc (header (slots_of s) u (line_of s)) (slots (take i es)) r ∙ flat_header (slots_of s) u (line_of s) (slots (take i es) ++ r)

  pub counted : (u n : ℕ) (r t : List ℕ) → t ≡ front u ++ r → splice used_at width_at (be 2 n) t ≡ front n ++ r
  counted u n r t e =
      splice_part used_at width_at (be 2 (slots_of s)) (be 2 u) (be 2 n) _ t (e ∙ flat_front u r) (length-be 2 _) (omega (arith, length-be 2 u))
      ∙ sym (flat_front n r)

  -- ---- slot i is used
  module _ (h : Entry) (split : drop i es ≡ h ∷ drop (suc i) es) where
    -- the bytes after it
    abbrev rest : List ℕ
    rest = slots (drop (suc i) es) ++ unused

    there : s ≡ front (used_of s) ++ (slot_bytes h ++ rest)
    unfolding slots
    there = split_at ∙ ap (λ (l : List Entry). front (used_of s) ++ (slots l ++ unused)) split ∙ simp append_assoc

    -- its bytes are those of its entry
    slot_there : slot_at i s ≡ slot_bytes h
    unfolding slot_at
    slot_there = field_at slot_width (slot_bytes h) rest there (length_slot h)

    -- written over
    pub replaced : (e : Entry) → i < used_of s → replace_at i (slot_bytes e) s ≡ image (slots_of s) (line_of s) (take i es ++ (e ∷ drop (suc i) es))
    unfolding replace_at slots
    replaced e lt =
        splice_part (slot_start i) (slot_start (i + 1)) (front (used_of s)) (slot_bytes h) (slot_bytes e) rest s there (length_front (used_of s))
        (omega (arith, length_slot h))
        ∙ sym (image_of (slots_of s) (line_of s) (used_of s) (take i es) (e ∷ drop (suc i) es) (omega (arith, length_before, length_from, ap length split))
        ∙ simp append_assoc)

  -- ---- a slot put in
  module _ (room : used_of s < slots_of s) where
    -- the bytes after the first unused slot
    abbrev left : List ℕ
    left = zeros (slot_width * (slots_of s - (used_of s + 1)))

    open_zeros : unused ≡ zeros slot_width ++ left
    open_zeros =
        let e : slot_width * (slots_of s - used_of s) ≡ slot_width + slot_width * (slots_of s - (used_of s + 1)) = omega arith in
        ap zeros e ∙ sym (zeros-add slot_width (slot_width * (slots_of s - (used_of s + 1))))

    moved : field (slot_start i) (slot_width * (used_of s - i)) s ≡ slots (drop i es)
    moved = field_at (slot_width * (used_of s - i)) (slots (drop i es)) unused split_at length_moved

    pub inserted : (e : Entry) → insert_at i (slot_bytes e) s ≡ image (slots_of s) (line_of s) (take i es ++ (e ∷ drop i es))
    unfolding insert_at slots
    inserted e =
        let u = used_of s in
        let w = slot_bytes e ++ slots (drop i es) in
        let old = slots (drop i es) ++ zeros slot_width in
        let l : length old ≡ slot_width * (u - i) + slot_width =
        length-append (slots (drop i es)) (zeros slot_width) ∙ omega (arith, length_moved, length-zeros slot_width) in
        let t = splice used_at width_at (be 2 (u + 1)) s in
        let is : t ≡ front (u + 1) ++ (old ++ left) =
        counted u (u + 1) _ s split_at ∙ ap (λ (z : List ℕ). front (u + 1) ++ (slots (drop i es) ++ z)) open_zeros ∙ simp append_assoc in
        let s1 : splice (slot_start i) (slot_start (u + 1)) w t ≡ front (u + 1) ++ (w ++ left) =
        splice_part (slot_start i) (slot_start (u + 1)) (front (u + 1)) old w left t is (length_front (u + 1)) (omega arith) in
        rw (moved, s1) (sym (image_of (slots_of s) (line_of s) (u + 1) (take i es) (e ∷ drop i es) (omega (arith, length_before, length_from))))

-- the bytes of a used slot of a sound store are those of its entry
pub slot_is : (s : List ℕ) → Sound s → (i : ℕ) → i < used_of s → slot_at i s ≡ slot_bytes (slot_entry (slot_at i s))
slot_is s k i h = slot_there s k i (omega arith) (slot_entry (slot_at i s)) (entry_at i s h)

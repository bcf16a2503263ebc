-- The checks of a slot and of a store, each way through: a store is sound exactly where they pass.
use mathlib.Core.Path.{◌≡◌, refl, sym, ap, ap₂, ◌∙◌}
use Prim.Native.Nat.{ℕ, zero, suc, ◌+◌, ◌-◌, ◌*◌, ◌≤◌, ◌<◌}
use mathlib.Core.Logic.{inl, inr}
use mathlib.Core.Bool.{Bool, true, false, ◌&&◌}
use mathlib.Core.List.{List, [], ◌∷◌, ◌++◌, append_assoc}
use native.Mathlib.Omega.{arith}
use Rattle.std.specs.List.{list_all, range_with_len}
use lib.ListN.{length, take, drop, take-append-drop, length-drop}
use lib.Seq.{take_at, drop_at, drop-drop}
use borrow.Author.Tests.{eqb-true, eq-eqb, leb-true, le-leb}
use Rattle.wire.specs.Number.{be, num, Bytes}
use Rattle.wire.specs.Fill.{zeros, field}
use Rattle.std.specs.Ordering.{is_lt}
use Rattle.wire.specs.Order.{same_bytes, bytes_below, comparison}
use Rattle.wire.proofs.Tests.{test, clash, false_of, and-true}
use Rattle.wire.proofs.Number.{length-be, num-be}
use Rattle.wire.proofs.Fill.{length-zeros, length-field, field_here, field_past}
use Rattle.wire.proofs.Order.{same_bytes_eq, same_bytes_refl}
use Rattle.entry.specs.declared.Refusal.{Refusal}
use Rattle.std.specs.Prelude.{Result, Ok, Err}
use Rattle.std.specs.Result.{is_err}
use Rattle.entry.specs.Refusal.{number, refusal_number}
use Rattle.entry.specs.Order.{key_below}
use Rattle.entry.specs.Entry.{Entry, refusal_of}
use Rattle.entry.proofs.Numbers.{number-range}
use Rattle.image.specs.Layout.{header_width, key_width, value_width, slot_width, most_slots, slot_start}
use Rattle.image.specs.Image.{slot_bytes, slots, header, key_in, slot_entry, entries_in, slots_of, used_of, line_of, entries_of}
use Rattle.image.specs.Image.{acceptable, all_acceptable, below_first, ascending, sound}
use Rattle.image.specs.Slot.{slot_at}
use Rattle.image.specs.Check.{sealed, slot_sound, slots_sound, shaped}
use Rattle.image.specs.Meaning.{Fit, AllFit, Sound}
use Rattle.wire.proofs.Fields.{be-field, field_split}
use Rattle.image.proofs.Fields.{field_past_all}
use Rattle.image.proofs.SlotLaws.{length_slot, fit_of, slot_entry_lem, in_klen, in_vlen}
use Rattle.image.proofs.Sealing.{zero_true, zero_is}
use Rattle.image.proofs.ImageLaws.{sound_is, is_sound, sound_fits, sound-length, used_is, entry_at, next_slot, first_slot, other_slots, length-header}
use Rattle.image.proofs.ImageLaws.{length-slots, flat_image, flat_header, past_header}

-- ---- a slot
pub record Good (t : List ℕ) : Type 0 where
  pub ok : refusal_of (slot_entry t) ≡ 0
  pub is : t ≡ slot_bytes (slot_entry t)
  pub fit : Fit (slot_entry t)

pub slot_good : (t : List ℕ) → slot_sound t ≡ true → Good t
unfolding slot_sound acceptable sealed
slot_good t h =
    let k = and-true (acceptable (slot_entry t)) (sealed t) h in
    let ok = eqb-true _ _ k.0 in
    let is = same_bytes_eq _ _ k.1 in
    record { ok = ok; is = is; fit = fit_of (slot_entry t) ok (sym (ap slot_entry is)) }

good_slot : (e : Entry) → Fit e → acceptable e ≡ true → slot_sound (slot_bytes e) ≡ true
unfolding slot_sound sealed
good_slot e f a = rw (slot_entry_lem e f, a) (same_bytes_refl (slot_bytes e))

bad : (t : List ℕ) → (Good t → ⊥) → false ≡ slot_sound t
bad t h = sym (false_of (slot_sound t) (λ e. h (slot_good t e)))

module _ (t : List ℕ) where
  pub bad_length : (length t ≡ slot_width → ⊥) → false ≡ slot_sound t
  bad_length h = bad t (λ g. h (ap length g.is ∙ length_slot (slot_entry t)))

  pub bad_klen : (n : ℕ) → n ≡ num (field 0 1 t) → key_width < n → false ≡ slot_sound t
  bad_klen n e h = bad t (λ g. no n _ h g.fit.key (e ∙ ap (λ (l : List ℕ). num (field 0 1 l)) g.is ∙ in_klen (slot_entry t) g.fit))
    where
      no : (n m : ℕ) → key_width < n → m ≤ key_width → n ≡ m → ⊥
      no n m a b e = omega arith

  pub bad_vlen : (n : ℕ) → n ≡ num (field 2 2 t) → value_width < n → false ≡ slot_sound t
  bad_vlen n e h = bad t (λ g. no n _ h g.fit.value (e ∙ ap (λ (l : List ℕ). num (field 2 2 l)) g.is ∙ in_vlen (slot_entry t) g.fit))
    where
      no : (n m : ℕ) → value_width < n → m ≤ value_width → n ≡ m → ⊥
      no n m a b e = omega arith

  -- the verdict on its entry
  pub bad_verdict : (r : Result (Unit {0}) Refusal) → refusal_number r ≡ refusal_of (slot_entry t) → is_err r ≡ true → false ≡ slot_sound t
  bad_verdict (Ok _) re e = cc
  bad_verdict (Err n) re e = bad t (λ g. let z : number n ≡ 0 = re ∙ g.ok in omega (arith, (number-range n).0))

  pub good_verdict : (r : Result (Unit {0}) Refusal) → refusal_number r ≡ refusal_of (slot_entry t) → is_err r ≡ false → sealed t ≡ slot_sound t
  unfolding slot_sound acceptable
  good_verdict (Ok _) re e = sym (rw (eq-eqb (refusal_of (slot_entry t)) 0 (sym re)))
  good_verdict (Err n) re e = cc

-- ---- the used slots
slots_good : (es : List Entry) (r : List ℕ) → AllFit es → all_acceptable es ≡ true → slots_sound (length es) (slots es ++ r) ≡ true
unfolding slots_sound all_acceptable
slots_good [] r f a = refl
slots_good (e ∷ es) r f a =
    let t = and-true (acceptable e) (all_acceptable es) a in
    rw (first_slot e es r, other_slots e es r, good_slot e f.0 t.0) (slots_good es r f.1 t.1)

run_is : (n : ℕ) (t : List ℕ) → slots_sound n t ≡ true → t ≡ slots (entries_in n t) ++ drop (slot_width * n) t
unfolding slots_sound slots entries_in
run_is zero t h = refl
run_is (suc n) t h =
    let k = and-true (slot_sound (take slot_width t)) (slots_sound n (drop slot_width t)) h in
    let g = slot_good (take slot_width t) k.0 in
    sym (take-append-drop slot_width t) ∙ ap₂ (λ (x y : List ℕ). x ++ y) g.is (run_is n (drop slot_width t) k.1)
    ∙ sym (append_assoc (slot_bytes (slot_entry (take slot_width t))) (slots (entries_in n (drop slot_width t))) (drop (slot_width * n) (drop slot_width t)))
    ∙ ap (λ (r : List ℕ). (slot_bytes (slot_entry (take slot_width t)) ++ slots (entries_in n (drop slot_width t))) ++ r)
    (drop-drop (slot_width * n) slot_width t ∙ ap (λ (m : ℕ). drop m t) (next_slot n))

run_accepts : (n : ℕ) (t : List ℕ) → slots_sound n t ≡ true → all_acceptable (entries_in n t) ≡ true
unfolding slots_sound entries_in all_acceptable acceptable
run_accepts zero t h = refl
run_accepts (suc n) t h =
    let k = and-true (slot_sound (take slot_width t)) (slots_sound n (drop slot_width t)) h in
    rw (eq-eqb (refusal_of (slot_entry (take slot_width t))) 0 (slot_good (take slot_width t) k.0).ok) (run_accepts n (drop slot_width t) k.1)

-- whether slot i is sound
abbrev pub sound_at : List ℕ → ℕ → Bool
sound_at s i = slot_sound (slot_at i s)

-- the n slots from slot i on, tested one by one
pub each_slot : (s : List ℕ) (n i : ℕ) → list_all (sound_at s) (range_with_len i n) ≡ slots_sound n (drop (slot_start i) s)
unfolding slots_sound slot_at field
each_slot s zero i = refl
each_slot s (suc n) i =
    let d : slot_start i + slot_width ≡ slot_start (i + 1) = omega arith in
    ap (λ (b : Bool). slot_sound (slot_at i s) && b)
    (each_slot s n (i + 1) ∙ ap (slots_sound n) (ap (λ (m : ℕ). drop m s) (sym d) ∙ sym (drop-drop slot_width (slot_start i) s)))

-- ---- their keys
module _ (s : List ℕ) (i : ℕ) (lo : 1 ≤ i) (hi : i < used_of s) where
  pair : ascending (drop (i - 1) (entries_of s)) ≡ (key_below (key_in (slot_at (i - 1) s)) (key_in (slot_at i s)) && ascending (drop i (entries_of s)))
  unfolding ascending below_first slot_entry
  pair =
      let e : suc (i - 1) ≡ i = omega arith in
      ap ascending (entry_at (i - 1) s (omega arith) ∙ ap (λ (m : ℕ). slot_entry (slot_at (i - 1) s) ∷ drop m (entries_of s)) e)
      ∙ ap (λ (l : List Entry). below_first (key_in (slot_at (i - 1) s)) l && ascending (drop i (entries_of s))) (entry_at i s hi)

-- whether the keys of slots i - 1 and i ascend
abbrev pub keys_at : List ℕ → ℕ → Bool
keys_at s i = is_lt (comparison (key_in (slot_at (i - 1) s)) (key_in (slot_at i s)))

less_is : (a b : List ℕ) → is_lt (comparison a b) ≡ key_below a b
unfolding comparison
less_is a b = elim (test (bytes_below a b)) [ inl p ↦ rw p refl | inr p ↦ elim (test (same_bytes a b)) [ inl q ↦ rw (p, q) refl | inr q ↦ rw (p, q) refl ] ]

keys_one : (es : List Entry) (i : ℕ) → length es ≤ i + 1 → ascending (drop i es) ≡ true
unfolding ascending below_first
keys_one [] zero h = refl
keys_one [] (suc i) h = refl
keys_one (e ∷ []) zero h = refl
keys_one (e ∷ (f ∷ es)) zero h = absurd (no (length es) h)
  where
    no : (n : ℕ) → suc (suc n) ≤ 0 + 1 → ⊥
    no n h = omega arith
keys_one (e ∷ es) (suc i) h = keys_one es i (omega arith)

keys_end : (s : List ℕ) (i : ℕ) → used_of s ≤ i → ascending (drop (i - 1) (entries_of s)) ≡ true
keys_end s i h = keys_one (entries_of s) (i - 1) (omega (arith, used_is s))

-- the n slots from slot i on, each with the one before it
pub each_key : (s : List ℕ) (n i : ℕ) → 1 ≤ i → n ≡ used_of s - i → list_all (keys_at s) (range_with_len i n) ≡ ascending (drop (i - 1) (entries_of s))
each_key s zero i lo e = sym (keys_end s i (omega arith))
each_key s (suc n) i lo e =
    let z : i + 1 - 1 ≡ i = omega arith in
    ap₂ (λ (a b : Bool). a && b) (less_is _ _) (each_key s n (i + 1) (omega arith) (omega arith) ∙ ap (λ (m : ℕ). ascending (drop m (entries_of s))) z)
    ∙ sym (pair s i lo (omega arith))

-- ---- the header
pub record Shape (s : List ℕ) : Type 0 where
  pub some : 1 ≤ slots_of s
  pub most : slots_of s ≤ most_slots
  pub room : used_of s ≤ slots_of s
  pub long : length s ≡ slot_start (slots_of s)
  pub head : take header_width s ≡ header (slots_of s) (used_of s) (line_of s)

pub shape_of : (s : List ℕ) → shaped s ≡ true → Shape s
unfolding shaped
shape_of s h =
    let t4 = and-true _ _ h in
    let t3 = and-true _ _ t4.0 in
    let t2 = and-true _ _ t3.0 in
    let t1 = and-true _ _ t2.0 in
    record {
      some = leb-true _ _ t1.0;
      most = leb-true _ _ t1.1;
      room = leb-true _ _ t2.1;
      long = eqb-true _ _ t3.1;
      head = same_bytes_eq _ _ t4.1;
    }

is_shaped : (s : List ℕ) → Shape s → shaped s ≡ true
unfolding shaped
is_shaped s k = rw (le-leb _ _ k.some, le-leb _ _ k.most, le-leb _ _ k.room, eq-eqb _ _ k.long, ← k.head) (same_bytes_refl (take header_width s))

shapeless : (s : List ℕ) → (Shape s → ⊥) → false ≡ shaped s
shapeless s h = sym (false_of (shaped s) (λ e. h (shape_of s e)))

module _ (s : List ℕ) (c : ℕ) (ce : c ≡ slots_of s) where
  pub bad_some : c < 1 → false ≡ shaped s
  bad_some h = shapeless s (λ k. omega (arith, k.some))

  pub bad_most : most_slots < c → false ≡ shaped s
  bad_most h = shapeless s (λ k. omega (arith, k.most))

  pub bad_room : (u : ℕ) → u ≡ used_of s → c < u → false ≡ shaped s
  bad_room u ue h = shapeless s (λ k. omega (arith, k.room))

  pub bad_size : (length s ≡ slot_start c → ⊥) → false ≡ shaped s
  bad_size h = shapeless s (λ k. h (k.long ∙ ap slot_start (sym ce)))

-- what a right header says of its fields
module _ (s : List ℕ) (k : Shape s) where
  laid_out : s ≡ be 2 (slots_of s) ++ (be 2 (used_of s) ++ (be 2 slot_width ++ (be 2 header_width ++ (be 6 (line_of s) ++ (zeros 2 ++ drop header_width s)))))
  laid_out =
      sym (take-append-drop header_width s) ∙ ap (λ (h : List ℕ). h ++ drop header_width s) k.head
      ∙ flat_header (slots_of s) (used_of s) (line_of s) (drop header_width s)

  past_counts : (at w : ℕ) → field (4 + at) w s ≡ field at w (be 2 slot_width ++ (be 2 header_width ++ (be 6 (line_of s) ++ (zeros 2 ++ drop header_width s))))
  past_counts at w =
      let n : 4 + at ≡ 2 + (2 + at) = omega arith in
      ap (λ (k : ℕ). field k w s) n ∙ ap (field (2 + (2 + at)) w) laid_out
      ∙ field_past 2 (2 + at) w (be 2 (slots_of s)) _ (length-be 2 _) ∙ field_past 2 at w (be 2 (used_of s)) _ (length-be 2 _)

  width_is : num (field 4 2 s) ≡ slot_width
  width_is = ap num (past_counts 0 2 ∙ field_here 2 (be 2 slot_width) _ (length-be 2 _)) ∙ num-be 2 slot_width (omega arith)

  offset_is : num (field 6 2 s) ≡ header_width
  offset_is =
      ap num (past_counts 2 2 ∙ field_past 2 0 2 (be 2 slot_width) _ (length-be 2 _) ∙ field_here 2 (be 2 header_width) _ (length-be 2 _))
      ∙ num-be 2 header_width (omega arith)

  rest_is : field 14 2 s ≡ zeros 2
  rest_is =
      past_counts 10 2 ∙ field_past 2 8 2 (be 2 slot_width) _ (length-be 2 _) ∙ field_past 2 6 2 (be 2 header_width) _ (length-be 2 _)
      ∙ field_past 6 0 2 (be 6 (line_of s)) _ (length-be 6 _) ∙ field_here 2 (zeros 2) _ (length-zeros 2)

module _ (s : List ℕ) where
  pub bad_width : (n : ℕ) → n ≡ num (field 4 2 s) → (n ≡ slot_width → ⊥) → false ≡ shaped s
  bad_width n e h = shapeless s (λ k. h (e ∙ width_is s k))

  pub bad_offset : (n : ℕ) → n ≡ num (field 6 2 s) → (n ≡ header_width → ⊥) → false ≡ shaped s
  bad_offset n e h = shapeless s (λ k. h (e ∙ offset_is s k))

  -- and what right fields say of the header
  module _ (b : Bytes s) (some : 1 ≤ slots_of s) (most : slots_of s ≤ most_slots) (room : used_of s ≤ slots_of s) (long : length s ≡ slot_start (slots_of s))
      (width : num (field 4 2 s) ≡ slot_width) (offset : num (field 6 2 s) ≡ header_width) where
    be_here : (at w : ℕ) → at + w ≤ header_width → be w (num (field at w s)) ≡ field at w s
    be_here at w h = be-field at w s b (omega arith)

    whole : field 0 header_width s ≡ take header_width s
    unfolding field
    whole = refl

    head_is : field 14 2 s ≡ zeros 2 → take header_width s ≡ header (slots_of s) (used_of s) (line_of s)
    unfolding header slots_of used_of line_of
    head_is z = sym (rw (
      ap (be 2) (sym width) ∙ be_here 4 2 (omega arith),
      ap (be 2) (sym offset) ∙ be_here 6 2 (omega arith),
      be_here 0 2 (omega arith),
      be_here 2 2 (omega arith),
      be_here 8 6 (omega arith),
      ← z,
      ← field_split 0 2 2 s,
      ← field_split 0 4 2 s,
      ← field_split 0 6 2 s,
      ← field_split 0 8 6 s,
      ← field_split 0 14 2 s,
    ) whole)

    pub shaped_by_rest : same_bytes (field 14 2 s) (zeros (length (field 14 2 s))) ≡ shaped s
    shaped_by_rest = elim (test (same_bytes (field 14 2 s) (zeros (length (field 14 2 s))))) [
      | inl p ↦
          p ∙ sym (is_shaped s (record {
            some = some;
            most = most;
            room = room;
            long = long;
            head = head_is (zero_is 2 (field 14 2 s) (length-field 14 2 s (omega arith)) p);
          }))
      | inr p ↦ p ∙ shapeless s (λ k. clash (zero_true 2 (field 14 2 s) (rest_is s k)) p)
    ]

-- ---- the whole store
module _ (s : List ℕ) where
  sound_shape : Sound s → Shape s
  sound_shape k = record {
    some = k.some;
    most = k.most;
    room = k.room;
    long = sound-length s k;
    head =
        ap (take header_width) (k.bytes ∙ flat_image (slots_of s) (line_of s) (entries_of s))
        ∙ take_at (header (slots_of s) (length (entries_of s)) (line_of s)) _ header_width (length-header _ _ _)
        ∙ ap (λ (u : ℕ). header (slots_of s) u (line_of s)) (used_is s);
  }

  sound-slots : Sound s → slots_sound (used_of s) (drop header_width s) ≡ true
  sound-slots k = ap₂ slots_sound (sym (used_is s)) (past_header s k) ∙ slots_good (entries_of s) _ (sound_fits s k) k.each

  sound_rest : Sound s → drop (slot_start (used_of s)) s ≡ zeros (slot_width * (slots_of s - used_of s))
  sound_rest k =
      sym (drop-drop (slot_width * used_of s) header_width s) ∙ ap (drop (slot_width * used_of s)) (past_header s k)
      ∙ drop_at (slots (entries_of s)) _ (slot_width * used_of s) (length-slots (entries_of s) ∙ ap (λ (u : ℕ). slot_width * u) (used_is s))
      ∙ ap (λ (u : ℕ). zeros (slot_width * (slots_of s - u))) (used_is s)

  unsound : (Sound s → ⊥) → false ≡ sound s
  unsound h = sym (false_of (sound s) (λ e. h (sound_is s e)))

  pub bad_shape : shaped s ≡ false → false ≡ sound s
  bad_shape x = unsound (λ k. clash (is_shaped s (sound_shape k)) x)

  pub bad_slots : slots_sound (used_of s) (drop header_width s) ≡ false → false ≡ sound s
  bad_slots x = unsound (λ k. clash (sound-slots k) x)

  pub bad_keys : ascending (entries_of s) ≡ false → false ≡ sound s
  bad_keys x = unsound (λ k. clash k.order x)

  module _ (sh : Shape s) (ok : slots_sound (used_of s) (drop header_width s) ≡ true) (asc : ascending (entries_of s) ≡ true) where
    checked : drop (slot_start (used_of s)) s ≡ zeros (slot_width * (slots_of s - used_of s)) → Sound s
    unfolding entries_of
    checked rest = record {
      some = sh.some;
      most = sh.most;
      room = sh.room;
      each = run_accepts (used_of s) (drop header_width s) ok;
      order = asc;
      bytes =
          sym (take-append-drop header_width s)
          ∙ ap₂ (λ (x y : List ℕ). x ++ y) (sh.head ∙ ap (λ (u : ℕ). header (slots_of s) u (line_of s)) (sym (used_is s)))
          (run_is (used_of s) (drop header_width s) ok
          ∙ ap (λ (r : List ℕ). slots (entries_of s) ++ r)
          (drop-drop (slot_width * used_of s) header_width s ∙ rest ∙ ap (λ (u : ℕ). zeros (slot_width * (slots_of s - u))) (sym (used_is s))))
          ∙ sym (flat_image (slots_of s) (line_of s) (entries_of s));
    }

    length_rest : length (drop (slot_start (used_of s)) s) ≡ slot_width * (slots_of s - used_of s)
    length_rest = length-drop (slot_start (used_of s)) s ∙ omega (arith, sh.long, sh.room)

    pub sound_by_rest : (p : List ℕ) → p ≡ field (slot_start (used_of s)) (length s) s → same_bytes p (zeros (length p)) ≡ sound s
    sound_by_rest p e =
        let q : p ≡ drop (slot_start (used_of s)) s = e ∙ field_past_all (slot_start (used_of s)) (length s) s (omega arith) in
        elim (test (same_bytes p (zeros (length p)))) [
          | inl t ↦ t ∙ sym (is_sound s (checked (sym q ∙ zero_is (slot_width * (slots_of s - used_of s)) p (ap length q ∙ length_rest) t)))
          | inr t ↦ t ∙ unsound (λ k. clash (zero_true (slot_width * (slots_of s - used_of s)) p (q ∙ sound_rest k)) t)
        ]

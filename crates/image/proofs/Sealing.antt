-- When bytes are the slot of the entry that is read from them: their zero fill and checksum are
-- right.
use mathlib.Core.Path.{◌≡◌, refl, sym, ap, ap₂, ◌∙◌}
use Prim.Native.Nat.{ℕ, ◌+◌, ◌-◌, ◌^◌, ◌≤◌, ◌<◌}
use mathlib.Core.Logic.{inl, inr}
use mathlib.Core.Bool.{Bool, true, false}
use mathlib.Core.List.{List, ◌++◌, append_assoc}
use native.Mathlib.Omega.{arith}
use lib.ListN.{length, take, drop}
use lib.Seq.{take-take, take_all}
use lib.Dec.{eqb}
use borrow.Author.Tests.{eqb-true, eq-eqb}
use Rattle.wire.specs.Number.{be, num, Bytes}
use Rattle.wire.specs.Fill.{zeros, padded, field}
use Rattle.wire.specs.Order.{same_bytes}
use Rattle.wire.proofs.Tests.{test, clash, false_of}
use Rattle.wire.proofs.Number.{length-be, num-be}
use Rattle.wire.proofs.Fill.{length-zeros, length-padded, padded_fits, field_here, field_past, length-field}
use Rattle.wire.proofs.Order.{same_bytes_eq, same_bytes_refl}
use Rattle.checksum.specs.Crc32c.{crc32c}
use Rattle.entry.specs.Entry.{Entry}
use Rattle.image.specs.Layout.{key_at, key_width, value_at, value_width, body_width, slot_width}
use Rattle.image.specs.Image.{slot_head, slot_body, slot_bytes, key_in, flag_in, value_in, stamp_in, slot_entry}
use Rattle.image.specs.Check.{sealed, Lengths}
use Rattle.wire.proofs.Fields.{be-field, field_split}
use Rattle.image.proofs.SlotLaws.{length-body, past_phys, past_head}

-- ---- zeros
pub zero_true : (w : ℕ) (p : List ℕ) → p ≡ zeros w → same_bytes p (zeros (length p)) ≡ true
zero_true w p e = rw (e, length-zeros w) (same_bytes_refl (zeros w))

pub zero_is : (w : ℕ) (p : List ℕ) → length p ≡ w → same_bytes p (zeros (length p)) ≡ true → p ≡ zeros w
zero_is w p l h = same_bytes_eq p (zeros (length p)) h ∙ ap zeros l

-- what a test for zeros says of a part that was read
pub zero_test : (p f : List ℕ) (r : Bool) → r ≡ same_bytes p (zeros (length p)) → p ≡ f → same_bytes f (zeros (length f)) ≡ r
zero_test p f r e q = sym (e ∙ ap (λ (l : List ℕ). same_bytes l (zeros (length l))) q)

-- ---- where the fill and the checksum of a slot stand
fill_past : (w : ℕ) (s r : List ℕ) → length s ≤ w → field (length s) (w - length s) (padded w s ++ r) ≡ zeros (w - length s)
fill_past w s r h =
    let z : length s + 0 ≡ length s = omega arith in
    ap₂ (λ (n : ℕ) (l : List ℕ). field n (w - length s) l) (sym z) (ap (λ (l : List ℕ). l ++ r) (padded_fits w s h) ∙ append_assoc s (zeros (w - length s)) r)
    ∙ field_past (length s) 0 (w - length s) s (zeros (w - length s) ++ r) refl ∙ field_here (w - length s) (zeros (w - length s)) r (length-zeros _)

module _ (e : Entry) where
  at_fill : field 13 3 (slot_bytes e) ≡ zeros 3
  at_fill =
      rw (
        past_phys e 3 3,
        field_past 2 1 3 (be 2 e.stamp.logical) _ (length-be 2 _),
        field_past 1 0 3 (be 1 e.stamp.node) _ (length-be 1 _),
        field_here 3 (zeros 3) _ (length-zeros 3),
      )

  at_key_fill : length e.key ≤ key_width → field (key_at + length e.key) (key_width - length e.key) (slot_bytes e) ≡ zeros (key_width - length e.key)
  at_key_fill h = past_head e (length e.key) _ ∙ fill_past key_width e.key _ h

  at_value_fill : length e.value ≤ value_width
      → field (value_at + length e.value) (value_width - length e.value) (slot_bytes e) ≡ zeros (value_width - length e.value)
  at_value_fill h =
      ap (λ (n : ℕ). field n (value_width - length e.value) (slot_bytes e)) (omega arith) ∙ past_head e (key_width + length e.value) _
      ∙ field_past key_width (length e.value) _ (padded key_width e.key) _ (length-padded key_width e.key) ∙ fill_past value_width e.value _ h

  at_body : field 0 body_width (slot_bytes e) ≡ slot_body e
  unfolding slot_bytes
  at_body = field_here body_width (slot_body e) _ (length-body e)

  at_sum : field body_width 4 (slot_bytes e) ≡ be 4 (crc32c (slot_body e))
  unfolding slot_bytes field
  at_sum = field_past body_width 0 4 (slot_body e) _ (length-body e)
      ∙ take_all 4 (be 4 (crc32c (slot_body e))) (omega (arith, length-be 4 (crc32c (slot_body e))))

-- ---- bytes whose lengths are within their fields
module _ (s : List ℕ) (klen vlen : ℕ) (l : Lengths s klen vlen) where
  key_is : key_in s ≡ field key_at klen s
  unfolding key_in field
  key_is = ap (λ (n : ℕ). take n (take key_width (drop key_at s))) (sym l.key) ∙ take-take klen key_width (drop key_at s) l.key_fits

  value_is : value_in s ≡ field value_at vlen s
  unfolding value_in field
  value_is = ap (λ (n : ℕ). take n (take value_width (drop value_at s))) (sym l.value) ∙ take-take vlen value_width (drop value_at s) l.value_fits

  key_length : length (key_in s) ≡ klen
  key_length = ap length key_is ∙ length-field key_at klen s (omega (arith, l.long, l.key_fits))

  value_length : length (value_in s) ≡ vlen
  value_length = ap length value_is ∙ length-field value_at vlen s (omega (arith, l.long, l.value_fits))

  -- what the slot of the entry says of the bytes
  module _ (h : s ≡ slot_bytes (slot_entry s)) where
    fill_zero : field 13 3 s ≡ zeros 3
    fill_zero = ap (field 13 3) h ∙ at_fill (slot_entry s)

    key_fill_zero : field (key_at + klen) (key_width - klen) s ≡ zeros (key_width - klen)
    unfolding slot_entry
    key_fill_zero =
        ap (λ (n : ℕ). field (key_at + n) (key_width - n) s) (sym key_length) ∙ ap (field (key_at + length (key_in s)) (key_width - length (key_in s))) h
        ∙ at_key_fill (slot_entry s) (omega (arith, key_length, l.key_fits)) ∙ ap (λ (n : ℕ). zeros (key_width - n)) key_length

    value_fill_zero : field (value_at + vlen) (value_width - vlen) s ≡ zeros (value_width - vlen)
    unfolding slot_entry
    value_fill_zero =
        ap (λ (n : ℕ). field (value_at + n) (value_width - n) s) (sym value_length)
        ∙ ap (field (value_at + length (value_in s)) (value_width - length (value_in s))) h
        ∙ at_value_fill (slot_entry s) (omega (arith, value_length, l.value_fits)) ∙ ap (λ (n : ℕ). zeros (value_width - n)) value_length

    sum_is : field body_width 4 s ≡ be 4 (crc32c (field 0 body_width s))
    sum_is = ap (field body_width 4) h ∙ at_sum (slot_entry s) ∙ ap (λ (r : List ℕ). be 4 (crc32c r)) (sym (ap (field 0 body_width) h ∙ at_body (slot_entry s)))

  sealed_is : sealed s ≡ true → s ≡ slot_bytes (slot_entry s)
  unfolding sealed
  sealed_is h = same_bytes_eq s (slot_bytes (slot_entry s)) h

  not_sealed : (w : ℕ) (p : List ℕ) → (s ≡ slot_bytes (slot_entry s) → p ≡ zeros w) → same_bytes p (zeros (length p)) ≡ false → false ≡ sealed s
  not_sealed w p f h = sym (false_of (sealed s) (λ t. clash (zero_true w p (f (sealed_is t))) h))

  pub bad_fill : same_bytes (field 13 3 s) (zeros (length (field 13 3 s))) ≡ false → false ≡ sealed s
  bad_fill = not_sealed 3 (field 13 3 s) fill_zero

  pub bad_key_fill : same_bytes (field (key_at + klen) (key_width - klen) s) (zeros (length (field (key_at + klen) (key_width - klen) s))) ≡ false
      → false ≡ sealed s
  bad_key_fill = not_sealed (key_width - klen) (field (key_at + klen) (key_width - klen) s) key_fill_zero

  pub bad_value_fill : same_bytes (field (value_at + vlen) (value_width - vlen) s) (zeros (length (field (value_at + vlen) (value_width - vlen) s))) ≡ false
      → false ≡ sealed s
  bad_value_fill = not_sealed (value_width - vlen) (field (value_at + vlen) (value_width - vlen) s) value_fill_zero

  -- what the fill says of the bytes
  module _ (b : Bytes s) where
    be_here : (at w : ℕ) → at + w ≤ slot_width → be w (num (field at w s)) ≡ field at w s
    be_here at w h = be-field at w s b (omega (arith, l.long))

    head_is : slot_head (slot_entry s) ≡ field 0 13 s ++ zeros 3
    unfolding slot_head slot_entry flag_in stamp_in
    head_is = rw (
      key_length ∙ l.key,
      value_length ∙ l.value,
      be_here 0 1 (omega arith),
      be_here 1 1 (omega arith),
      be_here 2 2 (omega arith),
      be_here 4 6 (omega arith),
      be_here 10 2 (omega arith),
      be_here 12 1 (omega arith),
      field_split 0 12 1 s,
      field_split 0 10 2 s,
      field_split 0 4 6 s,
      field_split 0 2 2 s,
      field_split 0 1 1 s,
    )

    module _ (f : field 13 3 s ≡ zeros 3) (kf : field (key_at + klen) (key_width - klen) s ≡ zeros (key_width - klen))
        (vf : field (value_at + vlen) (value_width - vlen) s ≡ zeros (value_width - vlen)) where
      key_padded : padded key_width (key_in s) ≡ field key_at key_width s
      key_padded =
          let n : klen + (key_width - klen) ≡ key_width = omega (arith, l.key_fits) in
          padded_fits key_width (key_in s) (omega (arith, key_length, l.key_fits))
          ∙ ap₂ (λ (a c : List ℕ). a ++ c) key_is (ap (λ (n : ℕ). zeros (key_width - n)) key_length ∙ sym kf)
          ∙ sym (field_split key_at klen (key_width - klen) s) ∙ ap (λ (w : ℕ). field key_at w s) n

      value_padded : padded value_width (value_in s) ≡ field value_at value_width s
      value_padded =
          let n : vlen + (value_width - vlen) ≡ value_width = omega (arith, l.value_fits) in
          padded_fits value_width (value_in s) (omega (arith, value_length, l.value_fits))
          ∙ ap₂ (λ (a c : List ℕ). a ++ c) value_is (ap (λ (n : ℕ). zeros (value_width - n)) value_length ∙ sym vf)
          ∙ sym (field_split value_at vlen (value_width - vlen) s) ∙ ap (λ (w : ℕ). field value_at w s) n

      body_is : slot_body (slot_entry s) ≡ field 0 body_width s
      unfolding slot_body slot_entry
      body_is = rw (head_is, ← f, ← field_split 0 13 3 s, key_padded, ← field_split 0 key_at key_width s, value_padded, ← field_split 0 value_at value_width s)

      whole : s ≡ field 0 body_width s ++ field body_width 4 s
      unfolding field
      whole = sym (take_all slot_width s (omega (arith, l.long))) ∙ field_split 0 body_width 4 s

      -- the sum that was computed and the one that stands there
      pub sealed_by_sum : (sum there : ℕ) → sum ≡ crc32c (field 0 body_width s) → sum < 2 ^ 32 → there ≡ num (field body_width 4 s) → eqb sum there ≡ sealed s
      unfolding sealed slot_bytes
      sealed_by_sum sum there se small te = elim (test (eqb sum there)) [
        | inl p ↦
            let q : s ≡ slot_body (slot_entry s) ++ be 4 (crc32c (slot_body (slot_entry s))) =
            whole ∙ ap₂ (λ (a c : List ℕ). a ++ c) (sym body_is)
            (sym (be_here body_width 4 (omega arith)) ∙ ap (be 4) (sym te ∙ sym (eqb-true sum there p) ∙ se ∙ ap crc32c (sym body_is))) in
            p ∙ sym (ap (same_bytes s) (sym q) ∙ same_bytes_refl s)
        | inr p ↦ p ∙ sym (false_of (same_bytes s (slot_bytes (slot_entry s))) (λ t.
            clash (eq-eqb sum there (sym (te ∙ ap num (sum_is (same_bytes_eq _ _ t)) ∙ ap (λ (n : ℕ). num (be 4 n)) (sym se) ∙ num-be 4 sum small))) p))
      ]

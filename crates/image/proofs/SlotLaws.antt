-- A slot: its length, what is read back from it, and when bytes are the slot of their entry.
use mathlib.Core.Path.{◌≡◌, sym, ap, ◌∙◌}
use Prim.Native.Nat.{ℕ, ◌+◌, ◌^◌, ◌<◌}
use mathlib.Core.List.{List, ◌++◌, append_assoc}
use native.Mathlib.Omega.{arith}
use lib.ListN.{length, length-append}
use borrow.Author.Tests.{eq-eqb}
use Rattle.wire.specs.Number.{be, num}
use Rattle.wire.specs.Fill.{zeros, padded, field}
use Rattle.wire.proofs.Number.{length-be, num-be, num-be-lt}
use Rattle.wire.proofs.Fill.{length-zeros, length-padded, take-padded, field_here, field_past}
use Rattle.checksum.specs.Crc32c.{crc32c}
use Rattle.entry.specs.Entry.{Entry, refusal_of}
use Rattle.entry.proofs.Accept.{accepted}
use Rattle.image.specs.Layout.{key_at, key_width, value_width, body_width, slot_width}
use Rattle.image.specs.Slot.{slot_with}
use Rattle.image.specs.Image.{slot_head, slot_body, slot_bytes, key_in, flag_in, value_in, stamp_in, slot_entry}
use Rattle.image.specs.Meaning.{Fit}

pub length_head : (e : Entry) → length (slot_head e) ≡ key_at
unfolding slot_head
length_head e = simp (length-append, length-be, length-zeros)

pub length-body : (e : Entry) → length (slot_body e) ≡ body_width
unfolding slot_body
length-body e = simp (length-append, length_head, length-padded)

pub length_slot : (e : Entry) → length (slot_bytes e) ≡ slot_width
unfolding slot_bytes
length_slot e = simp (length-append, length-body, length-be)

-- an entry written over a slot
pub slot_with_lem : (e : Entry) (s : List ℕ) → length s ≡ slot_width → slot_with e s ≡ slot_bytes e
unfolding slot_with
slot_with_lem e s h = rw (eq-eqb (length s) slot_width h)

-- ---- what is read back
module _ (e : Entry) where
  -- what follows the value's length, its time and the head
  abbrev tail : List ℕ
  tail = padded key_width e.key ++ (padded value_width e.value ++ be 4 (crc32c (slot_body e)))

  abbrev counts : List ℕ
  counts = be 2 e.stamp.logical ++ (be 1 e.stamp.node ++ (zeros 3 ++ tail))

  -- a slot, bracketed to the right
  flat : slot_bytes e ≡ be 1 (length e.key) ++ (be 1 e.flag ++ (be 2 (length e.value) ++ (be 6 e.stamp.phys ++ counts)))
  unfolding slot_bytes slot_body slot_head
  flat = simp append_assoc

  past_flag : (at w : ℕ) → field (2 + at) w (slot_bytes e) ≡ field at w (be 2 (length e.value) ++ (be 6 e.stamp.phys ++ counts))
  past_flag at w =
      ap (field (2 + at) w) (flat ∙ sym (append_assoc (be 1 (length e.key)) (be 1 e.flag) _))
      ∙ field_past 2 at w (be 1 (length e.key) ++ be 1 e.flag) _ (simp (length-append, length-be))

  past_vlen : (at w : ℕ) → field (4 + at) w (slot_bytes e) ≡ field at w (be 6 e.stamp.phys ++ counts)
  past_vlen at w = ap (λ (k : ℕ). field k w (slot_bytes e)) (omega arith) ∙ past_flag (2 + at) w ∙ field_past 2 at w (be 2 (length e.value)) _ (length-be 2 _)

  pub past_phys : (at w : ℕ) → field (10 + at) w (slot_bytes e) ≡ field at w counts
  past_phys at w = ap (λ (k : ℕ). field k w (slot_bytes e)) (omega arith) ∙ past_vlen (6 + at) w ∙ field_past 6 at w (be 6 e.stamp.phys) _ (length-be 6 _)

  pub past_head : (at w : ℕ) → field (key_at + at) w (slot_bytes e) ≡ field at w tail
  unfolding slot_bytes slot_body
  past_head at w =
      ap (field (key_at + at) w) (append_assoc (slot_head e ++ padded key_width e.key) (padded value_width e.value) _
      ∙ append_assoc (slot_head e) (padded key_width e.key) _)
      ∙ field_past key_at at w (slot_head e) _ (length_head e)

  at_logical : field 10 2 (slot_bytes e) ≡ be 2 e.stamp.logical
  at_logical = rw (past_phys 0 2, field_here 2 (be 2 e.stamp.logical) _ (length-be 2 _))

  at_node : field 12 1 (slot_bytes e) ≡ be 1 e.stamp.node
  at_node = rw (past_phys 2 1, field_past 2 0 1 (be 2 e.stamp.logical) _ (length-be 2 _), field_here 1 (be 1 e.stamp.node) _ (length-be 1 _))

module _ (e : Entry) (f : Fit e) where
  pub in_klen : num (field 0 1 (slot_bytes e)) ≡ length e.key
  in_klen = rw (flat e, field_here 1 (be 1 (length e.key)) _ (length-be 1 _)) (num-be 1 (length e.key) (omega arith))

  in_flag : flag_in (slot_bytes e) ≡ e.flag
  unfolding flag_in
  in_flag =
      rw (flat e, field_past 1 0 1 (be 1 (length e.key)) _ (length-be 1 _), field_here 1 (be 1 e.flag) _ (length-be 1 _)) (num-be 1 e.flag f.flag)

  pub in_vlen : num (field 2 2 (slot_bytes e)) ≡ length e.value
  in_vlen = rw (past_flag e 0 2, field_here 2 (be 2 (length e.value)) _ (length-be 2 _)) (num-be 2 (length e.value) (omega arith))

  in_phys : num (field 4 6 (slot_bytes e)) ≡ e.stamp.phys
  in_phys = rw (past_vlen e 0 6, field_here 6 (be 6 e.stamp.phys) _ (length-be 6 _)) (num-be 6 e.stamp.phys f.phys)

  in_logical : num (field 10 2 (slot_bytes e)) ≡ e.stamp.logical
  in_logical = ap num (at_logical e) ∙ num-be 2 e.stamp.logical f.logical

  in_node : num (field 12 1 (slot_bytes e)) ≡ e.stamp.node
  in_node = ap num (at_node e) ∙ num-be 1 e.stamp.node f.node

  in_key : key_in (slot_bytes e) ≡ e.key
  unfolding key_in
  in_key =
      rw (in_klen, past_head e 0 key_width, field_here key_width (padded key_width e.key) _ (length-padded key_width e.key))
      (take-padded key_width e.key f.key)

  in_value : value_in (slot_bytes e) ≡ e.value
  unfolding value_in
  in_value =
      rw (
        in_vlen,
        past_head e key_width value_width,
        field_past key_width 0 value_width (padded key_width e.key) _ (length-padded key_width e.key),
        field_here value_width (padded value_width e.value) _ (length-padded value_width e.value),
      ) (take-padded value_width e.value f.value)

  in_stamp : stamp_in (slot_bytes e) ≡ e.stamp
  unfolding stamp_in
  in_stamp = λ i. record { phys = in_phys i; logical = in_logical i; node = in_node i }

  -- an entry that fits is read back
  pub slot_entry_lem : slot_entry (slot_bytes e) ≡ e
  unfolding slot_entry
  slot_entry_lem = λ i. record { key = in_key i; value = in_value i; flag = in_flag i; stamp = in_stamp i }

-- ---- an acceptable entry
-- an acceptable entry fits where its logical count and node id do
pub fits : (e : Entry) → refusal_of e ≡ 0 → e.stamp.logical < 2 ^ 16 → e.stamp.node < 2 ^ 8 → Fit e
fits e h l n =
    let a = accepted e h in
    record { key = a.key; value = a.value; flag = omega (arith, a.flag); phys = a.phys; logical = l; node = n }

-- and so does an acceptable entry that was read from a slot
logical_small : (e : Entry) → slot_entry (slot_bytes e) ≡ e → e.stamp.logical < 2 ^ 16
unfolding slot_entry stamp_in
logical_small e h = rw (← ap (λ (x : Entry). x.stamp.logical) h, at_logical e) (num-be-lt 2 _)

node_small : (e : Entry) → slot_entry (slot_bytes e) ≡ e → e.stamp.node < 2 ^ 8
unfolding slot_entry stamp_in
node_small e h = rw (← ap (λ (x : Entry). x.stamp.node) h, at_node e) (num-be-lt 1 _)

pub fit_of : (e : Entry) → refusal_of e ≡ 0 → slot_entry (slot_bytes e) ≡ e → Fit e
fit_of e a h = fits e a (logical_small e h) (node_small e h)

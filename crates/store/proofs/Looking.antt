-- Where the value of a held key stands in a store.
use mathlib.Core.Path.{◌≡◌, refl, sym, ap, ◌∙◌}
use mathlib.Core.Logic.{inl, inr}
use mathlib.Core.Bool.{true}
use mathlib.Core.List.{List, [], ◌∷◌}
use mathlib.Core.Option.{Option, none, some, none-ne-some, some-injective}
use Prim.Native.Nat.{ℕ, zero, suc, ◌+◌, ◌≤◌, ◌<◌}
use native.Mathlib.Omega.{arith}
use lib.ListN.{length, take, drop}
use lib.Dec.{eqb}
use Rattle.wire.specs.Number.{num}
use Rattle.wire.specs.Fill.{field}
use Rattle.wire.specs.Order.{same_bytes}
use Rattle.wire.proofs.Tests.{test}
use Rattle.wire.proofs.Fields.{field_part}
use Rattle.entry.specs.Refusal.{number}
use Rattle.entry.specs.Key.{bad_key}
use Rattle.entry.specs.Entry.{Entry}
use Rattle.image.specs.Layout.{klen_at, vlen_at, key_at, key_width, value_at, value_width, slot_width, slot_start, value_start}
use Rattle.image.specs.Image.{key_in, value_in, slot_entry, entries_of, sound}
use Rattle.image.specs.Slot.{slot_at}
use Rattle.wire.proofs.Compared.{distinct}
use Rattle.image.proofs.ImageLaws.{entry_at, used_is, sound_is, sound-length}
use Rattle.store.specs.Held.{find, index_of}
use Rattle.std.specs.Prelude.{Result, Ok, Err}
use Rattle.wire.specs.declared.Span.{Span}
use Rattle.entry.specs.declared.Refusal.{Refusal}
use Rattle.store.specs.declared.Finding.{Finding as Found}
use Rattle.store.specs.declared.Finding.TheVariants as found
use Rattle.store.specs.Lookup.{value, deleted, never, refused, finding_of, finding_for, value_for, lookup_answer, value_part}
use Rattle.store.specs.Meaning.{ValueStands}
use Rattle.store.proofs.HeldLaws.{find_some}
use Rattle.store.proofs.OnSound.{fits_held}

-- ---- the key and the value of a slot, in any bytes
take_part : (n m : ℕ) (l : List ℕ) → take (length (take n (take m l))) l ≡ take n (take m l)
take_part zero m l = refl
take_part (suc n) zero l = refl
take_part (suc n) (suc m) [] = refl
take_part (suc n) (suc m) (x ∷ l) = ap (λ (r : List ℕ). x ∷ r) (take_part n m l)

field_front : (n a m : ℕ) (s : List ℕ) → field a (length (take n (field a m s))) s ≡ take n (field a m s)
unfolding field
field_front n a m s = take_part n m (drop a s)

pub slot_part : (i at w n : ℕ) (s : List ℕ) → at + w ≤ slot_width
    → field (slot_start i + at) (length (take n (field at w (slot_at i s)))) s ≡ take n (field at w (slot_at i s))
unfolding slot_at
slot_part i at w n s h =
    let p : take n (field at w (slot_at i s)) ≡ take n (field (slot_start i + at) w s) = ap (take n) (field_part (slot_start i) slot_width at w s h) in
    ap (λ (l : List ℕ). field (slot_start i + at) (length l) s) p ∙ field_front n (slot_start i + at) w s ∙ sym p

pub slot_value : (i : ℕ) (s : List ℕ) → field (value_start i) (length (value_in (slot_at i s))) s ≡ value_in (slot_at i s)
unfolding value_in
slot_value i s = slot_part i value_at value_width (num (field vlen_at 2 (slot_at i s))) s (omega arith)

pub slot_key : (i : ℕ) (s : List ℕ) → field (slot_start i + key_at) (length (key_in (slot_at i s))) s ≡ key_in (slot_at i s)
unfolding key_in
slot_key i s = slot_part i key_at key_width (num (field klen_at 1 (slot_at i s))) s (omega arith)

-- ---- the entry that is found stands at its index
pub record FoundAt (k : List ℕ) (es : List Entry) (h : Entry) : Type 0 where
  pub within : index_of k es < length es
  pub there : drop (index_of k es) es ≡ h ∷ drop (suc (index_of k es)) es

found_at : (k : List ℕ) (es : List Entry) (h : Entry) → find k es ≡ some h → FoundAt k es h
unfolding find index_of
found_at k [] h n = absurd (none-ne-some h n)
found_at k (g ∷ es) h n = elim (test (same_bytes k g.key)) [
  | inl q ↦ record { within = rw q (omega arith); there = rw q (ap (λ (x : Entry). x ∷ es) (some-injective g h (rw q at n))) }
  | inr q ↦ let r = found_at k es h (rw q at n) in record { within = rw q (omega (arith, r.within)); there = rw q r.there }
]

same_first : (a b : Entry) (r s : List Entry) → a ∷ r ≡ b ∷ s → a ≡ b
same_first a b r s h = cc

same_place : (a b n m : ℕ) → value a n ≡ value b m → (a ≡ b) × (n ≡ m)
same_place a b n m e = (cc, cc)

module _ (s : List ℕ) (ok : sound s ≡ true) (k : List ℕ) (h : Entry) (f : find k (entries_of s) ≡ some h) where
  abbrev i : ℕ
  i = index_of k (entries_of s)

  t : FoundAt k (entries_of s) h
  t = found_at k (entries_of s) h f

  found_value : field (value_start i) (length h.value) s ≡ h.value
  unfolding slot_entry
  found_value =
      let e : h ≡ slot_entry (slot_at i s) = same_first h (slot_entry (slot_at i s)) _ _ (sym t.there ∙ entry_at i s (omega (arith, used_is s, t.within))) in
      ap (λ (x : Entry). field (value_start i) (length x.value) s) e ∙ slot_value i s ∙ sym (ap (λ (x : Entry). x.value) e)

  found_within : value_start i + length h.value ≤ length s
  found_within =
      let n = sound_is s ok in
      let v = (fits_held s ok h (find_some k (entries_of s) f).0).value in
      omega (arith, sound-length s n, n.room, used_is s, t.within)

module _ (s : List ℕ) (ok : sound s ≡ true) (k : List ℕ) (at len : ℕ) where
  stands_for : (o : Option Entry) → find k (entries_of s) ≡ o → finding_for (index_of k (entries_of s)) o ≡ value at len
      → (at + len ≤ length s) × (field at len s ≡ value_for o)
  unfolding finding_for value_for
  stands_for none f e = distinct never (value at len) (λ q. cc) e
  stands_for (some h) f e = elim (test (eqb h.flag 1)) [
    | inl p ↦ distinct deleted (value at len) (λ q. cc) (rw p at e)
    | inr p ↦
        let q = same_place _ _ _ _ (rw p at e) in
        rw (p, ← q.0, ← q.1) (found_within s ok k h f, found_value s ok k h f)
  ]

pub value_stands : ValueStands
unfolding lookup_answer value_part
value_stands s k at len e = elim (test (sound s)) [
  | inl p ↦ elim (test (bad_key k)) [
    | inl q ↦ distinct (refused 1) (value at len) (λ r. cc) (rw (p, q) at e)
    | inr q ↦ rw (p, q) (stands_for s p k at len (find k (entries_of s)) refl (rw (p, q) at e))
  ]
  | inr p ↦ distinct (refused 5) (value at len) (λ r. cc) (rw p at e)
]

-- ---- a lookup that gives no place has no value
no_part : (i : ℕ) (o : Option Entry) → ((at len : ℕ) → finding_for i o ≡ value at len → ⊥) → [] ≡ value_for o
unfolding finding_for value_for
no_part i none h = refl
no_part i (some g) h = elim (test (eqb g.flag 1)) [ inl p ↦ rw p | inr p ↦ absurd (h (value_start i) (length g.value) (rw p)) ]

pub no_value : (s k : List ℕ) → ((at len : ℕ) → lookup_answer s k ≡ value at len → ⊥) → [] ≡ value_part s k
unfolding lookup_answer value_part
no_value s k h = elim (test (sound s)) [
  | inl p ↦ elim (test (bad_key k)) [
    | inl q ↦ rw (p, q)
    | inr q ↦ rw (p, q) (no_part (index_of k (entries_of s)) (find k (entries_of s)) (λ at len e. h at len (rw (p, q) e)))
  ]
  | inr p ↦ rw p
]

-- a lookup's answer that is no value's place
pub not_found : (s k : List ℕ) (l : Result Found Refusal) → finding_of l ≡ lookup_answer s k → ((p : Span) → l ≡ Ok (found.Value p) → ⊥) → [] ≡ value_part s k
not_found s k (Ok (found.Value p)) t h = absurd (h p refl)
not_found s k (Ok found.Deleted) t h = no_value s k (λ at len e. distinct deleted (value at len) (λ q. cc) (t ∙ e))
not_found s k (Ok found.Never) t h = no_value s k (λ at len e. distinct never (value at len) (λ q. cc) (t ∙ e))
not_found s k (Err r) t h = no_value s k (λ at len e. distinct (refused (number r)) (value at len) (λ q. cc) (t ∙ e))

-- Where an entry goes, in any bytes: the slots that are to be written are there, and what is told
-- as stored was stored.
use Prim.Native.Nat.{ℕ, ◌+◌, ◌≤◌}
use native.Mathlib.Omega.{arith}
use mathlib.Core.Path.{◌≡◌, refl}
use mathlib.Core.Logic.{◌⊎◌, inl, inr}
use mathlib.Core.List.{List}
use mathlib.Core.Option.{Option, none, some}
use Rattle.std.specs.Prelude.{Result, Ok, Err}
use lib.ListN.{length}
use lib.Dec.{ltb, leb, eqb}
use borrow.Author.Tests.{leb-true}
use Rattle.wire.proofs.Tests.{test}
use Rattle.entry.specs.declared.Refusal.{Refusal}
use Rattle.entry.specs.declared.Refusal.TheVariants.{BadStore, StoreFull, BelowLine}
use Rattle.entry.specs.Refusal.{number}
use Rattle.entry.specs.Entry.{Entry, beats, refusal_of}
use Rattle.image.specs.Layout.{slot_start}
use Rattle.image.specs.Image.{slot_bytes, slots_of, used_of, line_of, entries_of}
use Rattle.image.specs.Slot.{slot_at, has_slot}
use Rattle.wire.proofs.Compared.{distinct}
use Rattle.image.proofs.SlotLaws.{length_slot}
use Rattle.image.proofs.ImageLaws.{used_is}
use Rattle.store.specs.declared.Placement.{Placement}
use Rattle.store.specs.declared.Placement.TheVariants.{Insert, Replace, Kept}
use Rattle.store.specs.Answer.{stored, replaced, kept, refused}
use Rattle.store.specs.Unchecked.{seek, seen, placement_for, placement, told_of, written_at, after_placed, offer_unchecked, after_offer_unchecked}
use Rattle.store.specs.Meaning.{StoredIsThere, UnstoredUnchanged}
use Rattle.store.proofs.Seeking.{seek_within}
use Rattle.store.proofs.Splices.{slot_replaced, slot_inserted}

abbrev pub Fitting : List ℕ → Result Placement Refusal → Type 0
Fitting s (Ok (Insert i)) = (i ≤ used_of s) × (slot_start (used_of s + 1) ≤ length s)
Fitting s (Ok (Replace i)) = slot_start (i + 1) ≤ length s
Fitting s (Ok Kept) = Unit {0}
Fitting s (Err r) = Unit {0}

-- the entry's slot holds its bytes
abbrev There : List ℕ → Entry → Result Placement Refusal → Type 0
There s e p = (told_of p ≡ stored) ⊎ (told_of p ≡ replaced) → slot_at (seek e.key (entries_of s)) (written_at p (slot_bytes e) s) ≡ slot_bytes e

-- where nothing is written, neither is told
kept_there : (s : List ℕ) (e : Entry) → There s e (Ok Kept)
kept_there s e (inl q) = distinct kept stored (λ r. cc) q
kept_there s e (inr q) = distinct kept replaced (λ r. cc) q

refused_there : (s : List ℕ) (e : Entry) (r : Refusal) → There s e (Err r)
refused_there s e r (inl q) = distinct (refused (number r)) stored (λ x. cc) q
refused_there s e r (inr q) = distinct (refused (number r)) replaced (λ x. cc) q

module _ (s : List ℕ) (e : Entry) where
  abbrev i : ℕ
  i = seek e.key (entries_of s)

  within : i ≤ used_of s
  within = omega (arith, seek_within e.key (entries_of s), used_is s)

  fits_for : (o : Option Entry) → Fitting s (placement_for s e o) × There s e (placement_for s e o)
  unfolding placement_for
  fits_for none = elim (test (ltb e.stamp.phys (line_of s))) [
    | inl b ↦ rw b (tt, refused_there s e BelowLine)
    | inr b ↦ elim (test (leb (slots_of s) (used_of s))) [
      | inl p ↦ rw (b, p) (tt, refused_there s e StoreFull)
      | inr p ↦ elim (test (has_slot (used_of s) s)) [
        | inl q ↦
            let f = leb-true (slot_start (used_of s + 1)) (length s) q in
            rw (b, p, q) ((within, f), λ t. slot_inserted i s within f (slot_bytes e) (length_slot e))
        | inr q ↦ rw (b, p, q) (tt, refused_there s e BadStore)
      ]
    ]
  ]
  fits_for (some g) = elim (test (beats e g)) [
    | inl p ↦ elim (test (has_slot i s)) [
      | inl q ↦
          let f = leb-true (slot_start (i + 1)) (length s) q in
          rw (p, q) (f, λ t. slot_replaced i s f (slot_bytes e) (length_slot e))
      | inr q ↦ rw (p, q) (tt, refused_there s e BadStore)
    ]
    | inr p ↦ rw p (tt, kept_there s e)
  ]

  pub placement_fits : Fitting s (placement s e)
  placement_fits = (fits_for (seen e.key (entries_of s))).0

pub stored_is_there : StoredIsThere
unfolding offer_unchecked after_offer_unchecked after_placed
stored_is_there s e h = elim (test (eqb (refusal_of e) 0)) [
  | inl p ↦ rw p ((fits_for s e (seen e.key (entries_of s))).1 (rw p at h))
  | inr p ↦ elim (rw p at h) [
    | inl q ↦ distinct (refused (refusal_of e)) stored (λ r. cc) q
    | inr q ↦ distinct (refused (refusal_of e)) replaced (λ r. cc) q
  ]
]

-- an answer that is neither leaves the bytes
left_alone : (p : Result Placement Refusal) (w s : List ℕ) → (told_of p ≡ stored → ⊥) → (told_of p ≡ replaced → ⊥) → written_at p w s ≡ s
left_alone (Ok (Insert j)) w s f g = absurd (f refl)
left_alone (Ok (Replace j)) w s f g = absurd (g refl)
left_alone (Ok Kept) w s f g = refl
left_alone (Err r) w s f g = refl

pub unstored_unchanged : UnstoredUnchanged
unfolding offer_unchecked after_offer_unchecked after_placed
unstored_unchanged s e f g = elim (test (eqb (refusal_of e) 0)) [
  | inl p ↦ rw p (left_alone (placement s e) (slot_bytes e) s (rw p at f) (rw p at g))
  | inr p ↦ rw p
]

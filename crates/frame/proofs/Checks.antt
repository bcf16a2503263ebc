-- The reader's tests: what each shows of the frame or of the body.
use mathlib.Core.Path.{◌≡◌, sym, ap, ◌∙◌}
use mathlib.Core.Logic.{inl, inr}
use mathlib.Core.Bool.{true, false, not}
use mathlib.Core.List.{List, []}
use Prim.Native.Nat.{ℕ, ◌+◌, ◌-◌, ◌^◌, ◌≤◌, ◌<◌}
use native.Mathlib.Omega.{arith}
use lib.ListN.{length, take, drop}
use lib.Dec.{ltb, eqb}
use borrow.Author.Tests.{lt-ltb, le-ltb, le-leb, eq-eqb, ne_eqb, ltb-true, ltb-false, eqb-true, eqb-false}
use Rattle.wire.specs.Number.{be, num, Bytes}
use Rattle.wire.specs.Fill.{field}
use Rattle.wire.proofs.Number.{num-be}
use Rattle.wire.proofs.Order.{same_bytes_refl}
use Rattle.wire.proofs.Tests.{test, false_of}
use Rattle.checksum.specs.Crc32c.{crc32c}
use Rattle.entry.specs.Order.{least}
use Rattle.entry.specs.Entry.{entry_of, bad_flag}
use Rattle.frame.specs.Layout.{max_frame, max_len}
use Rattle.frame.specs.Reading.{number_at, length_holds, checksum_holds, flags_hold, envelope_holds, vlen, ends_at, value_ends}
use Rattle.frame.proofs.Fields.{be-number}
use Rattle.frame.proofs.Envelopes.{Holding, holding}

-- two tests that hold together
eqb_both : (a b c d : ℕ) → (a ≡ b → c ≡ d) → (c ≡ d → a ≡ b) → eqb a b ≡ eqb c d
eqb_both a b c d f g = elim (test (eqb a b)) [
  | inl p ↦ p ∙ sym (eq-eqb c d (f (eqb-true a b p)))
  | inr p ↦ p ∙ sym (ne_eqb c d (λ q. eqb-false a b p (g q)))
]

-- ---- the envelope
pub fails : (s : List ℕ) → (Holding s → ⊥) → false ≡ envelope_holds s
fails s f = sym (false_of (envelope_holds s) (λ e. f (holding s e)))

-- once LEN and FLAGS hold, the checksum decides
module _ (s : List ℕ) (bs : Bytes s) (low : 8 ≤ length s) (high : length s ≤ max_frame) (len : number_at 0 2 s ≡ length s - 2) (flags : number_at 3 1 s ≡ 0)
    (x sum : ℕ) (xe : x ≡ number_at (length s - 4) 4 s) (se : sum ≡ crc32c (take (length s - 4 - 2) (drop 2 s))) (fits : sum < 2 ^ 32) where
  sum_covers : sum ≡ crc32c (field 2 (length s - 6) s)
  unfolding field
  sum_covers = let e : length s - 4 - 2 ≡ length s - 6 = omega arith in se ∙ ap (λ (k : ℕ). crc32c (take k (drop 2 s))) e

  holds : x ≡ sum → envelope_holds s ≡ true
  unfolding envelope_holds length_holds checksum_holds flags_hold
  holds e =
      let c : field (length s - 4) 4 s ≡ be 4 (crc32c (field 2 (length s - 6) s)) =
      sym (be-number s bs (length s - 4) 4 (omega arith)) ∙ ap (be 4) (sym xe ∙ e ∙ sum_covers) in
      rw (
        c,
        same_bytes_refl (be 4 (crc32c (field 2 (length s - 6) s))),
        flags,
        len,
        le-leb 6 (length s - 2) (omega arith),
        le-leb (length s - 2) max_len (omega arith),
        eq-eqb (length s) (length s - 2 + 2) (omega arith),
      )

  pub decided : eqb x sum ≡ envelope_holds s
  unfolding number_at
  decided = elim (test (eqb x sum)) [
    | inl p ↦ p ∙ sym (holds (eqb-true x sum p))
    | inr p ↦ p ∙ fails s (λ k.
        let c : crc32c (field 2 (length s - 6) s) < 2 ^ 32 = rw (sum_covers) at fits in
        eqb-false x sum p (xe ∙ ap num k.checksum ∙ num-be 4 (crc32c (field 2 (length s - 6) s)) c ∙ sym sum_covers))
  ]

-- ---- bodies
pub ends_short : (at : ℕ) (s : List ℕ) → length s < at + 6 → false ≡ value_ends at s
unfolding value_ends ends_at
ends_short at s h = sym (ne_eqb (length s) (at + 2 + vlen at s + 4) (omega arith))

pub ends_by_length : (at : ℕ) (s : List ℕ) (n : ℕ) → at + 6 ≤ length s → n ≡ number_at at 2 s → eqb n (length s - 6 - at) ≡ value_ends at s
unfolding value_ends ends_at vlen
ends_by_length at s n h e = eqb_both n (length s - 6 - at) (length s) (at + 2 + number_at at 2 s + 4) (λ p. omega arith) (λ p. omega arith)

-- the flag of a tombstone, and the other flags
module _ (v : List ℕ) (f : ℕ) where
  pub tombstone_flag : f ≡ 1 → eqb (length v) 0 ≡ not (bad_flag (entry_of [] v f least))
  unfolding bad_flag
  tombstone_flag e = elim (test (eqb (length v) 0)) [
    | inl p ↦ rw (p, e, le-ltb 0 (length v) (omega (arith, eqb-true (length v) 0 p)))
    | inr p ↦ rw (p, e, lt-ltb 0 (length v) (omega (arith, eqb-false (length v) 0 p)))
  ]

  pub other_flag : (f ≡ 1 → ⊥) → ltb f 1 ≡ not (bad_flag (entry_of [] v f least))
  unfolding bad_flag
  other_flag n = elim (test (ltb f 1)) [
    | inl p ↦ rw (p, le-ltb 1 f (omega (arith, ltb-true f 1 p)), ne_eqb f 1 n)
    | inr p ↦ rw (p, lt-ltb 1 f (omega (arith, ltb-false f 1 p)))
  ]

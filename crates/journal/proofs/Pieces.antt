-- What stands at the front of some bytes, and what more bytes make of it.
use mathlib.Core.Path.{◌≡◌, refl, sym, ap, ◌∙◌}
use mathlib.Core.Logic.{◌⊎◌, inl, inr}
use mathlib.Core.Bool.{Bool, true, false, ◌||◌}
use mathlib.Core.List.{List, ◌++◌}
use Prim.Native.Nat.{ℕ, ◌+◌, ◌≤◌, ◌<◌}
use native.Mathlib.Omega.{arith}
use lib.ListN.{length, take, drop, length-append, length-drop}
use lib.Seq.{take-append-le, drop-append-le}
use lib.Dec.{ltb, eqb}
use borrow.Author.Tests.{ltb-true, ltb-false, le-ltb, eqb-true, ne_eqb}
use Rattle.wire.proofs.Tests.{cases, or-false, never}
use Rattle.wire.specs.Fill.{field}
use Rattle.wire.specs.Number.{num}
use Rattle.frame.specs.Layout.{max_len}
use Rattle.journal.specs.Journal.{Piece, whole, no_record, max_record, time_in, len_in, piece_of}
use Rattle.journal.specs.Meaning.{MoreBytesKeep, BegunIsShort}
use Rattle.journal.proofs.Cutting.{cut_whole}

module _ (s : List ℕ) where
  -- LEN can be read and is out of range
  pub record IsBroken : Type 0 where
    pub head : 8 ≤ length s
    pub out : ltb (len_in s) 6 || ltb max_len (len_in s) ≡ true

  -- LEN is in range, and a record of that length is whole or only begun
  pub record Has (t e : ℕ) : Type 0 where
    pub time_is : t ≡ time_in s
    pub end_is : e ≡ 8 + len_in s
    pub least : 6 ≤ len_in s
    pub most : len_in s ≤ max_len
    pub within : e ≤ length s

  pub piece_cases : (P : Piece → Type 0)
      → (length s ≡ 0 → P (no_record true 0))
      → (length s < max_record → P (no_record true 3))
      → (IsBroken → P (no_record false 3))
      → (Has (time_in s) (8 + len_in s) → P (whole (time_in s) (8 + len_in s)))
      → P (piece_of s)
  unfolding piece_of
  piece_cases P z b k w = cases (eqb (length s) 0) (λ p. rw p (z (eqb-true (length s) 0 p))) (λ p. rw p
      (cases (ltb (length s) 8) (λ q. rw q (b (omega (arith, ltb-true (length s) 8 q)))) (λ q. rw q
      (cases (ltb (len_in s) 6 || ltb max_len (len_in s)) (λ r. rw r (k (record { head = ltb-false (length s) 8 q; out = r }))) (λ r. rw r
      (let i = or-false (ltb (len_in s) 6) (ltb max_len (len_in s)) r in
      let l : len_in s ≤ max_len = omega (arith, ltb-false max_len (len_in s) i.1) in
      cases (ltb (length s) (8 + len_in s)) (λ j. rw j (b (omega (arith, ltb-true (length s) (8 + len_in s) j)))) (λ j. rw j
      (w (record { time_is = refl; end_is = refl; least = ltb-false (len_in s) 6 i.0; most = l; within = ltb-false (length s) (8 + len_in s) j })))))))))

  pub whole_has : (t e : ℕ) → piece_of s ≡ whole t e → Has t e
  whole_has t e = piece_cases (λ p. p ≡ whole t e → Has t e)
      (λ z h. never (cc))
      (λ b h. never (cc))
      (λ k h. never (cc))
      (λ w h.
      let a : time_in s ≡ t = cc in
      let b : 8 + len_in s ≡ e = cc in
      record { time_is = sym a; end_is = sym b; least = w.least; most = w.most; within = omega (arith, w.within) })

  pub broken_is : (n : ℕ) → piece_of s ≡ no_record false n → IsBroken × (n ≡ 3)
  broken_is n = piece_cases (λ p. p ≡ no_record false n → IsBroken × (n ≡ 3))
      (λ z h. never (cc))
      (λ b h. never (cc))
      (λ k h. (k, (cc)))
      (λ w h. never (cc))

  pub refusal_number_lem : (more : Bool) (n : ℕ) → piece_of s ≡ no_record more n → (n ≡ 0) ⊎ (n ≡ 3)
  refusal_number_lem more n =
      piece_cases (λ p. p ≡ no_record more n → (n ≡ 0) ⊎ (n ≡ 3)) (λ z h. inl (cc)) (λ b h. inr (cc)) (λ k h. inr (cc)) (λ w h. never (cc))

pub begun_is_short : BegunIsShort
begun_is_short s n = piece_cases s (λ p. p ≡ no_record true n → length s < max_record)
    (λ z h. omega arith)
    (λ b h. b)
    (λ k h. never (cc))
    (λ w h. never (cc))

-- a whole record has 14 bytes to the most, and lies within those at hand
pub whole_within : (s : List ℕ) (t e : ℕ) → piece_of s ≡ whole t e → (14 ≤ e) × (e ≤ max_record) × (e ≤ length s)
whole_within s t e h = let w = whole_has s t e h in (omega (arith, w.end_is, w.least), omega (arith, w.end_is, w.most), w.within)

-- ---- more bytes
pub field_front : (at w : ℕ) (s more : List ℕ) → at + w ≤ length s → field at w (s ++ more) ≡ field at w s
unfolding field
field_front at w s more h =
    ap (take w) (drop-append-le at s more (omega arith)) ∙ take-append-le w (drop at s) more (rw length-drop (omega arith))

module _ (s more : List ℕ) (h : 8 ≤ length s) where
  len_kept : len_in (s ++ more) ≡ len_in s
  unfolding len_in
  len_kept = ap num (field_front 6 2 s more h)

  time_kept : time_in (s ++ more) ≡ time_in s
  unfolding time_in
  time_kept = ap num (field_front 0 6 s more (omega arith))

  longer : length s ≤ length (s ++ more)
  longer = rw length-append (omega arith)

-- what makes the cases
pub has_whole : (s : List ℕ) (t e : ℕ) → Has s t e → piece_of s ≡ whole t e
has_whole s t e w =
    let l : 8 + len_in s ≤ length s = omega (arith, w.within, w.end_is) in
    rw (w.time_is, w.end_is) (sym (cut_whole s (omega arith) w.least w.most l))

pub broken_of : (s : List ℕ) → IsBroken s → piece_of s ≡ no_record false 3
unfolding piece_of
broken_of s k =
    let z : length s ≡ 0 → ⊥ = omega (arith, k.head) in
    rw (ne_eqb (length s) 0 z, le-ltb (length s) 8 k.head, k.out)

whole_kept : (s more : List ℕ) (t e : ℕ) → piece_of s ≡ whole t e → piece_of (s ++ more) ≡ whole t e
whole_kept s more t e h =
    let w = whole_has s t e h in
    let m : 8 ≤ length s = omega (arith, w.within, w.end_is) in
    has_whole (s ++ more) t e (record {
      time_is = w.time_is ∙ sym (time_kept s more m);
      end_is = w.end_is ∙ ap (λ (n : ℕ). 8 + n) (sym (len_kept s more m));
      least = rw (len_kept s more m) w.least;
      most = rw (len_kept s more m) w.most;
      within = omega (arith, w.within, longer s more m);
    })

broken_kept : (s more : List ℕ) (n : ℕ) → piece_of s ≡ no_record false n → piece_of (s ++ more) ≡ no_record false n
broken_kept s more n h =
    let k = broken_is s n h in
    let m = k.0.head in
    rw k.1 (broken_of (s ++ more) (record { head = omega (arith, longer s more m); out = rw (len_kept s more m) k.0.out }))

pub more_bytes_keep : MoreBytesKeep
more_bytes_keep s more = (whole_kept s more, broken_kept s more)

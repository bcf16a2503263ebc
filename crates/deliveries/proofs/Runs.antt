-- Lists of deliveries, one after the other.
use Prim.Native.Nat.{ℕ, zero, suc, ◌+◌, ◌-◌, ◌*◌, ◌≤◌, ◌<◌}
use native.Mathlib.Omega.{arith}
use mathlib.Core.Path.{◌≡◌, refl, sym, ap, ◌∙◌}
use mathlib.Core.List.{List, [], ◌∷◌}
use Rattle.std.specs.Prelude.{Option, None, Some}
use lib.ListN.{length, take, drop, length-drop}
use lib.Seq.{drop-drop}
use lib.Dec.{eqb}
use borrow.Author.Tests.{eqb-true, eqb-false, eq-eqb, ne_eqb}
use Rattle.wire.proofs.Tests.{cases, never}
use Rattle.wire.proofs.Fields.{rest}
use Rattle.entry.specs.Entry.{Entry}
use Rattle.frame.specs.Layout.{max_frame}
use Rattle.frame.specs.Reading.{read_answer}
use Rattle.deliveries.specs.declared.Delivery.{Delivery}
use Rattle.deliveries.specs.Cut.{first_length, first_frame, cut_answer, delivery_in}
use Rattle.deliveries.specs.List.{max_deliveries, first_entry, following, deliveries_within, deliveries_of, Answer, deliveries, refused, counted, count_answer}
use Rattle.deliveries.proofs.Cutting.{cut_is, first_cut, first_long, first_short, first_within}

-- the bytes are just these deliveries, one after the other
abbrev pub Run : List Entry → List ℕ → Type 0
Run [] s = length s ≡ 0
Run (e ∷ es) s = (first_entry s ≡ Some e) × Run es (drop (first_length s) s)

-- ---- the steps of reading
within_end : (n : ℕ) (s : List ℕ) → length s ≡ 0 → deliveries_within n s ≡ Some []
unfolding deliveries_within
within_end zero s h = rw (eq-eqb (length s) 0 h)
within_end (suc n) s h = rw (eq-eqb (length s) 0 h)

module _ (s : List ℕ) (h : 0 < length s) where
  within_full : deliveries_within 0 s ≡ None
  unfolding deliveries_within
  within_full = let z : length s ≡ 0 → ⊥ = omega arith in rw (ne_eqb (length s) 0 z)

  within_step : (n : ℕ) → deliveries_within (suc n) s ≡ following (first_entry s) (deliveries_within n (drop (first_length s) s))
  unfolding deliveries_within
  within_step n = let z : length s ≡ 0 → ⊥ = omega arith in rw (ne_eqb (length s) 0 z)

-- ---- counting
-- n deliveries, and those that follow
abbrev pub counting : ℕ → Option (List Entry) → Answer
counting n None = refused 17
counting n (Some es) = deliveries (n + length es)

counting_first : (o : Option (List Entry)) → counting 0 o ≡ counted o
counting_first None = refl
counting_first (Some es) = ap deliveries (omega arith)

counting_next : (n : ℕ) (e : Entry) (o : Option (List Entry)) → counting n (following (Some e) o) ≡ counting (n + 1) o
counting_next n e None = refl
counting_next n e (Some es) = ap deliveries (omega arith)

pub count_start : (s : List ℕ) → counting 0 (deliveries_within max_deliveries (drop 0 s)) ≡ count_answer s
unfolding count_answer deliveries_of
count_start s = counting_first (deliveries_within max_deliveries s)

-- the delivery that a cut found
cut_found : (r : List ℕ) (d : Delivery) → cut_answer r ≡ Some d → (e : Entry) × (first_entry r ≡ Some e) × (d.end ≡ first_length r)
unfolding cut_answer
cut_found r d h = (_, first_cut r ∙ ap (delivery_in (first_frame r)) h, sym (cut_is (first_length r) (read_answer (first_frame r)) d h).1)

-- after a turn of the count at an offset of the list, over a delivery of some bytes
pub record Turned (s : List ℕ) (at n end : ℕ) : Type 0 where
  pub counts : counting (n + 1) (deliveries_within (max_deliveries - (n + 1)) (drop (at + end) s)) ≡ count_answer s
  pub some_bytes : 0 < end
  pub within : at + end ≤ length s

module _ (s : List ℕ) (at n : ℕ) (inv : counting n (deliveries_within (max_deliveries - n) (drop at s)) ≡ count_answer s) where
  abbrev left : List ℕ
  left = drop at s

  pub turn_end : length s ≤ at → deliveries n ≡ count_answer s
  turn_end h =
      let z : length left ≡ 0 = omega (arith, length-drop at s) in
      let m : n ≡ n + 0 = omega arith in
      ap deliveries m ∙ (rw (within_end (max_deliveries - n) left z) at inv)

  module _ (l : at < length s) where
    more : 0 < length left
    more = omega (arith, length-drop at s)

    pub turn_full : n ≡ max_deliveries → refused 17 ≡ count_answer s
    turn_full e = let z : max_deliveries - n ≡ 0 = omega arith in rw (z, within_full left more) at inv

    module _ (m : n < max_deliveries) (x : Option Delivery) (c : x ≡ cut_answer (take (length s - at) left)) where
      abbrev behind : Option (List Entry)
      behind = deliveries_within (max_deliveries - (n + 1)) (drop (first_length left) left)

      one_more_lem : counting n (following (first_entry left) behind) ≡ count_answer s
      one_more_lem =
          let z : max_deliveries - n ≡ suc (max_deliveries - (n + 1)) = omega arith in
          rw (z, within_step left more (max_deliveries - (n + 1))) at inv

      seen : cut_answer left ≡ x
      seen = sym (c ∙ ap cut_answer (rest at s))

      pub turn_nothing : x ≡ None → refused 17 ≡ count_answer s
      turn_nothing h = let q : first_entry left ≡ None = first_cut left ∙ ap (delivery_in (first_frame left)) (seen ∙ h) in rw q at one_more_lem

      pub turn_next : (d : Delivery) → x ≡ Some d → Turned s at n d.end
      turn_next d h =
          let k = cut_found left d (seen ∙ h) in
          let p : drop (at + d.end) s ≡ drop (first_length left) left = ap (λ (i : ℕ). drop (at + i) s) k.2 ∙ sym (drop-drop (first_length left) at s) in
          record {
            counts = rw p (sym (counting_next n k.0 behind) ∙ (rw k.1 at one_more_lem));
            some_bytes = omega (arith, k.2, first_long left k.0 k.1);
            within = omega (arith, k.2, first_within left, length-drop at s, l);
          }

-- ---- a readable list is a run of deliveries
following_is : (o : Option Entry) (p : Option (List Entry)) (es : List Entry) → following o p ≡ Some es
    → (e : Entry) × (fs : List Entry) × (o ≡ Some e) × (p ≡ Some fs) × (e ∷ fs ≡ es)
following_is None p es h = never (cc)
following_is (Some e) None es h = never (cc)
following_is (Some e) (Some fs) es h = (e, fs, refl, refl, cc)

run_empty : (n : ℕ) (s : List ℕ) (es : List Entry) → deliveries_within n s ≡ Some es → length s ≡ 0 → Run es s × (length es ≤ n)
run_empty n s es h q = let e : [] ≡ es = cc (sym (within_end n s q) ∙ h) in rw (← e) (q, omega arith)

run_of : (n : ℕ) (s : List ℕ) (es : List Entry) → deliveries_within n s ≡ Some es → Run es s × (length es ≤ n)
run_of zero s es h = cases (eqb (length s) 0) (λ z. run_empty zero s es h (eqb-true (length s) 0 z)) (λ z.
    let f = sym (within_full s (omega (arith, eqb-false (length s) 0 z))) ∙ h in never (cc))
run_of (suc m) s es h = cases (eqb (length s) 0) (λ z. run_empty (suc m) s es h (eqb-true (length s) 0 z)) (λ z.
    let l : 0 < length s = omega (arith, eqb-false (length s) 0 z) in
    let f = following_is (first_entry s) (deliveries_within m (drop (first_length s) s)) es (sym (within_step s l m) ∙ h) in
    let r = run_of m (drop (first_length s) s) f.1 f.3 in
    rw (← f.4) ((f.2, r.0), omega (arith, r.1)))

pub readable_run : (s : List ℕ) (es : List Entry) → deliveries_of s ≡ Some es → Run es s × (length es ≤ max_deliveries)
unfolding deliveries_of
readable_run s es h = run_of max_deliveries s es h

first_some : (s : List ℕ) (e : Entry) → first_entry s ≡ Some e → 0 < length s
first_some s e h = omega (arith, first_long s e h, first_within s)

pub of_run : (n : ℕ) (s : List ℕ) (es : List Entry) → Run es s → length es ≤ n → deliveries_within n s ≡ Some es
of_run n s [] r l = within_end n s r
of_run zero s (e ∷ es) r l = absurd (omega arith)
of_run (suc n) s (e ∷ es) r l =
    within_step s (first_some s e r.0) n ∙ rw (r.0, of_run n (drop (first_length s) s) es r.1 (omega arith))

-- a run of n deliveries has at most n times the bytes of the longest frame
pub run_short : (es : List Entry) (s : List ℕ) → Run es s → length s ≤ max_frame * length es
run_short [] s r = omega (arith, r)
run_short (e ∷ es) s r =
    let ih = run_short es (drop (first_length s) s) r.1 in
    omega (arith, ih, length-drop (first_length s) s, first_short s e r.0)

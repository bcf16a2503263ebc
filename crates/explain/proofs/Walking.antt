-- A walk over a readable list, delivery by delivery.
use Prim.Native.Nat.{ℕ, zero, suc, ◌+◌, ◌≤◌, ◌<◌}
use native.Mathlib.Omega.{arith}
use native.Mathlib.Numerals.{add-one}
use mathlib.Core.Path.{◌≡◌, refl, sym, ap, ◌∙◌}
use mathlib.Core.Logic.{inl, inr}
use mathlib.Core.List.{List, [], ◌∷◌, ◌++◌}
use Rattle.std.specs.Prelude.{Option, None, Some}
use mathlib.Core.Option.{some, some-injective, none-ne-some}
use lib.ListN.{length, take, drop, get_or, set, length-drop, length-replicate, get_or-replicate, drop_of_length-le}
use lib.Seq.{take_all, drop-drop}
use Rattle.wire.proofs.Tests.{test}
use Rattle.wire.proofs.Fill.{copy_step}
use Rattle.entry.specs.Entry.{Entry}
use Rattle.store.specs.Listing.{nth}
use Rattle.store.proofs.Listings.{nth_there, nth_within}
use Rattle.deliveries.specs.Cut.{first_length, delivery_in}
use Rattle.deliveries.specs.List.{max_deliveries, first_entry}
use Rattle.deliveries.proofs.Cutting.{begins, first_long, first_within}
use Rattle.deliveries.proofs.Runs.{Run, readable_run}
use Rattle.explain.specs.Winner.{is_of, Placed, winner}
use Rattle.explain.specs.Reason.{other_key, byte_of, bytes_from, reasons_for}
use Rattle.explain.specs.Explain.{reported}
use Rattle.explain.specs.Walk.{entries_in, Readable, if_of, seen, end_in, behind, best_with, byte_by}
use Rattle.explain.proofs.OneWalk.{best_after, best_over, after_seen}
use Rattle.explain.proofs.Winning.{none_of_key}

-- what is seen of a delivery, and where the next one begins
module _ (s k : List ℕ) (at : ℕ) (e : Entry) (h : first_entry (drop at s) ≡ Some e) where
  sees : seen s at k ≡ if_of k (Some e)
  unfolding seen
  sees = let b = begins (drop at s) e h in ap (λ (x : Option Entry). if_of k x) (ap (delivery_in (drop at s)) b.is ∙ ap Some b.entry)

  sees_behind : behind s at ≡ at + first_length (drop at s)
  unfolding behind
  sees_behind = let b = begins (drop at s) e h in ap (end_in s at) b.is

-- ---- where a walk stands: at an offset, before the delivery at place i
pub record Stands (s : List ℕ) (es : List Entry) (at i : ℕ) : Type 0 where
  pub run : Run (drop i es) (drop at s)
  pub within : at ≤ length s
  pub place : i ≤ length es

-- a readable list has at most 1,000 deliveries, and a walk begins before the first
pub most : (s : List ℕ) → Readable s → length (entries_in s) ≤ max_deliveries
most s r = (readable_run s (entries_in s) r).1

pub stands_first : (s : List ℕ) → Readable s → Stands s (entries_in s) 0 0
stands_first s r = record { run = (readable_run s (entries_in s) r).0; within = omega arith; place = omega arith }

-- the delivery there, what was seen of it, and where the walk stands behind it
pub record Step (s k : List ℕ) (es : List Entry) (at i : ℕ) (x : Option Entry) (n : ℕ) : Type 0 where
  pub entry : Entry
  pub is : drop i es ≡ entry ∷ drop (i + 1) es
  pub saw : x ≡ if_of k (Some entry)
  pub more : i < length es
  pub farther : at < n
  pub next : Stands s es n (i + 1)

module _ {s : List ℕ} {es : List Entry} {at i : ℕ} (w : Stands s es at i) where
  step_in : (ds : List Entry) → drop i es ≡ ds → Run ds (drop at s) → at < length s → (k : List ℕ) (x : Option Entry) (n : ℕ) → x ≡ seen s at k
      → n ≡ behind s at → Step s k es at i x n
  step_in [] q r l k x n h b = absurd (omega (arith, length-drop at s, r))
  step_in (e ∷ ds) q r l k x n h b =
      let v : n ≡ at + first_length (drop at s) = b ∙ sees_behind s k at e r.0 in
      let d : drop (i + 1) es ≡ ds = sym (drop-drop 1 i es) ∙ ap (drop 1) q in
      let m : length (drop i es) ≡ suc (length ds) = ap length q in
      record {
        entry = e;
        is = q ∙ ap (◌∷◌ e) (sym d);
        saw = h ∙ sees s k at e r.0;
        more = omega (arith, length-drop i es, m);
        farther = omega (arith, v, first_long (drop at s) e r.0);
        next = record {
          run = rw (v, d, ← drop-drop (first_length (drop at s)) at s) r.1;
          within = omega (arith, v, length-drop at s, first_within (drop at s), l);
          place = omega (arith, length-drop i es, m);
        };
      }

  -- a turn of the walk, with what a call of peek answered
  pub step : at < length s → (k : List ℕ) (x : Option Entry) (n : ℕ) → x ≡ seen s at k → n ≡ behind s at → Step s k es at i x n
  step l k x n h b = step_in (drop i es) refl w.run l k x n h b

  end_at : (ds : List Entry) → Run ds (drop at s) → length s ≤ at → ds ≡ []
  end_at [] r l = refl
  end_at (e ∷ ds) r l = absurd (omega (arith, length-drop at s, first_long (drop at s) e r.0, first_within (drop at s)))

  -- at the end of the list every delivery was met
  pub met_all : length s ≤ at → i ≡ length es
  met_all l =
      let d : length (drop i es) ≡ 0 = ap length (end_at (drop i es) w.run l) in
      omega (arith, length-drop i es, d, w.place)

-- ---- the best so far
-- the best after i deliveries is such that the others will make the winner of it
abbrev pub SoFar : List ℕ → List Entry → ℕ → Option Placed → Type 0
SoFar k es i o = best_over k o i (drop i es) ≡ winner k es

pub so_far_next : {s k : List ℕ} {es : List Entry} {at i : ℕ} {x : Option Entry} {n : ℕ} (t : Step s k es at i x n) (o : Option Placed) → SoFar k es i o
    → SoFar k es (i + 1) (best_with o i x)
unfolding best_over
so_far_next {s} {k} {es} {i = i} {x} t o h =
    rw (t.saw, after_seen k o i t.entry)
    (ap (λ (j : ℕ). best_over k (best_after k o i t.entry) j (drop (i + 1) es)) (add-one i) ∙ ap (best_over k o i) (sym t.is) ∙ h)

pub so_far_end : (k : List ℕ) (es : List Entry) (i : ℕ) (o : Option Placed) → SoFar k es i o → i ≡ length es → o ≡ winner k es
unfolding best_over
so_far_end k es i o h e = let z : length es ≤ i = omega arith in ap (best_over k o i) (sym (drop_of_length-le es z)) ∙ h

-- ---- the bytes
length_bytes : (k : List ℕ) (w : Placed) (i : ℕ) (es : List Entry) → length (bytes_from k w i es) ≡ length es
unfolding bytes_from
length_bytes k w i [] = refl
length_bytes k w i (d ∷ ds) = ap suc (length_bytes k w (suc i) ds)

pub length_reasons : (k : List ℕ) (es : List Entry) (o : Option Placed) → length (reasons_for k es o) ≡ length es
length_reasons k es None = length-replicate (length es) other_key
length_reasons k es (Some w) = length_bytes k w 0 es

bytes_at : (k : List ℕ) (w : Placed) (j : ℕ) (ds : List Entry) (i : ℕ) (d : Entry) → nth i ds ≡ some d
    → get_or (bytes_from k w j ds) i 0 ≡ byte_of k w (j + i) d
unfolding bytes_from nth
bytes_at k w j [] i d n = absurd (none-ne-some d n)
bytes_at k w j (c ∷ ds) zero d n =
    let z : j ≡ j + 0 = omega arith in
    ap (byte_of k w j) (some-injective c d n) ∙ ap (λ (m : ℕ). byte_of k w m d) z
bytes_at k w j (c ∷ ds) (suc i) d n =
    let z : suc j + i ≡ j + suc i = omega arith in
    bytes_at k w (suc j) ds i d n ∙ ap (λ (m : ℕ). byte_of k w m d) z

-- the byte at a place
module _ (k : List ℕ) (es : List Entry) (i : ℕ) (d : Entry) (n : nth i es ≡ some d) where
  pub byte_at : (w : Placed) → get_or (reasons_for k es (Some w)) i 0 ≡ byte_of k w i d
  byte_at w = let z : 0 + i ≡ i = omega arith in bytes_at k w 0 es i d n ∙ ap (λ (m : ℕ). byte_of k w m d) z

  pub other_at : get_or (reasons_for k es None) i 0 ≡ other_key
  other_at = get_or-replicate (length es) i other_key 0 (nth_within i es d n)

  byte_for : (o : Option Placed) → winner k es ≡ o → get_or (reasons_for k es o) i 0 ≡ byte_by o i (if_of k (Some d))
  unfolding byte_of
  byte_for None h = rw (none_of_key k es h i d n) other_at
  byte_for (Some w) h = byte_at w ∙ elim (test (is_of k d)) [ inl p ↦ rw p | inr p ↦ rw p ]

-- ---- the bytes are written one after the other
module _ (k : List ℕ) (es : List Entry) (out : List ℕ) where
  abbrev pub bytes : List ℕ
  bytes = reasons_for k es (winner k es)

  pub write_turn : {s : List ℕ} {at i : ℕ} {x : Option Entry} {n : ℕ} (t : Step s k es at i x n) → length es ≤ length out → (o : Option Placed)
      → o ≡ winner k es → (b : ℕ) → b ≡ byte_by o i x → (r : List ℕ) → r ≡ take i bytes ++ drop i out → set r i b ≡ take (i + 1) bytes ++ drop (i + 1) out
  write_turn {s} {i = i} {x} t m o q b be r re =
      let g = byte_for k es i t.entry (nth_there i es t.entry _ t.is) (winner k es) refl in
      let c : b ≡ byte_by (winner k es) i (if_of k (Some t.entry)) = rw (q, t.saw) at be in
      rw (re, c ∙ sym g) (copy_step bytes out i (omega (arith, t.more)) (omega (arith, t.more, length_reasons k es (winner k es))))

  pub write_done : (i : ℕ) → i ≡ length es → take i bytes ++ drop i out ≡ reported k es out
  unfolding reported
  write_done i e =
      let m = length_reasons k es (winner k es) in
      rw e (ap (λ (p : List ℕ). p ++ drop (length es) out) (take_all (length es) bytes (omega (arith, m))))

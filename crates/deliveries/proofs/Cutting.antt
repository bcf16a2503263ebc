-- The frame at the front of some bytes, and what a cut says of it.
use Prim.Native.Nat.{ℕ, ◌+◌, ◌-◌, ◌≤◌, ◌<◌}
use native.Mathlib.Omega.{arith}
use mathlib.Core.Path.{◌≡◌, refl, sym, ap, ◌∙◌}
use mathlib.Core.Logic.{◌⊎◌, inl, inr}
use mathlib.Core.List.{List}
use Rattle.std.specs.Prelude.{Option, None, Some, Result, Ok, Err}
use lib.ListN.{length, take, drop}
use Rattle.wire.specs.Number.{num, Bytes}
use Rattle.wire.specs.Fill.{field}
use Rattle.wire.proofs.Tests.{never}
use Rattle.wire.proofs.Fill.{length-field}
use Rattle.wire.proofs.Fields.{field_part, field_between, bytes_field, num-field}
use Rattle.entry.specs.declared.EntryAt.{EntryAt}
use Rattle.entry.specs.declared.Refusal.{Refusal}
use Rattle.entry.specs.Entry.{Entry, entry_of}
use Rattle.frame.specs.declared.answer.Message.{Message as Located}
use Rattle.frame.specs.declared.answer.Message.TheVariants.{Put, Get, Del, Repl, Ok as OkMessage, Value, NotFound, Err as ErrMessage}
use Rattle.frame.specs.Message.{repl, message_refusal, InRange}
use Rattle.frame.specs.Layout.{max_frame}
use Rattle.frame.specs.Reading.{part, message, meaning, number_at, read_body, read_answer, read_frame}
use Rattle.frame.proofs.Envelopes.{holding}
use Rattle.frame.proofs.RoundTrips.{read_is_taken, read_holds, read_lies_within, unchecked_reads_repl, unchecked_lies_within}
use Rattle.deliveries.specs.declared.Delivery.{Delivery}
use Rattle.deliveries.specs.Cut.{first_length, first_frame, cut_in, cut_answer, cut_unchecked, delivery_in}
use Rattle.deliveries.specs.List.{entry_in, first_entry}
use Rattle.deliveries.specs.Meaning.{UncheckedIsFirst, UncheckedLiesIn}

-- ---- its length
module _ (s : List ℕ) where
  pub first_within : first_length s ≤ length s
  unfolding first_length
  first_within = omega arith

  pub short_length : length s < 2 → length s ≡ first_length s
  unfolding first_length
  short_length h = omega arith

  len_read : (n : ℕ) → n ≡ num (take 8 (take 2 (drop 0 s))) → n ≡ number_at 0 2 s
  unfolding number_at field
  len_read n e = e ∙ num-field 0 2 s (omega arith)

  pub cut_length : (n : ℕ) → n ≡ num (take 8 (take 2 (drop 0 s))) → length s - 2 < n → length s ≡ first_length s
  unfolding first_length
  cut_length n e h = let l = len_read n e in omega arith

  pub whole_length : (n : ℕ) → n ≡ num (take 8 (take 2 (drop 0 s))) → 2 ≤ length s → n ≤ length s - 2 → n + 2 ≡ first_length s
  unfolding first_length
  whole_length n e t h = let l = len_read n e in omega arith

  pub length_first : length (first_frame s) ≡ first_length s
  unfolding first_frame
  length_first = length-field 0 (first_length s) s (omega (arith, first_within))

-- ---- what it says
-- what a reader f says of it
pub cut_by : (f : List ℕ → Result Located Refusal) (s : List ℕ) (e : ℕ) (r : Result Located Refusal) (x : Option Delivery) → e ≡ first_length s
    → r ≡ f (take (e - 0) (drop 0 s)) → x ≡ cut_in e r → x ≡ cut_in (first_length s) (f (first_frame s))
unfolding first_frame
cut_by f s e r x l q h = h ∙ rw (q, field_between 0 (first_length s) e s (omega (arith, l)), l)

-- ---- what a cut means
-- the entry that stands at these places
abbrev pub entry_there : List ℕ → EntryAt → Entry
entry_there s at = entry_of (part at.key s) (part at.value s) at.flag at.stamp

-- an answer of the reader is a REPL's, or no cut
pub repl_or_none : (e : ℕ) (r : Result Located Refusal)
    → ((at : EntryAt) × (r ≡ Ok (Repl at))) ⊎ ((cut_in e r ≡ None) × ((f : List ℕ) → entry_in (meaning f r) ≡ None))
repl_or_none e (Ok (Put k v)) = inr (refl, λ f. refl)
repl_or_none e (Ok (Get k)) = inr (refl, λ f. refl)
repl_or_none e (Ok (Del k)) = inr (refl, λ f. refl)
repl_or_none e (Ok (Repl at)) = inl (at, refl)
repl_or_none e (Ok OkMessage) = inr (refl, λ f. refl)
repl_or_none e (Ok (Value v)) = inr (refl, λ f. refl)
repl_or_none e (Ok NotFound) = inr (refl, λ f. refl)
repl_or_none e (Ok (ErrMessage n)) = inr (refl, λ f. refl)
repl_or_none e (Err r) = inr (refl, λ f. refl)

-- the entry that an answer of the reader brings, by the places in the frame
cut_entry : (f : List ℕ) (e : ℕ) (r : Result Located Refusal) → entry_in (meaning f r) ≡ delivery_in f (cut_in e r)
cut_entry f e r = elim (repl_or_none e r) [ inl w ↦ rw w.1 refl | inr w ↦ w.1 f ∙ ap (delivery_in f) (sym w.0) ]

-- an answer that is a delivery is a REPL's
pub cut_is : (n : ℕ) (r : Result Located Refusal) (d : Delivery) → cut_in n r ≡ Some d → (r ≡ Ok (Repl d.entry)) × (n ≡ d.end)
cut_is n r d h = elim (repl_or_none n r) [
  | inl w ↦ let e : record { entry = w.0; end = n } ≡ d = cc (rw w.1 at h) in (w.1 ∙ ap (λ (x : Delivery). Ok (Repl x.entry)) e, ap (λ (x : Delivery). x.end) e)
  | inr w ↦ let z = sym w.0 ∙ h in never (cc)
]

-- what the reader answered brings the entry e, which stands at these places in the frame f
record Brings (f : List ℕ) (e : Entry) (r : Result Located Refusal) : Type 0 where
  at : EntryAt
  is : r ≡ Ok (Repl at)
  entry : entry_there f at ≡ e

brings : (f : List ℕ) (e : Entry) (r : Result Located Refusal) → entry_in (meaning f r) ≡ Some e → Brings f e r
brings f e r h = elim (repl_or_none 0 r) [
  | inl w ↦ record { at = w.0; is = w.1; entry = cc (rw w.1 at h) }
  | inr w ↦ let z = sym (w.1 f) ∙ h in never (cc)
]

-- ---- the delivery at the front
module _ (s : List ℕ) where
  pub first_cut : first_entry s ≡ delivery_in (first_frame s) (cut_answer s)
  unfolding first_entry cut_answer read_frame
  first_cut = cut_entry (first_frame s) (first_length s) (read_answer (first_frame s))

  -- a part that lies within the frame is the same part of the bytes
  frame_part : (at w : ℕ) → at + w ≤ first_length s → field at w (first_frame s) ≡ field at w s
  unfolding first_frame
  frame_part at w h =
      let z : 0 + at ≡ at = omega arith in
      field_part 0 (first_length s) at w s h ∙ ap (λ (k : ℕ). field k w s) z

  -- whatever the bytes are
  pub unchecked_within : (d : Delivery) → cut_unchecked s ≡ Some d
      → (d.entry.key.at + d.entry.key.len ≤ d.end) × (d.entry.value.at + d.entry.value.len ≤ d.end) × (d.end ≡ first_length s) × (d.end ≤ length s)
  unfolding cut_unchecked
  unchecked_within d h =
      let i = cut_is (first_length s) (read_body 4 (first_frame s)) d h in
      let w = unchecked_lies_within (first_frame s) (Repl d.entry) i.0 in
      let l = length_first s in
      let g = first_within s in
      (omega (arith, w.0, i.1, l), omega (arith, w.1, i.1, l), sym i.1, omega (arith, i.1, g))

  module _ (e : Entry) (h : first_entry s ≡ Some e) where
    there : Brings (first_frame s) e (read_answer (first_frame s))
    unfolding first_entry read_frame
    there = brings (first_frame s) e (read_answer (first_frame s)) h

    -- the frame at the front is a REPL's
    pub first_reads : read_frame (first_frame s) ≡ message (repl e)
    unfolding read_frame
    first_reads =
        let t = there in
        ap (meaning (first_frame s)) t.is ∙ ap (λ (d : Entry). message (repl d)) t.entry

    pub first_long : 8 ≤ first_length s
    first_long =
        let l = length_first s in
        let k = holding (first_frame s) (read_holds (first_frame s) (repl e) first_reads) in
        omega (arith, l, k.least, k.whole)

    pub first_short : first_length s ≤ max_frame
    first_short =
        let l = length_first s in
        let k = holding (first_frame s) (read_holds (first_frame s) (repl e) first_reads) in
        omega (arith, l, k.most, k.whole)

    -- of bytes it is acceptable, and its numbers are in range
    pub first_taken : Bytes s → (message_refusal (repl e) ≡ 0) × InRange (repl e)
    unfolding first_frame
    first_taken b = read_is_taken (first_frame s) (repl e) (bytes_field 0 (first_length s) s b) first_reads

-- what a cut without a test of the checksum says of a list that begins with the delivery e
pub record Begins (s : List ℕ) (e : Entry) : Type 0 where
  pub at : EntryAt
  pub is : cut_unchecked s ≡ Some (record { entry = at; end = first_length s })
  pub entry : entry_there s at ≡ e

pub begins : (s : List ℕ) (e : Entry) → first_entry s ≡ Some e → Begins s e
unfolding cut_unchecked
begins s e h =
    let t = there s e h in
    let w = read_lies_within (first_frame s) _ t.is in
    let l = length_first s in
    let k = frame_part s t.at.key.at t.at.key.len (omega (arith, w.0, l)) in
    let v = frame_part s t.at.value.at t.at.value.len (omega (arith, w.1, l)) in
    record {
      at = t.at;
      is = ap (cut_in (first_length s)) (unchecked_reads_repl (first_frame s) e (first_reads s e h) ∙ t.is);
      entry = (λ i. entry_of (sym k i) (sym v i) t.at.flag t.at.stamp) ∙ t.entry;
    }

pub unchecked_lies_in : UncheckedLiesIn
unchecked_lies_in = unchecked_within

pub unchecked_is_first : UncheckedIsFirst
unchecked_is_first s e h = let b = begins s e h in ap (delivery_in s) b.is ∙ ap Some b.entry

-- Which bytes are a list of deliveries, and that what is written reads back.
use Prim.Native.Nat.{ℕ, ◌+◌, ◌≤◌}
use native.Mathlib.Omega.{arith}
use mathlib.Core.Path.{◌≡◌, refl, sym, ap, ◌∙◌}
use mathlib.Core.List.{List, [], ◌∷◌, ◌++◌}
use Rattle.std.specs.Prelude.{Option, None, Some}
use lib.ListN.{length, take, drop, length-append, length-drop, take-append-drop}
use lib.Seq.{take-append-le, drop-append-le, drop_at}
use Rattle.wire.specs.Number.{num}
use Rattle.wire.specs.Fill.{field}
use Rattle.wire.proofs.Tests.{never}
use Rattle.wire.proofs.Fill.{field_here}
use Rattle.entry.specs.Entry.{Entry}
use Rattle.frame.specs.Message.{repl}
use Rattle.frame.specs.Reading.{message, number_at, read_frame}
use Rattle.frame.proofs.Envelopes.{holding}
use Rattle.frame.proofs.Bodies.{repl_refusal}
use Rattle.frame.proofs.RoundTrips.{read_holds, written_reads_back}
use Rattle.deliveries.specs.Cut.{first_length, first_frame}
use Rattle.deliveries.specs.List.{max_deliveries, entry_in, first_entry, deliveries_of, deliveries, refused, counted, count_answer}
use Rattle.deliveries.specs.Meaning.{end_to_end, Read, ReadableAs, ReadableExactly, CountExactly, AllTaken, frames_of, DeliveriesReadBack}
use Rattle.deliveries.proofs.Cutting.{first_reads}
use Rattle.deliveries.proofs.Runs.{Run, readable_run, of_run}

-- ---- a frame that reads, at the front of some bytes
field_front : (at w : ℕ) (s more : List ℕ) → at + w ≤ length s → field at w (s ++ more) ≡ field at w s
unfolding field
field_front at w s more h =
    ap (take w) (drop-append-le at s more (omega arith)) ∙ take-append-le w (drop at s) more (rw length-drop (omega arith))

module _ (f more : List ℕ) (e : Entry) (h : read_frame f ≡ message (repl e)) where
  -- its LEN says how long it is
  front_length : first_length (f ++ more) ≡ length f
  unfolding first_length number_at
  front_length =
      let k = holding f (read_holds f (repl e) h) in
      let n : number_at 0 2 (f ++ more) ≡ number_at 0 2 f = ap num (field_front 0 2 f more (omega (arith, k.least, k.whole))) in
      omega (arith, k.whole, n, length-append f more)

  front_frame : first_frame (f ++ more) ≡ f
  unfolding first_frame
  front_frame = field_here (first_length (f ++ more)) f more (sym front_length)

  pub front_entry : first_entry (f ++ more) ≡ Some e
  unfolding first_entry
  front_entry = ap (λ (s : List ℕ). entry_in (read_frame s)) front_frame ∙ ap entry_in h

  pub front_rest : drop (first_length (f ++ more)) (f ++ more) ≡ more
  front_rest = drop_at f more (first_length (f ++ more)) (sym front_length)

-- ---- a run of deliveries is just frames end to end
-- the frames of a run
unfoldable cut_frames : List Entry → List ℕ → List (List ℕ)
cut_frames [] s = []
cut_frames (e ∷ es) s = first_frame s ∷ cut_frames es (drop (first_length s) s)

run_bytes : (es : List Entry) (s : List ℕ) → Run es s → s ≡ end_to_end (cut_frames es s)
unfolding cut_frames end_to_end first_frame field
run_bytes [] [] r = refl
run_bytes [] (b ∷ s) r = absurd (omega arith)
run_bytes (e ∷ es) s r =
    sym (take-append-drop (first_length s) s) ∙ ap (λ (t : List ℕ). take (first_length s) s ++ t) (run_bytes es (drop (first_length s) s) r.1)

run_read : (es : List Entry) (s : List ℕ) → Run es s → Read (cut_frames es s) es
unfolding cut_frames
run_read [] s r = tt
run_read (e ∷ es) s r = (first_reads s e r.0, run_read es (drop (first_length s) s) r.1)

pub read_run : (fs : List (List ℕ)) (es : List Entry) → Read fs es → Run es (end_to_end fs)
unfolding end_to_end
read_run [] [] r = refl
read_run [] (e ∷ es) r = absurd r
read_run (f ∷ fs) [] r = absurd r
read_run (f ∷ fs) (e ∷ es) r = (front_entry f (end_to_end fs) e r.0, rw (front_rest f (end_to_end fs) e r.0) (read_run fs es r.1))

-- ---- which lists are readable
module _ (s : List ℕ) (es : List Entry) where
  readable_is : deliveries_of s ≡ Some es → ReadableAs es s
  readable_is h = let r = readable_run s es h in
      record { frames = cut_frames es s; bytes = run_bytes es s r.0; read = run_read es s r.0; most = r.1 }

  is_readable : ReadableAs es s → deliveries_of s ≡ Some es
  unfolding deliveries_of
  is_readable r = rw r.bytes (of_run max_deliveries (end_to_end r.frames) es (read_run r.frames es r.read) r.most)

pub readable_exactly : ReadableExactly
readable_exactly s es = (readable_is s es, is_readable s es)

-- ---- what is written reads back
frames_read : (es : List Entry) → AllTaken es → Read (frames_of es) es
unfolding frames_of
frames_read [] t = tt
frames_read (e ∷ es) t = (written_reads_back (repl e) (repl_refusal e ∙ t.0) t.1, frames_read es t.2)

pub deliveries_read_back : DeliveriesReadBack
deliveries_read_back es t l =
    is_readable (end_to_end (frames_of es)) es (record { frames = frames_of es; bytes = refl; read = frames_read es t; most = l })

-- ---- how many they are
counted_is : (s : List ℕ) (o : Option (List Entry)) → deliveries_of s ≡ o → (n : ℕ) → counted o ≡ deliveries n
    → (es : List Entry) × ReadableAs es s × (length es ≡ n)
counted_is s None q n h = never (cc)
counted_is s (Some es) q n h = (es, readable_is s es q, cc)

refused_is : (s : List ℕ) (o : Option (List Entry)) → deliveries_of s ≡ o → (n : ℕ) → counted o ≡ refused n
    → (n ≡ 17) × ((es : List Entry) → ReadableAs es s → ⊥)
refused_is s None q n h = (cc, λ es r. let z = sym q ∙ is_readable s es r in never (cc))
refused_is s (Some es) q n h = never (cc)

unreadable : (s : List ℕ) → ((es : List Entry) → ReadableAs es s → ⊥) → (o : Option (List Entry)) → deliveries_of s ≡ o → o ≡ None
unreadable s h None q = refl
unreadable s h (Some es) q = absurd (h es (readable_is s es q))

pub count_exactly : CountExactly
unfolding count_answer
count_exactly s = record {
  readable = λ n. (counted_is s (deliveries_of s) refl n, λ r. ap counted (is_readable s r.0 r.1) ∙ ap deliveries r.2);
  other = λ n. (refused_is s (deliveries_of s) refl n, λ r. ap counted (unreadable s r.1 (deliveries_of s) refl) ∙ ap refused (sym r.0));
}

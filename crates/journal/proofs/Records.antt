-- A journal's records.
use mathlib.Core.Path.{◌≡◌, refl, sym, ap, ap₂, ◌∙◌}
use mathlib.Core.Logic.{◌⊎◌, inl}
use mathlib.Core.Bool.{Bool, false}
use mathlib.Core.List.{List, [], ◌∷◌, ◌++◌, append_assoc}
use Prim.Native.Nat.{ℕ, zero, suc, ◌+◌, ◌-◌, ◌≤◌}
use native.Mathlib.Omega.{arith}
use lib.ListN.{length, drop, length-append, length-drop}
use lib.Seq.{drop-append-le, drop_at}
use Rattle.wire.specs.Number.{be, num}
use Rattle.wire.specs.Fill.{field}
use Rattle.wire.proofs.Number.{length-be, num-be}
use Rattle.wire.proofs.Fill.{field_here, field_past}
use Rattle.journal.specs.Journal.{Piece, whole, no_record, time_in, len_in, piece_of}
use Rattle.journal.specs.Journal.{TimedFrame, Journal, record_at, following, read_on, journal_within, journal_of}
use Rattle.journal.specs.Meaning.{ReadRecordByRecord, RefusalIs0Or3, InRange, bytes_of, RecordsReadBack}
use Rattle.journal.proofs.Cutting.{cut_end}
use Rattle.journal.proofs.Pieces.{has_whole, whole_within, field_front, refusal_number_lem, more_bytes_keep}

-- ---- the bound
-- two ways to read on agree if they do behind a whole record
pub read_alike : (f g : List ℕ → Journal) (s : List ℕ) → ((t e : ℕ) → piece_of s ≡ whole t e → f (drop e s) ≡ g (drop e s))
    → read_on f s (piece_of s) ≡ read_on g s (piece_of s)
unfolding read_on
read_alike f g s h = go (piece_of s) refl
  where
    go : (p : Piece) → piece_of s ≡ p → read_on f s p ≡ read_on g s p
    go (whole t e) q = ap (following (record_at t e s)) (h t e q)
    go (no_record more n) q = refl

-- with a bound of the number of bytes or more
within_alike : (m n : ℕ) (s : List ℕ) → length s ≤ m → length s ≤ n → journal_within m s ≡ journal_within n s
unfolding journal_within read_on
within_alike zero zero s a b = refl
within_alike zero (suc n) s a b = rw (sym (cut_end s (omega arith)))
within_alike (suc m) zero s a b = rw (sym (cut_end s (omega arith)))
within_alike (suc m) (suc n) s a b = read_alike (journal_within m) (journal_within n) s (λ t e h.
    let w = whole_within s t e h in
    within_alike m n (drop e s) (omega (arith, length-drop e s, w.0)) (omega (arith, length-drop e s, w.0)))

pub read_record_by_record : ReadRecordByRecord
unfolding journal_of journal_within
read_record_by_record s =
    within_alike (length s) (suc (length s)) s (omega arith) (omega arith)
    ∙ read_alike (journal_within (length s)) journal_of s (λ t e h.
    within_alike (length s) (length (drop e s)) (drop e s) (omega (arith, length-drop e s)) (omega arith))

refusal_within : (n : ℕ) (s : List ℕ) → ((journal_within n s).refusal ≡ 0) ⊎ ((journal_within n s).refusal ≡ 3)
unfolding journal_within read_on following
refusal_within zero s = inl refl
refusal_within (suc n) s = go (refusal_within n) (piece_of s) refl
  where
    go : ((r : List ℕ) → ((journal_within n r).refusal ≡ 0) ⊎ ((journal_within n r).refusal ≡ 3)) → (p : Piece) → piece_of s ≡ p
        → ((read_on (journal_within n) s p).refusal ≡ 0) ⊎ ((read_on (journal_within n) s p).refusal ≡ 3)
    go ih (whole t e) h = ih (drop e s)
    go ih (no_record more k) h = refusal_number_lem s more k h

pub refusal_is_0_or_3 : RefusalIs0Or3
unfolding journal_of
refusal_is_0_or_3 s = refusal_within (length s) s

-- the two cases
module _ (s : List ℕ) where
  pub journal_whole : (t e : ℕ) → piece_of s ≡ whole t e → journal_of s ≡ following (record_at t e s) (journal_of (drop e s))
  unfolding read_on
  journal_whole t e h = read_record_by_record s ∙ ap (read_on journal_of s) h

  pub journal_ends : (more : Bool) (n : ℕ) → piece_of s ≡ no_record more n → journal_of s ≡ record { records = []; refusal = n }
  unfolding read_on
  journal_ends more n h = read_record_by_record s ∙ ap (read_on journal_of s) h

-- ---- what is written reads back
module _ (r : TimedFrame) (i : InRange r) (b : List ℕ) where
  len_of : ℕ
  len_of = num (field 0 2 r.frame)

  written : List ℕ
  written = be 6 r.time ++ r.frame ++ b

  behind_time : (at w : ℕ) → field (6 + at) w written ≡ field at w (r.frame ++ b)
  unfolding written
  behind_time at w = rw append_assoc (field_past 6 at w (be 6 r.time) (r.frame ++ b) (length-be 6 r.time))

  len_written : len_in written ≡ len_of
  unfolding len_in len_of
  len_written = ap num (behind_time 0 2 ∙ field_front 0 2 r.frame b (omega (arith, i.long)))

  time_written : time_in written ≡ r.time
  unfolding time_in written
  time_written =
      ap num (rw append_assoc (field_here 6 (be 6 r.time) (r.frame ++ b) (length-be 6 r.time)))
      ∙ num-be 6 r.time i.time

  head_long : length (be 6 r.time ++ r.frame) ≡ 8 + len_of
  unfolding len_of
  head_long = length-append (be 6 r.time) r.frame ∙ omega (arith, length-be 6 r.time, i.long)

  piece_written : piece_of written ≡ whole r.time (8 + len_of)
  unfolding written len_of
  piece_written = has_whole written r.time (8 + len_of) (record {
    time_is = sym time_written;
    end_is = ap (λ (n : ℕ). 8 + n) (sym len_written);
    least = rw len_written i.least;
    most = rw len_written i.most;
    within = omega (arith, length-append (be 6 r.time ++ r.frame) b, head_long);
  })

  record_written : record_at r.time (8 + len_of) written ≡ r
  unfolding record_at len_of
  record_written =
      let n : 8 + len_of - 6 ≡ length r.frame = omega (arith, i.long) in
      let f : field 6 (8 + len_of - 6) written ≡ r.frame = rw n (behind_time 0 (length r.frame) ∙ field_here (length r.frame) r.frame b refl) in
      λ k. record { time = r.time; frame = f k }

  rest_written : drop (8 + len_of) written ≡ b
  unfolding written
  rest_written = drop_at (be 6 r.time ++ r.frame) b (8 + len_of) head_long

  pub journal_written : journal_of (be 6 r.time ++ r.frame ++ b) ≡ following r (journal_of b)
  unfolding written
  journal_written = journal_whole written r.time (8 + len_of) piece_written ∙ ap₂ following record_written (ap journal_of rest_written)

pub records_read_back : RecordsReadBack
unfolding bytes_of journal_of journal_within following
records_read_back [] i = refl
records_read_back (r ∷ rs) i = journal_written r i.0 (bytes_of rs) ∙ ap (following r) (records_read_back rs i.1)

-- ---- with more bytes behind
pub whole_more : (s more : List ℕ) (t e : ℕ) → piece_of s ≡ whole t e
    → journal_of (s ++ more) ≡ following (record_at t e s) (journal_of (drop e s ++ more))
unfolding record_at
whole_more s more t e h =
    let w = whole_within s t e h in
    let f : field 6 (e - 6) (s ++ more) ≡ field 6 (e - 6) s = field_front 6 (e - 6) s more (omega (arith, w.0, w.2)) in
    let d : drop e (s ++ more) ≡ drop e s ++ more = drop-append-le e s more w.2 in
    journal_whole (s ++ more) t e ((more_bytes_keep s more).0 t e h) ∙ rw (f, d)

pub broken_more : (s more : List ℕ) (n : ℕ) → piece_of s ≡ no_record false n → journal_of (s ++ more) ≡ record { records = []; refusal = n }
broken_more s more n h = journal_ends (s ++ more) false n ((more_bytes_keep s more).1 n h)

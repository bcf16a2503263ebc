-- A frame's envelope: what is put into it is read out of it, and an envelope that holds is the one of its type and body.
use mathlib.Core.Path.{◌≡◌, refl, sym, ap, ap₂, ◌∙◌}
use mathlib.Core.Bool.{true}
use mathlib.Core.List.{List, [], ◌∷◌, ◌++◌, append_assoc, append-nil}
use Prim.Native.Nat.{ℕ, ◌+◌, ◌-◌, ◌≤◌}
use native.Mathlib.Omega.{arith}
use lib.ListN.{length, length-append}
use borrow.Author.Tests.{le-leb, eq-eqb, leb-true, eqb-true}
use Rattle.wire.specs.Number.{be, num, num_from, Bytes}
use Rattle.wire.specs.Fill.{field}
use Rattle.wire.proofs.Number.{length-be}
use Rattle.wire.proofs.Fill.{length-field}
use Rattle.wire.proofs.Fields.{field_all}
use Rattle.wire.proofs.Order.{same_bytes_eq, same_bytes_refl}
use Rattle.wire.proofs.Tests.{and-true}
use Rattle.checksum.specs.Crc32c.{crc32c}
use Rattle.frame.specs.Layout.{max_len, max_body, envelope}
use Rattle.frame.specs.Reading.{number_at, length_holds, checksum_holds, flags_hold, envelope_holds, type_in, read_body, read_answer}
use Rattle.frame.proofs.Fields.{field_inside, field_join, field_byte, number_inside, be-number}

pub length-envelope : (t : ℕ) (b : List ℕ) → length (envelope t b) ≡ length b + 8
unfolding envelope
length-envelope t b =
    length-append (be 2 (length b + 6) ++ (t ∷ 0 ∷ b)) (be 4 (crc32c (t ∷ 0 ∷ b)))
    ∙ omega (arith, length-append (be 2 (length b + 6)) (t ∷ 0 ∷ b), length-be 2 (length b + 6), length-be 4 (crc32c (t ∷ 0 ∷ b)))

-- a body in its frame: LEN, TYPE and FLAGS before it, and the checksum after it
pub record Framed (s b : List ℕ) : Type 0 where
  pub before : List ℕ
  pub after : List ℕ
  pub is : s ≡ before ++ (b ++ after)
  pub head : length before ≡ 4
  pub sum : length after ≡ 4

module _ (t : ℕ) (b : List ℕ) where
  abbrev sum : List ℕ
  sum = be 4 (crc32c (t ∷ 0 ∷ b))

  abbrev len : List ℕ
  len = be 2 (length b + 6)

  type_back : type_in (envelope t b) ≡ t
  unfolding type_in number_at envelope num num_from
  type_back = ap num (field_inside 2 1 (envelope t b) len (t ∷ []) (0 ∷ b ++ sum) (append_assoc len (t ∷ 0 ∷ b) sum) (length-be 2 _) refl) ∙ omega arith

  flags_back : number_at 3 1 (envelope t b) ≡ 0
  unfolding number_at envelope num num_from
  flags_back =
      ap num (field_inside 3 1 (envelope t b) (len ++ (t ∷ [])) (0 ∷ []) (b ++ sum) (simp append_assoc)
      (length-append len (t ∷ []) ∙ omega (arith, length-be 2 (length b + 6))) refl)

  checksum_back : checksum_holds (envelope t b) ≡ true
  unfolding checksum_holds envelope
  checksum_back =
      let n = length-envelope t b in
      let a : length (envelope t b) - 4 ≡ length b + 4 = omega arith in
      let w : length (envelope t b) - 6 ≡ length b + 2 = omega arith in
      let covered : field 2 (length b + 2) (envelope t b) ≡ t ∷ 0 ∷ b =
      field_inside 2 (length b + 2) (envelope t b) len (t ∷ 0 ∷ b) sum (append_assoc len (t ∷ 0 ∷ b) sum) (length-be 2 _) (omega arith) in
      let last : field (length b + 4) 4 (envelope t b) ≡ sum =
      field_inside (length b + 4) 4 (envelope t b) (len ++ (t ∷ 0 ∷ b)) sum [] (ap (λ (r : List ℕ). len ++ (t ∷ 0 ∷ b) ++ r) (sym (append-nil sum)))
      (length-append len (t ∷ 0 ∷ b) ∙ omega (arith, length-be 2 (length b + 6))) (length-be 4 _) in
      rw (a, w, covered, last) (same_bytes_refl sum)

  length_back : length b ≤ max_body → length_holds (envelope t b) ≡ true
  unfolding length_holds envelope
  length_back h =
      let l : number_at 0 2 (envelope t b) ≡ length b + 6 =
      number_inside 0 2 (length b + 6) (envelope t b) [] ((t ∷ 0 ∷ b) ++ sum) (append_assoc len (t ∷ 0 ∷ b) sum) refl (omega arith) in
      let n = length-envelope t b in
      rw (
        l,
        le-leb 6 (length b + 6) (omega arith),
        le-leb (length b + 6) max_len (omega arith),
        eq-eqb (length (envelope t b)) (length b + 6 + 2)
            (omega arith),
      )

  pub framed : Framed (envelope t b) b
  unfolding envelope
  framed = record {
    before = len ++ (t ∷ 0 ∷ []);
    after = sum;
    is = simp append_assoc;
    head = length-append len (t ∷ 0 ∷ []) ∙ omega (arith, length-be 2 (length b + 6));
    sum = length-be 4 (crc32c (t ∷ 0 ∷ b));
  }

  -- a frame is read by the type that it was given
  pub envelope_reads : length b ≤ max_body → read_answer (envelope t b) ≡ read_body t (envelope t b)
  unfolding read_answer envelope_holds flags_hold
  envelope_reads h = rw (length_back h, checksum_back, flags_back, type_back)

-- ---- an envelope that holds
pub record Holding (s : List ℕ) : Type 0 where
  pub least : 6 ≤ number_at 0 2 s
  pub most : number_at 0 2 s ≤ max_len
  pub whole : length s ≡ number_at 0 2 s + 2
  pub checksum : field (length s - 4) 4 s ≡ be 4 (crc32c (field 2 (length s - 6) s))
  pub flags : number_at 3 1 s ≡ 0

pub holding : (s : List ℕ) → envelope_holds s ≡ true → Holding s
unfolding envelope_holds length_holds checksum_holds flags_hold
holding s h =
    let e = and-true _ _ h in
    let f = and-true _ _ e.0 in
    let l = and-true _ _ f.0 in
    let b = and-true _ _ l.0 in
    record {
      least = leb-true 6 (number_at 0 2 s) b.0;
      most = leb-true (number_at 0 2 s) max_len b.1;
      whole = eqb-true (length s) (number_at 0 2 s + 2) l.1;
      checksum = same_bytes_eq _ _ f.1;
      flags = eqb-true (number_at 3 1 s) 0 e.1;
    }

pub envelope_writes : (s : List ℕ) → Bytes s → envelope_holds s ≡ true → envelope (type_in s) (field 4 (length s - 8) s) ≡ s
unfolding envelope type_in
envelope_writes s bs h =
    let k = holding s h in
    let w : length (field 4 (length s - 8) s) ≡ length s - 8 = length-field 4 (length s - 8) s (omega arith) in
    let l : length (field 4 (length s - 8) s) + 6 ≡ number_at 0 2 s = omega arith in
    let j : 1 + (1 + (length s - 8)) ≡ length s - 6 = omega arith in
    let covered : number_at 2 1 s ∷ 0 ∷ field 4 (length s - 8) s ≡ field 2 (length s - 6) s =
    ap (λ (x : ℕ). number_at 2 1 s ∷ x ∷ field 4 (length s - 8) s) (sym k.flags)
    ∙ ap₂ (λ (a b : List ℕ). a ++ (b ++ field 4 (length s - 8) s)) (sym (field_byte 2 s (omega arith))) (sym (field_byte 3 s (omega arith)))
    ∙ ap (λ (r : List ℕ). field 2 1 s ++ r) (field_join 3 1 4 (length s - 8) s refl)
    ∙ field_join 2 1 3 (1 + (length s - 8)) s refl ∙ ap (λ (n : ℕ). field 2 n s) j in
    ap₂ (λ (x : ℕ) (r : List ℕ). be 2 x ++ r ++ be 4 (crc32c r)) l covered
    ∙ ap₂ (λ (x y : List ℕ). x ++ field 2 (length s - 6) s ++ y) (be-number s bs 0 2 (omega arith)) (sym k.checksum)
    ∙ ap (λ (x : List ℕ). x ++ field (length s - 4) 4 s) (field_join 0 2 2 (length s - 6) s refl)
    ∙ field_join 0 (2 + (length s - 6)) (length s - 4) 4 s (omega arith)
    ∙ field_all (2 + (length s - 6) + 4) s (omega arith)

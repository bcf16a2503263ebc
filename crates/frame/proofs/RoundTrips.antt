-- What was written reads back, and what was read, written again, is the same bytes.
use mathlib.Core.Path.{◌≡◌, refl, sym, ap, ap₂, ◌∙◌}
use mathlib.Core.Logic.{◌⊎◌, inl, inr}
use mathlib.Core.Bool.{Bool, true, false, not}
use mathlib.Core.List.{List, [], ◌++◌}
use Prim.Native.Nat.{ℕ, ◌+◌, ◌-◌, ◌^◌, ◌≤◌}
use native.Mathlib.Omega.{arith}
use lib.ListN.{length, drop}
use lib.Seq.{take_at}
use lib.Dec.{ltb, eqb}
use borrow.Author.Tests.{le-ltb, lt-leb, ltb-false, eqb-true}
use Rattle.std.specs.Prelude.{Result, Ok, Err}
use Rattle.wire.specs.Number.{be, Bytes}
use Rattle.wire.specs.Fill.{field}
use Rattle.wire.proofs.Fill.{length-field}
use Rattle.wire.proofs.Tests.{test, never}
use Rattle.entry.specs.declared.Refusal.{Refusal}
use Rattle.entry.specs.Refusal.{number}
use Rattle.entry.specs.declared.Refusal.TheVariants.{BadKey, ValueTooLarge, BadFrame}
use Rattle.frame.specs.declared.answer.Message.{Message as Located}
use Rattle.frame.specs.declared.answer.Message.TheVariants.{Get, Del, Ok as OkMessage, Value, NotFound, Err as ErrMessage}
use Rattle.frame.specs.Message.{Message, repl, time_fault, key_fault, value_fault, argument_fault, message_refusal, InRange}
use Rattle.frame.specs.Layout.{counted, stamp_bytes, type_of, body, envelope, frame_of}
use Rattle.frame.specs.Reading.{message, refused, message_in, meaning, number_at, envelope_holds, type_in, klen, vlen, stamp_in, ends_at, key_ends, value_ends}
use Rattle.frame.specs.Reading.{span, judged_as, checked, put_in, repl_in, read_body, read_answer, read_frame}
use Rattle.frame.specs.Writing.{bytes, answer_of, write_refusal, write_answer, after_write, Writes}
use Rattle.frame.specs.Meaning.{Within, ReadLiesWithin, ReadHasType, ReadRefusals, WrittenReadsBack, ReadWritesBack, ReadIsTaken, FrameAtMost600}
use Rattle.frame.specs.Meaning.{UncheckedReadsRepl, UncheckedLiesWithin, WrittenWhole, FrontReadsBack}
use Rattle.frame.proofs.Fields.{field_join, number_lt, be-number}
use Rattle.frame.proofs.Envelopes.{length-envelope, framed, envelope_reads, envelope_writes}
use Rattle.frame.proofs.Bodies.{taken, body_short, body_reads}
use Rattle.frame.proofs.ByType.{either, by_type}
use Rattle.frame.proofs.Answers.{ends_length}

-- ---- what was written
pub written_reads_back : WrittenReadsBack
unfolding read_frame frame_of
written_reads_back m h i =
    let t = taken m h in
    let s = envelope (type_of m) (body m) in
    ap (meaning s) (envelope_reads (type_of m) (body m) (body_short m t)) ∙ body_reads m s (framed (type_of m) (body m)) t i

pub frame_at_most_600 : FrameAtMost600
unfolding frame_of
frame_at_most_600 m h = omega (arith, length-envelope (type_of m) (body m), body_short m (taken m h))

-- ---- what was read
-- a message that uses up the body, and has no fault
pub record Clean (s : List ℕ) (w : Bool) (l : Located) : Type 0 where
  pub used_up : w ≡ true
  pub argument : argument_fault (message_in s l) ≡ false
  pub key : key_fault (message_in s l) ≡ false
  pub value : value_fault (message_in s l) ≡ false

-- is answered; any other is refused
cases : (s : List ℕ) (w : Bool) (l : Located) → (Clean s w l × (checked s w l ≡ Ok l)) ⊎ ((r : Refusal) × (checked s w l ≡ Err r))
unfolding checked judged_as
cases s w l = elim (test w) [
  | inl p ↦ elim (test (argument_fault (message_in s l))) [
    | inl a ↦ inr (BadFrame, rw (p, a))
    | inr a ↦ elim (test (key_fault (message_in s l))) [
      | inl k ↦ inr (BadKey, rw (p, a, k))
      | inr k ↦ elim (test (value_fault (message_in s l))) [
        | inl v ↦ inr (ValueTooLarge, rw (p, a, k, v))
        | inr v ↦ inl (record { used_up = p; argument = a; key = k; value = v }, rw (p, a, k, v))
      ]
    ]
  ]
  | inr p ↦ inr (BadFrame, rw p)
]

-- the message of an answer
module _ (s : List ℕ) (m : Message) where
  no_message : {A : Type 0} (r : Refusal) → meaning s (Err r) ≡ message m → A
  no_message r h = never (cc)

  said : (w : Bool) (l : Located) → meaning s (checked s w l) ≡ message m → Clean s w l × (message_in s l ≡ m)
  said w l h = elim (cases s w l) [
    | inl c ↦ let e : message (message_in s l) ≡ message m = rw c.1 at h in (c.0, cc)
    | inr c ↦ no_message c.0 (rw c.1 at h)
  ]

  -- its type is the frame's
  has_type : (t c : ℕ) (w : Bool) (l : Located) → type_of (message_in s l) ≡ c → t ≡ c → meaning s (checked s w l) ≡ message m → type_of m ≡ t
  has_type t c w l q e h = ap type_of (sym (said w l h).1) ∙ q ∙ sym e

  type_by_type : (t : ℕ) → meaning s (read_body t s) ≡ message m → type_of m ≡ t
  unfolding type_of
  type_by_type t = by_type (λ r. meaning s r ≡ message m → type_of m ≡ t) s t (record {
    put = has_type t 1 _ (put_in s) refl;
    get = has_type t 2 _ (Get (span 5 (klen s))) refl;
    del = has_type t 3 _ (Del (span 5 (klen s))) refl;
    repl = has_type t 4 _ (repl_in s) refl;
    ok = has_type t 16 _ OkMessage refl;
    value = has_type t 17 _ (Value (span 6 (vlen 4 s))) refl;
    not_found_lem = has_type t 18 _ NotFound refl;
    err = has_type t 20 _ (ErrMessage (number_at 4 1 s)) refl;
    unknown = no_message BadFrame;
  })

  module _ (h : read_frame s ≡ message m) where
    pub read_holds : envelope_holds s ≡ true
    unfolding read_frame read_answer
    read_holds = elim (test (envelope_holds s)) [ inl p ↦ p | inr p ↦ no_message BadFrame (rw p at h) ]

    read_body_lem : meaning s (read_body (type_in s) s) ≡ message m
    unfolding read_frame read_answer
    read_body_lem = rw read_holds at h

pub read_has_type : ReadHasType
read_has_type s m h = type_by_type s m (type_in s) (read_body_lem s m h)

module _ (s : List ℕ) (m : Located) where
  not_said : {A : Type 0} (r : Refusal) → Err r ≡ Ok m → A
  not_said r h = never (cc)

  -- its parts lie within the frame
  lies : (w : Bool) (l : Located) → (w ≡ true → Within s l) → checked s w l ≡ Ok m → Within s m
  lies w l k h = elim (cases s w l) [
    | inl c ↦ let e : l ≡ m = cc in rw (← e) (k c.0.used_up)
    | inr c ↦ not_said c.0 (sym c.1 ∙ h)
  ]

  lies_by_type : (t : ℕ) → read_body t s ≡ Ok m → Within s m
  unfolding key_ends ends_at
  lies_by_type t = by_type (λ r. r ≡ Ok m → Within s m) s t (record {
    put = λ e. lies _ (put_in s) (λ w. let n = ends_length (klen s + 5) (klen s + 7) s (omega arith) w in (omega arith, omega arith));
    get = λ e. lies _ (Get (span 5 (klen s))) (λ w. omega (arith, eqb-true (length s) (klen s + 5 + 4) w));
    del = λ e. lies _ (Del (span 5 (klen s))) (λ w. omega (arith, eqb-true (length s) (klen s + 5 + 4) w));
    repl = λ e. lies _ (repl_in s) (λ w. let n = ends_length (klen s + 15) (klen s + 17) s (omega arith) w in (omega arith, omega arith));
    ok = λ e. lies _ OkMessage (λ w. tt);
    value = λ e. lies _ (Value (span 6 (vlen 4 s))) (λ w. omega (arith, ends_length 4 6 s refl w));
    not_found_lem = λ e. lies _ NotFound (λ w. tt);
    err = λ e. lies _ (ErrMessage (number_at 4 1 s)) (λ w. tt);
    unknown = not_said BadFrame;
  })

pub read_lies_within : ReadLiesWithin
unfolding read_answer
read_lies_within s m h = elim (test (envelope_holds s)) [
  | inl p ↦ lies_by_type s m (type_in s) (rw p at h)
  | inr p ↦ not_said s m BadFrame (rw p at h)
]

-- ---- the reader that does not test the envelope
pub unchecked_reads_repl : UncheckedReadsRepl
unfolding read_answer type_of
unchecked_reads_repl s e h = rw (read_holds s (repl e) h, ← read_has_type s (repl e) h) refl

pub unchecked_lies_within : UncheckedLiesWithin
unchecked_lies_within s m = lies_by_type s m 4

-- ---- a refusal
abbrev IsFew : Result Located Refusal → Type 0
IsFew (Ok m) = Unit {0}
IsFew (Err r) = (1 ≤ number r) × (number r ≤ 3)

few_checked : (s : List ℕ) (w : Bool) (l : Located) → IsFew (checked s w l)
unfolding checked judged_as
few_checked s w l =
    either IsFew (not w) _ _ (omega arith)
    (either IsFew (argument_fault (message_in s l)) _ _ (omega arith)
    (either IsFew (key_fault (message_in s l)) _ _ (omega arith)
    (either IsFew (value_fault (message_in s l)) _ _ (omega arith) tt)))

few_read : (s : List ℕ) → IsFew (read_answer s)
unfolding read_answer
few_read s = either IsFew (envelope_holds s) _ _
    (by_type IsFew s (type_in s) (record {
      put = λ e. few_checked s _ _;
      get = λ e. few_checked s _ _;
      del = λ e. few_checked s _ _;
      repl = λ e. few_checked s _ _;
      ok = λ e. few_checked s _ _;
      value = λ e. few_checked s _ _;
      not_found_lem = λ e. few_checked s _ _;
      err = λ e. few_checked s _ _;
      unknown = omega arith;
    }))
    (omega arith)

few_of : (s : List ℕ) (r : Result Located Refusal) (n : ℕ) → IsFew r → meaning s r ≡ refused n → (1 ≤ n) × (n ≤ 3)
few_of s (Ok m) n f h = never (cc)
few_of s (Err r) n f h = let e : number r ≡ n = cc in rw (← e) f

pub read_refusals : ReadRefusals
unfolding read_frame
read_refusals s n h = few_of s (read_answer s) n (few_read s) h

-- ---- and written again
-- the body of a message that was read is that of the frame, and a writer takes it
pub record Again (s : List ℕ) (m : Message) : Type 0 where
  pub same : body m ≡ field 4 (length s - 8) s
  pub taken : message_refusal m ≡ 0
  pub range : InRange m

-- what is left to check of a message without faults
pub record Rest (m : Message) : Type 0 where
  pub time : time_fault m ≡ false
  pub range : InRange m

module _ (s : List ℕ) (bs : Bytes s) where
  -- a byte string with its length before it
  counted_again : (at w : ℕ) → at + w + number_at at w s ≤ length s → counted w (field (at + w) (number_at at w s) s) ≡ field at (w + number_at at w s) s
  unfolding counted
  counted_again at w h =
      ap (λ (n : ℕ). be w n ++ field (at + w) (number_at at w s) s) (length-field (at + w) (number_at at w s) s h)
      ∙ ap (λ (r : List ℕ). r ++ field (at + w) (number_at at w s) s) (be-number s bs at w (omega arith))
      ∙ field_join at w (at + w) (number_at at w s) s refl

  key_again : klen s + 5 ≤ length s → counted 1 (field 5 (klen s) s) ≡ field 4 (1 + klen s) s
  unfolding klen
  key_again h = counted_again 4 1 (omega arith)

  value_again : (at va : ℕ) → at + 2 ≡ va → va + vlen at s ≤ length s → counted 2 (field va (vlen at s) s) ≡ field at (2 + vlen at s) s
  unfolding vlen
  value_again at va e h = rw (← e) (counted_again at 2 (omega arith))

  stamp_again : (at : ℕ) → at + 9 ≤ length s → stamp_bytes (stamp_in at s) ≡ field at 9 s
  unfolding stamp_bytes stamp_in
  stamp_again at h =
      ap₂ (λ (x y : List ℕ). x ++ y ++ be 1 (number_at (at + 8) 1 s)) (be-number s bs at 6 (omega arith)) (be-number s bs (at + 6) 2 (omega arith))
      ∙ ap₂ (λ (x y : List ℕ). x ++ y) (field_join at 6 (at + 6) 2 s refl) (be-number s bs (at + 8) 1 (omega arith))
      ∙ field_join at 8 (at + 8) 1 s refl

  -- the body of n bytes
  whole : (n : ℕ) → length s ≡ n + 8 → field 4 n s ≡ field 4 (length s - 8) s
  whole n h = let e : n ≡ length s - 8 = omega arith in ap (λ (w : ℕ). field 4 w s) e

  put_again : value_ends (klen s + 5) s ≡ true → body (message_in s (put_in s)) ≡ field 4 (length s - 8) s
  unfolding body
  put_again h =
      let n = ends_length (klen s + 5) (klen s + 7) s (omega arith) h in
      ap₂ (λ (x y : List ℕ). x ++ y) (key_again (omega arith)) (value_again (klen s + 5) (klen s + 7) (omega arith) (omega arith))
      ∙ field_join 4 (1 + klen s) (klen s + 5) (2 + vlen (klen s + 5) s) s (omega arith) ∙ whole _ (omega arith)

  key_alone_again : key_ends s ≡ true → counted 1 (field 5 (klen s) s) ≡ field 4 (length s - 8) s
  unfolding key_ends ends_at
  key_alone_again h = let n = eqb-true (length s) (klen s + 5 + 4) h in key_again (omega arith) ∙ whole (1 + klen s) (omega arith)

  repl_again : value_ends (klen s + 15) s ≡ true → body (message_in s (repl_in s)) ≡ field 4 (length s - 8) s
  unfolding body
  repl_again h =
      let v : List ℕ = counted 2 (field (klen s + 17) (vlen (klen s + 15) s) s) in
      let n = ends_length (klen s + 15) (klen s + 17) s (omega arith) h in
      ap₂ (λ (x y : List ℕ). x ++ y ++ stamp_bytes (stamp_in (klen s + 6) s) ++ v) (key_again (omega arith)) (be-number s bs (klen s + 5) 1 (omega arith))
      ∙ ap₂ (λ (x y : List ℕ). x ++ y ++ v) (field_join 4 (1 + klen s) (klen s + 5) 1 s (omega arith)) (stamp_again (klen s + 6) (omega arith))
      ∙ ap₂ (λ (x y : List ℕ). x ++ y) (field_join 4 (1 + klen s + 1) (klen s + 6) 9 s (omega arith))
      (value_again (klen s + 15) (klen s + 17) (omega arith) (omega arith))
      ∙ field_join 4 (1 + klen s + 1 + 9) (klen s + 15) (2 + vlen (klen s + 15) s) s (omega arith) ∙ whole _ (omega arith)

  value_alone_again : value_ends 4 s ≡ true → counted 2 (field 6 (vlen 4 s) s) ≡ field 4 (length s - 8) s
  value_alone_again h = let n = ends_length 4 6 s refl h in value_again 4 6 refl (omega arith) ∙ whole (2 + vlen 4 s) (omega arith)

  empty_again : ends_at 4 s ≡ true → [] ≡ field 4 (length s - 8) s
  unfolding ends_at field
  empty_again h = whole 0 (eqb-true (length s) 8 h)

  err_again : ends_at 5 s ≡ true → be 1 (number_at 4 1 s) ≡ field 4 (length s - 8) s
  unfolding ends_at
  err_again h = let n = eqb-true (length s) 9 h in be-number s bs 4 1 (omega arith) ∙ whole 1 n

  repl_rest : value_ends (klen s + 15) s ≡ true → Rest (message_in s (repl_in s))
  unfolding time_fault stamp_in
  repl_rest h =
      let n = ends_length (klen s + 15) (klen s + 17) s (omega arith) h in
      record {
        time = lt-leb (2 ^ 48) (number_at (klen s + 6) 6 s) (number_lt s bs (klen s + 6) 6 (omega arith));
        range = (number_lt s bs (klen s + 6 + 6) 2 (omega arith), number_lt s bs (klen s + 6 + 8) 1 (omega arith));
      }

  module _ (m : Message) where
    again : (w : Bool) (l : Located) → (w ≡ true → body (message_in s l) ≡ field 4 (length s - 8) s) → (w ≡ true → Rest (message_in s l))
        → meaning s (checked s w l) ≡ message m → Again s m
    unfolding message_refusal
    again w l same rest h =
        let (a, e) = said s m w l h in
        let r = rest a.used_up in
        rw (← e) (record { same = same a.used_up; taken = rw (r.time, a.key, a.value, a.argument); range = r.range })

    again_by_type : (t : ℕ) → meaning s (read_body t s) ≡ message m → Again s m
    unfolding body time_fault
    again_by_type t = by_type (λ r. meaning s r ≡ message m → Again s m) s t (record {
      put = λ e. again _ (put_in s) put_again (λ w. record { time = refl; range = tt });
      get = λ e. again _ (Get (span 5 (klen s))) key_alone_again (λ w. record { time = refl; range = tt });
      del = λ e. again _ (Del (span 5 (klen s))) key_alone_again (λ w. record { time = refl; range = tt });
      repl = λ e. again _ (repl_in s) repl_again repl_rest;
      ok = λ e. again _ OkMessage empty_again (λ w. record { time = refl; range = tt });
      value = λ e. again _ (Value (span 6 (vlen 4 s))) value_alone_again (λ w. record { time = refl; range = tt });
      not_found_lem = λ e. again _ NotFound empty_again (λ w. record { time = refl; range = tt });
      err = λ e. again _ (ErrMessage (number_at 4 1 s)) err_again (λ w. record { time = refl; range = tt });
      unknown = no_message s m BadFrame;
    })

read_again : (s : List ℕ) (m : Message) → Bytes s → read_frame s ≡ message m → Again s m
read_again s m bs h = again_by_type s bs m (type_in s) (read_body_lem s m h)

pub read_writes_back : ReadWritesBack
unfolding frame_of
read_writes_back s m bs h =
    let r = read_again s m bs h in
    ap₂ envelope (read_has_type s m h) r.same ∙ envelope_writes s bs (read_holds s m h)

pub read_is_taken : ReadIsTaken
read_is_taken s m bs h = let r = read_again s m bs h in (r.taken, r.range)

-- ---- a buffer
is_bytes : (r : Result ℕ Refusal) (n : ℕ) → answer_of r ≡ bytes n → r ≡ Ok n
is_bytes (Ok k) n h = cc
is_bytes (Err k) n h = cc

pub written_whole : WrittenWhole
unfolding write_answer after_write write_refusal
written_whole m out r after h l w =
    let n = le-ltb (length out) (length (frame_of m)) l in
    (is_bytes r _ (w.answer ∙ rw (h, n)), w.buffer ∙ rw (h, n))

-- an answer that counts bytes is that of a message that is taken, in a buffer with room
counted_bytes : (m : Message) (out : List ℕ) (n : ℕ) (after : List ℕ) → Writes m out (Ok n) after
    → (message_refusal m ≡ 0) × (length (frame_of m) ≤ length out)
unfolding write_answer write_refusal
counted_bytes m out n after w =
    let a = w.answer in
    elim (test (eqb (message_refusal m) 0)) [
      | inl p ↦ elim (test (ltb (length out) (length (frame_of m)))) [
        | inl q ↦ never (cc (rw (p, q) at a))
        | inr q ↦ (eqb-true _ 0 p, ltb-false (length out) (length (frame_of m)) q)
      ]
      | inr p ↦ never (cc (rw (p, p) at a))
    ]

pub front_reads_back : FrontReadsBack
front_reads_back m out n after i w =
    let k = counted_bytes m out n after w in
    let f = written_whole m out (Ok n) after k.0 k.1 w in
    let e : n ≡ length (frame_of m) = cc in
    ap read_frame (rw (e, f.1) (take_at (frame_of m) (drop (length (frame_of m)) out) (length (frame_of m)) refl)) ∙ written_reads_back m k.0 i

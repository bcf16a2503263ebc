-- What the body readers answer.
use mathlib.Core.Path.{◌≡◌, refl, sym, ap, ap₂, ◌∙◌}
use mathlib.Core.Bool.{Bool, true, false, not}
use mathlib.Core.List.{List, []}
use Prim.Native.Nat.{ℕ, ◌+◌, ◌≤◌, ◌<◌}
use native.Mathlib.Omega.{arith}
use lib.ListN.{length, get_or}
use lib.Dec.{eqb}
use borrow.Author.Tests.{lt-ltb, le-ltb, eq-eqb, ne_eqb, eqb-true}
use Rattle.std.specs.Prelude.{Result, Ok, Err}
use Rattle.wire.specs.declared.Span.{Span}
use Rattle.wire.proofs.Fill.{length-field}
use Rattle.entry.specs.declared.Stamp.{Stamp}
use Rattle.entry.specs.declared.EntryAt.{EntryAt}
use Rattle.entry.specs.declared.Refusal.{Refusal}
use Rattle.entry.specs.declared.Refusal.TheVariants.{BadKey, ValueTooLarge, BadFrame}
use Rattle.entry.specs.Key.{bad_key}
use Rattle.entry.specs.Order.{least}
use Rattle.entry.specs.Entry.{entry_of, bad_flag}
use Rattle.entry.proofs.Accept.{opposite_true, opposite_false}
use Rattle.frame.specs.declared.answer.Message.{Message as Located}
use Rattle.frame.specs.declared.answer.Message.TheVariants.{Put, Get, Del, Repl, Ok as OkMessage, Value, NotFound, Err as ErrMessage}
use Rattle.frame.specs.declared.kind.Kind.{Kind}
use Rattle.frame.specs.declared.kind.Kind.TheVariants as kind
use Rattle.frame.specs.Message.{key_fault, too_large, value_fault, argument_fault}
use Rattle.frame.specs.Layout.{number_of}
use Rattle.frame.specs.Reading.{span, part, message_in, number_at, envelope_holds, type_in, klen, vlen, stamp_in, ends_at, key_ends, value_ends}
use Rattle.frame.specs.Reading.{judged_as, checked, repl_in, read_body, said_as, read_answer}
use Rattle.frame.proofs.Fields.{number_byte}
use Rattle.frame.proofs.Envelopes.{holding}

-- ---- a message in a frame, from the reader's tests
module _ (s : List ℕ) (used_up : Bool) where
  left_over : (m : Located) → used_up ≡ false → Err BadFrame ≡ checked s used_up m
  unfolding checked
  left_over m h = rw h

  bad_argument : (m : Located) → used_up ≡ true → argument_fault (message_in s m) ≡ true → Err BadFrame ≡ checked s used_up m
  unfolding checked
  bad_argument m h a = rw (h, a)

  -- the key and the value that were judged are those of the message
  judged : (k v : List ℕ) (m : Located) → used_up ≡ true → argument_fault (message_in s m) ≡ false → key_fault (message_in s m) ≡ bad_key k
      → value_fault (message_in s m) ≡ too_large v → judged_as (bad_key k) (too_large v) m ≡ checked s used_up m
  unfolding checked
  judged k v m h a p q = rw (h, a, p, q)

-- the tests of a key and of a value
module _ (k v : List ℕ) (r : Bool) (is : r ≡ not (bad_key k)) where
  pub on_bad_key : not r ≡ true → Err BadKey ≡ judged_as (bad_key k) (too_large v) (tt {0})
  unfolding judged_as
  on_bad_key h = rw (opposite_true r (bad_key k) is h)

  module _ (h : not r ≡ false) where
    good_key : bad_key k ≡ false
    good_key = opposite_false r (bad_key k) is h

    pub large_value : 512 < length v → Err ValueTooLarge ≡ judged_as (bad_key k) (too_large v) (tt {0})
    unfolding judged_as
    large_value l = rw (good_key, lt-ltb 512 (length v) l)

    pub both_good : length v ≤ 512 → Ok (tt {0}) ≡ judged_as (bad_key k) (too_large v) (tt {0})
    unfolding judged_as
    both_good l = rw (good_key, le-ltb 512 (length v) l)

-- a message whose key and value are judged first
judged_first : (a b : Bool) (m : Located) → said_as (λ u. m) (judged_as a b (tt {0})) ≡ judged_as a b m
unfolding judged_as
judged_first true b m = refl
judged_first false true m = refl
judged_first false false m = refl

pub ends_length : (at va : ℕ) (s : List ℕ) → at + 2 ≡ va → value_ends at s ≡ true → length s ≡ va + vlen at s + 4
unfolding value_ends ends_at
ends_length at va s next h = let e = eqb-true (length s) (at + 2 + vlen at s + 4) h in omega arith

-- ---- PUT
module _ (s : List ℕ) (k : Span) (ke : k ≡ span 5 (klen s)) where
  pub put_left_over : value_ends (k.len + 5) s ≡ false → Err BadFrame ≡ read_body 1 s
  unfolding read_body
  put_left_over h = left_over s _ _ (rw ke at h)

  pub put_judged : (v : Span) → value_ends (k.len + 5) s ≡ true → v ≡ span (k.len + 5 + 2) (vlen (k.len + 5) s) → (r : Result Unit Refusal)
      → r ≡ judged_as (bad_key (part k s)) (too_large (part v s)) (tt {0}) → said_as (λ u. Put k v) r ≡ read_body 1 s
  unfolding read_body key_fault value_fault argument_fault
  put_judged v h ve r re =
      let n : k.len + 5 + 2 ≡ k.len + 7 = omega arith in
      ap (said_as (λ u. Put k v)) re ∙ judged_first (bad_key (part k s)) (too_large (part v s)) (Put k v)
      ∙ judged s (value_ends (k.len + 5) s) (part k s) (part v s) (Put k v) h refl refl refl ∙ rw (ve, n, ke)

-- ---- GET and DEL: a message f of a key alone
pub record KeyAlone (s : List ℕ) (t : ℕ) (f : Span → Located) : Type 0 where
  pub row : read_body t s ≡ checked s (key_ends s) (f (span 5 (klen s)))
  pub key : (k : Span) → key_fault (message_in s (f k)) ≡ bad_key (part k s)
  pub value : (k : Span) → value_fault (message_in s (f k)) ≡ false
  pub argument : (k : Span) → argument_fault (message_in s (f k)) ≡ false

pub get_alone : (s : List ℕ) → KeyAlone s 2 Get
unfolding read_body key_fault value_fault argument_fault
get_alone s = record { row = refl; key = λ k. refl; value = λ k. refl; argument = λ k. refl }

pub del_alone : (s : List ℕ) → KeyAlone s 3 Del
unfolding read_body key_fault value_fault argument_fault
del_alone s = record { row = refl; key = λ k. refl; value = λ k. refl; argument = λ k. refl }

module _ (s : List ℕ) (t : ℕ) (f : Span → Located) (alone : KeyAlone s t f) (k : Span) (ke : k ≡ span 5 (klen s)) where
  pub key_left_over : (length s ≡ k.len + 9 → ⊥) → Err BadFrame ≡ read_body t s
  unfolding key_ends ends_at
  key_left_over h =
      let n : k.len ≡ klen s = ap (λ (p : Span). p.len) ke in
      left_over s _ _ (ne_eqb (length s) (klen s + 5 + 4) (λ e. h (omega arith))) ∙ sym alone.row

  pub key_judged : length s ≡ k.len + 9 → (r : Result Unit Refusal) → r ≡ judged_as (bad_key (part k s)) (too_large []) (tt {0})
      → said_as (λ u. f k) r ≡ read_body t s
  unfolding key_ends ends_at
  key_judged h r re =
      let n : k.len ≡ klen s = ap (λ (p : Span). p.len) ke in
      ap (said_as (λ u. f k)) re ∙ judged_first (bad_key (part k s)) (too_large []) (f k)
      ∙ judged s (key_ends s) (part k s) [] (f k) (eq-eqb (length s) (klen s + 5 + 4) (omega arith)) (alone.argument k) (alone.key k) (alone.value k)
      ∙ rw ke (sym alone.row)

-- ---- REPL
module _ (s : List ℕ) (k : Span) (ke : k ≡ span 5 (klen s)) where
  pub repl_left_over : value_ends (k.len + 15) s ≡ false → Err BadFrame ≡ read_body 4 s
  unfolding read_body
  repl_left_over h = left_over s _ _ (rw ke at h)

  module _ (v : Span) (h : value_ends (k.len + 15) s ≡ true) (ve : v ≡ span (k.len + 15 + 2) (vlen (k.len + 15) s)) where
    -- the flag's byte
    flag_in : get_or s (k.len + 5) 0 ≡ number_at (klen s + 5) 1 s
    flag_in =
        let l = ends_length (k.len + 15) (k.len + 17) s (omega arith) h in
        let n : k.len ≡ klen s = ap (λ (p : Span). p.len) ke in
        sym (rw (← n) (number_byte (k.len + 5) s (omega arith)))

    abbrev entry : ℕ → Stamp → EntryAt
    entry f st = record { key = k; value = v; flag = f; stamp = st }

    same : (f : ℕ) (st : Stamp) → f ≡ number_at (klen s + 5) 1 s → st ≡ stamp_in (klen s + 6) s → Repl (entry f st) ≡ repl_in s
    same f st fe ste = let n : k.len + 15 + 2 ≡ k.len + 17 = omega arith in rw (fe, ste, ve, n, ke)

    flag_same : (l : List ℕ) (f : ℕ) (st : Stamp) → bad_flag (entry_of l (part v s) f st) ≡ bad_flag (entry_of [] (part v s) f least)
    unfolding bad_flag
    flag_same l f st = refl

    pub repl_flag : bad_flag (entry_of [] (part v s) (get_or s (k.len + 5) 0) least) ≡ true → Err BadFrame ≡ read_body 4 s
    unfolding read_body argument_fault
    repl_flag b =
        let f = get_or s (k.len + 5) 0 in
        let st = stamp_in (klen s + 6) s in
        bad_argument s (value_ends (k.len + 15) s) (Repl (entry f st)) h (flag_same (part k s) f st ∙ b)
        ∙ ap₂ (checked s) (ap (λ (p : Span). value_ends (p.len + 15) s) ke) (same f st flag_in refl)

    pub repl_judged : bad_flag (entry_of [] (part v s) (get_or s (k.len + 5) 0) least) ≡ false → (st : Stamp) → st ≡ stamp_in (k.len + 6) s
        → (r : Result Unit Refusal) → r ≡ judged_as (bad_key (part k s)) (too_large (part v s)) (tt {0})
        → said_as (λ u. Repl (entry (get_or s (k.len + 5) 0) st)) r ≡ read_body 4 s
    unfolding read_body key_fault value_fault argument_fault
    repl_judged b st ste r re =
        let f = get_or s (k.len + 5) 0 in
        let m = Repl (entry f st) in
        let ste2 : st ≡ stamp_in (klen s + 6) s = rw ke at ste in
        ap (said_as (λ u. m)) re ∙ judged_first (bad_key (part k s)) (too_large (part v s)) m
        ∙ judged s (value_ends (k.len + 15) s) (part k s) (part v s) m h (flag_same (part k s) f st ∙ b) refl refl
        ∙ ap₂ (checked s) (ap (λ (p : Span). value_ends (p.len + 15) s) ke) (same f st flag_in ste2)

-- ---- OK and NOTFOUND
module _ (s : List ℕ) (h : length s ≡ 8) where
  pub ok_said : Ok OkMessage ≡ read_body 16 s
  unfolding read_body ends_at checked judged_as key_fault value_fault argument_fault
  ok_said = rw h

  pub not_found-said : Ok NotFound ≡ read_body 18 s
  unfolding read_body ends_at checked judged_as key_fault value_fault argument_fault
  not_found-said = rw h

module _ (s : List ℕ) (h : length s ≡ 8 → ⊥) where
  pub ok_left_over : Err BadFrame ≡ read_body 16 s
  unfolding read_body ends_at
  ok_left_over = left_over s _ _ (ne_eqb (length s) 8 h)

  pub not_found-left_over : Err BadFrame ≡ read_body 18 s
  unfolding read_body ends_at
  not_found-left_over = left_over s _ _ (ne_eqb (length s) 8 h)

-- ---- VALUE
module _ (s : List ℕ) where
  pub value_left_over : value_ends 4 s ≡ false → Err BadFrame ≡ read_body 17 s
  unfolding read_body
  value_left_over h = left_over s _ _ h

  module _ (v : Span) (h : value_ends 4 s ≡ true) (ve : v ≡ span 6 (vlen 4 s)) where
    value_in_lem : length (part (span 6 (vlen 4 s)) s) ≡ v.len
    value_in_lem = let l = ends_length 4 6 s refl h in length-field 6 (vlen 4 s) s (omega arith) ∙ sym (ap (λ (p : Span). p.len) ve)

    pub value_large : 512 < v.len → Err ValueTooLarge ≡ read_body 17 s
    unfolding read_body checked judged_as key_fault value_fault argument_fault
    value_large l = rw (h, value_in_lem, lt-ltb 512 v.len l)

    pub value_said : v.len ≤ 512 → Ok (Value v) ≡ read_body 17 s
    unfolding read_body checked judged_as key_fault value_fault argument_fault
    value_said l = rw (h, value_in_lem, le-ltb 512 v.len l, ve)

-- ---- ERR
module _ (s : List ℕ) where
  pub err_left_over : (length s ≡ 9 → ⊥) → Err BadFrame ≡ read_body 20 s
  unfolding read_body ends_at
  err_left_over h = left_over s _ _ (ne_eqb (length s) 9 h)

  module _ (h : length s ≡ 9) where
    err_in : number_at 4 1 s ≡ get_or s 4 0
    err_in = number_byte 4 s (omega arith)

    pub err_zero : get_or s 4 0 ≡ 0 → Err BadFrame ≡ read_body 20 s
    unfolding read_body ends_at checked argument_fault
    err_zero e = rw (h, err_in, e)

    pub err_said : (get_or s 4 0 ≡ 0 → ⊥) → get_or s 4 0 < 256 → Ok (ErrMessage (get_or s 4 0)) ≡ read_body 20 s
    unfolding read_body ends_at checked judged_as key_fault value_fault argument_fault
    err_said e l = rw (h, err_in, ne_eqb (get_or s 4 0) 0 e, le-ltb 255 (get_or s 4 0) (omega arith))

-- ---- the whole frame
module _ (s : List ℕ) (h : envelope_holds s ≡ true) where
  pub frame_long : 8 ≤ length s
  frame_long = let k = holding s h in omega arith

  by_type : read_answer s ≡ read_body (get_or s 2 0) s
  unfolding read_answer type_in
  by_type = let k = frame_long in rw (h, number_byte 2 s (omega arith))

  pub frame_read : (k : Kind) (r : Result Located Refusal) → number_of k ≡ get_or s 2 0 → r ≡ read_body (number_of k) s → r ≡ read_answer s
  frame_read k r e h = rw (by_type, ← e) h

  pub frame_unknown : ((k : Kind) → number_of k ≡ get_or s 2 0 → ⊥) → Err BadFrame ≡ read_answer s
  unfolding read_body
  frame_unknown none =
      let t = get_or s 2 0 in
      let other : (k : Kind) → eqb t (number_of k) ≡ false = λ (k : Kind). ne_eqb t (number_of k) (λ e. none k (sym e)) in
      sym (by_type ∙ rw (
        other kind.Put,
        other kind.Get,
        other kind.Del,
        other kind.Repl,
        other kind.Ok,
        other kind.Value,
        other kind.NotFound,
        other kind.Err,
      ))

pub frame_bad : (s : List ℕ) → envelope_holds s ≡ false → Err BadFrame ≡ read_answer s
unfolding read_answer
frame_bad s h = rw h

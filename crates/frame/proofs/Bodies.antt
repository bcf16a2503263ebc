-- Messages and their bodies: which messages are taken, how long their bodies are, and that a
-- message in its frame is read as it is.
use mathlib.Core.Path.{◌≡◌, refl, sym, ap, ap₂, ◌∙◌}
use mathlib.Core.Logic.{inl, inr}
use mathlib.Core.Bool.{Bool, true, false, ◌&&◌}
use mathlib.Core.List.{List, [], ◌++◌, append_assoc, append-nil}
use Prim.Native.Nat.{ℕ, ◌+◌, ◌^◌, ◌≤◌, ◌<◌}
use native.Mathlib.Omega.{arith}
use lib.ListN.{length, length-append}
use lib.Dec.{ltb, eqb}
use borrow.Author.Tests.{ltb-false, leb-false, eqb-false, eq-eqb, ne_eqb, lt-ltb, le-ltb}
use Rattle.wire.specs.Number.{be}
use Rattle.wire.specs.Fill.{field}
use Rattle.wire.proofs.Number.{length-be}
use Rattle.wire.proofs.Tests.{test, or-false}
use Rattle.std.specs.Prelude.{Result, Ok, Err, IfOk}
use Rattle.entry.specs.declared.Refusal.{Refusal}
use Rattle.entry.specs.declared.Stamp.{Stamp}
use Rattle.entry.specs.Refusal.{refusal_number}
use Rattle.entry.specs.Key.{bad_key}
use Rattle.entry.specs.Order.{least}
use Rattle.entry.specs.Entry.{Entry, entry_of, bad_flag, refusal_of}
use Rattle.entry.proofs.Accept.{key_short}
use Rattle.frame.specs.Message.{Message, put, get, del, repl, ok, value, not_found, err, time_fault, key_fault, value_fault, argument_fault, message_refusal}
use Rattle.frame.specs.Message.{InRange}
use Rattle.frame.specs.Layout.{max_body, counted, stamp_bytes, type_of, body}
use Rattle.frame.specs.declared.answer.Message.{Message as Located}
use Rattle.frame.specs.Reading.{message, message_in, meaning, number_at, klen, vlen, stamp_in, ends_at, key_ends, value_ends, judged_as, checked}
use Rattle.frame.specs.Reading.{repl_in, read_body}
use Rattle.frame.proofs.Fields.{field_inside, number_inside}
use Rattle.frame.proofs.Envelopes.{Framed}

-- ---- a message that is taken fails no check
pub record Taken (m : Message) : Type 0 where
  pub time : time_fault m ≡ false
  pub key : key_fault m ≡ false
  pub value : value_fault m ≡ false
  pub argument : argument_fault m ≡ false

pub taken : (m : Message) → message_refusal m ≡ 0 → Taken m
unfolding message_refusal
taken m h = elim (test (time_fault m)) [
  | inl p ↦ absurd (eqb-false 9 0 refl (rw p at h))
  | inr p ↦ elim (test (key_fault m)) [
    | inl q ↦ absurd (eqb-false 1 0 refl (rw (p, q) at h))
    | inr q ↦ elim (test (value_fault m)) [
      | inl r ↦ absurd (eqb-false 2 0 refl (rw (p, q, r) at h))
      | inr r ↦ elim (test (argument_fault m)) [
        | inl s ↦ absurd (eqb-false 17 0 refl (rw (p, q, r, s) at h))
        | inr s ↦ record { time = p; key = q; value = r; argument = s }
      ]
    ]
  ]
]

-- the checks of an entry are those of its REPL, and of a PUT, GET or DEL those of an active entry with the least stamp
pub repl_refusal : (e : Entry) → message_refusal (repl e) ≡ refusal_of e
unfolding message_refusal time_fault key_fault value_fault argument_fault refusal_of
repl_refusal e = refl

pub put_refusal : (k v : List ℕ) → message_refusal (put k v) ≡ refusal_of (entry_of k v 0 least)
unfolding message_refusal time_fault key_fault value_fault argument_fault refusal_of bad_flag
put_refusal k v = refl

pub get_refusal : (k : List ℕ) → message_refusal (get k) ≡ refusal_of (entry_of k [] 0 least)
unfolding message_refusal time_fault key_fault value_fault argument_fault refusal_of bad_flag
get_refusal k = refl

pub del_refusal : (k : List ℕ) → message_refusal (del k) ≡ refusal_of (entry_of k [] 0 least)
unfolding message_refusal time_fault key_fault value_fault argument_fault refusal_of bad_flag
del_refusal k = refl

module _ (v : List ℕ) where
  pub value_refused : 512 < length v → message_refusal (value v) ≡ 2
  unfolding message_refusal time_fault key_fault value_fault
  value_refused h = rw (lt-ltb 512 (length v) h)

  pub value_taken : length v ≤ 512 → message_refusal (value v) ≡ 0
  unfolding message_refusal time_fault key_fault value_fault argument_fault
  value_taken h = rw (le-ltb 512 (length v) h)

module _ (n : ℕ) where
  pub err_refused : n ≡ 0 → message_refusal (err n) ≡ 17
  unfolding message_refusal time_fault key_fault value_fault argument_fault
  err_refused h = rw (eq-eqb n 0 h)

  pub err_taken : (n ≡ 0 → ⊥) → n < 256 → message_refusal (err n) ≡ 0
  unfolding message_refusal time_fault key_fault value_fault argument_fault
  err_taken h l = rw (ne_eqb n 0 h, le-ltb 255 n (omega arith))

pub entry_short : (e : Entry) → refusal_of e ≡ 0 → (length e.key ≤ 64) × (length e.value ≤ 512)
unfolding key_fault value_fault
entry_short e h =
    let t = taken (repl e) (repl_refusal e ∙ h) in
    (key_short e.key t.key, ltb-false 512 (length e.value) t.value)

-- so is what an entry is judged by
pub short_if_ok : (e : Entry) (r : Result Unit Refusal) → refusal_number r ≡ refusal_of e → IfOk r (λ u. (length e.key ≤ 64) × (length e.value ≤ 512))
short_if_ok e (Ok u) h = entry_short e (sym h)
short_if_ok e (Err x) h = tt

-- ---- lengths
pub length-counted : (w : ℕ) (s : List ℕ) → length (counted w s) ≡ w + length s
unfolding counted
length-counted w s = length-append (be w (length s)) s ∙ ap (λ (n : ℕ). n + length s) (length-be w (length s))

pub length_stamp : (s : Stamp) → length (stamp_bytes s) ≡ 9
unfolding stamp_bytes
length_stamp s =
    length-append (be 6 s.phys ++ be 2 s.logical) (be 1 s.node)
    ∙ omega (arith, length-append (be 6 s.phys) (be 2 s.logical), length-be 6 s.phys, length-be 2 s.logical, length-be 1 s.node)

pub length-put : (k v : List ℕ) → length (body (put k v)) ≡ length k + length v + 3
unfolding body
length-put k v = length-append (counted 1 k) (counted 2 v) ∙ omega (arith, length-counted 1 k, length-counted 2 v)

pub length_repl : (e : Entry) → length (body (repl e)) ≡ length e.key + length e.value + 13
unfolding body
length_repl e =
    length-append (counted 1 e.key ++ be 1 e.flag ++ stamp_bytes e.stamp) (counted 2 e.value)
    ∙ omega (
      arith,
      length-append (counted 1 e.key ++ be 1 e.flag) (stamp_bytes e.stamp),
      length-append (counted 1 e.key) (be 1 e.flag),
      length-counted 1 e.key,
      length-be 1 e.flag,
      length_stamp e.stamp,
      length-counted 2 e.value,
    )

pub body_short : (m : Message) → Taken m → length (body m) ≤ max_body
unfolding body key_fault value_fault
body_short (put k v) t = omega (arith, length-put k v, key_short k t.key, ltb-false 512 (length v) t.value)
body_short (get k) t = omega (arith, length-counted 1 k, key_short k t.key)
body_short (del k) t = omega (arith, length-counted 1 k, key_short k t.key)
body_short (repl e) t = omega (arith, length_repl e, key_short e.key t.key, ltb-false 512 (length e.value) t.value)
body_short ok t = omega arith
body_short (value v) t = omega (arith, length-counted 2 v, ltb-false 512 (length v) t.value)
body_short not_found t = omega arith
body_short (err n) t = omega (arith, length-be 1 n)

-- ---- a message in its frame
module _ (s b : List ℕ) (f : Framed s b) where
  -- a part of the body
  field_in : (at w : ℕ) (x y z : List ℕ) → b ≡ x ++ (y ++ z) → length x + 4 ≡ at → length y ≡ w → field at w s ≡ y
  field_in at w x y z e h k =
      field_inside at w s (f.before ++ x) y (z ++ f.after) (f.is ∙ rw e (simp append_assoc)) (length-append f.before x ∙ omega (arith, f.head)) k

  number_in : (at w n : ℕ) (x z : List ℕ) → b ≡ x ++ (be w n ++ z) → length x + 4 ≡ at → n < 256 ^ w → number_at at w s ≡ n
  number_in at w n x z e h k =
      number_inside at w n s (f.before ++ x) (z ++ f.after) (f.is ∙ rw e (simp append_assoc)) (length-append f.before x ∙ omega (arith, f.head)) k

  ends_in : (end : ℕ) → length b + 4 ≡ end → ends_at end s ≡ true
  unfolding ends_at
  ends_in end h =
      eq-eqb (length s) (end + 4) (ap length f.is ∙ length-append f.before (b ++ f.after) ∙ omega (arith, length-append b f.after, f.head, f.sum))

  -- a key at the front
  module _ (k r : List ℕ) (e : b ≡ counted 1 k ++ r) (h : length k ≤ 64) where
    klen_in : klen s ≡ length k
    unfolding klen counted
    klen_in = number_in 4 1 (length k) [] (k ++ r) (e ∙ append_assoc (be 1 (length k)) k r) refl (omega arith)

    key_in_lem : field 5 (klen s) s ≡ k
    unfolding counted
    key_in_lem = field_in 5 (klen s) (be 1 (length k)) k r (e ∙ append_assoc (be 1 (length k)) k r) (omega (arith, length-be 1 (length k))) (sym klen_in)

  -- a value at the end
  module _ (at va : ℕ) (p v : List ℕ) (e : b ≡ p ++ counted 2 v) (n : length p + 4 ≡ at) (next : at + 2 ≡ va) (h : length v ≤ 512) where
    vlen_in : vlen at s ≡ length v
    unfolding vlen counted
    vlen_in = number_in at 2 (length v) p v e n (omega arith)

    value_in_lem : field va (vlen at s) s ≡ v
    unfolding counted
    value_in_lem =
        field_in va (vlen at s) (p ++ be 2 (length v)) v [] (e ∙ rw (append-nil v) (sym (append_assoc p (be 2 (length v)) v)))
        (omega (arith, length-append p (be 2 (length v)), length-be 2 (length v))) (sym vlen_in)

    value_ends_in : value_ends at s ≡ true
    unfolding value_ends
    value_ends_in = ends_in (at + 2 + vlen at s) (omega (arith, ap length e ∙ length-append p (counted 2 v), length-counted 2 v, vlen_in))

-- a message that fails no check, read where it stands
clean : (s : List ℕ) (w : Bool) (l : Located) (m : Message) → w ≡ true → message_in s l ≡ m → Taken m → meaning s (checked s w l) ≡ message m
unfolding checked judged_as
clean s w l m p q t = rw (p, q, t.argument, t.key, t.value) (ap message q)

-- the entry of a REPL
module _ (s : List ℕ) (e : Entry) (f : Framed s (body (repl e))) (t : Taken (repl e)) (i : InRange (repl e)) where
  abbrev k : List ℕ
  k = e.key

  abbrev st : Stamp
  st = e.stamp

  -- the body up to its flag, its stamp and its value
  abbrev at_flag : List ℕ
  at_flag = counted 1 k

  abbrev at_stamp : List ℕ
  at_stamp = counted 1 k ++ be 1 e.flag

  abbrev at_value : List ℕ
  at_value = at_stamp ++ stamp_bytes st

  short : length k ≤ 64
  unfolding key_fault
  short = key_short k t.key

  repl_klen : klen s ≡ length k
  unfolding body
  repl_klen = klen_in s _ f k (be 1 e.flag ++ (stamp_bytes st ++ counted 2 e.value)) (simp append_assoc) short

  repl_key : field 5 (klen s) s ≡ k
  unfolding body
  repl_key = key_in_lem s _ f k (be 1 e.flag ++ (stamp_bytes st ++ counted 2 e.value)) (simp append_assoc) short

  repl_flag : number_at (klen s + 5) 1 s ≡ e.flag
  unfolding body argument_fault bad_flag
  repl_flag =
      let l = ltb-false 1 e.flag (or-false (ltb 1 e.flag) (eqb e.flag 1 && ltb 0 (length e.value)) t.argument).0 in
      number_in s _ f (klen s + 5) 1 e.flag at_flag (stamp_bytes st ++ counted 2 e.value) (simp append_assoc) (omega (arith, length-counted 1 k, repl_klen))
      (omega arith)

  length_at_stamp : length at_stamp + 4 ≡ klen s + 6
  length_at_stamp = omega (arith, length-append (counted 1 k) (be 1 e.flag), length-counted 1 k, length-be 1 e.flag, repl_klen)

  repl_stamp : stamp_in (klen s + 6) s ≡ st
  unfolding stamp_in body stamp_bytes time_fault
  repl_stamp =
      let q = length_at_stamp in
      let n6 = length-be 6 st.phys in
      let n2 = length-be 2 st.logical in
      let l6 = length-append at_stamp (be 6 st.phys) in
      let l2 = length-append (at_stamp ++ be 6 st.phys) (be 2 st.logical) in
      let p : number_at (klen s + 6) 6 s ≡ st.phys =
      number_in s _ f (klen s + 6) 6 st.phys at_stamp (be 2 st.logical ++ (be 1 st.node ++ counted 2 e.value)) (simp append_assoc)
      q (leb-false (2 ^ 48) st.phys t.time) in
      let l : number_at (klen s + 6 + 6) 2 s ≡ st.logical =
      number_in s _ f (klen s + 6 + 6) 2 st.logical (at_stamp ++ be 6 st.phys) (be 1 st.node ++ counted 2 e.value) (simp append_assoc)
      (omega arith) i.0 in
      let n : number_at (klen s + 6 + 8) 1 s ≡ st.node =
      number_in s _ f (klen s + 6 + 8) 1 st.node (at_stamp ++ be 6 st.phys ++ be 2 st.logical) (counted 2 e.value) (simp append_assoc)
      (omega arith) i.1 in
      λ j. record { phys = p j; logical = l j; node = n j }

  length_at_value : length at_value + 4 ≡ klen s + 15
  length_at_value = omega (arith, length-append at_stamp (stamp_bytes st), length_at_stamp, length_stamp st)

  small : length e.value ≤ 512
  unfolding value_fault
  small = ltb-false 512 (length e.value) t.value

  repl_ends : value_ends (klen s + 15) s ≡ true
  unfolding body
  repl_ends = value_ends_in s _ f (klen s + 15) (klen s + 17) at_value e.value refl length_at_value (omega arith) small

  repl_in_lem : message_in s (repl_in s) ≡ repl e
  unfolding body
  repl_in_lem =
      let v = value_in_lem s _ f (klen s + 15) (klen s + 17) at_value e.value refl length_at_value (omega arith) small in
      λ j. repl (record { key = repl_key j; value = v j; flag = repl_flag j; stamp = repl_stamp j })

module _ (s k : List ℕ) (f : Framed s (counted 1 k)) (h : bad_key k ≡ false) where
  key_alone : field 5 (klen s) s ≡ k
  key_alone = key_in_lem s _ f k [] (sym (append-nil (counted 1 k))) (key_short k h)

  key_ends_lem : key_ends s ≡ true
  unfolding key_ends
  key_ends_lem = ends_in s _ f (klen s + 5) (omega (arith, length-counted 1 k, klen_in s _ f k [] (sym (append-nil (counted 1 k))) (key_short k h)))

pub body_reads : (m : Message) (s : List ℕ) → Framed s (body m) → Taken m → InRange m → meaning s (read_body (type_of m) s) ≡ message m
unfolding read_body type_of body key_fault value_fault argument_fault
body_reads (put k v) s f t i =
    let n = klen_in s _ f k (counted 2 v) refl (key_short k t.key) in
    let p : length (counted 1 k) + 4 ≡ klen s + 5 = omega (arith, length-counted 1 k) in
    let h = ltb-false 512 (length v) t.value in
    clean s _ _ (put k v) (value_ends_in s _ f (klen s + 5) (klen s + 7) (counted 1 k) v refl p (omega arith) h)
    (ap₂ put (key_in_lem s _ f k (counted 2 v) refl (key_short k t.key)) (value_in_lem s _ f (klen s + 5) (klen s + 7) (counted 1 k) v refl p
    (omega arith) h)) t
body_reads (get k) s f t i = clean s _ _ (get k) (key_ends_lem s k f t.key) (ap get (key_alone s k f t.key)) t
body_reads (del k) s f t i = clean s _ _ (del k) (key_ends_lem s k f t.key) (ap del (key_alone s k f t.key)) t
body_reads (repl e) s f t i = clean s _ _ (repl e) (repl_ends s e f t i) (repl_in_lem s e f t i) t
body_reads ok s f t i = clean s _ _ ok (ends_in s [] f 4 refl) refl t
body_reads (value v) s f t i =
    let h = ltb-false 512 (length v) t.value in
    clean s _ _ (value v) (value_ends_in s _ f 4 6 [] v refl refl refl h) (ap value (value_in_lem s _ f 4 6 [] v refl refl refl h)) t
body_reads not_found s f t i = clean s _ _ not_found (ends_in s [] f 4 refl) refl t
body_reads (err n) s f t i =
    let a = or-false (eqb n 0) (ltb 255 n) t.argument in
    let e = number_in s _ f 4 1 n [] [] (sym (append-nil (be 1 n))) refl (omega (arith, ltb-false 255 n a.1)) in
    clean s _ _ (err n) (ends_in s _ f 5 (omega (arith, length-be 1 n))) (ap err e) t

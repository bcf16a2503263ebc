-- A buffer that is written part by part, a body that is put into its frame there, and a writer's answers.
use mathlib.Core.Path.{◌≡◌, refl, sym, ap, ap₂, ◌∙◌}
use mathlib.Core.Bool.{false}
use mathlib.Core.List.{List, [], ◌∷◌, ◌++◌, append_assoc}
use Prim.Native.Nat.{ℕ, suc, ◌+◌, ◌-◌, ◌≤◌, ◌<◌}
use native.Mathlib.Omega.{arith}
use native.Mathlib.Numerals.{add-one}
use lib.ListN.{length, take, drop, get_or, set, length-set, length-append, take-append-drop}
use lib.Seq.{length-take-le, drop-cons, drop-drop, drop_at, set_at, append_snoc}
use lib.Dec.{eqb}
use borrow.Author.Tests.{lt-ltb, le-ltb}
use borrow.Rule.Slice.PartMut.{mid_of, put_mid}
use Rattle.std.specs.Prelude.{Ok, Err}
use Rattle.wire.specs.Number.{be}
use Rattle.wire.specs.Fill.{field}
use Rattle.wire.proofs.Number.{length-be}
use Rattle.wire.proofs.Fill.{length-field}
use Rattle.wire.proofs.Writing.{Written, write_next}
use Rattle.checksum.specs.Crc32c.{crc32c}
use Rattle.entry.specs.declared.Refusal.{Refusal}
use Rattle.entry.specs.declared.Refusal.TheVariants.{NoRoom}
use Rattle.entry.specs.Refusal.{number}
use Rattle.frame.specs.Layout.{envelope}
use Rattle.frame.specs.Writing.{answer_of, write_refusal, write_answer, after_write, WritesFrame, Sealed}
use Rattle.frame.proofs.Fields.{field_inside}
use Rattle.frame.proofs.Envelopes.{length-envelope}
use Rattle.entry.proofs.Numbers.{number_not_0}

-- ---- parts
-- the w bytes from a to e are filled with f w
pub write_part : (f : ℕ → List ℕ) (a w e : ℕ) (p s₀ s ys : List ℕ) → a + w ≡ e → e ≤ length s₀ → length (f w) ≡ w → Written a p s₀ s
    → ys ≡ f (length (mid_of a (e - a) s)) → Written e (p ++ f w) s₀ (put_mid a (e - a) s ys)
write_part f a w e p s₀ s ys h le fw wr is =
    let k : e - a ≡ w = omega arith in
    let n : a + w ≤ length s₀ = omega arith in
    rw (k, ← h) (write_next f a w p s₀ s ys fw n wr (rw k at is))

pub write_byte : (a x : ℕ) (p s₀ s : List ℕ) → a < length s₀ → Written a p s₀ s → Written (a + 1) (p ++ (x ∷ [])) s₀ (set s a x)
write_byte a x p s₀ s h w = record {
  is =
      ap (λ (r : List ℕ). set r a x) (w.is ∙ ap (λ (r : List ℕ). p ++ r) (drop-cons s₀ a 0 h))
      ∙ set_at p (get_or s₀ a 0) (drop (suc a) s₀) x a w.long ∙ sym (append_snoc p x (drop (suc a) s₀))
      ∙ ap (λ (i : ℕ). p ++ (x ∷ []) ++ drop i s₀) (sym (add-one a));
  long = length-append p (x ∷ []) ∙ ap (λ (n : ℕ). n + 1) w.long;
}

-- the next k bytes stay
pub write_keep : (a k : ℕ) (p s₀ s : List ℕ) → a + k ≤ length s₀ → Written a p s₀ s → Written (a + k) (p ++ field a k s₀) s₀ s
unfolding field
write_keep a k p s₀ s h w = record {
  is =
      w.is ∙ ap (λ (r : List ℕ). p ++ r) (sym (take-append-drop k (drop a s₀)) ∙ ap (λ (r : List ℕ). take k (drop a s₀) ++ r) (drop-drop k a s₀))
      ∙ sym (append_assoc p (take k (drop a s₀)) (drop (a + k) s₀));
  long = length-append p (take k (drop a s₀)) ∙ ap₂ (λ (m n : ℕ). m + n) w.long (length-field a k s₀ h);
}

pub write_front : (s : List ℕ) → 4 ≤ length s → Written 4 (take 4 s) s s
write_front s h = record { is = sym (take-append-drop 4 s); long = length-take-le 4 s h }

pub same_written : {e : ℕ} {p q s₀ s : List ℕ} → p ≡ q → Written e p s₀ s → Written e q s₀ s
same_written {e} {p} {q} {s₀} {s} h w = record { is = rw (← h) w.is; long = rw (← h) w.long }

pub length_sets : (l : List ℕ) (x y : ℕ) → length (set (set l 2 x) 3 y) ≡ length l
length_sets l x y = length-set (set l 2 x) 3 y ∙ length-set l 2 x

-- ---- a body in its frame
-- LEN, TYPE and FLAGS before a body of n bytes
abbrev pub head : ℕ → ℕ → List ℕ
head t n = be 2 (n + 6) ++ (t ∷ []) ++ (0 ∷ [])

module _ (t n : ℕ) (s₀ s : List ℕ) (room : n + 8 ≤ length s₀) (w : Written 4 (head t n) s₀ s) where
  abbrev placed : List ℕ
  placed = field 4 n s₀

  body_stays : Written (4 + n) (head t n ++ placed) s₀ s
  body_stays = write_keep 4 n (head t n) s₀ s (omega arith) w

  sum_covers : crc32c (take (n + 4 - 2) (drop 2 s)) ≡ crc32c (t ∷ 0 ∷ placed)
  unfolding field
  sum_covers =
      let e : n + 4 - 2 ≡ n + 2 = omega arith in
      let k = length-field 4 n s₀ (omega arith) in
      ap (λ (i : ℕ). crc32c (take i (drop 2 s))) e
      ∙ ap crc32c (field_inside 2 (n + 2) s (be 2 (n + 6)) (t ∷ 0 ∷ placed) (drop (4 + n) s₀) (body_stays.is ∙ simp append_assoc) (length-be 2 (n + 6))
      (omega arith))

  pub frame_sealed : (sum : ℕ) (ys : List ℕ) → sum ≡ crc32c (take (n + 4 - 2) (drop 2 s)) → ys ≡ be (length (mid_of (n + 4) (n + 8 - (n + 4)) s)) sum
      → Sealed t n s₀ (n + 8) (put_mid (n + 4) (n + 8 - (n + 4)) s ys)
  unfolding envelope
  frame_sealed sum ys se ye =
      let i : 4 + n ≡ n + 4 = omega arith in
      let k : length placed ≡ n = length-field 4 n s₀ (omega arith) in
      let z = write_part (λ (v : ℕ). be v sum) (n + 4) 4 (n + 8) (head t n ++ placed) s₀ s ys (omega arith) room (length-be 4 sum) (rw i at body_stays) ye in
      record {
        answer = refl;
        buffer = z.is ∙ rw (se, sum_covers, k) (simp append_assoc);
      }

-- ---- a writer's answers
module _ (n : ℕ) (f out : List ℕ) where
  pub frame_refused : (r : Refusal) → number r ≡ n → WritesFrame n f out (Err r) out
  unfolding write_answer after_write write_refusal
  frame_refused r e =
      let z : eqb n 0 ≡ false = rw e at (number_not_0 r) in
      record { answer = rw (e, z, z); buffer = rw (z, z) }

  pub frame_no_room : n ≡ 0 → length out < length f → WritesFrame n f out (Err NoRoom) out
  unfolding write_answer after_write write_refusal
  frame_no_room e h = record { answer = rw (e, lt-ltb (length out) (length f) h); buffer = rw (e, lt-ltb (length out) (length f) h) }

  pub frame_written : n ≡ 0 → length f ≤ length out → WritesFrame n f out (Ok (length f)) (f ++ drop (length f) out)
  unfolding write_answer after_write write_refusal
  frame_written e h = record { answer = rw (e, le-ltb (length out) (length f) h); buffer = rw (e, le-ltb (length out) (length f) h) }

-- a body that was put into its frame
pub sealed-written : (n t k : ℕ) (b out s after : List ℕ) (r : ℕ) → n ≡ 0 → length b ≡ k → k + 8 ≤ length out → Written (k + 4) (take 4 out ++ b) out s
    → Sealed t k s r after → WritesFrame n (envelope t b) out (Ok r) after
sealed-written n t k b out s after r z h room w sealed =
    let l = length-envelope t b in
    let m : k + 8 ≡ length (envelope t b) = omega arith in
    let is : s ≡ take 4 out ++ (b ++ drop (k + 4) out) = w.is ∙ append_assoc (take 4 out) b (drop (k + 4) out) in
    let body : field 4 k s ≡ b = field_inside 4 k s (take 4 out) b (drop (k + 4) out) is (length-take-le 4 out (omega arith)) h in
    let q : k + 8 ≡ k + 4 + 4 = omega arith in
    let past : drop (k + 4) s ≡ drop (k + 4) out = ap (drop (k + 4)) w.is ∙ drop_at (take 4 out ++ b) (drop (k + 4) out) (k + 4) w.long in
    let rest : drop (k + 8) s ≡ drop (k + 8) out = rw (q, ← drop-drop 4 (k + 4) s, ← drop-drop 4 (k + 4) out, past) in
    let j = frame_written n (envelope t b) out z (omega arith) in
    record {
      answer = ap (λ (i : ℕ). answer_of (Ok i)) (sealed.answer ∙ m) ∙ j.answer;
      buffer = sealed.buffer ∙ ap₂ (λ (x y : List ℕ). envelope t x ++ y) body rest ∙ ap (λ (i : ℕ). envelope t b ++ drop i out) m ∙ j.buffer;
    }

-- a body f k that was written at place 4, and then put into its frame
pub body-written : (f : ℕ → List ℕ) (n t k : ℕ) (out ys after : List ℕ) (r : ℕ) → n ≡ 0 → length (f k) ≡ k → k + 8 ≤ length out
    → ys ≡ f (length (mid_of 4 (k + 4 - 4) out)) → Sealed t k (put_mid 4 (k + 4 - 4) out ys) r after → WritesFrame n (envelope t (f k)) out (Ok r) after
body-written f n t k out ys after r z h room ye sealed =
    sealed-written n t k (f k) out _ after r z h room (write_part f 4 k (k + 4) (take 4 out) out out ys (omega arith) (omega arith) h
    (write_front out (omega arith)) ye) sealed

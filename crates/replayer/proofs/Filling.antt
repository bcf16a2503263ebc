-- The output buffer: replies put behind those that it holds.
use mathlib.Core.Path.{◌≡◌, sym, ap, ◌∙◌}
use mathlib.Core.Bool.{true, false}
use mathlib.Core.List.{List, [], ◌++◌, append_assoc, append-nil}
use Prim.Native.Nat.{ℕ, ◌+◌, ◌-◌, ◌≤◌}
use native.Mathlib.Omega.{arith}
use lib.ListN.{length, take, drop, length-drop, drop_of_length-le}
use lib.Seq.{length-take-le, drop-drop}
use lib.Dec.{ltb, eqb}
use borrow.Author.Tests.{le-ltb, eq-eqb}
use borrow.Rule.Slice.PartMut.{mid_of, put_mid}
use Rattle.wire.specs.Fill.{padded}
use Rattle.wire.proofs.Fill.{padded_exact}
use Rattle.wire.proofs.Fields.{rest}
use Rattle.wire.proofs.Number.{length-be}
use Rattle.std.specs.Result.{result_unwrap_or}
use Rattle.frame.specs.Message.{err, message_refusal}
use Rattle.frame.specs.Layout.{max_frame, type_of, body, frame_of}
use Rattle.frame.specs.Writing.{write_refusal, after_write, Writes}
use Rattle.frame.proofs.Envelopes.{length-envelope}
use Rattle.frame.proofs.Bodies.{err_taken}
use Rattle.frame.proofs.RoundTrips.{written_whole}

-- the bytes put in place of those from a on
pub put_behind : (a e : ℕ) (r o ys : List ℕ) → e ≡ a + length r → e ≤ length o → ys ≡ r → put_mid a (e - a) o ys ≡ take a o ++ r ++ drop (a + length r) o
put_behind a e r o ys h l y =
    let k : e - a ≡ length r = omega arith in
    rw (y, k, drop-drop, append_assoc)

pub appended : (a e : ℕ) (r o ys : List ℕ) → e ≡ a + length r → e ≤ length o → ys ≡ padded (length (mid_of a (e - a) o)) r
    → put_mid a (e - a) o ys ≡ take a o ++ r ++ drop (a + length r) o
appended a e r o ys h l y =
    let k : e - a ≡ length r = omega arith in
    let m : length (mid_of a (e - a) o) ≡ length r = rw k (length-take-le (length r) (drop a o) (rw length-drop (omega arith))) in
    put_behind a e r o ys h l (y ∙ ap (λ (n : ℕ). padded n r) m ∙ padded_exact r)

-- what agrees from a place on agrees further on
pub drop_further : (m n : ℕ) (xs ys : List ℕ) → m ≤ n → drop m xs ≡ drop m ys → drop n xs ≡ drop n ys
drop_further m n xs ys l h =
    let k : m + (n - m) ≡ n = omega arith in
    rw (← k) (sym (drop-drop (n - m) m xs) ∙ ap (drop (n - m)) h ∙ drop-drop (n - m) m ys)

-- an ERR frame
pub length_err : (n : ℕ) → length (frame_of (err n)) ≡ 9
unfolding frame_of type_of body
length_err n = length-envelope (type_of (err n)) (body (err n)) ∙ ap (λ (k : ℕ). k + 8) (length-be 1 n)

pub err_3_taken : message_refusal (err 3) ≡ 0
err_3_taken = let e : ◌≡◌ {A = ℕ} 3 0 → ⊥ = omega arith in err_taken 3 e (omega arith)

pub err_written : (a : ℕ) (o ys : List ℕ) (r : _) → a + max_frame ≤ length o → Writes (err 3) (mid_of a (length o - a) o) r ys → result_unwrap_or r 0 ≡ 9
err_written a o ys r h w =
    let l : length (frame_of (err 3)) ≡ 9 = length_err 3 in
    let d : length (drop a o) ≡ length o - a = length-drop a o in
    let v = rw (rest a o) at w in
    let e = (written_whole (err 3) (drop a o) r ys err_3_taken (omega arith) v).0 in
    rw e l

pub err_put : (a : ℕ) (o ys : List ℕ) → a + max_frame ≤ length o → ys ≡ after_write (message_refusal (err 3)) (frame_of (err 3)) (mid_of a (length o - a) o)
    → put_mid a (length o - a) o ys ≡ take a o ++ frame_of (err 3) ++ drop (a + 9) o
unfolding after_write write_refusal
err_put a o ys l y =
    let f = frame_of (err 3) in
    let n : length f ≡ 9 = length_err 3 in
    let d : length (drop a o) ≡ length o - a = length-drop a o in
    let q : drop (length o - a) (drop a o) ≡ [] = drop_of_length-le (drop a o) {i = length o - a} (omega arith) in
    let z : eqb (message_refusal (err 3)) 0 ≡ true = eq-eqb (message_refusal (err 3)) 0 err_3_taken in
    let w : ltb (length (drop a o)) (length f) ≡ false = le-ltb (length (drop a o)) (length f) (omega arith) in
    let v : after_write (message_refusal (err 3)) f (drop a o) ≡ f ++ drop 9 (drop a o) = rw (z, w, n) in
    rw (y, rest, v, q, append-nil, drop-drop, append_assoc)

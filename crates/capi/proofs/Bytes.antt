-- A number that no byte holds is refused as the one that is passed on in its place.
use mathlib.Core.Path.{◌≡◌, refl, sym, ◌∙◌}
use mathlib.Core.Logic.{inl, inr}
use mathlib.Core.Bool.{false, cond, not, or-true}
use mathlib.Core.List.{List}
use Prim.Native.Nat.{ℕ, ◌≤◌}
use Rattle.std.specs.Prelude.{Result}
use native.Mathlib.Omega.{arith}
use lib.ListN.{length}
use lib.Dec.{ltb, leb, eqb}
use borrow.Author.Tests.{lt-ltb, leb-true}
use Rattle.wire.proofs.Tests.{test}
use Rattle.entry.specs.declared.Refusal.{Refusal}
use Rattle.entry.specs.declared.Stamp.{Stamp}
use Rattle.entry.specs.Refusal.{refusal_number}
use Rattle.entry.specs.Key.{bad_key}
use Rattle.entry.specs.Entry.{entry_of, bad_time, bad_flag, refusal_of}
use Rattle.frame.specs.Message.{Message, repl, err, message_refusal, time_fault, key_fault, value_fault, argument_fault}
use Rattle.frame.specs.Layout.{frame_of}
use Rattle.frame.specs.Writing.{answer_of, write_refusal, write_answer, after_write}
use Rattle.image.specs.Image.{sound}
use Rattle.store.specs.Answer.{refused, is_refused}
use Rattle.store.specs.Offer.{offer_answer, after_offer}
use Rattle.capi_words.specs.Result.{packed, count_in}
use Rattle.capi_words.specs.Words.{byte_of}
use Rattle.capi_words.proofs.Bytes.{either}
use Rattle.capi_words.proofs.Halves.{both}
use Rattle.capi.specs.Frame.{write_word, write_bytes}
use Rattle.capi.proofs.Frames.{wrote_told}

-- ---- a flag
module _ (k v : List ℕ) (stamp : Stamp) where
  -- the checks ahead of the flag's own, and then that
  abbrev flag_refusal : ℕ
  flag_refusal = cond (bad_time stamp.phys) 9 (cond (bad_key k) 1 (cond (ltb 512 (length v)) 2 17))

  not_accepted : eqb flag_refusal 0 ≡ false
  not_accepted =
      let P : ℕ → Type 0 = λ n. eqb n 0 ≡ false in
      both P (bad_time stamp.phys) 9 _ refl (both P (bad_key k) 1 _ refl (both P (ltb 512 (length v)) 2 17 refl refl))

  flag_refused : (f : ℕ) → 2 ≤ f → refusal_of (entry_of k v f stamp) ≡ flag_refusal
  unfolding refusal_of bad_flag
  flag_refused f h = rw (lt-ltb 1 f (omega arith))

  repl_refused : (f : ℕ) → 2 ≤ f → message_refusal (repl (entry_of k v f stamp)) ≡ flag_refusal
  unfolding message_refusal time_fault key_fault value_fault argument_fault bad_flag
  repl_refused f h = rw (lt-ltb 1 f (omega arith))

  flag-offered : (s : List ℕ) (f : ℕ) → 2 ≤ f → offer_answer s (entry_of k v f stamp) ≡ cond (not (sound s)) (refused 5) (refused flag_refusal)
  unfolding offer_answer
  flag-offered s f h = rw (flag_refused f h, not_accepted)

  flag_kept : (s : List ℕ) (f : ℕ) → 2 ≤ f → after_offer s (entry_of k v f stamp) ≡ s
  unfolding after_offer is_refused
  flag_kept s f h = rw (flag-offered s f h) (elim (test (sound s)) [
    | inl p ↦ rw p
    | inr p ↦ rw p
  ])

  pub flag-answer : (s : List ℕ) (f b : ℕ) → b ≡ byte_of f → offer_answer s (entry_of k v b stamp) ≡ offer_answer s (entry_of k v f stamp)
  flag-answer s f b e =
      either (λ x. offer_answer s (entry_of k v x stamp) ≡ offer_answer s (entry_of k v f stamp)) f b e refl
      (λ l. flag-offered s 255 (omega arith) ∙ sym (flag-offered s f (omega arith)))

  pub flag-after : (s : List ℕ) (f b : ℕ) → b ≡ byte_of f → after_offer s (entry_of k v b stamp) ≡ after_offer s (entry_of k v f stamp)
  flag-after s f b e =
      either (λ x. after_offer s (entry_of k v x stamp) ≡ after_offer s (entry_of k v f stamp)) f b e refl
      (λ l. flag_kept s 255 (omega arith) ∙ sym (flag_kept s f (omega arith)))

-- ---- messages that are refused alike
module _ (m o : Message) (out : List ℕ) where
  -- what writing them answers and leaves
  record Alike : Type 0 where
    pub answer : write_answer (message_refusal m) (frame_of m) out ≡ write_answer (message_refusal o) (frame_of o) out
    pub buffer : after_write (message_refusal m) (frame_of m) out ≡ after_write (message_refusal o) (frame_of o) out

  refused_alike : (n : ℕ) → message_refusal m ≡ n → message_refusal o ≡ n → eqb n 0 ≡ false → Alike
  unfolding write_refusal write_answer after_write
  refused_alike n mn on z = record { answer = rw (mn, on, z, z); buffer = rw (mn, on, z, z) }

same_alike : (m : Message) (out : List ℕ) → Alike m m out
same_alike m out = record { answer = refl; buffer = refl }

module _ (k v : List ℕ) (stamp : Stamp) (f b : ℕ) (out : List ℕ) (is : b ≡ byte_of f) where
  repl_alike : Alike (repl (entry_of k v b stamp)) (repl (entry_of k v f stamp)) out
  repl_alike =
      either (λ x. Alike (repl (entry_of k v x stamp)) (repl (entry_of k v f stamp)) out) f b is (same_alike (repl (entry_of k v f stamp)) out)
      (λ l. refused_alike (repl (entry_of k v 255 stamp)) (repl (entry_of k v f stamp)) out (flag_refusal k v stamp)
      (repl_refused k v stamp 255 (omega arith)) (repl_refused k v stamp f (omega arith)) (not_accepted k v stamp))

  pub repl_told : (a : Result ℕ Refusal)
      → answer_of a ≡ write_answer (message_refusal (repl (entry_of k v b stamp))) (frame_of (repl (entry_of k v b stamp))) out
      → packed (refusal_number a) (count_in a) ≡ write_word (repl (entry_of k v f stamp)) out
  repl_told a h = wrote_told (repl (entry_of k v f stamp)) out a (h ∙ repl_alike.answer)

  pub repl_left : (after : List ℕ) → after ≡ write_bytes (repl (entry_of k v b stamp)) out → after ≡ write_bytes (repl (entry_of k v f stamp)) out
  repl_left after h = h ∙ repl_alike.buffer

-- ---- an ERR number: 0 for one that no byte holds
module _ (n b : ℕ) (out : List ℕ) (is : b ≡ cond (leb 256 n) 0 n) where
  err_refused : 256 ≤ n → message_refusal (err n) ≡ 17
  unfolding message_refusal time_fault key_fault value_fault argument_fault
  err_refused h = rw (lt-ltb 255 n (omega arith), or-true (eqb n 0))

  zero_refused : message_refusal (err 0) ≡ 17
  unfolding message_refusal time_fault key_fault value_fault argument_fault
  zero_refused = refl

  err_alike : Alike (err b) (err n) out
  err_alike = elim (test (leb 256 n)) [
    | inl l ↦ rw (rw l at is) (refused_alike (err 0) (err n) out 17 zero_refused (err_refused (leb-true 256 n l)) refl)
    | inr l ↦ rw (rw l at is) (same_alike (err n) out)
  ]

  pub err_told : (a : Result ℕ Refusal) → answer_of a ≡ write_answer (message_refusal (err b)) (frame_of (err b)) out
      → packed (refusal_number a) (count_in a) ≡ write_word (err n) out
  err_told a h = wrote_told (err n) out a (h ∙ err_alike.answer)

  pub err_left : (after : List ℕ) → after ≡ write_bytes (err b) out → after ≡ write_bytes (err n) out
  err_left after h = h ∙ err_alike.buffer

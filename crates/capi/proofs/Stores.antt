-- The answers of the store's functions.
use mathlib.Core.Path.{◌≡◌, refl, ap, ◌∙◌}
use mathlib.Core.Logic.{inl, inr}
use mathlib.Core.Bool.{true, not}
use mathlib.Core.List.{List}
use Prim.Native.Nat.{ℕ, ◌≤◌}
use native.Mathlib.Omega.{arith}
use lib.ListN.{length}
use lib.Dec.{ltb, eqb}
use Rattle.std.specs.Prelude.{Result, Ok, Err}
use Rattle.std.proofs.Math.Nat.{min-eq_left}
use Rattle.wire.proofs.Tests.{test}
use Rattle.entry.specs.declared.Refusal.{Refusal}
use Rattle.entry.specs.declared.Refusal.TheVariants as refusal
use Rattle.entry.specs.Refusal.{refusal_number}
use Rattle.entry.specs.Entry.{bad_time}
use Rattle.image.specs.Layout.{most_slots}
use Rattle.image.specs.Image.{slots_of, line_of, entries_of, sound}
use Rattle.image.proofs.ImageLaws.{sound_is, used_is}
use Rattle.store.specs.Answer as offering
use Rattle.store.specs.Answer.{merge_answer_of, purge_answer_of}
use Rattle.store.specs.Merge.{merged_entries, merge_answer}
use Rattle.store.specs.Purge.{purge_answer}
use Rattle.store.proofs.Seeking.{passed_most}
use Rattle.store.proofs.Purging.{remaining-length}
use Rattle.capi_words.specs.Result.{packed, count_in}
use Rattle.capi_words.specs.Meaning.{Told}
use Rattle.capi_words.proofs.Halves.{tells_none, tells, both}
use Rattle.capi.specs.Store.{store_refusal, store_number, store_word}

-- no number of entries is above the most slots
abbrev pub Few : offering.Answer → Type 0
Few a = Told (store_refusal a) × (store_number a ≤ most_slots)

held_few : (s : List ℕ) → sound s ≡ true → length (entries_of s) ≤ most_slots
held_few s h = let k = sound_is s h in omega (arith, used_is s, k.room, k.most)

pub merge_few : (receiver giver : List ℕ) → Few (merge_answer receiver giver)
unfolding merge_answer
merge_few receiver giver =
    both Few (not (sound receiver)) _ _ (tells refusal.BadStore, omega arith)
    (elim (test (sound giver)) [
      | inl h ↦ rw h (both Few (not (eqb (line_of receiver) (line_of giver))) _ _ (tells refusal.UnequalLines, omega arith)
          (both Few (ltb (slots_of receiver) (length (merged_entries receiver giver))) _ _ (tells refusal.StoreFull, omega arith)
          (tells_none, omega (arith, passed_most (line_of receiver) (entries_of receiver) (entries_of giver), held_few giver h))))
      | inr h ↦ rw h (tells refusal.BadStore, omega arith)
    ])

pub purge_few : (store : List ℕ) (line : ℕ) → Few (purge_answer store line)
unfolding purge_answer
purge_few store line = elim (test (sound store)) [
  | inl h ↦ rw h (both Few (bad_time line) _ _ (tells refusal.BadTime, omega arith)
      (both Few (ltb line (line_of store)) _ _ (tells refusal.LowerLine, omega arith)
      (tells_none, omega (arith, remaining-length line (entries_of store), held_few store h))))
  | inr h ↦ rw h (tells refusal.BadStore, omega arith)
]

-- so that none that is counted is cut
counted_merge : (a : Result ℕ Refusal) → store_number (merge_answer_of a) ≤ most_slots → packed (refusal_number a) (count_in a) ≡ store_word (merge_answer_of a)
counted_merge (Ok n) l = ap (packed 0) (min-eq_left (omega arith))
counted_merge (Err r) l = refl

counted_purge : (a : Result ℕ Refusal) → store_number (purge_answer_of a) ≤ most_slots → packed (refusal_number a) (count_in a) ≡ store_word (purge_answer_of a)
counted_purge (Ok n) l = ap (packed 0) (min-eq_left (omega arith))
counted_purge (Err r) l = refl

pub merge_told : (receiver giver : List ℕ) (a : Result ℕ Refusal) → merge_answer_of a ≡ merge_answer receiver giver
    → packed (refusal_number a) (count_in a) ≡ store_word (merge_answer receiver giver)
merge_told receiver giver a e = counted_merge a (rw e (merge_few receiver giver).1) ∙ ap store_word e

pub purge_told : (store : List ℕ) (line : ℕ) (a : Result ℕ Refusal) → purge_answer_of a ≡ purge_answer store line
    → packed (refusal_number a) (count_in a) ≡ store_word (purge_answer store line)
purge_told store line a e = counted_purge a (rw e (purge_few store line).1) ∙ ap store_word e

-- Merging one store into another: each of the giver's entries is offered, all or none, but for those
-- below the purge line whose key the receiver does not hold (R121, R260).
use Rattle.std.specs.Prelude.{ℕ, zero, suc, cond, not, List, [], ◌∷◌, length, ltb, eqb}
use Rattle.entry.specs.Entry.{Entry}
use Rattle.image.specs.Image.{image, slots_of, line_of, entries_of, sound}
use Rattle.store.specs.Held.{put_all, below_line}
use Rattle.store.specs.Answer.{Answer, merged, refused, is_refused}

-- the entries that are taken where hs are held, and how many are passed over (R260)
unfoldable pub taken : ℕ → List Entry → List Entry → List Entry
taken line hs [] = []
taken line hs (g ∷ gs) = cond (below_line line hs g) (taken line hs gs) (g ∷ taken line hs gs)

unfoldable pub passed_over : ℕ → List Entry → List Entry → ℕ
passed_over line hs [] = zero
passed_over line hs (g ∷ gs) = cond (below_line line hs g) (suc (passed_over line hs gs)) (passed_over line hs gs)

-- what is held after a merge that is not refused (R121, R260)
unfoldable pub merged_entries : List ℕ → List ℕ → List Entry
merged_entries receiver giver = put_all (taken (line_of receiver) (entries_of receiver) (entries_of giver)) (entries_of receiver)

-- 5 for the receiver, 5 for the giver, 35 if their lines differ, then 6 if the distinct keys held
-- after the call would exceed the receiver's slots (R13, R38, R122, R260, R265)
unfoldable pub merge_answer : List ℕ → List ℕ → Answer
merge_answer receiver giver =
    cond (not (sound receiver)) (refused 5)
    (cond (not (sound giver)) (refused 5)
    (cond (not (eqb (line_of receiver) (line_of giver))) (refused 35)
    (cond (ltb (slots_of receiver) (length (merged_entries receiver giver))) (refused 6)
    (merged (passed_over (line_of receiver) (entries_of receiver) (entries_of giver))))))

unfoldable pub after_merge : List ℕ → List ℕ → List ℕ
after_merge receiver giver =
    cond (is_refused (merge_answer receiver giver)) receiver (image (slots_of receiver) (line_of receiver) (merged_entries receiver giver))

-- Offering an entry to a store.
use Rattle.std.specs.Prelude.{ℕ, cond, not, List, length, ltb, eqb}
use Rattle.std.proofs.Math.Option.{Option, none, some}
use Rattle.entry.specs.Entry.{Entry, beats, refusal_of}
use Rattle.image.specs.Image.{image, slots_of, line_of, entries_of, sound}
use Rattle.store.specs.Held.{put, find, below_line}
use Rattle.store.specs.Answer.{Answer, stored, replaced, kept, refused, is_refused}

-- no held entry, it is stored; a held one that it beats, it replaces; otherwise the held one is
-- kept (R117 to R120)
unfoldable pub told : Entry → Option Entry → Answer
told e none = stored
told e (some h) = cond (beats e h) replaced kept

-- 5, then 9, 1, 2, 17, then 34 below the purge line, then 6 if the distinct keys held after the call
-- would exceed the slots (R12, R13, R35, R258)
unfoldable pub offer_answer : List ℕ → Entry → Answer
offer_answer store e =
    cond (not (sound store)) (refused 5)
    (cond (not (eqb (refusal_of e) 0)) (refused (refusal_of e))
    (cond (below_line (line_of store) (entries_of store) e) (refused 34)
    (cond (ltb (slots_of store) (length (put e (entries_of store)))) (refused 6)
    (told e (find e.key (entries_of store))))))

-- a refusal changes nothing, and the line stays (R29, R117, R118, R257)
unfoldable pub after_offer : List ℕ → Entry → List ℕ
after_offer store e = cond (is_refused (offer_answer store e)) store (image (slots_of store) (line_of store) (put e (entries_of store)))

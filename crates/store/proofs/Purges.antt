-- Each way through a purge, and what a purge leaves.
use Prim.Native.Nat.{ℕ, suc, ◌^◌, ◌≤◌, ◌<◌}
use native.Mathlib.Omega.{arith}
use mathlib.Core.Path.{◌≡◌, refl, sym, ap, ap₂, ◌∙◌}
use mathlib.Core.Logic.{inl, inr}
use mathlib.Core.Bool.{Bool, true, false, ◌&&◌}
use mathlib.Core.List.{List}
use mathlib.Core.Option.{none}
use lib.ListN.{length, drop, length-drop}
use lib.Seq.{length-take-le}
use lib.Dec.{ltb, eqb}
use borrow.Author.Tests.{lt-ltb, le-ltb, ltb-true, ltb-false, le-leb, lt-leb, leb-false, eqb-true, eq-eqb}
use borrow.Rule.Slice.PartMut.{mid_of, put_mid}
use Rattle.wire.specs.Number.{be}
use Rattle.wire.proofs.Tests.{test, clash, and-true}
use Rattle.entry.specs.Entry.{Entry, bad_time, refusal_of}
use Rattle.image.specs.Layout.{line_at, header_fill_at}
use Rattle.image.specs.Image.{image, slots_of, line_of, entries_of, sound}
use Rattle.image.specs.Meaning.{Sound}
use Rattle.image.proofs.ImageLaws.{sound_is, sound-image, sound-length, slots_of_image, line_of_image, line_is_time, entries_of_image, used_is}
use Rattle.store.specs.Held.{◌∈◌, put, find, is_held, below_line}
use Rattle.store.specs.Answer.{Answer, purged, refused, is_refused}
use Rattle.store.specs.Offer.{told, offer_answer}
use Rattle.store.specs.Unchecked.{splice}
use Rattle.store.specs.Purge.{cleared, remaining, removed, purge_answer, after_purge}
use Rattle.store.specs.Meaning.{PurgeLeaves, PurgeToHeldLine, PurgeAgain, RoomAfterPurge}
use Rattle.store.proofs.HeldLaws.{length-put}
use Rattle.store.proofs.Members.{accept_all, fit_all, ascend}
use Rattle.store.proofs.OnSound.{ordered, fits_held, accepts_held}
use Rattle.store.proofs.Splices.{splice_mid}
use Rattle.store.proofs.Closing.{lined}
use Rattle.store.proofs.Purging.{mem-remaining, remaining-mem, remaining-ascending, remaining-length, remaining_again, removed_again}

-- ---- each way through
module _ (s : List ℕ) (line : ℕ) (b : Bool) (se : b ≡ sound s) where
  pub purge_5 : b ≡ false → (refused 5 ≡ purge_answer s line) × (s ≡ after_purge s line)
  unfolding purge_answer after_purge is_refused
  purge_5 f = let h = sym se ∙ f in (sym (rw h), sym (rw h))

  module _ (t : b ≡ true) where
    h : sound s ≡ true
    h = sym se ∙ t

    -- the line's bytes are there
    pub line_within : (u : List ℕ) → length u ≡ length s → header_fill_at ≤ length u
    line_within u e = omega (arith, sound-length s (sound_is s h), (sound_is s h).some)

    pub purge_9 : 2 ^ 48 ≤ line → (refused 9 ≡ purge_answer s line) × (s ≡ after_purge s line)
    unfolding purge_answer after_purge is_refused
    purge_9 le = let q = le-leb (2 ^ 48) line le in (sym (rw (h, q)), sym (rw (h, q)))

    module _ (time : line < 2 ^ 48) (held : ℕ) (le : held ≡ line_of s) where
      in_time : bad_time line ≡ false
      in_time = lt-leb (2 ^ 48) line time

      pub purge_33 : line < held → (refused 33 ≡ purge_answer s line) × (s ≡ after_purge s line)
      unfolding purge_answer after_purge is_refused
      purge_33 lt = let q = lt-ltb line (line_of s) (omega arith) in (sym (rw (h, in_time, q)), sym (rw (h, in_time, q)))

      module _ (higher : held ≤ line) where
        not_lower : ltb line (line_of s) ≡ false
        not_lower = le-ltb line (line_of s) (omega arith)

        -- the line is written behind the entries that are left
        pub purge_done : (n : ℕ) → n ≡ removed line (entries_of s) → (t : List ℕ) → t ≡ image (slots_of s) (line_of s) (remaining line (entries_of s))
            → length t ≡ length s → (k : ℕ) → k ≡ 6 → (ys : List ℕ) → ys ≡ be (length (mid_of line_at k t)) line
            → (purged n ≡ purge_answer s line) × (put_mid line_at k t ys ≡ after_purge s line)
        unfolding purge_answer after_purge is_refused
        purge_done n ne t te long k ke ys ye =
            let six : length (mid_of line_at k t) ≡ 6 =
            length-take-le k (drop line_at t) (omega (arith, length-drop line_at t, sound-length s (sound_is s h))) ∙ ke in
            let y : ys ≡ be 6 line = ye ∙ ap (λ (w : ℕ). be w line) six in (
              ap {B = Answer} purged ne ∙ sym (rw (h, in_time, not_lower)),
              splice_mid line_at header_fill_at k t ys (omega arith) ∙ ap₂ (splice line_at header_fill_at) y te
                  ∙ lined (slots_of s) (line_of s) line (remaining line (entries_of s)) ∙ sym (rw (h, in_time, not_lower)),
            )

-- ---- what a purge leaves
-- what its answer says
pub record PurgeTaken (s : List ℕ) (line : ℕ) : Type 0 where
  pub sound : sound s ≡ true
  pub time : line < 2 ^ 48
  pub higher : line_of s ≤ line
  pub told : purge_answer s line ≡ purged (removed line (entries_of s))
  pub left : after_purge s line ≡ image (slots_of s) line (remaining line (entries_of s))

pub purge_taken : (s : List ℕ) (line : ℕ) → is_refused (purge_answer s line) ≡ false → PurgeTaken s line
unfolding purge_answer after_purge is_refused
purge_taken s line n = elim (test (sound s)) [
  | inl p ↦ elim (test (bad_time line)) [
    | inl q ↦ clash refl (rw (p, q) at n)
    | inr q ↦ elim (test (ltb line (line_of s))) [
      | inl r ↦ clash refl (rw (p, q, r) at n)
      | inr r ↦ record { sound = p; time = leb-false (2 ^ 48) line q; higher = ltb-false line (line_of s) r; told = rw (p, q, r); left = rw (p, q, r) }
    ]
  ]
  | inr p ↦ clash refl (rw p at n)
]

module _ (s : List ℕ) (line : ℕ) (t : PurgeTaken s line) where
  abbrev es : List Entry
  es = remaining line (entries_of s)

  k : Sound s
  k = sound_is s t.sound

  fewer : length es ≤ slots_of s
  fewer = omega (arith, remaining-length line (entries_of s), used_is s, k.room)

  fit : (e : Entry) → e ∈ es → e ∈ entries_of s
  fit e m = (mem-remaining line (entries_of s) m).0

  left_sound : sound (after_purge s line) ≡ true
  left_sound =
      rw t.left (sound-image (slots_of s) line es k.some k.most t.time fewer (fit_all es (λ e m. fits_held s t.sound e (fit e m)))
      (accept_all es (λ e m. accepts_held s t.sound e (fit e m))) (ascend es (remaining-ascending line (entries_of s) (ordered s t.sound))))

  left_slots : slots_of (after_purge s line) ≡ slots_of s
  left_slots = rw t.left (slots_of_image (slots_of s) line es (omega (arith, k.most)))

  left_line : line_of (after_purge s line) ≡ line
  left_line = rw t.left (line_of_image (slots_of s) line es t.time)

  left_entries : entries_of (after_purge s line) ≡ es
  left_entries =
      rw t.left (entries_of_image (slots_of s) line es (fit_all es (λ e m. fits_held s t.sound e (fit e m))) (omega (arith, fewer, k.most)))

not_cleared : (line : ℕ) (e : Entry) → cleared line e ≡ false → (e.flag ≡ 1) × (e.stamp.phys < line) → ⊥
unfolding cleared
not_cleared line e p (f, l) = clash {A = ⊥} (rw (eq-eqb e.flag 1 f) (lt-ltb e.stamp.phys line l)) p

kept_back : (line : ℕ) (e : Entry) → ((e.flag ≡ 1) × (e.stamp.phys < line) → ⊥) → cleared line e ≡ false
unfolding cleared
kept_back line e f = elim (test (eqb e.flag 1 && ltb e.stamp.phys line)) [
  | inl p ↦ let q = and-true _ _ p in absurd (f (eqb-true _ _ q.0, ltb-true _ _ q.1))
  | inr p ↦ p
]

pub purge_leaves : PurgeLeaves
purge_leaves s line n =
    let t = purge_taken s line n in
    let es = entries_of s in
    record {
      sound = left_sound s line t;
      slots = left_slots s line t;
      line_set = left_line s line t;
      entries = left_entries s line t;
      holds = λ e. rw (left_entries s line t)
          (λ m. let q = mem-remaining line es m in (q.0, not_cleared line e q.1), λ q. remaining-mem line es q.0 (kept_back line e q.1));
      counted = rw (left_entries s line t) (remaining-length line es);
    }

pub purge_to_held_line : PurgeToHeldLine
unfolding purge_answer is_refused
purge_to_held_line s h = rw (h, lt-leb (2 ^ 48) (line_of s) (line_is_time s h), le-ltb (line_of s) (line_of s) (omega arith))

-- the same again
again : (s : List ℕ) (line : ℕ) → (t : PurgeTaken s line)
    → (purge_answer (after_purge s line) line ≡ purged 0) × (after_purge (after_purge s line) line ≡ after_purge s line)
unfolding purge_answer is_refused
again s line t =
    let u = after_purge s line in
    let a : purge_answer u line ≡ purged 0 = rw (
      left_sound s line t,
      lt-leb (2 ^ 48) line t.time,
      left_line s line t,
      le-ltb line line (omega arith),
      left_entries s line t,
      removed_again line (entries_of s),
    ) in
    let v = purge_taken u line (rw a) in
    (a, v.left ∙ rw (left_slots s line t, left_entries s line t, remaining_again line (entries_of s)) (sym t.left))

untouched : (s : List ℕ) (line : ℕ) → is_refused (purge_answer s line) ≡ true → after_purge s line ≡ s
unfolding after_purge
untouched s line p = rw p

pub purge_again : PurgeAgain
purge_again s line = elim (test (is_refused (purge_answer s line))) [
  | inl p ↦ (ap (λ (x : List ℕ). after_purge x line) (untouched s line p), λ n. clash p n)
  | inr p ↦ let r = again s line (purge_taken s line p) in (r.1, λ n. r.0)
]

pub room_after_purge : RoomAfterPurge
unfolding offer_answer below_line told is_held is_refused
room_after_purge s line n p e ok new above =
    let t = purge_taken s line (ap is_refused p) in
    let u = after_purge s line in
    let es = remaining line (entries_of s) in
    let k = sound_is s t.sound in
    let r : removed line (entries_of s) ≡ suc n = same _ _ (sym t.told ∙ p) in
    let f : find e.key es ≡ none = ap (find e.key) (sym (left_entries s line t)) ∙ new in
    let one : length (put e es) ≡ suc (length es) = length-put e es (remaining-ascending line (entries_of s) (ordered s t.sound)) ∙ rw f in
    let l : length (put e es) ≤ slots_of s = omega (arith, one, r, remaining-length line (entries_of s), used_is s, k.room) in
    rw (
      left_sound s line t,
      eq-eqb (refusal_of e) 0 ok,
      left_line s line t,
      left_entries s line t,
      left_slots s line t,
      le-ltb e.stamp.phys line above,
      le-ltb (slots_of s) (length (put e es)) l,
      f,
    )
  where
    same : (a b : ℕ) → purged a ≡ purged b → a ≡ b
    same a b q = cc

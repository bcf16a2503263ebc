-- On a sound store the calls without the test of soundness are the calls themselves.
use Prim.Native.Nat.{ℕ, suc, ◌+◌, ◌≤◌, ◌<◌}
use native.Mathlib.Omega.{arith}
use mathlib.Core.Path.{◌≡◌, refl, sym, ap, ap₂, ◌∙◌}
use mathlib.Core.Logic.{inl, inr}
use mathlib.Core.Bool.{Bool, true, false, cond, not, ◌&&◌, and-false}
use mathlib.Core.List.Memᴰ.{head}
use mathlib.Core.List.Memᴰ.{tail}
use mathlib.Core.List.{List, [], ◌∷◌}
use mathlib.Core.Option.{Option, none, some}
use lib.ListN.{length}
use lib.Dec.{ltb, leb, eqb}
use borrow.Author.Tests.{lt-ltb, le-ltb, leb-true, le-leb, leb-false}
use Rattle.wire.proofs.Tests.{test}
use Rattle.entry.specs.Entry.{Entry, Acceptable, beats, refusal_of}
use Rattle.image.specs.Layout.{slot_start}
use Rattle.image.specs.Image.{image, slot_bytes, slots_of, used_of, line_of, entries_of, sound}
use Rattle.image.specs.Slot.{has_slot}
use Rattle.image.specs.Meaning.{Fit, Sound}
use Rattle.image.proofs.ImageLaws.{sound_is, sound-image, sound_fits, sound-length, slots_of_image, entries_of_image, used_is}
use Rattle.image.proofs.ImageLaws.{line_of_image, line_is_time}
use Rattle.store.specs.Held.{◌∈◌, put, put_all, find, is_held, below_line, index_of}
use Rattle.store.specs.Answer.{refused, is_refused}
use Rattle.store.specs.Lookup.{finding_for, lookup_answer}
use Rattle.store.specs.Offer.{told, offer_answer, after_offer}
use Rattle.store.specs.Merge.{taken}
use Rattle.store.specs.Meaning.{Keeps, UncheckedOnSound}
use Rattle.store.specs.Unchecked.{seek, seen, lookup_unchecked, placement_for, placement, told_of, written_at, after_placed, after_all, offer_unchecked}
use Rattle.store.specs.Unchecked.{after_offer_unchecked}
use Rattle.store.proofs.HeldLaws.{Ascending, mem-put, put-ascending}
use Rattle.store.proofs.Members.{accept_all, all_accepted, fit_all, all_fit, ascend, ascended}
use Rattle.store.proofs.Seeking.{seek_within, put_unseen, seen_there, seek_index, put-seen, seen-find, put-length, put_all_grows}
use Rattle.store.proofs.Seeking.{below_seen, taken-put}
use Rattle.store.proofs.Splices.{replaced as replaced-image, inserted as inserted-image}

-- full by count is full by keys
full : (c u : ℕ) → leb c u ≡ ltb c (suc u)
full c u = elim (test (leb c u)) [
  | inl p ↦ p ∙ sym (lt-ltb c (suc u) (omega (arith, leb-true c u p)))
  | inr p ↦ p ∙ sym (le-ltb c (suc u) (omega (arith, leb-false c u p)))
]

module _ (s : List ℕ) (h : sound s ≡ true) where
  k : Sound s
  k = sound_is s h

  pub ordered : Ascending (entries_of s)
  ordered = ascended (entries_of s) k.order

  pub held_fits : length (entries_of s) ≤ slots_of s
  held_fits = omega (arith, used_is s, k.room)

  -- ---- an entry placed
  module _ (e : Entry) where
    abbrev es : List Entry
    es = entries_of s

    abbrev over : Bool
    over = ltb (slots_of s) (length (put e es))

    -- the bytes have each slot that is not past the last
    has : (i : ℕ) → i < slots_of s → has_slot i s ≡ true
    has i lt = le-leb (slot_start (i + 1)) (length s) (omega (arith, sound-length s k))

    -- below the line, by what is seen of its key
    abbrev under : Option Entry → Bool
    under o = ltb e.stamp.phys (line_of s) && not (is_held o)

    abbrev next : List ℕ
    next = image (slots_of s) (line_of s) (put e es)

    -- by what is seen of its key
    by_sight : (o : Option Entry) → seen e.key es ≡ o
        → (told_of (placement_for s e o) ≡ cond (under o) (refused 34) (cond over (refused 6) (told e o)))
        × (written_at (placement_for s e o) (slot_bytes e) s ≡ cond (under o) s (cond over s next))
    unfolding placement_for told is_held
    by_sight none q =
        let n : length (put e es) ≡ suc (used_of s) = put-length e es ordered ∙ rw (q, used_is s) in
        let f : over ≡ leb (slots_of s) (used_of s) = ap (ltb (slots_of s)) n ∙ sym (full (slots_of s) (used_of s)) in
        elim (test (ltb e.stamp.phys (line_of s))) [
          | inl b ↦ rw b (refl, refl)
          | inr b ↦ rw (f, b) (elim (test (leb (slots_of s) (used_of s))) [
            | inl t ↦ rw t (refl, refl)
            | inr t ↦
                let room = leb-false (slots_of s) (used_of s) t in
                let put_in = inserted-image s k (seek e.key es) (omega (arith, seek_within e.key es, used_is s)) room e in
                rw (t, has (used_of s) room) (refl, put_in ∙ ap (image (slots_of s) (line_of s)) (sym (put_unseen e es q)))
          ])
        ]
    by_sight (some g) q =
        let p = seen_there e.key es g q in
        let lt : seek e.key es < used_of s = omega (arith, p.within, used_is s) in
        let n : length (put e es) ≡ length es = put-length e es ordered ∙ rw q in
        let f : over ≡ false = le-ltb (slots_of s) (length (put e es)) (omega (arith, held_fits)) in
        rw (and-false (ltb e.stamp.phys (line_of s)), f, put-seen e es g q) (elim (test (beats e g)) [
          | inl t ↦ rw (t, has (seek e.key es) (omega (arith, k.room))) (refl, replaced-image s k (seek e.key es) (omega arith) g p.there e lt)
          | inr t ↦ rw t (refl, k.bytes)
        ])

    pub placed : (told_of (placement s e) ≡ cond (below_line (line_of s) es e) (refused 34) (cond over (refused 6) (told e (find e.key es))))
        × (after_placed s e ≡ cond (below_line (line_of s) es e) s (cond over s next))
    unfolding after_placed
    placed =
        let o = seen e.key es in
        let b = by_sight o refl in
        rw (below_seen (line_of s) es e ordered)
        (b.0 ∙ ap (λ (p : Option Entry). cond (under o) (refused 34) (cond over (refused 6) (told e p))) (seen-find e.key es ordered), b.1)

-- what is said of a key by its place is what is said by its index
sights : (k : List ℕ) (es : List Entry) → Ascending es → finding_for (seek k es) (seen k es) ≡ finding_for (index_of k es) (find k es)
unfolding finding_for
sights k es a = go (seen k es) refl ∙ ap (finding_for (index_of k es)) (seen-find k es a)
  where
    go : (o : Option Entry) → seen k es ≡ o → finding_for (seek k es) (seen k es) ≡ finding_for (index_of k es) (seen k es)
    go none q = rw q
    go (some g) q = ap (λ (i : ℕ). finding_for i (seen k es)) (seek_index k es g q)

told_not_refused : (e : Entry) (o : Option Entry) → is_refused (told e o) ≡ false
unfolding is_refused told
told_not_refused e none = refl
told_not_refused e (some g) = elim (test (beats e g)) [ inl p ↦ rw p | inr p ↦ rw p ]

pub unchecked_on_sound : UncheckedOnSound
unfolding lookup_unchecked lookup_answer offer_unchecked offer_answer after_offer_unchecked after_offer is_refused
unchecked_on_sound s h = record {
  lookup = λ k. rw (h, sights k (entries_of s) (ordered s h));
  offer = λ e. rw (h, (placed s h e).0);
  after = λ e. rw (h, (placed s h e).1) (elim (test (eqb (refusal_of e) 0)) [
    | inl p ↦
        rw p (elim (test (below_line (line_of s) (entries_of s) e)) [
          | inl b ↦ rw b
          | inr b ↦ rw b (elim (test (ltb (slots_of s) (length (put e (entries_of s))))) [
            | inl q ↦ rw q
            | inr q ↦ rw (q, told_not_refused e (find e.key (entries_of s)))
          ])
        ])
    | inr p ↦ rw p
  ]);
}

-- ---- a store after an entry that there is room for
pub image_keeps : (s : List ℕ) (es : List Entry) → sound s ≡ true → length es ≤ slots_of s → ((e : Entry) → e ∈ es → Fit e)
    → ((e : Entry) → e ∈ es → Acceptable e)
    → Ascending es → Keeps s es (image (slots_of s) (line_of s) es)
image_keeps s es h n f ok a =
    let k = sound_is s h in
    let c = slots_of s in
    let line = line_of s in
    let time = line_is_time s h in
    record {
      sound = sound-image c line es k.some k.most time n (fit_all es f) (accept_all es ok) (ascend es a);
      slots = slots_of_image c line es (omega (arith, k.most));
      line = line_of_image c line es time;
      holds = entries_of_image c line es (fit_all es f) (omega (arith, k.most));
    }

pub fits_held : (s : List ℕ) → sound s ≡ true → (e : Entry) → e ∈ entries_of s → Fit e
fits_held s h = all_fit (entries_of s) (sound_fits s (sound_is s h))

pub accepts_held : (s : List ℕ) → sound s ≡ true → (e : Entry) → e ∈ entries_of s → Acceptable e
accepts_held s h = all_accepted (entries_of s) (sound_is s h).each

pub put_keeps : (s : List ℕ) (e : Entry) → sound s ≡ true → Acceptable e → Fit e → length (put e (entries_of s)) ≤ slots_of s
    → Keeps s (put e (entries_of s)) (image (slots_of s) (line_of s) (put e (entries_of s)))
put_keeps s e h ok f n =
    image_keeps s (put e (entries_of s)) h n
    (λ d m. elim (mem-put e (entries_of s) m) [ inl p ↦ rw p f | inr p ↦ fits_held s h d p ])
    (λ d m. elim (mem-put e (entries_of s) m) [ inl p ↦ rw p ok | inr p ↦ accepts_held s h d p ])
    (put-ascending e (entries_of s) (ordered s h))

-- ---- each of some entries placed or passed over, where there is room for those that are taken
pub all_placed : (gs : List Entry) (s : List ℕ) → sound s ≡ true → Ascending gs → ((d : Entry) → d ∈ gs → Acceptable d) → ((d : Entry) → d ∈ gs → Fit d)
    → length (put_all (taken (line_of s) (entries_of s) gs) (entries_of s)) ≤ slots_of s
    → after_all gs s ≡ image (slots_of s) (line_of s) (put_all (taken (line_of s) (entries_of s) gs) (entries_of s))
unfolding after_all put_all taken
all_placed [] s h a ok fit n = (sound_is s h).bytes
all_placed (g ∷ gs) s h a ok fit n =
    let es = entries_of s in
    let line = line_of s in
    elim (test (below_line line es g)) [
      | inl b ↦
          let r = all_placed gs s h a.1 (λ d i. ok d (tail i)) (λ d i. fit d (tail i)) (rw b at n) in
          rw b (ap (after_all gs) ((placed s h g).1 ∙ rw b) ∙ r)
      | inr b ↦
          let n' : length (put_all (taken line es gs) (put g es)) ≤ slots_of s = rw b at n in
          let m : length (put g es) ≤ slots_of s = omega (arith, put_all_grows (taken line es gs) (put g es) (put-ascending g es (ordered s h))) in
          let t : List ℕ = image (slots_of s) line (put g es) in
          let kt = put_keeps s g h (ok g (head refl)) (fit g (head refl)) m in
          let p : after_placed s g ≡ t = (placed s h g).1 ∙ rw (b, le-ltb (slots_of s) (length (put g es)) m) in
          let e : taken (line_of t) (entries_of t) gs ≡ taken line es gs =
          ap₂ (λ (l : ℕ) (hs : List Entry). taken l hs gs) kt.line kt.holds ∙ taken-put line g es gs (ordered s h) a.0 in
          let r = all_placed gs t kt.sound a.1 (λ d i. ok d (tail i)) (λ d i. fit d (tail i)) (rw (e, kt.holds, kt.slots) n') in
          rw b (ap (after_all gs) p ∙ r ∙ rw (e, kt.slots, kt.line, kt.holds))
    ]

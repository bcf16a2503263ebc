-- What the calls keep, and what is found after them, proved.
use Prim.Native.Nat.{ℕ, ◌≤◌}
use native.Mathlib.Omega.{arith}
use mathlib.Core.Path.{◌≡◌, refl, sym, ap, ◌∙◌}
use mathlib.Core.Logic.{◌⊎◌, inl, inr}
use mathlib.Core.Bool.{true, false, and-false}
use mathlib.Core.List.Memᴰ.{head}
use mathlib.Core.List.Memᴰ.{tail}
use mathlib.Core.List.{List, [], ◌∷◌}
use mathlib.Core.Option.{Option, none, some}
use lib.ListN.{length}
use lib.Dec.{ltb, eqb}
use borrow.Author.Tests.{ltb-false, eqb-true, le-ltb, eq-eqb}
use Rattle.wire.proofs.Tests.{test, clash}
use Rattle.wire.proofs.Order.{same_bytes_refl}
use Rattle.entry.specs.Entry.{Entry, Acceptable, beats, refusal_of}
use Rattle.entry.proofs.Accept.{accepted}
use Rattle.entry.proofs.EntryOrder.{beats_irrefl}
use Rattle.image.specs.Image.{image, slots_of, line_of, entries_of, all_acceptable, ascending, sound}
use Rattle.wire.proofs.Compared.{distinct}
use Rattle.image.proofs.SlotLaws.{fits}
use Rattle.image.proofs.ImageLaws.{used_is, sound_is, sound-image, slots_of_image, line_of_image, entries_of_image}
use Rattle.store.specs.Held.{◌∈◌, put, put_all, find, is_held, better, below_line}
use Rattle.store.specs.Answer.{Answer, stored, replaced, kept, is_refused}
use Rattle.store.specs.Create.{fresh_store}
use Rattle.store.specs.Lookup.{value_for, lookup_answer, value_part}
use Rattle.store.specs.Offer.{told, offer_answer, after_offer}
use Rattle.store.specs.Merge.{taken, merged_entries, merge_answer, after_merge}
use Rattle.store.specs.Meaning.{Representable, Keeps, FreshKeeps, OfferKeeps, MergeKeeps, KeptUnchanged, HeldIsKept, Finds, FoundAfterOffer}
use Rattle.store.proofs.HeldLaws.{mem-put, put_all-ascending, find-put, find-mem}
use Rattle.store.proofs.Seeking.{seen-find, put-seen, mem-taken}
use Rattle.store.proofs.OnSound.{ordered, image_keeps, fits_held, accepts_held, put_keeps}

pub fresh_keeps : FreshKeeps
unfolding fresh_store all_acceptable ascending
fresh_keeps c lo hi = (
  sound-image c 0 [] lo hi (omega arith) (omega arith) tt refl refl,
  slots_of_image c 0 [] (omega arith),
  line_of_image c 0 [] (omega arith),
  entries_of_image c 0 [] tt (omega arith),
)

unchanged : (s : List ℕ) → sound s ≡ true → Keeps s (entries_of s) s
unchanged s h = record { sound = h; slots = refl; line = refl; holds = refl }

-- ---- what an offer's answer says
pub record OfferTaken (s : List ℕ) (e : Entry) : Type 0 where
  pub sound : sound s ≡ true
  pub ok : Acceptable e
  pub above : below_line (line_of s) (entries_of s) e ≡ false
  pub room : length (put e (entries_of s)) ≤ slots_of s
  pub told : offer_answer s e ≡ told e (find e.key (entries_of s))

pub offer_taken : (s : List ℕ) (e : Entry) → is_refused (offer_answer s e) ≡ false → OfferTaken s e
unfolding offer_answer is_refused
offer_taken s e n = elim (test (sound s)) [
  | inl p ↦ elim (test (eqb (refusal_of e) 0)) [
    | inl q ↦ elim (test (below_line (line_of s) (entries_of s) e)) [
      | inl b ↦ clash refl (rw (p, q, b) at n)
      | inr b ↦ elim (test (ltb (slots_of s) (length (put e (entries_of s))))) [
        | inl r ↦ clash refl (rw (p, q, b, r) at n)
        | inr r ↦ record { sound = p; ok = eqb-true _ _ q; above = b; room = ltb-false _ _ r; told = rw (p, q, b, r) }
      ]
    ]
    | inr q ↦ clash refl (rw (p, q) at n)
  ]
  | inr p ↦ clash refl (rw p at n)
]

took : (s : List ℕ) (e : Entry) (a : Answer) → offer_answer s e ≡ a → is_refused a ≡ false → OfferTaken s e
took s e a p n = offer_taken s e (ap is_refused p ∙ n)

after-taken : (s : List ℕ) (e : Entry) → is_refused (offer_answer s e) ≡ false → after_offer s e ≡ image (slots_of s) (line_of s) (put e (entries_of s))
unfolding after_offer
after-taken s e n = rw n

pub offer_keeps : OfferKeeps
unfolding after_offer
offer_keeps s e h r = elim (test (is_refused (offer_answer s e))) [
  | inl p ↦ rw p (unchanged s h)
  | inr p ↦
      let t = offer_taken s e p in
      rw p (put_keeps s e h t.ok (fits e t.ok r.logical r.node) t.room)
]

-- ---- a merge
mem-put_all : (gs es : List Entry) {d : Entry} → d ∈ put_all gs es → d ∈ gs ⊎ d ∈ es
unfolding put_all
mem-put_all [] es m = inr m
mem-put_all (g ∷ gs) es m = elim (mem-put_all gs (put g es) m) [
  | inl p ↦ inl (tail p)
  | inr p ↦ elim (mem-put g es p) [ inl q ↦ inl (head q) | inr q ↦ inr q ]
]

-- what a merge's answer says
pub record MergeTaken (r g : List ℕ) : Type 0 where
  pub receiver : sound r ≡ true
  pub giver : sound g ≡ true
  pub lines : line_of r ≡ line_of g
  pub room : length (merged_entries r g) ≤ slots_of r

pub merge_taken : (r g : List ℕ) → is_refused (merge_answer r g) ≡ false → MergeTaken r g
unfolding merge_answer is_refused
merge_taken r g n = elim (test (sound r)) [
  | inl p ↦ elim (test (sound g)) [
    | inl q ↦ elim (test (eqb (line_of r) (line_of g))) [
      | inl l ↦ elim (test (ltb (slots_of r) (length (merged_entries r g)))) [
        | inl t ↦ clash refl (rw (p, q, l, t) at n)
        | inr t ↦ record { receiver = p; giver = q; lines = eqb-true _ _ l; room = ltb-false _ _ t }
      ]
      | inr l ↦ clash refl (rw (p, q, l) at n)
    ]
    | inr q ↦ clash refl (rw (p, q) at n)
  ]
  | inr p ↦ clash refl (rw p at n)
]

pub merge_keeps : MergeKeeps
unfolding after_merge merged_entries
merge_keeps r g h k =
    let gs = entries_of g in
    let es = entries_of r in
    let ts = taken (line_of r) es gs in
    elim (test (is_refused (merge_answer r g))) [
      | inl p ↦ rw p (unchanged r h)
      | inr p ↦ rw p (image_keeps r (put_all ts es) h (merge_taken r g p).room
          (λ d m. elim (mem-put_all ts es m) [ inl q ↦ fits_held g k d (mem-taken (line_of r) es gs q) | inr q ↦ fits_held r h d q ])
          (λ d m. elim (mem-put_all ts es m) [ inl q ↦ accepts_held g k d (mem-taken (line_of r) es gs q) | inr q ↦ accepts_held r h d q ])
          (put_all-ascending ts es (ordered r h)))
    ]

-- ---- kept
-- an entry that is told as kept was held and not beaten
told_kept : (e : Entry) (o : Option Entry) → told e o ≡ kept → (h : Entry) × (o ≡ some h) × (beats e h ≡ false)
unfolding told
told_kept e none p = distinct stored kept (λ q. cc) p
told_kept e (some h) p = elim (test (beats e h)) [
  | inl q ↦ distinct replaced kept (λ r. cc) (rw q at p)
  | inr q ↦ (h, refl, q)
]

pub kept_unchanged : KeptUnchanged
unfolding is_refused
kept_unchanged s e p =
    let t = took s e kept p refl in
    let (h, o, b) = told_kept e (find e.key (entries_of s)) (sym t.told ∙ p) in
    let q = put-seen e (entries_of s) h (seen-find e.key (entries_of s) (ordered s t.sound) ∙ o) in
    after-taken s e (ap is_refused p) ∙ ap (image (slots_of s) (line_of s)) (q ∙ rw b) ∙ sym (sound_is s t.sound).bytes

pub held_is_kept : HeldIsKept
unfolding offer_answer told below_line is_held
held_is_kept s e h m =
    let es = entries_of s in
    let f = find-mem es (ordered s h) m in
    let p : put e es ≡ es = put-seen e es e (seen-find e.key es (ordered s h) ∙ f) ∙ rw (beats_irrefl e) in
    rw (
      h,
      eq-eqb (refusal_of e) 0 (accepts_held s h e m),
      p,
      le-ltb (slots_of s) (length es) (omega (arith, used_is s, (sound_is s h).room)),
      f,
      and-false (ltb e.stamp.phys (line_of s)),
      beats_irrefl e,
    )

-- ---- found
told_new : (e : Entry) (o : Option Entry) → (told e o ≡ stored) ⊎ (told e o ≡ replaced) → better e o ≡ some e
unfolding told better
told_new e none p = refl
told_new e (some h) p = elim (test (beats e h)) [
  | inl q ↦ rw q
  | inr q ↦ elim p [
    | inl r ↦ distinct kept stored (λ x. cc) (rw q at r)
    | inr r ↦ distinct kept replaced (λ x. cc) (rw q at r)
  ]
]

found : (s : List ℕ) (e : Entry) → Representable e → is_refused (offer_answer s e) ≡ false
    → (told e (find e.key (entries_of s)) ≡ stored) ⊎ (told e (find e.key (entries_of s)) ≡ replaced)
    → Finds (after_offer s e) e
unfolding lookup_answer value_part value_for
found s e r n w =
    let t = offer_taken s e n in
    let k = offer_keeps s e t.sound r in
    let ok = accepted e t.ok in
    let held : entries_of (after_offer s e) ≡ put e (entries_of s) = k.holds ∙ rw n in
    let f : find e.key (put e (entries_of s)) ≡ some e =
    find-put e.key e (entries_of s) (ordered s t.sound) ∙ rw (same_bytes_refl e.key) (told_new e _ w) in
    record {
      told = rw (k.sound, ok.good_key, held, f);
      part = rw (k.sound, ok.good_key, held, f) (elim (test (eqb e.flag 1)) [ inl p ↦ rw p (sym (ok.tombstone (eqb-true _ _ p))) | inr p ↦ rw p ]);
    }

pub found-after_offer : FoundAfterOffer
unfolding is_refused
found-after_offer s e r w = elim w [
  | inl p ↦ found s e r (ap is_refused p) (inl (sym (took s e stored p refl).told ∙ p))
  | inr p ↦ found s e r (ap is_refused p) (inr (sym (took s e replaced p refl).told ∙ p))
]

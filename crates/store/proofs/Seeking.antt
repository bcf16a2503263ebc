-- Where a key stands among the entries held, and what offering an entry does there.
use Prim.Native.Nat.{ℕ, suc, ◌+◌, ◌≤◌, ◌<◌}
use native.Mathlib.Omega.{arith}
use native.Mathlib.Numerals.{add-one}
use mathlib.Core.Path.{◌≡◌, refl, sym, ap, ◌∙◌}
use mathlib.Core.Logic.{inl, inr}
use mathlib.Core.Bool.{Bool, true, false, cond, not, ◌&&◌, and-false}
use mathlib.Core.List.Memᴰ.{cases_cons as mem-cons}
use mathlib.Core.List.Memᴰ.{head}
use mathlib.Core.List.Memᴰ.{not-nil as mem-nil}
use mathlib.Core.List.Memᴰ.{tail}
use mathlib.Core.List.{List, [], ◌∷◌, ◌++◌}
use mathlib.Core.Option.{none, some, none-ne-some, some-injective}
use lib.ListN.{length, take, drop, drop_of_length-le}
use lib.Dec.{ltb}
use Rattle.wire.specs.Order.{same_bytes, comparison}
use Rattle.std.specs.declared.cmp.Ordering.{Ordering}
use Rattle.std.specs.declared.cmp.Ordering.TheVariants as order
use Rattle.wire.proofs.Tests.{test}
use Rattle.entry.specs.Order.{key_below}
use Rattle.entry.specs.Entry.{Entry, beats}
use Rattle.wire.proofs.Compared.{came_below, came_same, came_above}
use Rattle.image.specs.Image.{key_in, slot_entry, used_of, entries_of}
use Rattle.image.specs.Slot.{slot_at}
use Rattle.image.proofs.ImageLaws.{entry_at}
use Rattle.store.specs.Held.{◌∈◌, put, put_all, find, is_held, below_line, index_of}
use Rattle.store.specs.Merge.{taken, passed_over}
use Rattle.store.specs.Unchecked.{seek, seen, Placed, count_new, count_passed}
use Rattle.store.proofs.HeldLaws.{Above, Ascending, above_trans, above_cons, above_differ, put-ascending, find_none, find-put, length-put}

-- ---- a loop that seeks a key, at entry i
pub record Seeking (k : List ℕ) (es : List Entry) (i : ℕ) : Type 0 where
  pub place : i + seek k (drop i es) ≡ seek k es
  pub known : seen k (drop i es) ≡ seen k es

pub seek_end : (k : List ℕ) (es : List Entry) (i : ℕ) → Seeking k es i → i < 65536 → length es ≤ i → Placed k es i false
unfolding seek seen is_held
seek_end k es i s small h =
    let e = drop_of_length-le es h in
    record { place = sym (omega (arith, rw e at s.place)); known = ap is_held (sym (ap (seen k) e) ∙ s.known); small = small }

-- slot i's key k' compared with the key
module _ (k s : List ℕ) (i : ℕ) (sought : Seeking k (entries_of s) i) (used : i < used_of s) (small : i < 65536)
    (k' t : List ℕ) (ke : k' ≡ key_in t) (te : t ≡ slot_at i s) (o : Ordering) (oe : o ≡ comparison k k') where
  abbrev here : Entry
  here = slot_entry (slot_at i s)

  split : drop i (entries_of s) ≡ here ∷ drop (suc i) (entries_of s)
  split = entry_at i s used

  compared : o ≡ comparison k here.key
  unfolding slot_entry
  compared = oe ∙ ap (comparison k) (ke ∙ ap key_in te)

  pub seek_below : o ≡ order.Less → Placed k (entries_of s) i false
  unfolding seek seen is_held
  seek_below b =
      let p = came_below k here.key (sym compared ∙ b) in
      record { place = sym (omega (arith, rw (split, p) at sought.place)); known = ap is_held (rw (split, p) at sought.known); small = small }

  pub seek_same : o ≡ order.Equal → Placed k (entries_of s) i true
  unfolding seek seen is_held
  seek_same b =
      let p = came_same k here.key (sym compared ∙ b) in
      record { place = sym (omega (arith, rw (split, p.0, p.1) at sought.place)); known = ap is_held (rw (split, p.0, p.1) at sought.known); small = small }

  pub seek_above : o ≡ order.Greater → Seeking k (entries_of s) (i + 1)
  unfolding seek seen
  seek_above b =
      let p = came_above k here.key (sym compared ∙ b) in record {
        place = rw (add-one i) (omega (arith, rw (split, p.0, p.1) at sought.place));
        known = rw (add-one i) (rw (split, p.0, p.1) at sought.known);
      }

pub seek_within : (k : List ℕ) (es : List Entry) → seek k es ≤ length es
unfolding seek
seek_within k [] = omega arith
seek_within k (h ∷ hs) = elim (test (key_below k h.key)) [
  | inl p ↦ rw p (omega arith)
  | inr p ↦ elim (test (same_bytes k h.key)) [ inl q ↦ rw (p, q) (omega arith) | inr q ↦ rw (p, q) (omega (arith, seek_within k hs)) ]
]

-- ---- a key that is not seen: the entry is put in at its place
pub put_unseen : (e : Entry) (es : List Entry) → seen e.key es ≡ none → put e es ≡ take (seek e.key es) es ++ (e ∷ drop (seek e.key es) es)
unfolding put seek seen
put_unseen e [] n = refl
put_unseen e (h ∷ hs) n = elim (test (key_below e.key h.key)) [
  | inl p ↦ rw p
  | inr p ↦ elim (test (same_bytes e.key h.key)) [
    | inl q ↦ absurd (none-ne-some h (sym (rw (p, q) at n)))
    | inr q ↦ rw (p, q) (ap (λ (l : List Entry). h ∷ l) (put_unseen e hs (rw (p, q) at n)))
  ]
]

-- ---- a key that is seen: its entry stands at its place
pub record There (k : List ℕ) (es : List Entry) (h : Entry) : Type 0 where
  pub there : drop (seek k es) es ≡ h ∷ drop (suc (seek k es)) es
  pub within : seek k es < length es

pub seen_there : (k : List ℕ) (es : List Entry) (g : Entry) → seen k es ≡ some g → There k es g
unfolding seek seen
seen_there k [] g n = absurd (none-ne-some g n)
seen_there k (h ∷ hs) g n = elim (test (key_below k h.key)) [
  | inl p ↦ absurd (none-ne-some g (rw p at n))
  | inr p ↦ elim (test (same_bytes k h.key)) [
    | inl q ↦ record { there = rw (p, q) (ap (λ (x : Entry). x ∷ hs) (some-injective h g (rw (p, q) at n))); within = rw (p, q) (omega arith) }
    | inr q ↦
        let r = seen_there k hs g (rw (p, q) at n) in
        record { there = rw (p, q) r.there; within = rw (p, q) (omega (arith, r.within)) }
  ]
]

-- and it is the first of its key
pub seek_index : (k : List ℕ) (es : List Entry) (g : Entry) → seen k es ≡ some g → seek k es ≡ index_of k es
unfolding seek seen index_of
seek_index k [] g n = absurd (none-ne-some g n)
seek_index k (h ∷ hs) g n = elim (test (key_below k h.key)) [
  | inl p ↦ absurd (none-ne-some g (rw p at n))
  | inr p ↦ elim (test (same_bytes k h.key)) [
    | inl q ↦ rw (p, q)
    | inr q ↦ rw (p, q) (ap suc (seek_index k hs g (rw (p, q) at n)))
  ]
]

-- and it is replaced or kept
cons_cond : (b : Bool) (x : Entry) (l m : List Entry) → x ∷ cond b l m ≡ cond b (x ∷ l) (x ∷ m)
cons_cond true x l m = refl
cons_cond false x l m = refl

pub put-seen : (e : Entry) (es : List Entry) (g : Entry) → seen e.key es ≡ some g
    → put e es ≡ cond (beats e g) (take (seek e.key es) es ++ (e ∷ drop (suc (seek e.key es)) es)) es
unfolding put seek seen
put-seen e [] g n = absurd (none-ne-some g n)
put-seen e (h ∷ hs) g n = elim (test (key_below e.key h.key)) [
  | inl p ↦ absurd (none-ne-some g (rw p at n))
  | inr p ↦ elim (test (same_bytes e.key h.key)) [
    | inl q ↦ rw (p, q, some-injective h g (rw (p, q) at n))
    | inr q ↦ rw (p, q) (ap (λ (l : List Entry). h ∷ l) (put-seen e hs g (rw (p, q) at n)) ∙ cons_cond (beats e g) h _ _)
  ]
]

-- ---- among ascending keys the entry that is seen is the one of the key
pub seen-find : (k : List ℕ) (es : List Entry) → Ascending es → seen k es ≡ find k es
unfolding seen find
seen-find k [] a = refl
seen-find k (h ∷ hs) a = elim (test (key_below k h.key)) [
  | inl p ↦ rw p (sym (find_none k (h ∷ hs) (above_cons k h hs p (above_trans k h.key hs p a.0))))
  | inr p ↦ elim (test (same_bytes k h.key)) [ inl q ↦ rw (p, q) | inr q ↦ rw (p, q) (seen-find k hs a.1) ]
]

pub put-length : (e : Entry) (es : List Entry) → Ascending es → length (put e es) ≡ cond (is_held (seen e.key es)) (length es) (suc (length es))
put-length e es a = rw (seen-find e.key es a) (length-put e es a)

pub put_grows : (e : Entry) (es : List Entry) → Ascending es → length es ≤ length (put e es)
put_grows e es a = rw (put-length e es a) (elim (test (is_held (seen e.key es))) [ inl p ↦ rw p (omega arith) | inr p ↦ rw p (omega arith) ])

pub put_all_grows : (gs es : List Entry) → Ascending es → length es ≤ length (put_all gs es)
unfolding put_all
put_all_grows [] es a = omega arith
put_all_grows (g ∷ gs) es a = omega (arith, put_grows g es a, put_all_grows gs (put g es) (put-ascending g es a))

-- ---- an entry below a line, by what is seen of its key
pub below_seen : (line : ℕ) (es : List Entry) (e : Entry) → Ascending es
    → below_line line es e ≡ (ltb e.stamp.phys line && not (is_held (seen e.key es)))
unfolding below_line
below_seen line es e a = rw (seen-find e.key es a)

-- ---- what a merge takes, and how many entries it makes
-- an entry that is put in changes nothing of the keys above it
find_above : (k : List ℕ) (g : Entry) (es : List Entry) → Ascending es → key_below g.key k ≡ true → find k (put g es) ≡ find k es
find_above k g es a h = find-put k g es a ∙ rw (above_differ g.key k h)

seen-put : (k : List ℕ) (g : Entry) (es : List Entry) → Ascending es → key_below g.key k ≡ true → seen k (put g es) ≡ seen k es
seen-put k g es a h = seen-find k (put g es) (put-ascending g es a) ∙ find_above k g es a h ∙ sym (seen-find k es a)

module _ (line : ℕ) where
  pub taken-put : (g : Entry) (es gs : List Entry) → Ascending es → Above g.key gs → taken line (put g es) gs ≡ taken line es gs
  unfolding taken below_line
  taken-put g es [] a b = refl
  taken-put g es (h ∷ gs) a b = rw (find_above h.key g es a (b h (head refl)), taken-put g es gs a (λ d m. b d (tail m)))

  count_put : (g : Entry) (es gs : List Entry) → Ascending es → Above g.key gs → count_new line (put g es) gs ≡ count_new line es gs
  unfolding count_new
  count_put g es [] a b = refl
  count_put g es (h ∷ gs) a b = rw (seen-put h.key g es a (b h (head refl)), count_put g es gs a (λ d m. b d (tail m)))

  pub length-put_all : (gs es : List Entry) → Ascending gs → Ascending es → length (put_all (taken line es gs) es) ≡ length es + count_new line es gs
  unfolding put_all taken count_new
  length-put_all [] es b a = omega arith
  length-put_all (g ∷ gs) es b a =
      let step : length (put_all (taken line es gs) (put g es)) ≡ length (put g es) + count_new line es gs =
      ap (λ (l : List Entry). length (put_all l (put g es))) (sym (taken-put g es gs a b.0)) ∙ length-put_all gs (put g es) b.1 (put-ascending g es a)
      ∙ ap (λ (n : ℕ). length (put g es) + n) (count_put g es gs a b.0) in
      rw (below_seen line es g a) (elim (test (is_held (seen g.key es))) [
        | inl p ↦
            let same : length (put g es) ≡ length es = put-length g es a ∙ rw p in
            rw (p, and-false (ltb g.stamp.phys line)) (step ∙ ap (λ (n : ℕ). n + count_new line es gs) same)
        | inr p ↦ elim (test (ltb g.stamp.phys line)) [
          | inl q ↦ rw (p, q) (length-put_all gs es b.1 a)
          | inr q ↦
              let more : length (put g es) ≡ suc (length es) = put-length g es a ∙ rw p in
              rw (p, q) (step ∙ omega (arith, more))
        ]
      ])

  pub passed_count : (gs es : List Entry) → Ascending es → passed_over line es gs ≡ count_passed line es gs
  unfolding passed_over count_passed
  passed_count [] es a = refl
  passed_count (g ∷ gs) es a = rw (below_seen line es g a, passed_count gs es a) (elim (test (is_held (seen g.key es))) [
    | inl p ↦ rw (p, and-false (ltb g.stamp.phys line))
    | inr p ↦ elim (test (ltb g.stamp.phys line)) [ inl q ↦ rw (p, q) | inr q ↦ rw (p, q) ]
  ])

  pub passed_most : (es gs : List Entry) → passed_over line es gs ≤ length gs
  unfolding passed_over
  passed_most es [] = omega arith
  passed_most es (g ∷ gs) = elim (test (below_line line es g)) [
    | inl p ↦ rw p (omega (arith, passed_most es gs))
    | inr p ↦ rw p (omega (arith, passed_most es gs))
  ]

  pub mem-taken : (es gs : List Entry) {d : Entry} → d ∈ taken line es gs → d ∈ gs
  unfolding taken
  mem-taken es [] m = m
  mem-taken es (g ∷ gs) {d} m = elim (test (below_line line es g)) [
    | inl p ↦ tail (mem-taken es gs (rw p at m))
    | inr p ↦ elim (mem-cons (rw p at m)) [ inl q ↦ head q | inr q ↦ tail (mem-taken es gs q) ]
  ]

  pub taken_not_below : (es gs : List Entry) {d : Entry} → d ∈ taken line es gs → below_line line es d ≡ false
  unfolding taken
  taken_not_below es [] m = absurd (mem-nil m)
  taken_not_below es (g ∷ gs) {d} m = elim (test (below_line line es g)) [
    | inl p ↦ taken_not_below es gs (rw p at m)
    | inr p ↦ elim (mem-cons (rw p at m)) [ inl q ↦ ap (below_line line es) q ∙ p | inr q ↦ taken_not_below es gs q ]
  ]

  pub taken-mem : (es gs : List Entry) {d : Entry} → d ∈ gs → below_line line es d ≡ false → d ∈ taken line es gs
  unfolding taken
  taken-mem es [] m b = m
  taken-mem es (g ∷ gs) {d} m b = elim (mem-cons m) [
    | inl q ↦ let c : below_line line es g ≡ false = ap (below_line line es) (sym q) ∙ b in rw c (head q)
    | inr q ↦ elim (test (below_line line es g)) [ inl p ↦ rw p (taken-mem es gs q b) | inr p ↦ rw p (tail (taken-mem es gs q b)) ]
  ]

  pub taken-ascending : (es gs : List Entry) → Ascending gs → Ascending (taken line es gs)
  unfolding taken
  taken-ascending es [] a = tt
  taken-ascending es (g ∷ gs) a = elim (test (below_line line es g)) [
    | inl p ↦ rw p (taken-ascending es gs a.1)
    | inr p ↦ rw p (λ d m. a.0 d (mem-taken es gs m), taken-ascending es gs a.1)
  ]

  pub count_most : (es gs : List Entry) → count_new line es gs ≤ length gs
  unfolding count_new
  count_most es [] = omega arith
  count_most es (g ∷ gs) = elim (test (is_held (seen g.key es))) [
    | inl p ↦ rw p (omega (arith, count_most es gs))
    | inr p ↦ elim (test (ltb g.stamp.phys line)) [
      | inl q ↦ rw (p, q) (omega (arith, count_most es gs))
      | inr q ↦ rw (p, q) (omega (arith, count_most es gs))
    ]
  ]

-- What a store holds after some entries were delivered to it, as a function of them; and that the
-- book's words agree with it.
use Prim.Native.Nat.{ℕ, ◌≤◌}
use mathlib.Core.Path.{◌≡◌, refl, sym, ◌∙◌, ap}
use mathlib.Core.Logic.{◌⊎◌, inl, inr, ◌↔◌}
use mathlib.Core.Bool.{Bool, true, false, ◌&&◌, and-true}
use mathlib.Core.List.Memᴰ.{cases_cons as mem-cons}
use mathlib.Core.List.Memᴰ.{head}
use mathlib.Core.List.Memᴰ.{not-nil as mem-nil}
use mathlib.Core.List.Memᴰ.{tail}
use mathlib.Core.List.{List, [], ◌∷◌, ◌++◌}
use mathlib.Core.Option.{Option, none, some, none-ne-some, some-injective}
use lib.ListN.{length}
use Rattle.wire.specs.Order.{same_bytes}
use Rattle.wire.proofs.Tests.{test, clash}
use Rattle.wire.proofs.Order.{same_bytes_eq, same_bytes_refl}
use Rattle.entry.specs.Entry.{Entry, beats}
use Rattle.entry.proofs.EntryOrder.{beats_asym, beats_weak, beats_irrefl, beats_trans, beats_tied}
use Rattle.store.specs.Held.{◌∈◌, put, put_all, find, is_held, better}
use Rattle.history.specs.Book.{has_key, key_count, beats_all, Greatest, best}
use Rattle.store.proofs.HeldLaws.{Above, Ascending, put-ascending, put_all-ascending, join, find-put, find-put_all, find-mem}
use Rattle.store.proofs.HeldLaws.{find_some, same_find, length-put, length_mono, some_of}

-- the entries held after those of a list were offered, the last first
unfoldable pub held : List Entry → List Entry
held [] = []
held (d ∷ ds) = put d (held ds)

pub held_ascending : (ds : List Entry) → Ascending (held ds)
unfolding held
held_ascending [] = tt
held_ascending (d ∷ ds) = put-ascending d (held ds) (held_ascending ds)

-- entries in key order are held as they are
put_first : (e : Entry) (es : List Entry) → Above e.key es → put e es ≡ e ∷ es
unfolding put
put_first e [] a = refl
put_first e (h ∷ hs) a = rw (a h (head refl))

pub held_ascended : (es : List Entry) → Ascending es → held es ≡ es
unfolding held
held_ascended [] a = refl
held_ascended (e ∷ es) a = rw (held_ascended es a.1) (put_first e es a.0)

pub find_held : (k : List ℕ) (ds : List Entry) → find k (held ds) ≡ best k ds
unfolding held best find
find_held k [] = refl
find_held k (d ∷ ds) = rw (find-put k d (held ds) (held_ascending ds), find_held k ds)

-- merging what is held is delivering what was delivered
better_join : (e : Entry) (o p : Option Entry) → better e (join o p) ≡ join (better e o) p
unfolding better join
better_join e none p = refl
better_join e (some g) none = elim (test (beats e g)) [ inl p ↦ rw p | inr p ↦ rw p ]
better_join e (some g) (some r) = elim (test (beats e g)) [
  | inl p ↦ elim (test (beats g r)) [ inl q ↦ rw (p, q, p, beats_trans e g r p q) | inr q ↦ rw (p, q) ]
  | inr p ↦ elim (test (beats g r)) [ inl q ↦ rw (p, q, p) | inr q ↦ rw (p, q, beats_weak e g r p q) ]
]

best-append : (k : List ℕ) (gs ds : List Entry) → best k (gs ++ ds) ≡ join (best k gs) (best k ds)
unfolding best join
best-append k [] ds = refl
best-append k (g ∷ gs) ds = rw (best-append k gs ds) (elim (test (same_bytes k g.key)) [
  | inl s ↦ rw s (better_join g (best k gs) (best k ds))
  | inr s ↦ rw s
])

pub held_append : (gs ds : List Entry) → put_all (held gs) (held ds) ≡ held (gs ++ ds)
held_append gs ds =
    same_find (put_all (held gs) (held ds)) (held (gs ++ ds)) (put_all-ascending (held gs) (held ds) (held_ascending ds)) (held_ascending (gs ++ ds))
    (λ k. rw (
      find-put_all k (held gs) (held ds) (held_ascending gs) (held_ascending ds),
      find_held k gs,
      find_held k ds,
      find_held k (gs ++ ds),
      best-append k gs ds,
    ))

-- the count of keys
present_better : (e : Entry) (o : Option Entry) → is_held (better e o) ≡ true
unfolding better is_held
present_better e none = refl
present_better e (some h) = elim (test (beats e h)) [ inl p ↦ rw p | inr p ↦ rw p ]

pub has_key-best : (k : List ℕ) (ds : List Entry) → has_key k ds ≡ is_held (best k ds)
unfolding has_key best is_held better
has_key-best k [] = refl
has_key-best k (d ∷ ds) = elim (test (same_bytes k d.key)) [
  | inl s ↦ rw (s, present_better d (best k ds))
  | inr s ↦ rw s (has_key-best k ds)
]

pub key_count_held : (ds : List Entry) → key_count ds ≡ length (held ds)
unfolding key_count held
key_count_held [] = refl
key_count_held (d ∷ ds) = rw (length-put d (held ds) (held_ascending ds), find_held d.key ds, has_key-best d.key ds, key_count_held ds)

-- an entry that is delivered beats all of its key, or not, as it beats the best one
unfoldable pub beats_best : Entry → Option Entry → Bool
beats_best e none = true
beats_best e (some h) = beats e h

beats_best_better : (e d : Entry) (o : Option Entry) → beats_best e (better d o) ≡ beats e d && beats_best e o
unfolding beats_best better
beats_best_better e d none = sym (and-true (beats e d))
beats_best_better e d (some h) = elim (test (beats d h)) [
  | inl p ↦ elim (test (beats e d)) [ inl q ↦ rw (p, q, beats_trans e d h q p) | inr q ↦ rw (p, q) ]
  | inr p ↦ elim (test (beats e d)) [ inl q ↦ rw (p, q) | inr q ↦ rw (p, q, beats_weak e d h q p) ]
]

pub beats_all-best : (e : Entry) (ds : List Entry) → beats_all e ds ≡ beats_best e (best e.key ds)
unfolding beats_all best beats_best
beats_all-best e [] = refl
beats_all-best e (d ∷ ds) = elim (test (same_bytes e.key d.key)) [
  | inl s ↦ rw (s, beats_best_better e d (best e.key ds), beats_all-best e ds)
  | inr s ↦ rw s (beats_all-best e ds)
]

-- the best entry is the greatest
better_cases : (d : Entry) (o : Option Entry) {e : Entry} → better d o ≡ some e → (d ≡ e) ⊎ (o ≡ some e)
unfolding better
better_cases d none {e} p = inl (some-injective d e p)
better_cases d (some h) {e} p = elim (test (beats d h)) [
  | inl q ↦ inl (some-injective d e (rw q at p))
  | inr q ↦ inr (rw q at p)
]

pub best-mem : (k : List ℕ) (ds : List Entry) {e : Entry} → best k ds ≡ some e → (e ∈ ds) × (e.key ≡ k)
unfolding best
best-mem k [] {e} p = absurd (none-ne-some e p)
best-mem k (d ∷ ds) {e} p = elim (test (same_bytes k d.key)) [
  | inl s ↦ elim (better_cases d (best k ds) (rw s at p)) [
    | inl q ↦ (head (sym q), ap (λ x. x.key) (sym q) ∙ sym (same_bytes_eq k _ s))
    | inr q ↦ let r = best-mem k ds q in (tail r.0, r.1)
  ]
  | inr s ↦ let r = best-mem k ds (rw s at p) in (tail r.0, r.1)
]

-- neither the entry nor one that does not beat those before beats the better of them
better-unbeaten : (d : Entry) (o : Option Entry) {e : Entry} → better d o ≡ some e → beats d e ≡ false
unfolding better
better-unbeaten d none {e} p = rw (some-injective d e p) (beats_irrefl e)
better-unbeaten d (some h) {e} p = elim (test (beats d h)) [
  | inl q ↦ rw (some-injective d e (rw q at p)) (beats_irrefl e)
  | inr q ↦ rw (← some-injective h e (rw q at p)) q
]

better-unbeaten_too : (d c : Entry) (o : Option Entry) {e : Entry} → ((h : Entry) → o ≡ some h → beats c h ≡ false) → is_held o ≡ true → better d o ≡ some e
    → beats c e ≡ false
unfolding better is_held
better-unbeaten_too d c none {e} f t p = clash t refl
better-unbeaten_too d c (some h) {e} f t p = elim (test (beats d h)) [
  | inl q ↦ rw (← some-injective d e (rw q at p)) (beats_weak c h d (f h refl) (beats_asym d h q))
  | inr q ↦ f e (rw q at p)
]

pub best_present : (k : List ℕ) (ds : List Entry) {c : Entry} → c ∈ ds → c.key ≡ k → is_held (best k ds) ≡ true
unfolding best
best_present k [] m t = absurd (mem-nil m)
best_present k (d ∷ ds) {c} m t = elim (test (same_bytes k d.key)) [
  | inl s ↦ rw (s, present_better d (best k ds))
  | inr s ↦ elim (mem-cons m) [
    | inl q ↦ clash (same_bytes_refl k) (ap (same_bytes k) (sym t ∙ ap (λ x. x.key) q) ∙ s)
    | inr q ↦ rw s (best_present k ds q t)
  ]
]

pub best-unbeaten : (k : List ℕ) (ds : List Entry) {e c : Entry} → best k ds ≡ some e → c ∈ ds → c.key ≡ k → beats c e ≡ false
unfolding best
best-unbeaten k [] p m t = absurd (mem-nil m)
best-unbeaten k (d ∷ ds) {e} {c} p m t = elim (test (same_bytes k d.key)) [
  | inl s ↦ elim (mem-cons m) [
    | inl q ↦ rw q (better-unbeaten d (best k ds) (rw s at p))
    | inr q ↦ better-unbeaten_too d c (best k ds) (λ h r. best-unbeaten k ds r q t) (best_present k ds q t) (rw s at p)
  ]
  | inr s ↦ elim (mem-cons m) [
    | inl q ↦ clash (same_bytes_refl k) (ap (same_bytes k) (sym t ∙ ap (λ x. x.key) q) ∙ s)
    | inr q ↦ best-unbeaten k ds (rw s at p) q t
  ]
]

pub best_greatest : (k : List ℕ) (ds : List Entry) {e : Entry} → best k ds ≡ some e → Greatest ds e
best_greatest k ds p =
    let m = best-mem k ds p in
    (m.0, λ d n t. best-unbeaten k ds p n (t ∙ m.1))

pub greatest_best : (ds : List Entry) (e : Entry) → Greatest ds e → best e.key ds ≡ some e
greatest_best ds e g =
    let (h, p) = some_of (best e.key ds) (best_present e.key ds g.0 refl) in
    let m = best-mem e.key ds p in
    p ∙ ap {B = Option Entry} some (sym (beats_tied e h (sym m.1) (best-unbeaten e.key ds p g.0 refl) (g.1 h m.0 m.1)))

-- what is held is the greatest of each key
pub held_greatest : (ds : List Entry) (e : Entry) → e ∈ held ds ↔ Greatest ds e
held_greatest ds e = (
  λ m. best_greatest e.key ds (sym (find_held e.key ds) ∙ find-mem (held ds) (held_ascending ds) m),
  λ g. (find_some e.key (held ds) (find_held e.key ds ∙ greatest_best ds e g)).0,
)

pub held_mem : (ds : List Entry) {e : Entry} → e ∈ held ds → e ∈ ds
held_mem ds {e} m = (best-mem e.key ds (sym (find_held e.key ds) ∙ find-mem (held ds) (held_ascending ds) m)).0

-- the entries of the first set are in the second
abbrev pub Within : List Entry → List Entry → Type 0
Within ds gs = (e : Entry) → e ∈ ds → e ∈ gs

greatest_same : (ds gs : List Entry) → Within ds gs → Within gs ds → (e : Entry) → Greatest ds e → Greatest gs e
greatest_same ds gs f b e g = (f e g.0, λ d m t. g.1 d (b d m) t)

best_same : (ds gs : List Entry) → Within ds gs → Within gs ds → (k : List ℕ) {e : Entry} → best k ds ≡ some e → best k gs ≡ some e
best_same ds gs f b k {e} p =
    ap (λ j. best j gs) (sym (best-mem k ds p).1) ∙ greatest_best gs e (greatest_same ds gs f b e (best_greatest k ds p))

-- equal sets are held alike
pub held_same : (ds gs : List Entry) → Within ds gs → Within gs ds → held ds ≡ held gs
held_same ds gs f b = same_find (held ds) (held gs) (held_ascending ds) (held_ascending gs)
    (λ k. find_held k ds ∙ go k (best k ds) (best k gs) refl refl ∙ sym (find_held k gs))
  where
    go : (k : List ℕ) (o p : Option Entry) → best k ds ≡ o → best k gs ≡ p → o ≡ p
    go k none none q r = refl
    go k (some e) p q r = sym (best_same ds gs f b k q) ∙ r
    go k none (some e) q r = sym q ∙ best_same gs ds b f k r

-- a larger set has as many keys or more
pub key_count_mono : (ds gs : List Entry) → Within ds gs → key_count ds ≤ key_count gs
key_count_mono ds gs f = rw (key_count_held ds, key_count_held gs) (length_mono (held gs) (held ds) (held_ascending gs) (held_ascending ds) (λ k p.
    let (e, q) = some_of (best k ds) (rw (find_held k ds) at p) in
    let m = best-mem k ds q in
    rw (find_held k gs) (best_present k gs (f e m.0) m.1)))

-- one of each key is held
pub held_key : (ds : List Entry) {d : Entry} → d ∈ ds → (e : Entry) × e ∈ held ds × (e.key ≡ d.key)
held_key ds {d} m =
    let (e, p) = some_of (best d.key ds) (best_present d.key ds m refl) in
    let q = find_some d.key (held ds) (find_held d.key ds ∙ p) in
    (e, q.0, sym q.1)

-- what is held of a larger set has the keys of the smaller, with none lowered
pub held_grows : (ds gs : List Entry) → Within ds gs → (h : Entry) → h ∈ held ds → (g : Entry) × g ∈ held gs × (g.key ≡ h.key) × (beats h g ≡ false)
held_grows ds gs f h m =
    let n = f h (held_mem ds m) in
    let (g, p) = some_of (best h.key gs) (best_present h.key gs n refl) in
    let q = find_some h.key (held gs) (find_held h.key gs ∙ p) in
    (g, q.0, sym q.1, best-unbeaten h.key gs p n refl)

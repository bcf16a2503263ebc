-- Entries held in key order: what `put`, `put_all` and `find` do to them.
use Prim.Native.Nat.{ℕ, suc, ◌≤◌}
use native.Mathlib.Omega.{arith}
use mathlib.Core.Path.{◌≡◌, refl, sym, ◌∙◌, ap, ap₂}
use mathlib.Core.Logic.{◌⊎◌, inl, inr}
use mathlib.Core.Bool.{true, false, cond}
use mathlib.Core.List.Memᴰ.{cases_cons as mem-cons}
use mathlib.Core.List.Memᴰ.{head}
use mathlib.Core.List.Memᴰ.{not-nil as mem-nil}
use mathlib.Core.List.Memᴰ.{tail}
use mathlib.Core.List.{List, [], ◌∷◌}
use mathlib.Core.Option.{Option, none, some, none-ne-some, some-injective}
use lib.ListN.{length}
use Rattle.wire.specs.Order.{same_bytes}
use Rattle.wire.proofs.Tests.{test, clash, false_of}
use Rattle.wire.proofs.Order.{same_bytes_eq, same_bytes_refl, bytes_below_trans, bytes_below_irrefl, bytes_below_tied}
use Rattle.entry.specs.Order.{key_below}
use Rattle.entry.specs.Entry.{Entry, beats}
use Rattle.store.specs.Held.{◌∈◌, put, put_all, find, is_held, better}

-- every entry has a key above k
abbrev pub Above : List ℕ → List Entry → Type 0
Above k es = (e : Entry) → e ∈ es → key_below k e.key ≡ true

-- keys strictly ascending
abbrev pub Ascending : List Entry → Type 0
Ascending [] = Unit
Ascending (e ∷ es) = Above e.key es × Ascending es

-- whether there is an entry
pub none_of : (o : Option Entry) → is_held o ≡ false → o ≡ none
unfolding is_held
none_of none p = refl
none_of (some h) p = clash refl p

pub some_of : (o : Option Entry) → is_held o ≡ true → (e : Entry) × (o ≡ some e)
unfolding is_held
some_of none p = clash p refl
some_of (some e) p = (e, refl)

-- keys
differ : (j k : List ℕ) → (j ≡ k → ⊥) → same_bytes j k ≡ false
differ j k n = false_of (same_bytes j k) (λ p. n (same_bytes_eq j k p))

below_differ : (j k : List ℕ) → key_below j k ≡ true → same_bytes j k ≡ false
below_differ j k h = differ j k (λ p. clash h (rw p (bytes_below_irrefl k)))

pub above_differ : (j k : List ℕ) → key_below j k ≡ true → same_bytes k j ≡ false
above_differ j k h = differ k j (λ p. clash h (rw p (bytes_below_irrefl j)))

pub else_above : (j k : List ℕ) → key_below j k ≡ false → same_bytes j k ≡ false → key_below k j ≡ true
else_above j k p q = elim (test (key_below k j)) [
  | inl r ↦ r
  | inr r ↦ clash (same_bytes_refl k) (rw (bytes_below_tied j k p r) at q)
]

pub mem-put : (e : Entry) (hs : List Entry) {d : Entry} → d ∈ put e hs → (d ≡ e) ⊎ d ∈ hs
unfolding put
mem-put e [] m = mem-cons m
mem-put e (h ∷ hs) {d} m = elim (test (key_below e.key h.key)) [
  | inl p ↦ mem-cons (rw p at m)
  | inr p ↦ elim (test (same_bytes e.key h.key)) [
    | inl q ↦ elim (test (beats e h)) [
      | inl r ↦ elim (mem-cons (rw (p, q, r) at m)) [ inl s ↦ inl s | inr s ↦ inr (tail s) ]
      | inr r ↦ inr (rw (p, q, r) at m)
    ]
    | inr q ↦ elim (mem-cons (rw (p, q) at m)) [
      | inl s ↦ inr (head s)
      | inr s ↦ elim (mem-put e hs s) [ inl t ↦ inl t | inr t ↦ inr (tail t) ]
    ]
  ]
]

put_above : (k : List ℕ) (e : Entry) (hs : List Entry) → key_below k e.key ≡ true → Above k hs → Above k (put e hs)
put_above k e hs h a d m = elim (mem-put e hs m) [ inl p ↦ rw p h | inr p ↦ a d p ]

pub above_trans : (j k : List ℕ) (hs : List Entry) → key_below j k ≡ true → Above k hs → Above j hs
above_trans j k hs h a d m = bytes_below_trans j k d.key h (a d m)

pub above_cons : (k : List ℕ) (h : Entry) (hs : List Entry) → key_below k h.key ≡ true → Above k hs → Above k (h ∷ hs)
above_cons k h hs p a d m = elim (mem-cons m) [ inl q ↦ rw q p | inr q ↦ a d q ]

pub put-ascending : (e : Entry) (hs : List Entry) → Ascending hs → Ascending (put e hs)
unfolding put
put-ascending e [] a = (λ d m. absurd (mem-nil m), tt)
put-ascending e (h ∷ hs) a = elim (test (key_below e.key h.key)) [
  | inl p ↦ rw p (above_cons e.key h hs p (above_trans e.key h.key hs p a.0), a)
  | inr p ↦ elim (test (same_bytes e.key h.key)) [
    | inl q ↦ elim (test (beats e h)) [
      | inl r ↦ rw (p, q, r) (rw (same_bytes_eq _ _ q) a.0, a.1)
      | inr r ↦ rw (p, q, r) a
    ]
    | inr q ↦ rw (p, q) (put_above h.key e hs (else_above _ _ p q) a.0, put-ascending e hs a.1)
  ]
]

pub put_all-ascending : (es hs : List Entry) → Ascending hs → Ascending (put_all es hs)
unfolding put_all
put_all-ascending [] hs a = a
put_all-ascending (e ∷ es) hs a = put_all-ascending es (put e hs) (put-ascending e hs a)

-- `find` after `put`
pub find_none : (k : List ℕ) (hs : List Entry) → Above k hs → find k hs ≡ none
unfolding find
find_none k [] a = refl
find_none k (h ∷ hs) a = rw (below_differ k h.key (a h (head refl))) (find_none k hs (λ d m. a d (tail m)))

pub find-put : (k : List ℕ) (e : Entry) (hs : List Entry) → Ascending hs
    → find k (put e hs) ≡ cond (same_bytes k e.key) (better e (find k hs)) (find k hs)
unfolding find put better
find-put k e [] a = refl
find-put k e (h ∷ hs) a = elim (test (key_below e.key h.key)) [
  | inl p ↦ elim (test (same_bytes k e.key)) [
    | inl s ↦ rw (p, s) (ap (better e) (sym (find_none k (h ∷ hs) (rw (same_bytes_eq k _ s) (above_cons e.key h hs p (above_trans _ _ hs p a.0))))))
    | inr s ↦ rw (p, s)
  ]
  | inr p ↦ elim (test (same_bytes e.key h.key)) [
    | inl q ↦
        let t : same_bytes k h.key ≡ same_bytes k e.key = ap (same_bytes k) (sym (same_bytes_eq _ _ q)) in
        elim (test (same_bytes k e.key)) [
          | inl s ↦ elim (test (beats e h)) [ inl r ↦ rw (p, q, r, s, t ∙ s, r) | inr r ↦ rw (p, q, r, s, t ∙ s, r) ]
          | inr s ↦ elim (test (beats e h)) [ inl r ↦ rw (p, q, r, s, t ∙ s) | inr r ↦ rw (p, q, r, s, t ∙ s) ]
        ]
    | inr q ↦ elim (test (same_bytes k e.key)) [
      | inl s ↦ rw (p, q, find-put k e hs a.1, s, ap (λ j. same_bytes j h.key) (same_bytes_eq _ _ s) ∙ q)
      | inr s ↦ rw (p, q, find-put k e hs a.1, s)
    ]
  ]
]

-- of what two stores hold of a key, what is held after the first is merged into the second
unfoldable pub join : Option Entry → Option Entry → Option Entry
join none o = o
join (some e) o = better e o

find_same : (k : List ℕ) (h : Entry) (hs : List Entry) → k ≡ h.key → find k (h ∷ hs) ≡ some h
unfolding find
find_same k h hs p = rw (p, same_bytes_refl h.key)

pub find-put_all : (k : List ℕ) (es hs : List Entry) → Ascending es → Ascending hs → find k (put_all es hs) ≡ join (find k es) (find k hs)
unfolding put_all find join
find-put_all k [] hs a b = refl
find-put_all k (e ∷ es) hs a b =
    rw (find-put_all k es (put e hs) a.1 (put-ascending e hs b), find-put k e hs b)
    (elim (test (same_bytes k e.key)) [
      | inl s ↦ rw (s, find_none k es (rw (same_bytes_eq k _ s) a.0))
      | inr s ↦ rw s
    ])

-- entries in key order are known by what is found for each key
pub find-mem : (es : List Entry) {e : Entry} → Ascending es → e ∈ es → find e.key es ≡ some e
unfolding find
find-mem [] a m = absurd (mem-nil m)
find-mem (h ∷ hs) {e} a m = elim (mem-cons m) [
  | inl p ↦ rw (p, same_bytes_refl h.key)
  | inr p ↦ rw (above_differ h.key e.key (a.0 e p)) (find-mem hs a.1 p)
]

pub find_some : (k : List ℕ) (es : List Entry) {e : Entry} → find k es ≡ some e → (e ∈ es) × (k ≡ e.key)
unfolding find
find_some k [] {e} f = absurd (none-ne-some e f)
find_some k (h ∷ hs) {e} f = elim (test (same_bytes k h.key)) [
  | inl s ↦ let p : h ≡ e = some-injective h e (rw s at f) in (head (sym p), same_bytes_eq k _ s ∙ ap (λ x. x.key) p)
  | inr s ↦ let r = find_some k hs (rw s at f) in (tail r.0, r.1)
]

find_below : (k : List ℕ) (h : Entry) (hs : List Entry) → key_below k h.key ≡ true → Ascending (h ∷ hs) → find k (h ∷ hs) ≡ none
find_below k h hs p a = find_none k (h ∷ hs) (above_cons k h hs p (above_trans k h.key hs p a.0))

find_tails : (k : List ℕ) (e d : Entry) (es ds : List Entry) → e.key ≡ d.key → Ascending (e ∷ es) → Ascending (d ∷ ds)
    → find k (e ∷ es) ≡ find k (d ∷ ds) → find k es ≡ find k ds
unfolding find
find_tails k e d es ds p a b f = elim (test (same_bytes k e.key)) [
  | inl s ↦
      let t : k ≡ e.key = same_bytes_eq k _ s in
      find_none k es (rw t a.0) ∙ sym (find_none k ds (rw (t ∙ p) b.0))
  | inr s ↦ rw (s, sym (ap (same_bytes k) p) ∙ s) at f
]

pub same_find : (es ds : List Entry) → Ascending es → Ascending ds → ((k : List ℕ) → find k es ≡ find k ds) → es ≡ ds
unfolding find
same_find [] [] a b f = refl
same_find [] (d ∷ ds) a b f = absurd (none-ne-some d (f d.key ∙ find_same _ d ds refl))
same_find (e ∷ es) [] a b f = absurd (none-ne-some e (sym (f e.key) ∙ find_same _ e es refl))
same_find (e ∷ es) (d ∷ ds) a b f = elim (test (key_below e.key d.key)) [
  | inl p ↦ absurd (none-ne-some e (sym (find_below e.key d ds p b) ∙ sym (f e.key) ∙ find_same _ e es refl))
  | inr p ↦ elim (test (key_below d.key e.key)) [
    | inl q ↦ absurd (none-ne-some d (sym (find_below d.key e es q a) ∙ f d.key ∙ find_same _ d ds refl))
    | inr q ↦
        let t : e.key ≡ d.key = bytes_below_tied _ _ p q in
        ap₂ ◌∷◌ (some-injective e d (sym (find_same _ e es refl) ∙ f e.key ∙ find_same _ d ds t))
        (same_find es ds a.1 b.1 (λ k. find_tails k e d es ds t a b (f k)))
  ]
]

pub length-put : (e : Entry) (hs : List Entry) → Ascending hs
    → length (put e hs) ≡ cond (is_held (find e.key hs)) (length hs) (suc (length hs))
unfolding put find is_held
length-put e [] a = refl
length-put e (h ∷ hs) a = elim (test (key_below e.key h.key)) [
  | inl p ↦ rw (p, find_below e.key h hs p a)
  | inr p ↦ elim (test (same_bytes e.key h.key)) [
    | inl q ↦ elim (test (beats e h)) [ inl r ↦ rw (p, q, r) | inr r ↦ rw (p, q, r) ]
    | inr q ↦ rw (p, q, length-put e hs a.1) (elim (test (is_held (find e.key hs))) [ inl r ↦ rw r | inr r ↦ rw r ])
  ]
]

-- a key that is held in the first list is held in the second
abbrev pub Covers : List Entry → List Entry → Type 0
Covers ds es = (k : List ℕ) → is_held (find k es) ≡ true → is_held (find k ds) ≡ true

absent : (k : List ℕ) (es : List Entry) {A : Type 0} → is_held (find k es) ≡ true → find k es ≡ none → A
unfolding is_held
absent k es p q = clash p (ap is_held q)

covers_tails : (d e : Entry) (ds es : List Entry) → e.key ≡ d.key → Ascending (e ∷ es) → Covers (d ∷ ds) (e ∷ es) → Covers ds es
unfolding find
covers_tails d e ds es t a f k h = elim (test (same_bytes k e.key)) [
  | inl s ↦ absent k es h (find_none k es (rw (same_bytes_eq k _ s) a.0))
  | inr s ↦ rw (sym (ap (same_bytes k) t) ∙ s) at (f k (rw s h))
]

covers_tail : (d e : Entry) (ds es : List Entry) → key_below d.key e.key ≡ true → Ascending (e ∷ es) → Covers (d ∷ ds) (e ∷ es) → Covers ds (e ∷ es)
unfolding find
covers_tail d e ds es p a f k h = elim (test (same_bytes k d.key)) [
  | inl s ↦ absent k (e ∷ es) h (find_below k e es (rw (same_bytes_eq k _ s) p) a)
  | inr s ↦ rw s at (f k h)
]

pub length_mono : (ds es : List Entry) → Ascending ds → Ascending es → Covers ds es → length es ≤ length ds
unfolding find is_held
length_mono [] [] b a f = omega arith
length_mono [] (e ∷ es) b a f = clash (f e.key (ap is_held (find_same _ e es refl))) refl
length_mono (d ∷ ds) [] b a f = omega arith
length_mono (d ∷ ds) (e ∷ es) b a f = elim (test (key_below e.key d.key)) [
  | inl p ↦ absent e.key (d ∷ ds) (f e.key (ap is_held (find_same _ e es refl))) (find_below e.key d ds p b)
  | inr p ↦ elim (test (key_below d.key e.key)) [
    | inl q ↦ omega (arith, length_mono ds (e ∷ es) b.1 a (covers_tail d e ds es q a f))
    | inr q ↦ omega (arith, length_mono ds es b.1 a.1 (covers_tails d e ds es (bytes_below_tied _ _ p q) a f))
  ]
]

-- Which of two entries of a key wins: the laws that the store, its history and the report use.
-- Nothing outside this file opens `beats` or `content_below`.
use Prim.Native.Nat.{ℕ, ◌≤◌, ◌<◌}
use native.Mathlib.Omega.{arith}
use mathlib.Core.Path.{◌≡◌, refl, sym, ap, ap₂, ◌∙◌}
use mathlib.Core.Logic.{◌⊎◌, inl, inr}
use mathlib.Core.Bool.{Bool, true, false}
use mathlib.Core.List.{List, []}
use lib.Dec.{ltb, eqb}
use borrow.Author.Tests.{ltb-true, ltb-false, eqb-true, eqb-false, ne_eqb}
use Rattle.wire.specs.Order.{bytes_below}
use Rattle.wire.proofs.Tests.{test, clash}
use Rattle.wire.proofs.Order.{lex, lex_true, lex_less, lex_same, lex_weak, lex_asym, lex_tied, bytes_below_irrefl, bytes_below_trans, bytes_below_tied}
use Rattle.entry.specs.declared.Stamp.{Stamp}
use Rattle.entry.specs.Order.{stamp_below}
use Rattle.entry.specs.Entry.{Entry, entry_of, content_below, beats}
use Rattle.entry.specs.Meaning.{StrictTotal, EntriesStrictlyOrdered, EntryOrderByField, EqualStamps}
use Rattle.entry.proofs.Order.{keys_strictly_ordered, stamp_below_asym, stamp_below_irrefl, stamp_below_trans, stamp_below_tied}
use Rattle.entry.proofs.Order.{stamp_order_by_field}
use Rattle.entry.proofs.Accept.{accepted}

-- ---- the contents
-- in a strict total order what is not below is transitive
weak : {A : Type 0} {below : A → A → Bool} → StrictTotal below → (a b c : A) → below a b ≡ false → below b c ≡ false → below a c ≡ false
weak {below = below} o a b c p q = elim (test (below a c)) [
  | inl r ↦ elim (test (below b a)) [
    | inl t ↦ clash (o.transitive b a c t r) q
    | inr t ↦ clash r (ap (λ x. below x c) (o.total a b p t) ∙ q)
  ]
  | inr r ↦ r
]

bytes_asym : (a b : List ℕ) → bytes_below a b ≡ true → bytes_below b a ≡ false
bytes_asym a b h = elim (test (bytes_below b a)) [ inl p ↦ clash (bytes_below_trans a b a h p) (bytes_below_irrefl a) | inr p ↦ p ]

content_asym : (d e : Entry) → content_below d e ≡ true → content_below e d ≡ false
unfolding content_below lex
content_asym d e = lex_asym d.flag e.flag _ _ (bytes_asym d.value e.value)

content_weak : (c d e : Entry) → content_below c d ≡ false → content_below d e ≡ false → content_below c e ≡ false
unfolding content_below lex
content_weak c d e = lex_weak c.flag d.flag e.flag _ _ _ (weak keys_strictly_ordered c.value d.value e.value)

content_tied : (d e : Entry) → content_below d e ≡ false → content_below e d ≡ false → (d.flag ≡ e.flag) × (d.value ≡ e.value)
unfolding content_below lex
content_tied d e p q = let t = lex_tied d.flag e.flag _ _ p q in (t.0, bytes_below_tied _ _ t.1 t.2)

content_by_field : (d e : Entry) → content_below d e ≡ true → (d.flag < e.flag) ⊎ ((d.flag ≡ e.flag) × (bytes_below d.value e.value ≡ true))
unfolding content_below lex
content_by_field d e = lex_true d.flag e.flag (bytes_below d.value e.value)

-- ---- by the stamp, or at equal stamps by the contents
module _ (d e : Entry) where
  -- an entry with the stamp above beats, and one with the stamp below does not
  pub above_beats : stamp_below e.stamp d.stamp ≡ true → beats d e ≡ true
  unfolding beats
  above_beats h = rw h

  pub below_loses : stamp_below d.stamp e.stamp ≡ true → beats d e ≡ false
  unfolding beats
  below_loses h = rw (stamp_below_asym d.stamp e.stamp h, h)

  -- at equal stamps the contents decide
  pub at_equal : d.stamp ≡ e.stamp → beats d e ≡ content_below e d
  unfolding beats
  at_equal p =
      let x : stamp_below e.stamp d.stamp ≡ false = ap (stamp_below e.stamp) p ∙ stamp_below_irrefl e.stamp in
      let y : stamp_below d.stamp e.stamp ≡ false = ap (λ (s : Stamp). stamp_below s e.stamp) p ∙ stamp_below_irrefl e.stamp in
      rw (x, y)

  -- how an entry beats another, or does not
  pub beats_by : beats d e ≡ true → (stamp_below e.stamp d.stamp ≡ true) ⊎ ((d.stamp ≡ e.stamp) × (content_below e d ≡ true))
  beats_by h = elim (test (stamp_below e.stamp d.stamp)) [
    | inl p ↦ inl p
    | inr p ↦ elim (test (stamp_below d.stamp e.stamp)) [
      | inl q ↦ clash h (below_loses q)
      | inr q ↦ let s = stamp_below_tied d.stamp e.stamp q p in inr (s, sym (at_equal s) ∙ h)
    ]
  ]

  pub loses_by : beats d e ≡ false → (stamp_below d.stamp e.stamp ≡ true) ⊎ ((d.stamp ≡ e.stamp) × (content_below e d ≡ false))
  loses_by h = elim (test (stamp_below e.stamp d.stamp)) [
    | inl p ↦ clash (above_beats p) h
    | inr p ↦ elim (test (stamp_below d.stamp e.stamp)) [
      | inl q ↦ inl q
      | inr q ↦ let s = stamp_below_tied d.stamp e.stamp q p in inr (s, sym (at_equal s) ∙ h)
    ]
  ]

  -- the stamp of an entry that is not beaten is not below the other's
  pub beats_stamp : beats d e ≡ false → stamp_below e.stamp d.stamp ≡ false
  beats_stamp h = elim (test (stamp_below e.stamp d.stamp)) [ inl p ↦ clash (above_beats p) h | inr p ↦ p ]

-- ---- the order
pub beats_asym : (d e : Entry) → beats d e ≡ true → beats e d ≡ false
beats_asym d e h = elim (beats_by d e h) [
  | inl p ↦ below_loses e d p
  | inr p ↦ at_equal e d (sym p.0) ∙ content_asym e d p.1
]

-- what does not beat is transitive
pub beats_weak : (c d e : Entry) → beats c d ≡ false → beats d e ≡ false → beats c e ≡ false
beats_weak c d e h k = elim (loses_by c d h) [
  | inl p ↦ elim (loses_by d e k) [
    | inl q ↦ below_loses c e (stamp_below_trans c.stamp d.stamp e.stamp p q)
    | inr q ↦ below_loses c e (rw (← q.0) p)
  ]
  | inr p ↦ elim (loses_by d e k) [
    | inl q ↦ below_loses c e (rw p.0 q)
    | inr q ↦ at_equal c e (p.0 ∙ q.0) ∙ content_weak e d c q.1 p.1
  ]
]

pub beats_irrefl : (e : Entry) → beats e e ≡ false
beats_irrefl e = elim (test (beats e e)) [ inl p ↦ beats_asym e e p | inr p ↦ p ]

pub beats_trans : (c d e : Entry) → beats c d ≡ true → beats d e ≡ true → beats c e ≡ true
beats_trans c d e p q = elim (test (beats c e)) [
  | inl r ↦ r
  | inr r ↦ clash p (beats_weak c e d r (beats_asym d e q))
]

-- two entries of a key of which neither beats the other are the same
pub beats_tied : (d e : Entry) → d.key ≡ e.key → beats d e ≡ false → beats e d ≡ false → d ≡ e
beats_tied d e k p q =
    let s = stamp_below_tied d.stamp e.stamp (beats_stamp e d q) (beats_stamp d e p) in
    let t = content_tied d e (sym (at_equal e d (sym s)) ∙ q) (sym (at_equal d e s) ∙ p) in
    λ i. record { key = k i; value = t.1 i; flag = t.0 i; stamp = s i }

-- an entry that beats another has no lower phys
pub beats_phys : (e h : Entry) → beats e h ≡ true → h.stamp.phys ≤ e.stamp.phys
beats_phys e h b = elim (test (ltb e.stamp.phys h.stamp.phys)) [
  | inl p ↦ clash ((stamp_order_by_field e.stamp h.stamp).1 (inl (ltb-true _ _ p))) (beats_stamp h e (beats_asym e h b))
  | inr p ↦ ltb-false _ _ p
]

pub entries_strictly_ordered : EntriesStrictlyOrdered
entries_strictly_ordered = record { irreflexive = beats_irrefl; transitive = beats_trans; total = beats_tied }

-- the keys have no part in it
pub content_keys : (j k : List ℕ) (d e : Entry)
    → content_below (entry_of j d.value d.flag d.stamp) (entry_of k e.value e.flag e.stamp) ≡ content_below d e
unfolding content_below
content_keys j k d e = refl

pub beats_keys : (j k : List ℕ) (d e : Entry) → beats (entry_of j d.value d.flag d.stamp) (entry_of k e.value e.flag e.stamp) ≡ beats d e
unfolding beats content_below
beats_keys j k d e = refl

-- ---- by field
module _ (e h : Entry) where
  content_less : h.flag < e.flag → content_below h e ≡ true
  unfolding content_below lex
  content_less l = lex_less {a = h.flag} {b = e.flag} (bytes_below h.value e.value) l

  content_same : e.flag ≡ h.flag → content_below h e ≡ bytes_below h.value e.value
  unfolding content_below lex
  content_same f = lex_same {a = h.flag} {b = e.flag} (bytes_below h.value e.value) (sym f)

  -- neither stamp is below the other: the flags decide, or the values
  module _ (p : stamp_below h.stamp e.stamp ≡ false) (q : stamp_below e.stamp h.stamp ≡ false) where
    by_contents : content_below h e ≡ beats e h
    unfolding beats
    by_contents = rw (p, q)

    pub by_flags : (h.flag ≡ e.flag → ⊥) → ltb h.flag e.flag ≡ beats e h
    unfolding content_below
    by_flags n = rw (← by_contents, ne_eqb h.flag e.flag n) (elim (test (ltb h.flag e.flag)) [ inl r ↦ rw r | inr r ↦ rw r ])

    pub by_values : h.flag ≡ e.flag → bytes_below h.value e.value ≡ beats e h
    by_values f = sym (content_same (sym f)) ∙ by_contents

pub entry_order_by_field : EntryOrderByField
entry_order_by_field e h = (fields, wins)
  where
    fields : beats e h ≡ true → (stamp_below h.stamp e.stamp ≡ true)
        ⊎ ((e.stamp ≡ h.stamp) × (h.flag < e.flag)) ⊎ ((e.stamp ≡ h.stamp) × (e.flag ≡ h.flag) × (bytes_below h.value e.value ≡ true))
    fields b = elim (beats_by e h b) [
      | inl p ↦ inl p
      | inr p ↦ elim (content_by_field h e p.1) [
        | inl q ↦ inr (inl (p.0, q))
        | inr q ↦ inr (inr (p.0, sym q.0, q.1))
      ]
    ]

    wins : (stamp_below h.stamp e.stamp ≡ true)
        ⊎ ((e.stamp ≡ h.stamp) × (h.flag < e.flag)) ⊎ ((e.stamp ≡ h.stamp) × (e.flag ≡ h.flag) × (bytes_below h.value e.value ≡ true))
        → beats e h ≡ true
    wins (inl p) = above_beats e h p
    wins (inr (inl p)) = at_equal e h p.0 ∙ content_less e h p.1
    wins (inr (inr p)) = at_equal e h p.0 ∙ content_same e h p.1 ∙ p.2

pub equal_stamps : EqualStamps
equal_stamps e h a b s = (contents, wins)
  where
    contents : beats e h ≡ true → ((e.flag ≡ 1) × (h.flag ≡ 0)) ⊎ ((e.flag ≡ 0) × (h.flag ≡ 0) × (bytes_below h.value e.value ≡ true))
    contents p = let f = accepted e a in let g = accepted h b in elim (content_by_field h e (sym (at_equal e h s) ∙ p)) [
      | inl q ↦ inl (omega (arith, f.flag), omega (arith, f.flag))
      | inr q ↦ elim (test (eqb e.flag 0)) [
        | inl z ↦ let y = eqb-true e.flag 0 z in inr (y, q.0 ∙ y, q.1)
        | inr z ↦
            let y : e.flag ≡ 1 = omega (arith, f.flag, eqb-false e.flag 0 z) in
            clash q.1 (ap₂ bytes_below (g.tombstone (q.0 ∙ y)) (f.tombstone y) ∙ bytes_below_irrefl [])
      ]
    ]

    wins : ((e.flag ≡ 1) × (h.flag ≡ 0)) ⊎ ((e.flag ≡ 0) × (h.flag ≡ 0) × (bytes_below h.value e.value ≡ true)) → beats e h ≡ true
    wins (inl p) = at_equal e h s ∙ content_less e h (omega (arith, p.0, p.1))
    wins (inr p) = at_equal e h s ∙ content_same e h (p.0 ∙ sym p.1) ∙ p.2

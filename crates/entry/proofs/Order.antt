-- The orders of keys and stamps are strict and total.
use Prim.Native.Nat.{◌<◌}
use native.Mathlib.Omega.{arith}
use mathlib.Core.Path.{◌≡◌, ◌∙◌}
use mathlib.Core.Logic.{◌⊎◌, inl, inr}
use mathlib.Core.Bool.{Bool, true, false}
use lib.Dec.{ltb}
use borrow.Author.Tests.{ltb-true, ltb-false, lt-ltb, le-ltb, eq-eqb}
use Rattle.wire.proofs.Tests.{clash, false_of}
use Rattle.wire.proofs.Order.{lex, lex_true, lex_less, lex_same, lex_trans, lex_asym, lex_tied, bytes_below_irrefl, bytes_below_trans, bytes_below_tied}
use Rattle.entry.specs.declared.Stamp.{Stamp}
use Rattle.entry.specs.Order.{least, stamp_below}
use Rattle.entry.specs.Meaning.{KeysStrictlyOrdered, StampsStrictlyOrdered, StampOrderByField, LeastIsLeast}

pub keys_strictly_ordered : KeysStrictlyOrdered
keys_strictly_ordered = record { irreflexive = bytes_below_irrefl; transitive = bytes_below_trans; total = bytes_below_tied }

pub stamp_below_asym : (s t : Stamp) → stamp_below s t ≡ true → stamp_below t s ≡ false
unfolding stamp_below lex
stamp_below_asym s t =
    lex_asym s.phys t.phys _ _ (lex_asym s.logical t.logical _ _ (λ p.
    le-ltb t.node s.node (omega (arith, ltb-true s.node t.node p))))

pub stamp_below_irrefl : (s : Stamp) → stamp_below s s ≡ false
stamp_below_irrefl s = false_of (stamp_below s s) (λ h. clash h (stamp_below_asym s s h))

pub stamp_below_trans : (s t u : Stamp) → stamp_below s t ≡ true → stamp_below t u ≡ true → stamp_below s u ≡ true
unfolding stamp_below lex
stamp_below_trans s t u =
    lex_trans s.phys t.phys u.phys _ _ _ (lex_trans s.logical t.logical u.logical _ _ _ (λ p q.
    lt-ltb s.node u.node (omega (arith, ltb-true s.node t.node p, ltb-true t.node u.node q))))

pub stamp_below_tied : (s t : Stamp) → stamp_below s t ≡ false → stamp_below t s ≡ false → s ≡ t
unfolding stamp_below lex
stamp_below_tied s t h k =
    let p = lex_tied s.phys t.phys _ _ h k in
    let q = lex_tied s.logical t.logical _ _ p.1 p.2 in
    let r : s.node ≡ t.node = omega (arith, ltb-false s.node t.node q.1, ltb-false t.node s.node q.2) in
    λ i. record { phys = p.0 i; logical = q.0 i; node = r i }

pub stamps_strictly_ordered : StampsStrictlyOrdered
stamps_strictly_ordered = record { irreflexive = stamp_below_irrefl; transitive = stamp_below_trans; total = stamp_below_tied }

pub stamp_order_by_field : StampOrderByField
unfolding stamp_below lex
stamp_order_by_field s t = (fields, below)
  where
    inner : Bool
    inner = lex s.logical t.logical (ltb s.node t.node)

    fields : lex s.phys t.phys (lex s.logical t.logical (ltb s.node t.node)) ≡ true
        → (s.phys < t.phys) ⊎ ((s.phys ≡ t.phys) × (s.logical < t.logical)) ⊎ ((s.phys ≡ t.phys) × (s.logical ≡ t.logical) × (s.node < t.node))
    fields h = elim (lex_true s.phys t.phys _ h) [
      | inl p ↦ inl p
      | inr p ↦ elim (lex_true s.logical t.logical _ p.1) [
        | inl q ↦ inr (inl (p.0, q))
        | inr q ↦ inr (inr (p.0, q.0, ltb-true s.node t.node q.1))
      ]
    ]

    below : (s.phys < t.phys) ⊎ ((s.phys ≡ t.phys) × (s.logical < t.logical)) ⊎ ((s.phys ≡ t.phys) × (s.logical ≡ t.logical) × (s.node < t.node))
        → lex s.phys t.phys (lex s.logical t.logical (ltb s.node t.node)) ≡ true
    below (inl p) = lex_less _ p
    below (inr (inl p)) = lex_same _ p.0 ∙ lex_less _ p.1
    below (inr (inr p)) = lex_same _ p.0 ∙ lex_same _ p.1 ∙ lt-ltb s.node t.node p.2

pub least_is_least : LeastIsLeast
least_is_least s = false_of (stamp_below s least) (λ h. no ((stamp_order_by_field s least).0 h))
  where
    no : (s.phys < 0) ⊎ ((s.phys ≡ 0) × (s.logical < 0)) ⊎ ((s.phys ≡ 0) × (s.logical ≡ 0) × (s.node < 0)) → ⊥
    no (inl p) = omega arith
    no (inr (inl p)) = omega arith
    no (inr (inr p)) = omega arith

-- two stamps that are equal in phys and logical
pub stamp_last : (a b : Stamp) → a.phys ≡ b.phys → a.logical ≡ b.logical → ltb a.node b.node ≡ stamp_below a b
unfolding stamp_below
stamp_last a b p l =
    rw
    (le-ltb a.phys b.phys (omega arith), eq-eqb a.phys b.phys p, le-ltb a.logical b.logical (omega arith), eq-eqb a.logical b.logical l)

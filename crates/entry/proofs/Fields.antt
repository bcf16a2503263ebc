-- The derived order of stamps is the one of the rules.
use mathlib.Core.Path.{◌≡◌}
use mathlib.Core.Logic.{inl, inr}
use lib.Dec.{ltb, eqb}
use Rattle.std.specs.Ordering.{partial_lt}
use Rattle.wire.proofs.Tests.{test}
use Rattle.entry.specs.declared.Stamp.{Stamp}
use Rattle.entry.specs.contracts.StampPartialOrd.TheImpl as derived
use Rattle.entry.specs.Order.{stamp_below}

pub stamp_lt : (s t : Stamp) → partial_lt derived.partial_cmp-value.it s t ≡ stamp_below s t
unfolding stamp_below
stamp_lt s t = elim (test (ltb s.phys t.phys)) [
  | inl p ↦ rw p
  | inr p ↦ elim (test (eqb s.phys t.phys)) [
    | inl q ↦ elim (test (ltb s.logical t.logical)) [
      | inl r ↦ rw (p, q, r)
      | inr r ↦ elim (test (eqb s.logical t.logical)) [
        | inl v ↦ elim (test (ltb s.node t.node)) [
          | inl n ↦ rw (p, q, r, v, n)
          | inr n ↦ elim (test (eqb s.node t.node)) [ inl m ↦ rw (p, q, r, v, n, m) | inr m ↦ rw (p, q, r, v, n, m) ]
        ]
        | inr v ↦ rw (p, q, r, v)
      ]
    ]
    | inr q ↦ rw (p, q)
  ]
]

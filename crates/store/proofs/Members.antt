-- What holds of each entry of a list, said in two ways.
use Prim.Native.Nat.{ℕ}
use mathlib.Core.Path.{◌≡◌, refl}
use mathlib.Core.Logic.{inl, inr}
use mathlib.Core.Bool.{true}
use mathlib.Core.List.Memᴰ.{cases_cons as mem-cons}
use mathlib.Core.List.Memᴰ.{head}
use mathlib.Core.List.Memᴰ.{not-nil as mem-nil}
use mathlib.Core.List.Memᴰ.{tail}
use mathlib.Core.List.{List, [], ◌∷◌}
use borrow.Author.Tests.{eqb-true, eq-eqb}
use Rattle.wire.proofs.Tests.{and-true}
use Rattle.entry.specs.Entry.{Entry, Acceptable, refusal_of}
use Rattle.image.specs.Image.{acceptable, all_acceptable, below_first, ascending}
use Rattle.image.specs.Meaning.{Fit, AllFit}
use Rattle.store.specs.Held.{◌∈◌}
use Rattle.store.proofs.HeldLaws.{Above, Ascending, above_trans, above_cons}

pub accept_all : (es : List Entry) → ((e : Entry) → e ∈ es → Acceptable e) → all_acceptable es ≡ true
unfolding all_acceptable acceptable
accept_all [] f = refl
accept_all (e ∷ es) f = rw (eq-eqb (refusal_of e) 0 (f e (head refl))) (accept_all es (λ d m. f d (tail m)))

pub all_accepted : (es : List Entry) → all_acceptable es ≡ true → (e : Entry) → e ∈ es → Acceptable e
unfolding all_acceptable acceptable
all_accepted [] a e m = absurd (mem-nil m)
all_accepted (h ∷ hs) a e m =
    let t = and-true (acceptable h) (all_acceptable hs) a in
    elim (mem-cons m) [ inl p ↦ rw p (eqb-true _ _ t.0) | inr p ↦ all_accepted hs t.1 e p ]

pub fit_all : (es : List Entry) → ((e : Entry) → e ∈ es → Fit e) → AllFit es
fit_all [] f = tt
fit_all (e ∷ es) f = (f e (head refl), fit_all es (λ d m. f d (tail m)))

pub all_fit : (es : List Entry) → AllFit es → (e : Entry) → e ∈ es → Fit e
all_fit [] a e m = absurd (mem-nil m)
all_fit (h ∷ hs) a e m = elim (mem-cons m) [ inl p ↦ rw p a.0 | inr p ↦ all_fit hs a.1 e p ]

below_first_lem : (k : List ℕ) (es : List Entry) → Above k es → below_first k es ≡ true
unfolding below_first
below_first_lem k [] a = refl
below_first_lem k (e ∷ es) a = a e (head refl)

pub ascend : (es : List Entry) → Ascending es → ascending es ≡ true
unfolding ascending
ascend [] a = refl
ascend (e ∷ es) a = rw (below_first_lem e.key es a.0) (ascend es a.1)

above_first : (k : List ℕ) (es : List Entry) → below_first k es ≡ true → Ascending es → Above k es
unfolding below_first
above_first k [] p a = λ d m. absurd (mem-nil m)
above_first k (e ∷ es) p a = above_cons k e es p (above_trans k e.key es p a.0)

pub ascended : (es : List Entry) → ascending es ≡ true → Ascending es
unfolding ascending
ascended [] a = tt
ascended (e ∷ es) a =
    let t = and-true (below_first e.key es) (ascending es) a in
    let r = ascended es t.1 in
    (above_first e.key es t.0 r, r)

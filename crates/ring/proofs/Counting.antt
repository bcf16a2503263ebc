-- A list with no number twice is as long as there are numbers in it.
use mathlib.Core.Path.{◌≡◌, refl, sym, ap, ◌∙◌}
use mathlib.Core.Bool.{Bool, true, false, ◌||◌}
use mathlib.Core.List.{List, [], ◌∷◌}
use Prim.Native.Nat.{ℕ, zero, suc, ◌<◌}
use native.Mathlib.Omega.{arith}
use lib.Dec.{eqb}
use lib.ListN.{length}
use borrow.Author.Tests.{eqb-true, eqb-false, ne_eqb}
use Rattle.wire.proofs.Tests.{cases}
use Rattle.ring.specs.Lists.{elem, distinct, count_below}
use Rattle.ring.proofs.Elements.{elem_head, elem_tail, distinct_head, distinct_tail}

pub count_below_ext : (f g : ℕ → Bool) (m : ℕ) → ((k : ℕ) → k < m → f k ≡ g k) → count_below f m ≡ count_below g m
unfolding count_below
count_below_ext f g zero h = refl
count_below_ext f g (suc m) h = rw (h m (omega arith), count_below_ext f g m (λ k l. h k (omega arith)))

count_none : (m : ℕ) → count_below (λ k. false) m ≡ 0
unfolding count_below
count_none zero = refl
count_none (suc m) = count_none m

count_more : (n m : ℕ) (f : ℕ → Bool) → n < m → f n ≡ false → count_below (λ k. eqb n k || f k) m ≡ suc (count_below f m)
unfolding count_below
count_more n zero f h e = absurd (omega arith)
count_more n (suc m) f h e =
    cases (eqb n m)
    (λ q. let z : f m ≡ false = ap f (sym (eqb-true n m q)) ∙ e in
    rw (q, z) (ap suc (count_below_ext (λ k. eqb n k || f k) f m (λ k l. rw (ne_eqb n k (λ p. omega (arith, eqb-true n m q)))))))
    (λ q. let r = count_more n m f (omega (arith, eqb-false n m q)) e in cases (f m) (λ z. rw (q, z) (ap suc r)) (λ z. rw (q, z) r))

pub length-distinct : (t : List ℕ) (m : ℕ) → distinct t ≡ true → ((k : ℕ) → elem k t ≡ true → k < m) → length t ≡ count_below (λ k. elem k t) m
unfolding elem
length-distinct [] m d h = sym (count_none m)
length-distinct (n ∷ t) m d h =
    ap suc (length-distinct t m (distinct_tail n t d) (λ k e. h k (elem_tail k n t e)))
    ∙ sym (count_more n m (λ k. elem k t) (h n (elem_head n t)) (distinct_head n t d))

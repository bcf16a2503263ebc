-- Laws of `filter`, `without` and `firsts`.
use mathlib.Core.Path.{◌≡◌, refl, sym, ap, ◌∙◌}
use mathlib.Core.Bool.{Bool, true, false, not, ◌&&◌, and_comm}
use mathlib.Core.List.{List, [], ◌∷◌}
use Prim.Native.Nat.{ℕ}
use lib.Dec.{eqb}
use borrow.Author.Tests.{eqb-true}
use Rattle.wire.proofs.Tests.{cases}
use Rattle.ring.specs.Lists.{filter, without, firsts}

pub filter_ext : (f g : ℕ → Bool) → ((n : ℕ) → f n ≡ g n) → (l : List ℕ) → filter f l ≡ filter g l
unfolding filter
filter_ext f g h [] = refl
filter_ext f g h (n ∷ l) = rw (h n, filter_ext f g h l)

pub filter_and : (f g : ℕ → Bool) (l : List ℕ) → filter (λ n. f n && g n) l ≡ filter f (filter g l)
unfolding filter
filter_and f g [] = refl
filter_and f g (n ∷ l) =
    cases (g n)
    (λ eg. cases (f n) (λ ef. rw (eg, ef, filter_and f g l)) (λ ef. rw (eg, ef, filter_and f g l)))
    (λ eg. cases (f n) (λ ef. rw (eg, ef, filter_and f g l)) (λ ef. rw (eg, ef, filter_and f g l)))

pub filter_comm : (f g : ℕ → Bool) (l : List ℕ) → filter f (filter g l) ≡ filter g (filter f l)
filter_comm f g l =
    sym (filter_and f g l) ∙ filter_ext (λ n. f n && g n) (λ n. g n && f n) (λ n. and_comm (f n) (g n)) l ∙ filter_and g f l

-- a number that does not pass may be left out before
filter-without : (f : ℕ → Bool) (n : ℕ) (l : List ℕ) → f n ≡ false → filter f (without n l) ≡ filter f l
filter-without f n l h =
    sym (filter_and f (λ m. not (eqb n m)) l)
    ∙ filter_ext (λ m. f m && not (eqb n m)) f
    (λ m. cases (eqb n m)
    (λ e. let g : f m ≡ false = ap f (sym (eqb-true n m e)) ∙ h in rw (e, g))
    (λ e. rw e (and_comm (f m) true)))
    l

-- first occurrences of what passes are what passes of the first occurrences
pub firsts-filter : (f : ℕ → Bool) (l : List ℕ) → firsts (filter f l) ≡ filter f (firsts l)
unfolding filter firsts
firsts-filter f [] = refl
firsts-filter f (n ∷ l) =
    cases (f n)
    (λ e. rw (e, firsts-filter f l) (ap (λ (t : List ℕ). n ∷ t) (filter_comm (λ k. not (eqb n k)) f (firsts l))))
    (λ e. rw (e, firsts-filter f l) (sym (filter-without f n (firsts l) e)))

-- A front that is put into a lent slice, or refused.
use mathlib.Core.Path.{◌≡◌, ap, ◌∙◌}
use mathlib.Core.Bool.{false}
use mathlib.Core.List.{List, ◌++◌}
use Prim.Native.Nat.{ℕ, ◌≤◌, ◌<◌}
use native.Mathlib.Omega.{arith}
use lib.ListN.{length, drop}
use lib.Dec.{eqb}
use borrow.Author.Tests.{lt-ltb, le-ltb, ne_eqb}
use Rattle.entry.specs.declared.Refusal.{Refusal}
use Rattle.entry.specs.Refusal.{number}
use Rattle.frame.specs.Writing.{write_refusal, after_write}
use Rattle.entry.proofs.Numbers.{number_not_0}
use Rattle.capi_words.specs.Result.{packed}
use Rattle.capi_words.specs.Meaning.{PutKeeps}

-- a result r, and what is left of the slice, are those of putting the front f, after the refusal n
pub record Puts (n : ℕ) (f lent : List ℕ) (r : ℕ) (after : List ℕ) : Type 0 where
  pub told : r ≡ packed (write_refusal n f lent) 0
  pub left : after ≡ after_write n f lent

module _ (n : ℕ) (f lent : List ℕ) (r : ℕ) where
  pub front_refused_by : eqb n 0 ≡ false → r ≡ packed n 0 → Puts n f lent r lent
  unfolding write_refusal after_write
  front_refused_by z h = record { told = rw z h; left = rw (z, z) }

  pub front_refused : (why : Refusal) → number why ≡ n → r ≡ packed (number why) 0 → Puts n f lent r lent
  front_refused why e h = front_refused_by (rw e at (number_not_0 why)) (rw e at h)

  pub front_no_room : n ≡ 0 → length lent < length f → r ≡ packed 4 0 → Puts n f lent r lent
  unfolding write_refusal after_write
  front_no_room e l h = record { told = rw (e, lt-ltb (length lent) (length f) l) h; left = rw (e, lt-ltb (length lent) (length f) l) }

  pub front_put : (after : List ℕ) → n ≡ 0 → length f ≤ length lent → r ≡ 0 → after ≡ f ++ drop (length f) lent → Puts n f lent r after
  unfolding write_refusal after_write
  front_put after e l h is = record { told = rw (e, le-ltb (length lent) (length f) l) h; left = rw (e, le-ltb (length lent) (length f) l) is }

pub front_kept : (n : ℕ) (f : List ℕ) → PutKeeps n f
unfolding after_write
front_kept n f w h = rw (ne_eqb (write_refusal n f w) 0 h)

-- where there is room, the front is put
pub front_room : (f lent : List ℕ) → length f ≤ length lent → after_write 0 f lent ≡ f ++ drop (length f) lent
unfolding write_refusal after_write
front_room f lent l = rw (le-ltb (length lent) (length f) l)

-- a result says whether there is a refusal
pub not_none : (n r : ℕ) → r ≡ packed n 0 → (r ≡ 0 → ⊥) → eqb n 0 ≡ false
not_none n r e h = ne_eqb n 0 (λ z. h (e ∙ ap (λ (m : ℕ). packed m 0) z))

pub none : (n r : ℕ) → r ≡ packed n 0 → r ≡ 0 → n ≡ 0
none n r e z = omega arith

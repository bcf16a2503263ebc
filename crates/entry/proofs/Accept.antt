-- The checks of a key and of an entry, case by case.
use mathlib.Core.Path.{◌≡◌, refl}
use mathlib.Core.Bool.{Bool, true, false, cond, not, ◌||◌}
use mathlib.Core.List.{List, [], ◌∷◌}
use Prim.Native.Nat.{ℕ, ◌≤◌, ◌<◌, ◌^◌}
use native.Mathlib.Omega.{arith}
use native.Mathlib.Nat.{not-suc-le-zero}
use lib.ListN.{length}
use lib.Dec.{ltb, leb, eqb}
use borrow.Author.Tests.{lt-ltb, le-ltb, ltb-false, eq-eqb, ne_eqb, eqb-false, le-leb, lt-leb, leb-false}
use Rattle.wire.proofs.Tests.{or-false}
use Rattle.entry.specs.Key.{reserved, bad_key}
use Rattle.entry.specs.Entry.{Entry, bad_time, bad_flag, refusal_of}

module _ (k : List ℕ) where
  pub key_empty : length k ≡ 0 → bad_key k ≡ true
  unfolding bad_key
  key_empty h = rw (eq-eqb (length k) 0 h)

  pub key_long : (length k ≡ 0 → ⊥) → 64 < length k → bad_key k ≡ true
  unfolding bad_key
  key_long h l = rw (ne_eqb (length k) 0 h, lt-ltb 64 (length k) l)

  pub key_else : (length k ≡ 0 → ⊥) → length k ≤ 64 → bad_key k ≡ reserved k
  unfolding bad_key
  key_else h l = rw (ne_eqb (length k) 0 h, le-ltb 64 (length k) l)

module _ (e : Entry) where
  pub refused_9 : 2 ^ 48 ≤ e.stamp.phys → 9 ≡ refusal_of e
  unfolding refusal_of
  refused_9 h = rw (le-leb (2 ^ 48) e.stamp.phys h)

  module _ (p : e.stamp.phys < 2 ^ 48) where
    pub refused_1 : bad_key e.key ≡ true → 1 ≡ refusal_of e
    unfolding refusal_of
    refused_1 k = rw (lt-leb (2 ^ 48) e.stamp.phys p, k)

    module _ (k : bad_key e.key ≡ false) where
      pub refused_2 : 512 < length e.value → 2 ≡ refusal_of e
      unfolding refusal_of
      refused_2 v = rw (lt-leb (2 ^ 48) e.stamp.phys p, k, lt-ltb 512 (length e.value) v)

      module _ (v : length e.value ≤ 512) where
        by_flag : refusal_of e ≡ cond (bad_flag e) 17 0
        unfolding refusal_of
        by_flag = rw (lt-leb (2 ^ 48) e.stamp.phys p, k, le-ltb 512 (length e.value) v)

        pub refused_flag : 1 < e.flag → 17 ≡ refusal_of e
        unfolding bad_flag
        refused_flag f = rw (by_flag, lt-ltb 1 e.flag f)

        pub refused_tombstone : e.flag ≡ 1 → 0 < length e.value → 17 ≡ refusal_of e
        unfolding bad_flag
        refused_tombstone f n = rw (by_flag, le-ltb 1 e.flag (omega arith), eq-eqb e.flag 1 f, lt-ltb 0 (length e.value) n)

        pub accepted_tombstone : e.flag ≡ 1 → length e.value ≤ 0 → 0 ≡ refusal_of e
        unfolding bad_flag
        accepted_tombstone f n = rw (by_flag, le-ltb 1 e.flag (omega arith), eq-eqb e.flag 1 f, le-ltb 0 (length e.value) n)

        pub accepted_active : e.flag ≡ 0 → 0 ≡ refusal_of e
        unfolding bad_flag
        accepted_active f = rw (by_flag, f)

-- a test that was made of its opposite
pub opposite_true : (r b : Bool) → r ≡ not b → not r ≡ true → b ≡ true
opposite_true r true e h = refl
opposite_true r false e h = rw e at h

pub opposite_false : (r b : Bool) → r ≡ not b → not r ≡ false → b ≡ false
opposite_false r true e h = rw e at h
opposite_false r false e h = refl

-- ---- an acceptable key and an acceptable entry
pub key_short : (k : List ℕ) → bad_key k ≡ false → length k ≤ 64
unfolding bad_key
key_short k h =
    let a = or-false (eqb (length k) 0 || ltb 64 (length k)) (reserved k) h in
    ltb-false 64 (length k) (or-false (eqb (length k) 0) (ltb 64 (length k)) a.0).1

passes : (a b c d : Bool) → cond {A = ℕ} a 9 (cond b 1 (cond c 2 (cond d 17 0))) ≡ 0 → (a ≡ false) × (b ≡ false) × (c ≡ false) × (d ≡ false)
passes true b c d h = absurd (eqb-false 9 0 refl h)
passes false true c d h = absurd (eqb-false 1 0 refl h)
passes false false true d h = absurd (eqb-false 2 0 refl h)
passes false false false true h = absurd (eqb-false 17 0 refl h)
passes false false false false h = (refl, refl, refl, refl)

-- a list of no elements
empty : (s : List ℕ) → length s ≤ 0 → s ≡ []
empty [] h = refl
empty (b ∷ s) h = absurd (not-suc-le-zero h)

pub record Accepted (e : Entry) : Type 0 where
  pub phys : e.stamp.phys < 2 ^ 48
  pub good_key : bad_key e.key ≡ false
  pub key : length e.key ≤ 64
  pub value : length e.value ≤ 512
  pub flag : e.flag ≤ 1
  pub tombstone : e.flag ≡ 1 → e.value ≡ []

pub accepted : (e : Entry) → refusal_of e ≡ 0 → Accepted e
unfolding refusal_of bad_flag
accepted e h =
    let t = passes (leb (2 ^ 48) e.stamp.phys) (bad_key e.key) (ltb 512 (length e.value)) (bad_flag e) h in
    let f = or-false (ltb 1 e.flag) _ t.3 in
    record {
      phys = leb-false _ _ t.0;
      good_key = t.1;
      key = key_short e.key t.1;
      value = ltb-false _ _ t.2;
      flag = ltb-false 1 _ f.0;
      tombstone = λ o. empty e.value (ltb-false 0 _ (rw (eq-eqb e.flag 1 o) at f.1));
    }

-- no check of an entry has a number above 17
pub refusal_at_most : (e : Entry) → refusal_of e ≤ 17
unfolding refusal_of
refusal_at_most e = go (bad_time e.stamp.phys) (bad_key e.key) (ltb 512 (length e.value)) (bad_flag e)
  where
    go : (a b c d : Bool) → cond {A = ℕ} a 9 (cond b 1 (cond c 2 (cond d 17 0))) ≤ 17
    go true b c d = omega arith
    go false true c d = omega arith
    go false false true d = omega arith
    go false false false true = omega arith
    go false false false false = omega arith

-- The entries that count, those at or above the line and those of a key that was held at the start:
-- what is held of them, and that the others change nothing of it.
use Prim.Native.Nat.{ℕ, ◌<◌, ◌≤◌}
use native.Mathlib.Omega.{arith}
use mathlib.Core.Path.{◌≡◌, refl, sym, ◌∙◌, ap}
use mathlib.Core.Logic.{◌⊎◌, inl, inr, ◌↔◌}
use mathlib.Core.Bool.{Bool, true, false, not, ◌&&◌}
use mathlib.Core.List.Memᴰ.{cases_cons as mem-cons}
use mathlib.Core.List.Memᴰ.{head}
use mathlib.Core.List.Memᴰ.{not-nil as mem-nil}
use mathlib.Core.List.Memᴰ.{tail}
use mathlib.Core.List.{List, [], ◌∷◌, ◌++◌}
use mathlib.Core.Option.{some}
use lib.Dec.{ltb, leb}
use borrow.Author.Tests.{ltb-true, lt-ltb, le-ltb, leb-true, leb-false, le-leb}
use Rattle.wire.proofs.Tests.{test, clash, and-true, or-false}
use Rattle.entry.specs.Entry.{Entry, beats}
use Rattle.entry.proofs.Order.{stamp_order_by_field}
use Rattle.entry.proofs.EntryOrder.{below_loses}
use Rattle.store.specs.Held.{◌∈◌, put, put_all, below_line}
use Rattle.store.specs.Merge.{taken, passed_over}
use Rattle.store.proofs.HeldLaws.{some_of}
use Rattle.store.proofs.Seeking.{put-seen, seen-find}
use Rattle.history.specs.Book.{has_key, Greatest, best}
use Rattle.history.specs.Events.{Start, is_live, live}
use Rattle.history.proofs.Best.{held, Within, held_ascending, find_held, held_append, has_key-best, best-mem, best_present, held_greatest}

-- ---- the key of an entry of a list
pub mem-has_key : (ds : List Entry) {e : Entry} → e ∈ ds → has_key e.key ds ≡ true
mem-has_key ds {e} m = has_key-best e.key ds ∙ best_present e.key ds m refl

pub has_key-mem : (k : List ℕ) (ds : List Entry) → has_key k ds ≡ true → (e : Entry) × (best k ds ≡ some e) × (e ∈ ds) × (e.key ≡ k)
has_key-mem k ds h =
    let (e, p) = some_of (best k ds) (sym (has_key-best k ds) ∙ h) in
    let m = best-mem k ds p in
    (e, p, m.0, m.1)

-- ---- a merge that passes nothing over
pub taken_all : (line : ℕ) (hs gs : List Entry) → ((g : Entry) → g ∈ gs → below_line line hs g ≡ false)
    → (taken line hs gs ≡ gs) × (passed_over line hs gs ≡ 0)
unfolding taken passed_over
taken_all line hs [] f = (refl, refl)
taken_all line hs (g ∷ gs) f =
    let r = taken_all line hs gs (λ d m. f d (tail m)) in
    rw (f g (head refl)) (ap (λ (l : List Entry). g ∷ l) r.0, r.1)

module _ (t : Start) where
  -- ---- which entries are live
  pub above_live : (e : Entry) → t.line ≤ e.stamp.phys → is_live t e ≡ true
  unfolding is_live
  above_live e h = rw (le-leb t.line e.stamp.phys h)

  pub start-live : (e : Entry) → has_key e.key t.held ≡ true → is_live t e ≡ true
  unfolding is_live
  start-live e h = elim (test (leb t.line e.stamp.phys)) [ inl p ↦ rw p | inr p ↦ rw (p, h) ]

  pub live_by : (e : Entry) → is_live t e ≡ true → (t.line ≤ e.stamp.phys) ⊎ (has_key e.key t.held ≡ true)
  unfolding is_live
  live_by e h = elim (test (leb t.line e.stamp.phys)) [
    | inl p ↦ inl (leb-true _ _ p)
    | inr p ↦ inr (rw p at h)
  ]

  pub not_live : (e : Entry) → is_live t e ≡ false → (e.stamp.phys < t.line) × (has_key e.key t.held ≡ false)
  unfolding is_live
  not_live e h = let r = or-false (leb t.line e.stamp.phys) (has_key e.key t.held) h in (leb-false _ _ r.0, r.1)

  -- one that is not does not beat one of its key that is
  pub live-unbeaten : (d e : Entry) → is_live t d ≡ false → is_live t e ≡ true → d.key ≡ e.key → beats d e ≡ false
  live-unbeaten d e n h k =
      let u = not_live d n in
      elim (live_by e h) [
        | inl p ↦ below_loses d e ((stamp_order_by_field d.stamp e.stamp).1 (inl (omega (arith, u.0))))
        | inr p ↦ clash p (ap (λ (j : List ℕ). has_key j t.held) (sym k) ∙ u.1)
      ]

  -- ---- the live entries of a list
  pub live-append : (gs ds : List Entry) → live t (gs ++ ds) ≡ live t gs ++ live t ds
  unfolding live
  live-append [] ds = refl
  live-append (g ∷ gs) ds = elim (test (is_live t g)) [
    | inl p ↦ rw p (ap (λ (l : List Entry). g ∷ l) (live-append gs ds))
    | inr p ↦ rw p (live-append gs ds)
  ]

  pub live_all : (ds : List Entry) → ((e : Entry) → e ∈ ds → is_live t e ≡ true) → live t ds ≡ ds
  unfolding live
  live_all [] f = refl
  live_all (d ∷ ds) f = rw (f d (head refl)) (ap (λ (l : List Entry). d ∷ l) (live_all ds (λ e m. f e (tail m))))

  pub mem-live : (ds : List Entry) {e : Entry} → e ∈ live t ds → (e ∈ ds) × (is_live t e ≡ true)
  unfolding live
  mem-live [] m = absurd (mem-nil m)
  mem-live (d ∷ ds) {e} m = elim (test (is_live t d)) [
    | inl p ↦ elim (mem-cons (rw p at m)) [
      | inl q ↦ (head q, ap (is_live t) q ∙ p)
      | inr q ↦ let r = mem-live ds q in (tail r.0, r.1)
    ]
    | inr p ↦ let r = mem-live ds (rw p at m) in (tail r.0, r.1)
  ]

  pub live-mem : (ds : List Entry) {e : Entry} → e ∈ ds → is_live t e ≡ true → e ∈ live t ds
  unfolding live
  live-mem [] m h = absurd (mem-nil m)
  live-mem (d ∷ ds) {e} m h = elim (mem-cons m) [
    | inl q ↦ rw (sym (ap (is_live t) q) ∙ h) (head q)
    | inr q ↦ elim (test (is_live t d)) [ inl p ↦ rw p (tail (live-mem ds q h)) | inr p ↦ rw p (live-mem ds q h) ]
  ]

  pub live_within : (ds gs : List Entry) → Within ds gs → Within (live t ds) (live t gs)
  live_within ds gs f e m = let r = mem-live ds m in live-mem gs (f e r.0) r.1

  -- what was held at the start is live, and so has its keys among the live entries of a larger set
  pub start_all_live : (e : Entry) → e ∈ t.held → is_live t e ≡ true
  start_all_live e m = start-live e (mem-has_key t.held m)

  pub start_keys : (ds : List Entry) → Within t.held ds → (k : List ℕ) → has_key k t.held ≡ true → has_key k (live t ds) ≡ true
  start_keys ds f k h =
      let (e, p, m, q) = has_key-mem k t.held h in
      rw (← q) (mem-has_key (live t ds) (live-mem ds (f e m) (start_all_live e m)))

  -- ---- what is held of them
  pub held_live : (ds : List Entry) (e : Entry) → e ∈ held (live t ds) ↔ (Greatest ds e × (is_live t e ≡ true))
  held_live ds e = (there, back)
    where
      there : e ∈ held (live t ds) → Greatest ds e × (is_live t e ≡ true)
      there m =
          let g = (held_greatest (live t ds) e).0 m in
          let r = mem-live ds g.0 in (
            (
              r.0,
              λ d k q. elim (test (is_live t d)) [
                | inl p ↦ g.1 d (live-mem ds k p) q
                | inr p ↦ live-unbeaten d e p r.1 q
              ],
            ),
            r.1,
          )

      back : Greatest ds e × (is_live t e ≡ true) → e ∈ held (live t ds)
      back g = (held_greatest (live t ds) e).1 (live-mem ds g.0.0 g.1, λ d k q. g.0.1 d (mem-live ds k).0 q)

  -- ---- an offer
  -- the test of the line, from the entries
  unfoldable pub below : List Entry → Entry → Bool
  below ds e = ltb e.stamp.phys t.line && not (has_key e.key (live t ds))

  pub below_held : (ds : List Entry) (e : Entry) → below_line t.line (held (live t ds)) e ≡ below ds e
  unfolding below_line below
  below_held ds e = rw (find_held e.key (live t ds), has_key-best e.key (live t ds))

  -- an entry that fails it is not live
  pub below_not_live : (ds : List Entry) (e : Entry) → Within t.held ds → below ds e ≡ true → is_live t e ≡ false
  unfolding below
  below_not_live ds e f h =
      let r = and-true (ltb e.stamp.phys t.line) (not (has_key e.key (live t ds))) h in
      let l = ltb-true e.stamp.phys t.line r.0 in
      elim (test (is_live t e)) [
        | inl p ↦ elim (live_by e p) [
          | inl q ↦ absurd (omega (arith, l, q))
          | inr q ↦ clash r.1 (ap not (start_keys ds f e.key q))
        ]
        | inr p ↦ p
      ]

  -- one that passes it and is not live does not beat the held one of its key
  put_not_live : (ds : List Entry) (e : Entry) → is_live t e ≡ false → has_key e.key (live t ds) ≡ true → put e (held (live t ds)) ≡ held (live t ds)
  put_not_live ds e n h =
      let hs = held (live t ds) in
      let (g, p, m, q) = has_key-mem e.key (live t ds) h in
      let s = seen-find e.key hs (held_ascending (live t ds)) ∙ find_held e.key (live t ds) ∙ p in
      put-seen e hs g s ∙ rw (live-unbeaten e g n (mem-live ds m).1 (sym q))

  pub held_offered : (ds : List Entry) (e : Entry) → below ds e ≡ false → held (live t (e ∷ ds)) ≡ put e (held (live t ds))
  unfolding held live below
  held_offered ds e h = elim (test (is_live t e)) [
    | inl p ↦ rw p
    | inr p ↦ elim (test (has_key e.key (live t ds))) [
      | inl q ↦ rw p (sym (put_not_live ds e p q))
      | inr q ↦ clash refl (rw (lt-ltb _ _ (not_live e p).0, q) at h)
    ]
  ]

  pub held_passed : (ds : List Entry) (e : Entry) → is_live t e ≡ false → live t (e ∷ ds) ≡ live t ds
  unfolding live
  held_passed ds e n = rw n

  -- ---- a merge
  -- each entry that the giver holds is at or above the line, or of a key that the receiver holds
  pub none_below : (ds gs : List Entry) → Within t.held ds → (g : Entry) → g ∈ held (live t gs) → below_line t.line (held (live t ds)) g ≡ false
  unfolding below
  none_below ds gs f g m = below_held ds g ∙ passes
    where
      passes : below ds g ≡ false
      passes = elim (live_by g ((held_live gs g).0 m).1) [
        | inl p ↦ rw (le-ltb g.stamp.phys t.line p)
        | inr p ↦ elim (test (ltb g.stamp.phys t.line)) [
          | inl q ↦ rw (q, start_keys ds f g.key p)
          | inr q ↦ rw q
        ]
      ]

  pub held_merged : (ds gs : List Entry) → put_all (held (live t gs)) (held (live t ds)) ≡ held (live t (gs ++ ds))
  held_merged ds gs = held_append (live t gs) (live t ds) ∙ ap held (sym (live-append gs ds))

  -- ---- the line 0
  pub all_live : t.line ≡ 0 → (ds : List Entry) → live t ds ≡ ds
  all_live z ds = live_all ds (λ e m. above_live e (omega (arith, z)))

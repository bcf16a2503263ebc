-- Nothing comes back, proved: each write keeps the line above a removed tombstone's phys, and the
-- held entry of its key, if there is one, above it too.
use Prim.Native.Nat.{ℕ, ◌≤◌, ◌<◌}
use native.Mathlib.Omega.{arith}
use mathlib.Core.Path.{◌≡◌, refl, sym, ◌∙◌, ap}
use mathlib.Core.Logic.{inl, inr}
use mathlib.Core.Bool.{true, false}
use mathlib.Core.List.{List, [], ◌∷◌}
use mathlib.Core.Option.{Option, none, some, some-injective}
use lib.Dec.{ltb, eqb}
use borrow.Author.Tests.{ltb-true, ltb-false, eqb-false}
use Rattle.wire.specs.Order.{same_bytes}
use Rattle.wire.proofs.Tests.{test, clash, and-true}
use Rattle.wire.proofs.Order.{same_bytes_eq}
use Rattle.wire.proofs.Compared.{distinct}
use Rattle.entry.specs.Key.{bad_key}
use Rattle.entry.specs.Entry.{Entry, beats}
use Rattle.entry.proofs.Accept.{accepted}
use Rattle.entry.proofs.Order.{stamp_below_asym, stamp_order_by_field}
use Rattle.entry.proofs.EntryOrder.{beats_phys}
use Rattle.image.specs.Image.{line_of, entries_of, sound}
use Rattle.store.specs.Held.{◌∈◌, put, put_all, find, is_held, better, index_of, below_line}
use Rattle.store.specs.Answer.{is_refused}
use Rattle.store.specs.Lookup.{value, deleted, never, refused, finding_for, value_for, lookup_answer, value_part}
use Rattle.store.specs.Offer.{offer_answer, after_offer}
use Rattle.store.specs.Merge.{taken, merged_entries, merge_answer, after_merge}
use Rattle.store.specs.Purge.{cleared, remaining, purge_answer, after_purge}
use Rattle.store.specs.Meaning.{Representable}
use Rattle.store.proofs.HeldLaws.{Ascending, find-put, join, find-put_all, find-mem, find_some}
use Rattle.store.proofs.Seeking.{taken_not_below, taken-ascending}
use Rattle.store.proofs.OnSound.{ordered, accepts_held}
use Rattle.store.proofs.Keeping.{offer_taken, offer_keeps, merge_taken, merge_keeps}
use Rattle.store.proofs.Looking.{value_stands}
use Rattle.store.proofs.Purging.{mem-remaining}
use Rattle.store.proofs.Purges.{purge_taken, purge_leaves}
use Rattle.node.specs.Handler.{handled}
use Rattle.node.proofs.WholeCalls.{found_or_offered}
use Rattle.history.specs.Returning.{Write, offer, merge, request, purge, after_write, after_writes, CanBeGiven, NothingComesBack}

-- ---- which of two entries is held next
-- an entry found of a key has a phys above p
abbrev Above : ℕ → Option Entry → Type 0
Above p o = (h : Entry) → o ≡ some h → p < h.stamp.phys

better_above : (p : ℕ) (e : Entry) (o : Option Entry) → Above p o → (is_held o ≡ false → p < e.stamp.phys) → Above p (better e o)
unfolding better is_held
better_above p e none f g h q = rw (← some-injective e h q) (g refl)
better_above p e (some d) f g h q = elim (test (beats e d)) [
  | inl b ↦ rw (← some-injective e h (rw b at q)) (omega (arith, f d refl, beats_phys e d b))
  | inr b ↦ f h (rw b at q)
]

-- an entry that is not below the line has a phys above p, if its key is not held
line_above : (p line : ℕ) (es : List Entry) (e : Entry) → p < line → below_line line es e ≡ false → is_held (find e.key es) ≡ false → p < e.stamp.phys
unfolding below_line
line_above p line es e l b n = elim (test (ltb e.stamp.phys line)) [
  | inl q ↦ clash refl (rw (q, n) at b)
  | inr q ↦ omega (arith, ltb-false e.stamp.phys line q)
]

-- ---- what is found after a purge was found before it, and was not cleared
purge_found : (s : List ℕ) (line : ℕ) → is_refused (purge_answer s line) ≡ false → (k : List ℕ) (h : Entry) → find k (entries_of (after_purge s line)) ≡ some h
    → (find k (entries_of s) ≡ some h) × (cleared line h ≡ false)
purge_found s line n k h f =
    let r = find_some k (remaining line (entries_of s)) (ap (find k) (sym (purge_leaves s line n).entries) ∙ f) in
    let m = mem-remaining line (entries_of s) r.0 in
    (ap (λ (j : List ℕ). find j (entries_of s)) r.1 ∙ find-mem (entries_of s) (ordered s (purge_taken s line n).sound) m.0, m.1)

-- ---- what each write keeps
-- what offers, merges and purges keep, all writes keep: a request leaves the store, or offers
pub writes_keep : (P : List ℕ → Type 0) → ((s : List ℕ) (e : Entry) → Representable e → P s → P (after_offer s e))
    → ((s g : List ℕ) → P s → P (after_merge s g)) → ((s : List ℕ) (line : ℕ) → P s → P (after_purge s line))
    → (ws : List Write) (s : List ℕ) → CanBeGiven ws → P s → P (after_writes s ws)
unfolding after_writes after_write
writes_keep P o m p [] s g h = h
writes_keep P o m p (offer e ∷ ws) s g h = writes_keep P o m p ws (after_offer s e) g.1 (o s e g.0 h)
writes_keep P o m p (merge giver ∷ ws) s g h = writes_keep P o m p ws (after_merge s giver) g (m s giver h)
writes_keep P o m p (request c now frame reply ∷ ws) s g h =
    writes_keep P o m p ws (handled s c now frame reply).store g.2 (elim (found_or_offered s c now frame reply g.0 g.1) [
      | inl q ↦ rw q h
      | inr q ↦ rw q.left (o s q.entry q.fits h)
    ])
writes_keep P o m p (purge line ∷ ws) s g h = writes_keep P o m p ws (after_purge s line) g (p s line h)

pub record KeptOut (t : Entry) (s : List ℕ) : Type 0 where
  pub is_sound : sound s ≡ true
  pub line : t.stamp.phys < line_of s
  pub above : Above t.stamp.phys (find t.key (entries_of s))

module _ (t : Entry) where
  abbrev p : ℕ
  p = t.stamp.phys

  put_above : (line : ℕ) (e : Entry) (es : List Entry) → Ascending es → p < line → below_line line es e ≡ false → Above p (find t.key es)
      → Above p (find t.key (put e es))
  put_above line e es a l b f = rw (find-put t.key e es a) (elim (test (same_bytes t.key e.key)) [
    | inl q ↦
        let k = same_bytes_eq t.key e.key q in
        rw q (better_above p e (find t.key es) f (λ n. line_above p line es e l b (sym (ap (λ (j : List ℕ). is_held (find j es)) k) ∙ n)))
    | inr q ↦ rw q f
  ])

  put_all_above : (line : ℕ) (gs es : List Entry) → Ascending gs → Ascending es → p < line → Above p (find t.key es)
      → Above p (find t.key (put_all (taken line es gs) es))
  unfolding join
  put_all_above line gs es b a l f =
      rw (find-put_all t.key (taken line es gs) es (taken-ascending line es gs b) a) (go (find t.key (taken line es gs)) refl)
    where
      go : (o : Option Entry) → find t.key (taken line es gs) ≡ o → Above p (join o (find t.key es))
      go none q = f
      go (some g) q =
          let r = find_some t.key (taken line es gs) q in
          better_above p g (find t.key es) f
          (λ n. line_above p line es g l (taken_not_below line es gs r.0) (sym (ap (λ (j : List ℕ). is_held (find j es)) r.1) ∙ n))

  module _ (s : List ℕ) (k : KeptOut t s) where
    pub offer_keeps_out : (e : Entry) → Representable e → KeptOut t (after_offer s e)
    offer_keeps_out e r =
        let q = offer_keeps s e k.is_sound r in
        record {
          is_sound = q.sound;
          line = rw q.line k.line;
          above = rw q.holds (elim (test (is_refused (offer_answer s e))) [
            | inl n ↦ rw n k.above
            | inr n ↦ rw n (put_above (line_of s) e (entries_of s) (ordered s k.is_sound) k.line (offer_taken s e n).above k.above)
          ]);
        }

    pub merge_keeps_out : (g : List ℕ) → KeptOut t (after_merge s g)
    unfolding after_merge merged_entries
    merge_keeps_out g = elim (test (is_refused (merge_answer s g))) [
      | inl n ↦ rw n k
      | inr n ↦
          let m = merge_taken s g n in
          let q = merge_keeps s g m.receiver m.giver in
          record {
            is_sound = q.sound;
            line = rw q.line k.line;
            above =
                rw (q.holds, n)
                (put_all_above (line_of s) (entries_of g) (entries_of s) (ordered g m.giver) (ordered s m.receiver) k.line k.above);
          }
    ]

    pub purge_keeps_out : (line : ℕ) → KeptOut t (after_purge s line)
    unfolding after_purge
    purge_keeps_out line = elim (test (is_refused (purge_answer s line))) [
      | inl n ↦ rw n k
      | inr n ↦
          let q = purge_leaves s line n in
          let l = k.line in
          record {
            is_sound = q.sound;
            line = rw q.line_set (omega (arith, l, (purge_taken s line n).higher));
            above = λ h f. k.above h (purge_found s line n t.key h f).0;
          }
    ]

  pub writes_keep_out : (ws : List Write) (s : List ℕ) → CanBeGiven ws → KeptOut t s → KeptOut t (after_writes s ws)
  writes_keep_out = writes_keep (KeptOut t) (λ s e r k. offer_keeps_out s k e r) (λ s g k. merge_keeps_out s k g) (λ s line k. purge_keeps_out s k line)

-- ---- the start
-- a purge that clears an entry keeps out each of its key that is not later
pub cleared_out : (s : List ℕ) (line : ℕ) → is_refused (purge_answer s line) ≡ false → (t g : Entry) → g ∈ entries_of s → cleared line g ≡ true
    → t.key ≡ g.key → t.stamp.phys ≤ g.stamp.phys → KeptOut t (after_purge s line)
unfolding cleared
cleared_out s line n t g m c k late =
    let q = purge_leaves s line n in
    let l = ltb-true g.stamp.phys line (and-true (eqb g.flag 1) (ltb g.stamp.phys line) c).1 in
    let held = ap (λ (j : List ℕ). find j (entries_of s)) k ∙ find-mem (entries_of s) (ordered s (purge_taken s line n).sound) m in
    record {
      is_sound = q.sound;
      line = rw q.line_set (omega (arith, l, late));
      above = λ d f.
          let u = purge_found s line n t.key d f in
          clash c (ap (cleared line) (some-injective g d (sym held ∙ u.0)) ∙ u.1);
    }

-- ---- the end
-- a lookup that gives a value found an active entry
pub record Shown (s k : List ℕ) : Type 0 where
  pub entry : Entry
  pub found : find k (entries_of s) ≡ some entry
  pub active : eqb entry.flag 1 ≡ false
  pub part : value_part s k ≡ entry.value

shown : (s k : List ℕ) (at len : ℕ) → sound s ≡ true → lookup_answer s k ≡ value at len → Shown s k
unfolding lookup_answer value_part finding_for value_for
shown s k at len ok e = elim (test (bad_key k)) [
  | inl q ↦ distinct (refused 1) (value at len) (λ r. cc) (rw (ok, q) at e)
  | inr q ↦ go q (find k (entries_of s)) refl (rw (ok, q) at e)
]
  where
    go : bad_key k ≡ false → (o : Option Entry) → find k (entries_of s) ≡ o → finding_for (index_of k (entries_of s)) (find k (entries_of s)) ≡ value at len
        → Shown s k
    go q none f x = distinct never (value at len) (λ r. cc) (rw f at x)
    go q (some h) f x = elim (test (eqb h.flag 1)) [
      | inl c ↦ distinct deleted (value at len) (λ r. cc) (rw (f, c) at x)
      | inr c ↦ record { entry = h; found = f; active = c; part = rw (ok, q, f, c) }
    ]

pub nothing_comes_back : NothingComesBack
nothing_comes_back s line t r writes g at len e =
    let u = after_writes (after_purge s line) writes in
    let k = writes_keep_out t writes (after_purge s line) g (cleared_out s line r.accepted t t r.held r.gone refl (omega arith)) in
    let w = shown u t.key at len k.is_sound e in
    let h = w.entry in
    let m = find_some t.key (entries_of u) w.found in
    let ok = accepted h (accepts_held u k.is_sound h m.0) in
    let b = (stamp_order_by_field t.stamp h.stamp).1 (inl (k.above h w.found)) in
    record {
      entry = h;
      held = m.0;
      same_key = sym m.1;
      active = omega (arith, ok.flag, eqb-false h.flag 1 w.active);
      is_value = (value_stands u t.key at len e).1 ∙ w.part;
      not_below = stamp_below_asym t.stamp h.stamp b;
      above = b;
    }

-- A local write passes all that its store has had: each write leaves an entry of the key that is
-- not beaten, or the line above it.
use Prim.Native.Nat.{ℕ, ◌^◌, ◌<◌, ◌≤◌}
use mathlib.Core.Path.{◌≡◌, refl, sym, ◌∙◌, ap}
use mathlib.Core.Logic.{inl, inr}
use mathlib.Core.Bool.{true, false, not}
use mathlib.Core.List.Memᴰ.{head}
use mathlib.Core.List.{List, [], ◌∷◌, ◌++◌}
use lib.Dec.{ltb}
use borrow.Author.Tests.{ltb-true, ltb-false, not-true}
use Rattle.wire.specs.Number.{Bytes}
use Rattle.wire.proofs.Tests.{test, clash, and-true}
use Rattle.entry.specs.declared.Stamp.{Stamp}
use Rattle.entry.specs.Order.{stamp_below}
use Rattle.entry.specs.Entry.{Entry}
use Rattle.entry.proofs.Order.{stamp_order_by_field}
use Rattle.entry.proofs.EntryOrder.{beats_irrefl, beats_weak, beats_stamp}
use Rattle.image.specs.Image.{line_of, entries_of, sound}
use Rattle.store.specs.Held.{◌∈◌, find, is_held, below_line}
use Rattle.store.specs.Answer.{is_refused}
use Rattle.store.specs.Offer.{offer_answer, after_offer}
use Rattle.store.specs.Merge.{taken, merged_entries, merge_answer, after_merge}
use Rattle.store.specs.Purge.{cleared, purge_answer, after_purge}
use Rattle.store.specs.Meaning.{Representable}
use Rattle.store.proofs.HeldLaws.{find-mem}
use Rattle.store.proofs.Seeking.{taken-mem, taken-ascending}
use Rattle.store.proofs.OnSound.{ordered}
use Rattle.store.proofs.Keeping.{offer_keeps, merge_taken, merge_keeps}
use Rattle.store.proofs.Purging.{remaining-mem}
use Rattle.store.proofs.Purges.{purge_leaves}
use Rattle.node.specs.Handler.{handled}
use Rattle.node.specs.Meaning.{StillHeld}
use Rattle.node.specs.Overtaking.{Module, Request, result, Makes}
use Rattle.node.proofs.Audit.{still, Safe, put_all_still, put_still, unchanged_safe, kept_safe}
use Rattle.node.proofs.Overtaking.{brings_still, makes_wrote, wrote_held, wrote_passes}
use Rattle.history.specs.Returning.{Write, offer, merge, request, purge, after_write, after_writes, CanBeGiven}
use Rattle.history.specs.Passing.{module_after, Had, holds, takes, offered, merged, AcceptedWritePasses}
use Rattle.history.proofs.Returning.{writes_keep, KeptOut, offer_keeps_out, merge_keeps_out, purge_keeps_out, writes_keep_out, cleared_out}

-- ---- what offers and merges keep
module _ (s : List ℕ) (h : sound s ≡ true) where
  offer_safe : (e : Entry) → Representable e → Safe s (after_offer s e)
  unfolding after_offer
  offer_safe e r = elim (test (is_refused (offer_answer s e))) [
    | inl n ↦ rw n (unchanged_safe s h)
    | inr n ↦ rw n (kept_safe s h e _ (rw n at (offer_keeps s e h r)))
  ]

  merge_safe : (g : List ℕ) → Safe s (after_merge s g)
  unfolding after_merge merged_entries
  merge_safe g = elim (test (is_refused (merge_answer s g))) [
    | inl n ↦ rw n (unchanged_safe s h)
    | inr n ↦
        let m = merge_taken s g n in
        let q = merge_keeps s g h m.giver in
        let es = entries_of s in
        let gs = taken (line_of s) es (entries_of g) in
        let a = taken-ascending (line_of s) es (entries_of g) (ordered g m.giver) in
        (q.sound, rw (q.holds, n) (λ e i. put_all_still gs es a (ordered s h) e (inr i)))
  ]

-- ---- what every write keeps
not_later : (a b : Stamp) → stamp_below b a ≡ false → a.phys ≤ b.phys
not_later a b n = elim (test (ltb b.phys a.phys)) [
  | inl q ↦ clash ((stamp_order_by_field b a).1 (inl (ltb-true _ _ q))) n
  | inr q ↦ ltb-false _ _ q
]

module _ (e : Entry) where
  -- a store is past e: it holds an entry of its key that e does not beat; or its line is above e,
  -- and so is what it holds of the key
  data Past (s : List ℕ) : Type 0 where
    stands : sound s ≡ true → StillHeld e (entries_of s) → Past s
    kept_out : KeptOut e s → Past s

  safe_past : (s u : List ℕ) → StillHeld e (entries_of s) → Safe s u → Past u
  safe_past s u o f =
      let g = f.1 o.entry o.held in
      let b = beats_weak e o.entry g.entry o.not_beaten g.not_beaten in
      stands f.0
      (record { entry = g.entry; held = g.held; same_key = o.same_key ∙ g.same_key; not_lower = beats_stamp e g.entry b; not_beaten = b })

  -- a purge clears the entry that stands for e, or leaves it
  purge_stands : (s : List ℕ) → sound s ≡ true → StillHeld e (entries_of s) → (line : ℕ) → Past (after_purge s line)
  unfolding after_purge
  purge_stands s h o line = elim (test (is_refused (purge_answer s line))) [
    | inl n ↦ rw n (stands h o)
    | inr n ↦
        let g = o.entry in
        let q = purge_leaves s line n in
        elim (test (cleared line g)) [
          | inl c ↦ kept_out (cleared_out s line n e g o.held c o.same_key (not_later e.stamp g.stamp o.not_lower))
          | inr c ↦
              let m : g ∈ entries_of (after_purge s line) = rw q.entries (remaining-mem line (entries_of s) o.held c) in
              stands q.sound (record { entry = g; held = m; same_key = o.same_key; not_lower = o.not_lower; not_beaten = o.not_beaten })
        ]
  ]

  offer_past : (s : List ℕ) (d : Entry) → Representable d → Past s → Past (after_offer s d)
  offer_past s d r (stands h o) = safe_past s (after_offer s d) o (offer_safe s h d r)
  offer_past s d r (kept_out k) = kept_out (offer_keeps_out e s k d r)

  merge_past : (s g : List ℕ) → Past s → Past (after_merge s g)
  merge_past s g (stands h o) = safe_past s (after_merge s g) o (merge_safe s h g)
  merge_past s g (kept_out k) = kept_out (merge_keeps_out e s k g)

  purge_past : (s : List ℕ) (line : ℕ) → Past s → Past (after_purge s line)
  purge_past s line (stands h o) = purge_stands s h o line
  purge_past s line (kept_out k) = kept_out (purge_keeps_out e s k line)

  past_after : (ws : List Write) (s : List ℕ) → CanBeGiven ws → Past s → Past (after_writes s ws)
  past_after = writes_keep Past offer_past merge_past purge_past

-- ---- lists of writes
after_all_lem : (ws vs : List Write) (s : List ℕ) → after_writes s (ws ++ vs) ≡ after_writes (after_writes s ws) vs
unfolding after_writes
after_all_lem [] vs s = refl
after_all_lem (w ∷ ws) vs s = after_all_lem ws vs (after_write s w)

given_both : (ws vs : List Write) → CanBeGiven (ws ++ vs) → CanBeGiven ws × CanBeGiven vs
given_both [] vs g = (tt, g)
given_both (offer d ∷ ws) vs g = let (a, b) = given_both ws vs g.1 in ((g.0, a), b)
given_both (merge giver ∷ ws) vs g = given_both ws vs g
given_both (request c now frame reply ∷ ws) vs g = let (a, b) = given_both ws vs g.2 in ((g.0, g.1, a), b)
given_both (purge line ∷ ws) vs g = given_both ws vs g

purge_sound : (s : List ℕ) → sound s ≡ true → (line : ℕ) → sound (after_purge s line) ≡ true
unfolding after_purge
purge_sound s h line = elim (test (is_refused (purge_answer s line))) [ inl n ↦ rw n h | inr n ↦ (purge_leaves s line n).sound ]

sound-after : (ws : List Write) (s : List ℕ) → CanBeGiven ws → sound s ≡ true → sound (after_writes s ws) ≡ true
sound-after =
    writes_keep (λ s. sound s ≡ true) (λ s e r h. (offer_safe s h e r).0) (λ s g h. (merge_safe s h g).0) (λ s line h. purge_sound s h line)

-- ---- what has come
module _ (u : List ℕ) (k : sound u ≡ true) (e : Entry) where
  offered_past : Representable e → is_refused (offer_answer u e) ≡ false → Past e (after_offer u e)
  offered_past r n =
      let q = rw n at (offer_keeps u e k r) in
      stands q.sound (rw q.holds (put_still e (entries_of u) (ordered u k) e (inl (head refl))))

  below_out : below_line (line_of u) (entries_of u) e ≡ true → KeptOut e u
  unfolding below_line is_held
  below_out b =
      let o = find e.key (entries_of u) in
      let t = and-true (ltb e.stamp.phys (line_of u)) (not (is_held o)) b in
      record { is_sound = k; line = ltb-true _ _ t.0; above = λ h f. clash (ap is_held f) (not-true (is_held o) t.1) }

  merged_past : (g : List ℕ) → is_refused (merge_answer u g) ≡ false → e ∈ entries_of g → Past e (after_merge u g)
  unfolding merged_entries
  merged_past g n m = elim (test (below_line (line_of u) (entries_of u) e)) [
    | inl b ↦ kept_out (merge_keeps_out e u (below_out b) g)
    | inr b ↦ merged_stands (taken-mem (line_of u) (entries_of u) (entries_of g) m b)
  ]
    where
      merged_stands : e ∈ taken (line_of u) (entries_of u) (entries_of g) → Past e (after_merge u g)
      merged_stands i =
          let t = merge_taken u g n in
          let q = merge_keeps u g k t.giver in
          let es = entries_of u in
          let gs = taken (line_of u) es (entries_of g) in
          let a = taken-ascending (line_of u) es (entries_of g) (ordered g t.giver) in
          stands q.sound (rw (q.holds, n) (put_all_still gs es a (ordered u k) e (inl i)))

-- ---- what was had is passed
module _ (s : List ℕ) (h : sound s ≡ true) (e : Entry) where
  had_past : (writes : List Write) → CanBeGiven writes → Had s writes e → Past e (after_writes s writes)
  unfolding after_writes after_write
  had_past writes g (holds before later q m) =
      let u = after_writes s before in
      let (a, b) = given_both before later (rw q at g) in
      let k = sound-after before s a h in
      let o = still e (entries_of u) e (find-mem (entries_of u) (ordered u k) m) (beats_irrefl e) in
      rw (q, after_all_lem before later s) (past_after e later u b (stands k o))
  had_past writes g (takes before c r later q m) =
      let w = request c r.now r.frame r.reply in
      let (a, b) = given_both before (w ∷ later) (rw q at g) in
      let u = after_writes s before in
      let v : List ℕ = (handled u c r.now r.frame r.reply).store in
      let k = sound-after (w ∷ []) u (b.0, b.1, tt) (sound-after before s a h) in
      rw (q, after_all_lem before (w ∷ later) s) (past_after e later v b.2 (stands k (brings_still (module_after s before c) r e b.0 m)))
  had_past writes g (offered before later q n) =
      let u = after_writes s before in
      let (a, b) = given_both before (offer e ∷ later) (rw q at g) in
      rw (q, after_all_lem before (offer e ∷ later) s) (past_after e later (after_offer u e) b.1 (offered_past u (sound-after before s a h) e b.0 n))
  had_past writes g (merged before giver later q n m) =
      let u = after_writes s before in
      let (a, b) = given_both before (merge giver ∷ later) (rw q at g) in
      rw (q, after_all_lem before (merge giver ∷ later) s) (past_after e later (after_merge u giver) b (merged_past u (sound-after before s a h) e giver n m))

past_passes : (m : Module) (r : Request) (e made : Entry) → Bytes r.frame → m.clock.node < 2 ^ 8 → Past e m.store → Makes m r made
    → made.key ≡ e.key → stamp_below e.stamp made.stamp ≡ true
unfolding after_writes after_write
past_passes m r e made bytes n (stands h o) a q = wrote_passes m r e made o (makes_wrote m r made a) q
past_passes m r e made bytes n (kept_out k) a q =
    let f = writes_keep_out e (request m.clock r.now r.frame r.reply ∷ []) m.store (bytes, n, tt) k in
    let held = ap (λ (j : List ℕ). find j (entries_of (result m r).store)) (sym q) ∙ wrote_held m r made n (makes_wrote m r made a) in
    (stamp_order_by_field e.stamp made.stamp).1 (inl (f.above made held))

pub accepted_write_passes : AcceptedWritePasses
accepted_write_passes s writes c r e made h g bytes n had a q =
    let m = module_after s writes c in (
      past_passes m r e made bytes n (had_past s h e writes g had) a q,
      ap (λ (j : List ℕ). find j (entries_of (result m r).store)) (sym q) ∙ wrote_held m r made n (makes_wrote m r made a),
    )

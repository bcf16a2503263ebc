-- What a refusal and a served request leave.
use Prim.Native.Nat.{ℕ, ◌^◌, ◌<◌}
use mathlib.Core.Path.{◌≡◌, refl, ap, ◌∙◌}
use mathlib.Core.Logic.{◌⊎◌, inl, inr}
use mathlib.Core.Bool.{true, false}
use mathlib.Core.List.Memᴰ.{not-nil as mem-nil}
use mathlib.Core.List.{List, [], ◌∷◌}
use mathlib.Core.Option.{Option, none, some, none-ne-some, some-injective}
use lib.ListN.{length}
use lib.Dec.{ltb}
use borrow.Author.Tests.{not-false}
use Rattle.wire.proofs.Tests.{test}
use Rattle.wire.proofs.Order.{same_bytes_refl}
use Rattle.entry.specs.declared.Stamp.{Stamp}
use Rattle.entry.specs.Key.{bad_key}
use Rattle.entry.specs.Order.{stamp_below}
use Rattle.entry.specs.Entry.{Entry, entry_of, beats}
use Rattle.entry.proofs.EntryOrder.{above_beats, beats_stamp, beats_asym, beats_irrefl}
use Rattle.entry.proofs.Accept.{accepted}
use Rattle.clock.specs.declared.Clock.{Clock}
use Rattle.clock.specs.Clock.{stamp_of}
use Rattle.clock.proofs.Rising.{send_rises}
use Rattle.frame.specs.Layout.{max_frame}
use Rattle.image.specs.Image.{entries_of, sound}
use Rattle.store.specs.Held.{◌∈◌, put, put_all, find, better}
use Rattle.store.specs.Answer as answer
use Rattle.store.specs.Offer.{told}
use Rattle.store.specs.Overtaken.{overtaken_by, overtaken}
use Rattle.store.specs.Lookup.{finding_for, value_for, lookup_answer, value_part}
use Rattle.store.specs.Meaning.{Representable, Keeps}
use Rattle.store.proofs.HeldLaws.{Ascending, find-put, join, find-put_all, find-mem, find_some}
use Rattle.store.proofs.OnSound.{ordered}
use Rattle.store.proofs.Keeping.{offer_taken, offer_keeps, kept_unchanged}
use Rattle.node.specs.Handler.{Served, done, refused, gets, serve, serve_frame, settle, handled}
use Rattle.node.specs.Meaning.{RefusalChangesNothing, StaleReplicaChangesNothing, GetAfterPut, GetAfterDel, StillHeld, NeverLosesOrLowers}
use Rattle.node.proofs.Deeds.{Took, LocallyWrote, write_done, replica_done, deed}

-- ---- a refusal
settled_refusal : (s : List ℕ) (c : Clock) (reply : List ℕ) (x : Served) → ((settle s c reply x).refusal ≡ 0 → ⊥)
    → ((settle s c reply x).store ≡ s) × ((settle s c reply x).clock ≡ c)
unfolding settle
settled_refusal s c reply (done s' c' m) h = absurd (h refl)
settled_refusal s c reply (refused n) h = (refl, refl)

pub refusal_changes_nothing : RefusalChangesNothing
unfolding handled
refusal_changes_nothing s c now frame reply h = elim (test (ltb (length reply) max_frame)) [
  | inl p ↦ rw p (refl, refl)
  | inr p ↦ rw p (settled_refusal s c reply (serve_frame s c now frame) (rw p at h))
]

-- ---- an entry that was taken
module _ (s : List ℕ) (h : sound s ≡ true) (e : Entry) (s' : List ℕ) (t : Took s e s') where
  pub took_keeps : Representable e → Keeps s (put e (entries_of s)) s'
  took_keeps r = rw t.left (rw t.taken at (offer_keeps s e h r))

-- ---- a stale replica
-- an entry that is taken and does not beat the held one is kept
told_kept : (e h : Entry) → beats e h ≡ false → told e (some h) ≡ answer.kept
unfolding told
told_kept e h b = rw b

pub stale_replica_changes_nothing : StaleReplicaChangesNothing
unfolding serve
stale_replica_changes_nothing s s' c d now e h m k f b r =
    let t = (replica_done s c now e s' d m r).took in
    t.left ∙ kept_unchanged s e ((offer_taken s e t.taken).told ∙ ap (told e) f ∙ told_kept e h b)

-- ---- what a served request keeps
-- a store after a served write: it is sound, every held key is held on, no held stamp is lowered,
-- and no entry is in the place of one that beats it
abbrev pub Safe : List ℕ → List ℕ → Type 0
Safe s s' = (sound s' ≡ true) × ((h : Entry) → h ∈ entries_of s → StillHeld h (entries_of s'))

pub still : (h : Entry) (es : List Entry) (g : Entry) → find h.key es ≡ some g → beats h g ≡ false → StillHeld h es
still h es g f b = let r = find_some h.key es f in record { entry = g; held = r.0; same_key = r.1; not_lower = beats_stamp h g b; not_beaten = b }

-- an entry is found that e does not beat
record Unbeaten (e : Entry) (o : Option Entry) : Type 0 where
  entry : Entry
  found : o ≡ some entry
  not_beaten : beats e entry ≡ false

-- the better of two entries is beaten by neither
join_unbeaten : (e : Entry) (o p : Option Entry) → (o ≡ some e) ⊎ (p ≡ some e) → Unbeaten e (join o p)
unfolding join better
join_unbeaten e none p (inl q) = absurd (none-ne-some e q)
join_unbeaten e none p (inr q) = record { entry = e; found = q; not_beaten = beats_irrefl e }
join_unbeaten e (some g) none (inl q) = record { entry = e; found = q; not_beaten = beats_irrefl e }
join_unbeaten e (some g) none (inr q) = absurd (none-ne-some e q)
join_unbeaten e (some g) (some h) m = elim (test (beats g h)) [
  | inl b ↦ rw b (record { entry = g; found = refl; not_beaten = first b m })
  | inr b ↦ rw b (record { entry = h; found = refl; not_beaten = second b m })
]
  where
    first : beats g h ≡ true → (some g ≡ some e) ⊎ (some h ≡ some e) → beats e g ≡ false
    first b (inl q) = rw (some-injective g e q) (beats_irrefl e)
    first b (inr q) = rw (← some-injective h e q) (beats_asym g h b)

    second : beats g h ≡ false → (some g ≡ some e) ⊎ (some h ≡ some e) → beats e h ≡ false
    second b (inl q) = rw (← some-injective g e q) b
    second b (inr q) = rw (some-injective h e q) (beats_irrefl e)

-- after some entries are put among others, each of both is still held
pub put_all_still : (gs es : List Entry) → Ascending gs → Ascending es → (e : Entry) → (e ∈ gs) ⊎ (e ∈ es) → StillHeld e (put_all gs es)
put_all_still gs es b a e m =
    let k = e.key in
    let u = join_unbeaten e (find k gs) (find k es) (elim m [ inl i ↦ inl (find-mem gs b i) | inr i ↦ inr (find-mem es a i) ]) in
    still e (put_all gs es) u.entry (find-put_all k gs es b a ∙ u.found) u.not_beaten

pub put_still : (g : Entry) (es : List Entry) → Ascending es → (e : Entry) → (e ∈ g ∷ []) ⊎ (e ∈ es) → StillHeld e (put g es)
unfolding put_all
put_still g es a = put_all_still (g ∷ []) es (λ d m. absurd (mem-nil m), tt) a

module _ (s : List ℕ) (h : sound s ≡ true) where
  pub unchanged_safe : Safe s s
  unchanged_safe = (h, λ g m. still g (entries_of s) g (find-mem (entries_of s) (ordered s h) m) (beats_irrefl g))

  pub kept_safe : (e : Entry) (s' : List ℕ) → Keeps s (put e (entries_of s)) s' → Safe s s'
  kept_safe e s' k = (k.sound, rw k.holds (λ g m. put_still e (entries_of s) (ordered s h) g (inr m)))

pub never_loses_or_lowers : NeverLosesOrLowers
never_loses_or_lowers s s' c d now m x h n i r = elim (deed s c now s' d m x r) [
  | inl k ↦ rw k.0 (unchanged_safe s h)
  | inr o ↦ kept_safe s h o.entry s' (took_keeps s h o.entry s' o.took (o.fits n i))
]

-- ---- what is found after a local write
-- a store that holds an entry with a key, a value, a flag and a stamp
pub record Holds (s : List ℕ) (k v : List ℕ) (f : ℕ) (t : Stamp) : Type 0 where
  pub held : find k (entries_of s) ≡ some (entry_of k v f t)
  pub is_sound : sound s ≡ true
  pub good_key : bad_key k ≡ false

-- a write that is not overtaken is the better entry
local_better : (k v : List ℕ) (f : ℕ) (t : Stamp) (o : Option Entry) → overtaken_by o t ≡ false → better (entry_of k v f t) o ≡ some (entry_of k v f t)
unfolding overtaken_by better
local_better k v f t none z = refl
local_better k v f t (some g) z = rw (above_beats (entry_of k v f t) g (not-false (stamp_below g.stamp t) z))

pub written : (s : List ℕ) → sound s ≡ true → (c : Clock) → c.node < 2 ^ 8 → (now : ℕ) (k v : List ℕ) (f : ℕ) (s' : List ℕ) (d : Clock)
    → LocallyWrote s c now k v f s' d → Holds s' k v f (stamp_of d)
unfolding overtaken
written s h c n now k v f s' d w =
    let e : Entry = entry_of k v f (stamp_of d) in
    let r = send_rises c d now w.step in
    let keeps = took_keeps s h e s' w.took (record { logical = r.logical; node = rw r.node n }) in
    let b = local_better k v f (stamp_of d) (find k (entries_of s)) w.above in
    record {
      held = ap (find k) keeps.holds ∙ find-put k e (entries_of s) (ordered s h) ∙ rw (same_bytes_refl k) b;
      is_sound = keeps.sound;
      good_key = (accepted e (offer_taken s e w.took.taken).ok).good_key;
    }

pub get_after-put : GetAfterPut
unfolding serve gets lookup_answer value_part finding_for value_for
get_after-put s s' c d c' now now' k v m h n r =
    let w = written s h c n now k v 0 s' d (write_done s c now k v 0 s' d m r) in
    rw (w.is_sound, w.good_key, w.held)

pub get_after_del : GetAfterDel
unfolding serve gets lookup_answer value_part finding_for value_for
get_after_del s s' c d c' now now' k m h n r =
    let w = written s h c n now k [] 1 s' d (write_done s c now k [] 1 s' d m r) in
    rw (w.is_sound, w.good_key, w.held)

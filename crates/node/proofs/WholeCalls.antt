-- What holds of whole calls.
use Prim.Native.Nat.{ℕ, ◌^◌, ◌<◌}
use native.Mathlib.Omega.{arith}
use mathlib.Core.Path.{◌≡◌, refl, ap, ◌∙◌}
use mathlib.Core.Logic.{inl, inr}
use mathlib.Core.Bool.{true, false, not, ◌||◌}
use mathlib.Core.List.{List}
use mathlib.Core.Option.{Option, none, some}
use lib.ListN.{length}
use lib.Dec.{ltb, leb, eqb}
use borrow.Author.Tests.{eqb-true, eqb-false}
use Rattle.wire.specs.Number.{Bytes}
use Rattle.wire.specs.Order.{same_bytes}
use Rattle.wire.proofs.Tests.{test, false_of}
use Rattle.wire.proofs.Order.{same_bytes_eq, same_bytes_refl}
use Rattle.entry.specs.Entry.{Entry, beats, bad_time}
use Rattle.entry.proofs.Order.{stamp_below_asym, stamp_below_irrefl}
use Rattle.clock.specs.declared.Clock.{Clock}
use Rattle.clock.specs.Clock.{stamp_of}
use Rattle.frame.specs.Message.{Message, InRange}
use Rattle.frame.specs.Message as message
use Rattle.frame.specs.Layout.{max_frame, type_of}
use Rattle.frame.specs.Reading.{Outcome, type_in, read_frame}
use Rattle.frame.specs.Reading as reading
use Rattle.frame.proofs.RoundTrips.{read_is_taken}
use Rattle.frame.proofs.ByType.{either}
use Rattle.image.specs.Image.{entries_of, sound}
use Rattle.store.specs.Held.{put, find, better}
use Rattle.store.specs.Lookup.{lookup_answer, value_part}
use Rattle.store.specs.Meaning.{Representable, Keeps}
use Rattle.store.proofs.HeldLaws.{find-put}
use Rattle.store.proofs.OnSound.{ordered}
use Rattle.node.specs.Handler.{Served, done, refused, serve, serve_outcome, serve_frame, settle, handled}
use Rattle.node.specs.Meaning.{AcceptedCallServes, StaleFrameChangesNothing, CallNeverLosesOrLowers, held_after, AcceptedReplicaIsHeld}
use Rattle.node.specs.Meaning.{OtherKeysUntouched, ClockNeverLowered, FoundOrOffered}
use Rattle.node.specs.Meaning.{GetFrameChangesNothing, GetsAfter, GetFrameAfterPutFrame, GetFrameAfterDelFrame}
use Rattle.node.proofs.Deeds.{Stays, gets_stays, Offers, replica_done}
use Rattle.node.proofs.Audit.{unchanged_safe, kept_safe, took_keeps, refusal_changes_nothing, stale_replica_changes_nothing}
use Rattle.node.proofs.Audit.{get_after-put, get_after_del, never_loses_or_lowers}
use Rattle.node.proofs.Calls.{CallWrote, passed_call, served_call, call_deed}

pub same_message : {o : Outcome} {m n : Message} → o ≡ reading.message m → o ≡ reading.message n → m ≡ n
same_message p q = cc

pub accepted_call_serves : AcceptedCallServes
accepted_call_serves s c now frame reply m z e =
    let k = served_call s c now frame reply z in
    (k.is_sound, record { next = (handled s c now frame reply).clock; says = k.says; is = rw (same_message e k.reads) k.is })

pub stale_frame_changes_nothing : StaleFrameChangesNothing
stale_frame_changes_nothing s c now frame reply e h r f b = elim (test (eqb (handled s c now frame reply).refusal 0)) [
  | inl p ↦
      let a = accepted_call_serves s c now frame reply (message.repl e) (eqb-true _ 0 p) r in
      let q = a.1 in
      stale_replica_changes_nothing s (handled s c now frame reply).store c q.next now e h q.says a.0 f b q.is
  | inr p ↦ (refusal_changes_nothing s c now frame reply (eqb-false _ 0 p)).0
]

-- ---- what any call leaves
module _ (s : List ℕ) (c : Clock) (now : ℕ) (frame reply : List ℕ) (bytes : Bytes frame) (n : c.node < 2 ^ 8) (w : CallWrote s c now frame reply) where
  abbrev o : Offers s c now w.asks (handled s c now frame reply).store (handled s c now frame reply).clock
  o = w.offers

  wrote_fits : Representable o.entry
  wrote_fits = o.fits n (read_is_taken frame w.asks bytes w.reads).1

  pub wrote_keeps : Keeps s (put o.entry (entries_of s)) (handled s c now frame reply).store
  wrote_keeps = took_keeps s w.is_sound o.entry (handled s c now frame reply).store o.took wrote_fits

pub call_never_loses_or_lowers : CallNeverLosesOrLowers
call_never_loses_or_lowers s c now frame reply bytes h n = elim (call_deed s c now frame reply) [
  | inl q ↦ rw q.0 (unchanged_safe s h)
  | inr w ↦ kept_safe s h w.offers.entry (handled s c now frame reply).store (wrote_keeps s c now frame reply bytes n w)
]

pub other_keys_untouched : OtherKeysUntouched
other_keys_untouched s c now frame reply k bytes n other = elim (call_deed s c now frame reply) [
  | inl q ↦ ap (λ (t : List ℕ). find k (entries_of t)) q.0
  | inr w ↦
      let e = w.offers.entry in
      let d : same_bytes k e.key ≡ false = false_of (same_bytes k e.key) (λ p. other w.asks w.reads (same_bytes_eq k e.key p ∙ w.offers.key)) in
      ap (find k) (wrote_keeps s c now frame reply bytes n w).holds ∙ find-put k e (entries_of s) (ordered s w.is_sound) ∙ rw d
]

pub clock_never_lowered : ClockNeverLowered
clock_never_lowered s c now frame reply = elim (call_deed s c now frame reply) [
  | inl q ↦ rw q.1 (record { stamp = stamp_below_irrefl (stamp_of c); skew = omega arith; node = refl })
  | inr w ↦
      let r = w.offers.rises in
      record { stamp = stamp_below_asym (stamp_of c) (stamp_of (handled s c now frame reply).clock) r.above; skew = r.skew; node = r.node }
]

pub found_or_offered : FoundOrOffered
found_or_offered s c now frame reply bytes n = elim (call_deed s c now frame reply) [
  | inl q ↦ inl q.0
  | inr w ↦ inr (record { entry = w.offers.entry; fits = wrote_fits s c now frame reply bytes n w; left = w.offers.took.left })
]

-- ---- a REPL frame
better_is : (e : Entry) (x : Option Entry) → better e x ≡ some (held_after e x)
unfolding better
better_is e none = refl
better_is e (some h) = elim (test (beats e h)) [ inl p ↦ rw p | inr p ↦ rw p ]

pub accepted_replica_is_held : AcceptedReplicaIsHeld
unfolding serve
accepted_replica_is_held s c now frame reply e bytes r z =
    let k = accepted_call_serves s c now frame reply (message.repl e) z r in
    let t = (handled s c now frame reply).store in
    let i = (read_is_taken frame (message.repl e) bytes r).1 in
    let took = (replica_done s c now e t k.1.next k.1.says k.1.is).took in
    let keeps = took_keeps s k.0 e t took (record { logical = i.0; node = i.1 }) in
    ap (find e.key) keeps.holds ∙ find-put e.key e (entries_of s) (ordered s k.0) ∙ rw (same_bytes_refl e.key) (better_is e _)

-- ---- a GET frame
settled_stays : (s : List ℕ) (c : Clock) (reply : List ℕ) (x : Served) → Stays s c x → ((settle s c reply x).store ≡ s) × ((settle s c reply x).clock ≡ c)
unfolding settle
settled_stays s c reply (done s' d m) t = t
settled_stays s c reply (refused n) t = (refl, refl)

get_stays : (s : List ℕ) (c : Clock) (now : ℕ) (frame k : List ℕ) → read_frame frame ≡ reading.message (message.get k) → Stays s c (serve_frame s c now frame)
unfolding serve_frame serve_outcome serve
get_stays s c now frame k e = rw e
    (either (Stays s c) (not (sound s)) _ _ tt
    (either (Stays s c) (bad_time now || bad_time c.phys) _ _ tt
    (either (Stays s c) (leb 16 (type_in frame)) _ _ tt
    (gets_stays s c (value_part s k) (lookup_answer s k)))))

pub get_frame_changes_nothing : GetFrameChangesNothing
unfolding handled
get_frame_changes_nothing s c now frame reply k e = elim (test (ltb (length reply) max_frame)) [
  | inl p ↦ rw p (refl, refl)
  | inr p ↦ rw p (settled_stays s c reply (serve_frame s c now frame) (get_stays s c now frame k e))
]

-- ---- a GET frame after an accepted frame
gets_after : (m : Message) (k : List ℕ) (m' : Message) → InRange m
    → ((s s' : List ℕ) (c d c' : Clock) (now now' : ℕ) (x : Message) → sound s ≡ true → c.node < 2 ^ 8 → serve s c now m ≡ done s' d x
    → serve s' c' now' (message.get k) ≡ done s' c' m')
    → GetsAfter m k m'
unfolding type_of
gets_after m k m' i law s c c' now now' frame frame' reply reply' n e z g a b room =
    let t = (handled s c now frame reply).store in
    let p = accepted_call_serves s c now frame reply m z e in
    let q = p.1 in
    let w = never_loses_or_lowers s t c q.next now m q.says p.0 n i q.is in
    passed_call t c' now' frame' reply' (message.get k) (record { room = room; is_sound = w.0; time = a; phys = b; reads = g }) refl
    ∙ ap (settle t c' reply') (law s t c q.next c' now now' q.says p.0 n q.is)

pub get_frame_after-put_frame : GetFrameAfterPutFrame
get_frame_after-put_frame k v =
    gets_after (message.put k v) k (message.value v) tt (λ s s' c d c' now now' x h n r. get_after-put s s' c d c' now now' k v x h n r)

pub get_frame_after_del_frame : GetFrameAfterDelFrame
get_frame_after_del_frame k =
    gets_after (message.del k) k message.not_found tt (λ s s' c d c' now now' x h n r. get_after_del s s' c d c' now now' k x h n r)

-- When a call is refused with 7, when with 34, and when with 6.
use Prim.Native.Nat.{ℕ, ◌^◌, ◌≤◌, ◌<◌}
use native.Mathlib.Omega.{arith}
use mathlib.Core.Path.{◌≡◌, refl, sym, ◌∙◌}
use mathlib.Core.Logic.{◌⊎◌, inl, inr}
use mathlib.Core.Bool.{true, false, not, ◌||◌}
use mathlib.Core.List.{List, []}
use mathlib.Core.Option.{Option, none, some}
use lib.ListN.{length}
use lib.Dec.{ltb, leb, eqb}
use borrow.Author.Tests.{lt-ltb, ltb-true, ltb-false, lt-leb, leb-false, not-true}
use Rattle.wire.specs.Number.{Bytes}
use Rattle.wire.proofs.Tests.{test, clash, false_of, and-true, or-false}
use Rattle.entry.specs.declared.Stamp.{Stamp}
use Rattle.entry.specs.Key.{bad_key}
use Rattle.entry.specs.Order.{stamp_below}
use Rattle.entry.specs.Entry.{Entry, entry_of, bad_time, bad_flag, refusal_of, beats}
use Rattle.clock.specs.declared.Clock.{Clock}
use Rattle.clock.specs.Clock.{Stepped, stamp_of, send_step, receive_step}
use Rattle.clock.specs.Clock as clock
use Rattle.clock.proofs.Steps.{StepNumbered, send_numbered, receive_numbered}
use Rattle.clock.proofs.Rising.{send_rises}
use Rattle.frame.specs.Message.{Message, message_refusal, key_fault, value_fault}
use Rattle.frame.specs.Message as message
use Rattle.frame.specs.Layout.{max_frame, type_of}
use Rattle.frame.specs.Reading.{Outcome, type_in, read_frame}
use Rattle.frame.specs.Reading as reading
use Rattle.frame.proofs.Bodies.{taken, repl_refusal}
use Rattle.frame.proofs.RoundTrips.{read_is_taken, read_refusals}
use Rattle.frame.proofs.ByType.{either}
use Rattle.image.specs.Image.{slots_of, line_of, entries_of, sound}
use Rattle.store.specs.Held.{put, find, is_held, below_line}
use Rattle.store.specs.Offer.{told, offer_answer}
use Rattle.store.specs.Overtaken.{overtaken_by, overtaken}
use Rattle.store.specs.Lookup.{Finding, lookup_answer, value_part}
use Rattle.store.specs.Lookup as lookup
use Rattle.store.proofs.HeldLaws.{none_of, length-put}
use Rattle.store.proofs.OnSound.{ordered, held_fits}
use Rattle.node.specs.Handler.{Served, done, refused, offer_served, offered, write_locally, take_replica, gets, serve, serve_outcome, serve_frame, settle}
use Rattle.node.specs.Handler.{handled}
use Rattle.node.specs.Meaning.{Asks, LocalWrite, a_put, a_del, Replica, a_repl, OvertakenWrite, BelowLineWrite, FullWrite}
use Rattle.node.specs.Meaning.{OvertakenExactly, BelowLineExactly, FullExactly}
use Rattle.node.proofs.Telling.{FindingNumbered, lookup_numbered}
use Rattle.node.proofs.Calls.{passed_call}

-- none of 7, 34 and 6
abbrev Other : ℕ → Type 0
Other n = (n ≡ 7 → ⊥) × (n ≡ 34 → ⊥) × (n ≡ 6 → ⊥)

other : (n : ℕ) → (n ≤ 5) ⊎ ((8 ≤ n) × (n ≤ 17)) → Other n
other n (inl h) = (omega arith, omega arith, omega arith)
other n (inr h) = (omega (arith, h.0), omega (arith, h.1), omega (arith, h.0))

entry_other : (e : Entry) → Other (refusal_of e)
unfolding refusal_of
entry_other e =
    either Other (bad_time e.stamp.phys) 9 _ (other 9 (inr (omega arith)))
    (either Other (bad_key e.key) 1 _ (other 1 (inl (omega arith)))
    (either Other (ltb 512 (length e.value)) 2 _ (other 2 (inl (omega arith)))
    (either Other (bad_flag e) 17 0 (other 17 (inr (omega arith))) (other 0 (inl (omega arith))))))

-- a stamp that is overtaken is not above that of a held entry
overtaken_held : (o : Option Entry) (t : Stamp) → overtaken_by o t ≡ true → (h : Entry) × (o ≡ some h) × (stamp_below h.stamp t ≡ false)
unfolding overtaken_by
overtaken_held none t p = clash {b = false} p refl
overtaken_held (some h) t p = (h, refl, not-true (stamp_below h.stamp t) p)

-- ---- the reason of a refusal
module _ (s : List ℕ) (c : Clock) (now : ℕ) (frame reply : List ℕ) where
  record Why (n : ℕ) : Type 0 where
    overtakes : n ≡ 7 → OvertakenWrite s c now frame reply
    below : n ≡ 34 → BelowLineWrite s c now frame reply
    full : n ≡ 6 → FullWrite s c now frame reply

  plain : (n : ℕ) → Other n → Why n
  plain n o = record { overtakes = λ e. absurd (o.0 e); below = λ e. absurd (o.1 e); full = λ e. absurd (o.2 e) }

  abbrev Reason : Served → Type 0
  Reason (done s' d m) = Unit {0}
  Reason (refused n) = Why n

  reason_7 : OvertakenWrite s c now frame reply → Why 7
  reason_7 w = record { overtakes = λ e. w; below = λ e. absurd (omega (arith, e)); full = λ e. absurd (omega (arith, e)) }

  reason_34 : BelowLineWrite s c now frame reply → Why 34
  reason_34 w = record { overtakes = λ e. absurd (omega (arith, e)); below = λ e. w; full = λ e. absurd (omega (arith, e)) }

  reason_6 : FullWrite s c now frame reply → Why 6
  reason_6 w = record { overtakes = λ e. absurd (omega (arith, e)); below = λ e. absurd (omega (arith, e)); full = λ e. w }

  told-reason : (t : List ℕ) (d : Clock) (e : Entry) (o : Option Entry) → Reason (offer_served t d (told e o))
  unfolding offer_served told
  told-reason t d e none = tt
  told-reason t d e (some h) = elim (test (beats e h)) [ inl p ↦ rw p tt | inr p ↦ rw p tt ]

  module _ (h : sound s ≡ true) where
    module _ (m : Message) (a : Asks s c now frame reply m) where
      offer_reason : (d : Clock) (e : Entry) → LocalWrite c now d m e ⊎ Replica c now d m e → Reason (offered s d e)
      unfolding offered offer_answer offer_served
      offer_reason d e w = elim (test (eqb (refusal_of e) 0)) [
        | inl p ↦ elim (test (below_line (line_of s) (entries_of s) e)) [
          | inl b ↦ rw (h, p, b) (reason_34 (record { request = m; asks = a; moved = d; entry = e; writes = w; below = b }))
          | inr b ↦ elim (test (ltb (slots_of s) (length (put e (entries_of s))))) [
            | inl q ↦ rw (h, p, b, q)
                (reason_6 (record { request = m; asks = a; moved = d; entry = e; writes = w; not_below = b; exceeds = ltb-true _ _ q }))
            | inr q ↦ rw (h, p, b, q) (told-reason _ d e (find e.key (entries_of s)))
          ]
        ]
        | inr p ↦ rw (h, p) (plain (refusal_of e) (entry_other e))
      ]

      write_reason : (k v : List ℕ) (f : ℕ) → ((d : Clock) → send_step c now ≡ clock.next d → LocalWrite c now d m (entry_of k v f (stamp_of d)))
          → (t : Stepped) → send_step c now ≡ t → StepNumbered t → Reason (write_locally s k v f t)
      unfolding write_locally overtaken
      write_reason k v f w (clock.next d) q n = elim (test (overtaken_by (find k (entries_of s)) (stamp_of d))) [
        | inl p ↦
            let (g, is, below) = overtaken_held (find k (entries_of s)) (stamp_of d) p in
            rw p (reason_7 (record {
              request = m;
              asks = a;
              sent = d;
              entry = entry_of k v f (stamp_of d);
              writes = w d q;
              held = g;
              held_now = is;
              not_below = below;
            }))
        | inr p ↦ rw p (offer_reason d (entry_of k v f (stamp_of d)) (inl (w d q)))
      ]
      write_reason k v f w (clock.refused j) q n = plain j (other j (inr (omega arith)))

      replica_reason : (e : Entry) → ((d : Clock) → receive_step c e.stamp.phys e.stamp.logical now ≡ clock.next d → Replica c now d m e)
          → (t : Stepped) → receive_step c e.stamp.phys e.stamp.logical now ≡ t → StepNumbered t → Reason (take_replica s e t)
      unfolding take_replica
      replica_reason e w (clock.next d) q n = offer_reason d e (inr (w d q))
      replica_reason e w (clock.refused j) q n = plain j (other j (inr (omega arith)))

    gets-reason : (v : List ℕ) (x : Finding) → FindingNumbered x → Reason (gets s c v x)
    unfolding gets
    gets-reason v (lookup.value at len) n = tt
    gets-reason v lookup.deleted n = tt
    gets-reason v lookup.never n = tt
    gets-reason v (lookup.refused j) n = plain j (other j (inl n.1))

    no_request : Why 3
    no_request = plain 3 (other 3 (inl (omega arith)))

    serve-reason : (m : Message) → Asks s c now frame reply m → Reason (serve s c now m)
    unfolding serve
    serve-reason (message.put k v) a = write_reason (message.put k v) a k v 0 (λ d q. a_put k v q) (send_step c now) refl (send_numbered c now)
    serve-reason (message.get k) a = gets-reason (value_part s k) (lookup_answer s k) (lookup_numbered s k)
    serve-reason (message.del k) a = write_reason (message.del k) a k [] 1 (λ d q. a_del k q) (send_step c now) refl (send_numbered c now)
    serve-reason (message.repl e) a =
        replica_reason (message.repl e) a e (λ d q. a_repl e q) (receive_step c e.stamp.phys e.stamp.logical now) refl
        (receive_numbered c e.stamp.phys e.stamp.logical now)
    serve-reason message.ok a = no_request
    serve-reason (message.value v) a = no_request
    serve-reason message.not_found a = no_request
    serve-reason (message.err j) a = no_request

    outcome_reason : now < 2 ^ 48 → c.phys < 2 ^ 48 → max_frame ≤ length reply → (o : Outcome) → read_frame frame ≡ o → Reason (serve_outcome s c now o)
    unfolding serve_outcome
    outcome_reason t p room (reading.message m) q = serve-reason m (record { room = room; is_sound = h; time = t; phys = p; reads = q })
    outcome_reason t p room (reading.refused j) q = let n = read_refusals frame j q in plain j (other j (inl (omega arith)))

  frame_reason : max_frame ≤ length reply → Reason (serve_frame s c now frame)
  unfolding serve_frame
  frame_reason room = elim (test (sound s)) [
    | inl h ↦ elim (test (bad_time now || bad_time c.phys)) [
      | inl p ↦ rw (h, p) (plain 9 (other 9 (inr (omega arith))))
      | inr p ↦ elim (test (leb 16 (type_in frame))) [
        | inl q ↦ rw (h, p, q) (no_request h)
        | inr q ↦
            let t = or-false (bad_time now) (bad_time c.phys) p in
            rw (h, p, q) (outcome_reason h (leb-false (2 ^ 48) now t.0) (leb-false (2 ^ 48) c.phys t.1) room (read_frame frame) refl)
      ]
    ]
    | inr h ↦ rw h (plain 5 (other 5 (inl (omega arith))))
  ]

  settled_why : (n : ℕ) → 0 < n → (x : Served) → Reason x → (settle s c reply x).refusal ≡ n → Why n
  unfolding settle
  settled_why n l (done s' d m) r e = absurd (omega arith)
  settled_why n l (refused j) r e = rw (← e) r

  -- a call that is refused with more than 5
  call_why : (n : ℕ) → 5 < n → (handled s c now frame reply).refusal ≡ n → Why n
  unfolding handled
  call_why n l e = elim (test (ltb (length reply) max_frame)) [
    | inl p ↦ let a : ◌≡◌ {A = ℕ} 4 n = rw p at e in absurd (omega arith)
    | inr p ↦ settled_why n (omega arith) (serve_frame s c now frame) (frame_reason (ltb-false _ _ p)) (rw p at e)
  ]

  pub refused_7 : (handled s c now frame reply).refusal ≡ 7 → OvertakenWrite s c now frame reply
  refused_7 e = (call_why 7 (omega arith) e).overtakes refl

  pub refused_34 : (handled s c now frame reply).refusal ≡ 34 → BelowLineWrite s c now frame reply
  refused_34 e = (call_why 34 (omega arith) e).below refl

  pub refused_6 : (handled s c now frame reply).refusal ≡ 6 → FullWrite s c now frame reply
  refused_6 e = (call_why 6 (omega arith) e).full refl

-- ---- the other way
module _ (s : List ℕ) (c : Clock) (now : ℕ) (d : Clock) where
  settled_refusal : (frame reply : List ℕ) (m : Message) (n : ℕ) → Asks s c now frame reply m → (serve s c now m ≡ refused n) × (leb 16 (type_of m) ≡ false)
      → (handled s c now frame reply).refusal ≡ n
  unfolding settle
  settled_refusal frame reply m n a q = rw (passed_call s c now frame reply m a q.1, q.0)

  overtaken_write : (m : Message) (e h : Entry) → LocalWrite c now d m e → find e.key (entries_of s) ≡ some h → stamp_below h.stamp e.stamp ≡ false
      → (serve s c now m ≡ refused 7) × (leb 16 (type_of m) ≡ false)
  unfolding serve write_locally overtaken overtaken_by type_of
  overtaken_write _ _ h (a_put k v q) f b = (rw (q, f, b), refl)
  overtaken_write _ _ h (a_del k q) f b = (rw (q, f, b), refl)

pub overtaken_exactly : OvertakenExactly
overtaken_exactly s c now frame reply = (
  refused_7 s c now frame reply,
  λ w. settled_refusal s c now w.sent frame reply w.request 7 w.asks
      (overtaken_write s c now w.sent w.request w.entry w.held w.writes w.held_now w.not_below),
)

-- ---- 34 and 6: the key is not held, so the write is not overtaken, and its offer is refused
record TurnedAway (s : List ℕ) (e : Entry) (j : ℕ) : Type 0 where
  absent : find e.key (entries_of s) ≡ none
  offer : (d : Clock) → refusal_of e ≡ 0 → offered s d e ≡ refused j

module _ (s : List ℕ) (h : sound s ≡ true) (e : Entry) where
  below_absent : below_line (line_of s) (entries_of s) e ≡ true → find e.key (entries_of s) ≡ none
  unfolding below_line
  below_absent b =
      let held = is_held (find e.key (entries_of s)) in
      none_of (find e.key (entries_of s)) (not-true held (and-true (ltb e.stamp.phys (line_of s)) (not held) b).1)

  below_turned : below_line (line_of s) (entries_of s) e ≡ true → TurnedAway s e 34
  unfolding offered offer_answer offer_served
  below_turned b = record { absent = below_absent b; offer = λ d ok. rw (h, ok, b) }

  full_absent : slots_of s < length (put e (entries_of s)) → find e.key (entries_of s) ≡ none
  full_absent l =
      none_of (find e.key (entries_of s)) (false_of (is_held (find e.key (entries_of s))) (λ p.
      let n : length (put e (entries_of s)) ≡ length (entries_of s) = length-put e (entries_of s) (ordered s h) ∙ rw p in
      absurd (omega (arith, held_fits s h))))

  full_turned : below_line (line_of s) (entries_of s) e ≡ false → slots_of s < length (put e (entries_of s)) → TurnedAway s e 6
  unfolding offered offer_answer offer_served
  full_turned b l = record { absent = full_absent l; offer = λ d ok. rw (h, ok, b, lt-ltb (slots_of s) (length (put e (entries_of s))) l) }

-- the entry of a message that was read is acceptable, with the stamp of a clock
sent_ok : (k v : List ℕ) (f : ℕ) (d : Clock) → d.phys < 2 ^ 48 → bad_key k ≡ false → ltb 512 (length v) ≡ false
    → bad_flag (entry_of k v f (stamp_of d)) ≡ false → refusal_of (entry_of k v f (stamp_of d)) ≡ 0
unfolding refusal_of
sent_ok k v f d p kf vf ff = rw (lt-leb (2 ^ 48) d.phys p, kf, vf, ff)

module _ (s : List ℕ) (c : Clock) (now : ℕ) (d : Clock) (j : ℕ) where
  turned_local : (m : Message) (e : Entry) → LocalWrite c now d m e → message_refusal m ≡ 0 → TurnedAway s e j
      → (serve s c now m ≡ refused j) × (leb 16 (type_of m) ≡ false)
  unfolding serve write_locally overtaken overtaken_by type_of key_fault value_fault bad_flag
  turned_local _ _ (a_put k v q) z t =
      let f = taken (message.put k v) z in
      let ok = sent_ok k v 0 d (send_rises c d now q).timely f.key f.value refl in
      (rw (q, t.absent) (t.offer d ok), refl)
  turned_local _ _ (a_del k q) z t =
      let f = taken (message.del k) z in
      let ok = sent_ok k [] 1 d (send_rises c d now q).timely f.key refl refl in
      (rw (q, t.absent) (t.offer d ok), refl)

  turned_replica : (m : Message) (e : Entry) → Replica c now d m e → message_refusal m ≡ 0 → TurnedAway s e j
      → (serve s c now m ≡ refused j) × (leb 16 (type_of m) ≡ false)
  unfolding serve take_replica type_of
  turned_replica _ _ (a_repl e q) z t = (rw q (t.offer d (sym (repl_refusal e) ∙ z)), refl)

  turned_write : (m : Message) (e : Entry) → LocalWrite c now d m e ⊎ Replica c now d m e → message_refusal m ≡ 0 → TurnedAway s e j
      → (serve s c now m ≡ refused j) × (leb 16 (type_of m) ≡ false)
  turned_write m e (inl w) z t = turned_local m e w z t
  turned_write m e (inr w) z t = turned_replica m e w z t

turned_call : (s : List ℕ) (c : Clock) (now : ℕ) (frame reply : List ℕ) → Bytes frame → (j : ℕ) (m : Message) (d : Clock) (e : Entry)
    → Asks s c now frame reply m → LocalWrite c now d m e ⊎ Replica c now d m e → TurnedAway s e j → (handled s c now frame reply).refusal ≡ j
turned_call s c now frame reply bytes j m d e a w t =
    settled_refusal s c now d frame reply m j a (turned_write s c now d j m e w (read_is_taken frame m bytes a.reads).0 t)

pub below_line_exactly : BelowLineExactly
below_line_exactly s c now frame reply bytes = (
  refused_34 s c now frame reply,
  λ w. turned_call s c now frame reply bytes 34 w.request w.moved w.entry w.asks w.writes
      (below_turned s w.asks.is_sound w.entry w.below),
)

pub full_exactly : FullExactly
full_exactly s c now frame reply bytes = (
  refused_6 s c now frame reply,
  λ w. turned_call s c now frame reply bytes 6 w.request w.moved w.entry w.asks w.writes
      (full_turned s w.asks.is_sound w.entry w.not_below w.exceeds),
)

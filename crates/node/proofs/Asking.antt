-- What a request asks, apart from the store.
use Prim.Native.Nat.{ℕ, ◌^◌, ◌<◌}
use mathlib.Core.Path.{◌≡◌, refl, ap}
use mathlib.Core.Logic.{inl, inr}
use mathlib.Core.Bool.{◌||◌}
use mathlib.Core.List.{List, []}
use lib.ListN.{length}
use lib.Dec.{ltb, leb}
use Rattle.wire.specs.Number.{Bytes}
use Rattle.wire.proofs.Tests.{test}
use Rattle.entry.specs.Entry.{Entry, bad_time}
use Rattle.clock.specs.declared.Clock.{Clock}
use Rattle.clock.specs.Clock.{Stepped, send_step, receive_step}
use Rattle.clock.specs.Clock as clock
use Rattle.clock.proofs.Rising.{send_rises}
use Rattle.frame.specs.Message.{Message, message_refusal, InRange, key_fault}
use Rattle.frame.specs.Message as message
use Rattle.frame.specs.Layout.{max_frame}
use Rattle.frame.specs.Reading.{Outcome, type_in, read_frame}
use Rattle.frame.specs.Reading as reading
use Rattle.frame.proofs.Bodies.{taken}
use Rattle.frame.proofs.RoundTrips.{read_is_taken}
use Rattle.frame.proofs.ByType.{either}
use Rattle.node.specs.Handler.{write_locally, take_replica, serve, serve_outcome, serve_frame, settle, handled}
use Rattle.node.specs.Asked.{asked_locally, asked_replica, asked_by, asked_in, asked, answer_to}
use Rattle.node.specs.Meaning.{AnsweredAsAsked, AskedFits, EachAskedFits, ShortReplyRefused}

-- ---- the answer of a sound store
module _ (s : List ℕ) (c : Clock) where
  local_asked : (k v : List ℕ) (f : ℕ) (t : Stepped) → write_locally s k v f t ≡ answer_to s c (asked_locally k v f t)
  unfolding write_locally asked_locally answer_to
  local_asked k v f (clock.next d) = refl
  local_asked k v f (clock.refused n) = refl

  replica_asked : (e : Entry) (t : Stepped) → take_replica s e t ≡ answer_to s c (asked_replica e t)
  unfolding take_replica asked_replica answer_to
  replica_asked e (clock.next d) = refl
  replica_asked e (clock.refused n) = refl

  module _ (now : ℕ) where
    message_asked : (m : Message) → serve s c now m ≡ answer_to s c (asked_by c now m)
    unfolding serve asked_by answer_to
    message_asked (message.put k v) = local_asked k v 0 (send_step c now)
    message_asked (message.get k) = refl
    message_asked (message.del k) = local_asked k [] 1 (send_step c now)
    message_asked (message.repl e) = replica_asked e (receive_step c e.stamp.phys e.stamp.logical now)
    message_asked message.ok = refl
    message_asked (message.value v) = refl
    message_asked message.not_found = refl
    message_asked (message.err n) = refl

    outcome_asked : (o : Outcome) → serve_outcome s c now o ≡ answer_to s c (asked_in c now o)
    unfolding serve_outcome asked_in answer_to
    outcome_asked (reading.message m) = message_asked m
    outcome_asked (reading.refused n) = refl

pub answered_as_asked : AnsweredAsAsked
unfolding handled serve_frame asked answer_to
answered_as_asked s c now frame reply h room = elim (test (bad_time now || bad_time c.phys)) [
  | inl p ↦ rw (room, h, p)
  | inr p ↦ elim (test (leb 16 (type_in frame))) [
    | inl q ↦ rw (room, h, p, q)
    | inr q ↦ rw (room, h, p, q) (ap (settle s c reply) (outcome_asked s c now (read_frame frame)))
  ]
]

pub short_reply_refused : ShortReplyRefused
unfolding asked handled
short_reply_refused s c now frame reply h = (rw h, rw h)

-- ---- what is asked fits
module _ (c : Clock) (now : ℕ) (n : c.node < 2 ^ 8) where
  local_fits : (k v : List ℕ) (f : ℕ) (t : Stepped) → send_step c now ≡ t → AskedFits (asked_locally k v f t)
  unfolding asked_locally
  local_fits k v f (clock.next d) q = let r = send_rises c d now q in record { logical = r.logical; node = rw r.node n }
  local_fits k v f (clock.refused j) q = tt

  replica_fits : (e : Entry) → InRange (message.repl e) → (t : Stepped) → AskedFits (asked_replica e t)
  unfolding asked_replica
  replica_fits e i (clock.next d) = record { logical = i.0; node = i.1 }
  replica_fits e i (clock.refused j) = tt

  message_fits : (m : Message) → message_refusal m ≡ 0 → InRange m → AskedFits (asked_by c now m)
  unfolding asked_by key_fault
  message_fits (message.put k v) z i = local_fits k v 0 (send_step c now) refl
  message_fits (message.get k) z i = (taken (message.get k) z).key
  message_fits (message.del k) z i = local_fits k [] 1 (send_step c now) refl
  message_fits (message.repl e) z i = replica_fits e i (receive_step c e.stamp.phys e.stamp.logical now)
  message_fits message.ok z i = tt
  message_fits (message.value v) z i = tt
  message_fits message.not_found z i = tt
  message_fits (message.err j) z i = tt

  outcome_fits : (frame : List ℕ) → Bytes frame → (o : Outcome) → read_frame frame ≡ o → AskedFits (asked_in c now o)
  unfolding asked_in
  outcome_fits frame bytes (reading.message m) q = let r = read_is_taken frame m bytes q in message_fits m r.0 r.1
  outcome_fits frame bytes (reading.refused j) q = tt

pub each_asked_fits : EachAskedFits
unfolding asked
each_asked_fits c now frame reply bytes n =
    either AskedFits (ltb (length reply) max_frame) _ _ tt
    (either AskedFits (bad_time now || bad_time c.phys) _ _ tt
    (either AskedFits (leb 16 (type_in frame)) _ _ tt
    (outcome_fits c now n frame bytes (read_frame frame) refl)))

-- Every reply of the handler reads back as a message.
use Prim.Native.Nat.{ℕ, ◌^◌, ◌≤◌}
use native.Mathlib.Omega.{arith}
use mathlib.Core.Path.{◌≡◌, refl, ap, ◌∙◌}
use mathlib.Core.Logic.{inl, inr}
use mathlib.Core.Bool.{true, not, ◌||◌}
use mathlib.Core.List.{List, []}
use mathlib.Core.Option.{Option, none, some}
use lib.ListN.{length, take, drop}
use lib.Seq.{take_at}
use lib.Dec.{ltb, leb, eqb}
use borrow.Author.Tests.{eqb-false, le-ltb}
use Rattle.wire.proofs.Tests.{test}
use Rattle.entry.specs.Key.{bad_key}
use Rattle.entry.specs.declared.Refusal.TheVariants as refusal
use Rattle.entry.specs.Refusal.{Numbered}
use Rattle.entry.specs.Entry.{Entry, entry_of, beats, bad_flag, refusal_of, bad_time}
use Rattle.clock.specs.declared.Clock.{Clock}
use Rattle.clock.specs.Clock.{Stepped, stamp_of, send_step, receive_step}
use Rattle.clock.specs.Clock as clock
use Rattle.clock.proofs.Steps.{StepNumbered, step_numbered, send_numbered, receive_numbered}
use Rattle.std.specs.Prelude.{Result, Ok, Err}
use Rattle.entry.specs.declared.Refusal.{Refusal}
use Rattle.frame.specs.declared.answer.Message.{Message as Located}
use Rattle.frame.specs.Message.{Message, message_refusal, InRange}
use Rattle.frame.specs.Message as message
use Rattle.frame.specs.Layout.{max_frame, frame_of}
use Rattle.frame.specs.Reading.{Outcome, meaning, type_in, read_answer, read_frame}
use Rattle.frame.specs.Reading as reading
use Rattle.frame.proofs.Bodies.{value_taken}
use Rattle.frame.proofs.ByType.{either}
use Rattle.frame.proofs.RoundTrips.{frame_at_most_600, written_reads_back}
use Rattle.image.specs.Image.{slots_of, line_of, entries_of, sound}
use Rattle.store.specs.Held.{put, find, below_line, index_of}
use Rattle.store.specs.Answer.{Answer}
use Rattle.store.specs.Answer as answer
use Rattle.store.specs.Offer.{told, offer_answer, after_offer}
use Rattle.store.specs.Overtaken.{overtaken}
use Rattle.store.specs.Lookup.{Finding, finding_for, lookup_answer, value_part}
use Rattle.store.specs.Lookup as lookup
use Rattle.node.specs.Handler.{Served, done, refused, offer_served, offered, write_locally, take_replica, gets, serve, serve_outcome, serve_frame, over}
use Rattle.node.specs.Handler.{settle, handled}
use Rattle.node.specs.Meaning.{ReadsBack, ReplyReadsBack, ReplyAtMost600}
use Rattle.node.proofs.Replying.{ok_taken, not_found-taken, refusal_taken}
use Rattle.node.proofs.Serving.{value_fits}

-- ---- the store's refusals
abbrev pub AnswerNumbered : Answer → Type 0
AnswerNumbered answer.stored = Unit {0}
AnswerNumbered answer.replaced = Unit {0}
AnswerNumbered answer.kept = Unit {0}
AnswerNumbered (answer.merged n) = Unit {0}
AnswerNumbered (answer.purged n) = Unit {0}
AnswerNumbered (answer.refused n) = Numbered n

told_numbered : (e : Entry) (o : Option Entry) → AnswerNumbered (told e o)
unfolding told
told_numbered e none = tt
told_numbered e (some h) = either AnswerNumbered (beats e h) _ _ tt tt

-- an entry is refused with a number, or not at all
refusal_numbered : (e : Entry) → (refusal_of e ≡ 0 → ⊥) → Numbered (refusal_of e)
unfolding refusal_of
refusal_numbered e =
    let P : ℕ → Type 0 = λ n. (n ≡ 0 → ⊥) → Numbered n in
    either P (leb (2 ^ 48) e.stamp.phys) 9 _ (λ z. (refusal.BadTime, refl))
    (either P (bad_key e.key) 1 _ (λ z. (refusal.BadKey, refl))
    (either P (ltb 512 (length e.value)) 2 _ (λ z. (refusal.ValueTooLarge, refl))
    (either P (bad_flag e) 17 0 (λ z. (refusal.BadArgument, refl)) (λ z. absurd (z refl)))))

pub offer_numbered : (s : List ℕ) (e : Entry) → AnswerNumbered (offer_answer s e)
unfolding offer_answer
offer_numbered s e = either AnswerNumbered (not (sound s)) _ _ (refusal.BadStore, refl) (elim (test (eqb (refusal_of e) 0)) [
  | inl p ↦ rw p
      (either AnswerNumbered (below_line (line_of s) (entries_of s) e) _ _ (refusal.BelowLine, refl)
      (either AnswerNumbered (ltb (slots_of s) (length (put e (entries_of s)))) _ _ (refusal.StoreFull, refl)
      (told_numbered e (find e.key (entries_of s)))))
  | inr p ↦ rw p (refusal_numbered e (eqb-false (refusal_of e) 0 p))
])

abbrev pub FindingNumbered : Finding → Type 0
FindingNumbered (lookup.value at len) = Unit {0}
FindingNumbered lookup.deleted = Unit {0}
FindingNumbered lookup.never = Unit {0}
FindingNumbered (lookup.refused n) = Numbered n × (n ≤ 5)

finding_numbered : (i : ℕ) (o : Option Entry) → FindingNumbered (finding_for i o)
unfolding finding_for
finding_numbered i none = tt
finding_numbered i (some h) = either FindingNumbered (eqb h.flag 1) _ _ tt tt

pub lookup_numbered : (s k : List ℕ) → FindingNumbered (lookup_answer s k)
unfolding lookup_answer
lookup_numbered s k = either FindingNumbered (not (sound s)) _ _ ((refusal.BadStore, refl), omega arith)
    (either FindingNumbered (bad_key k) _ _ ((refusal.BadKey, refl), omega arith) (finding_numbered (index_of k (entries_of s)) (find k (entries_of s))))

-- ---- the reader's refusals
abbrev OutcomeNumbered : Outcome → Type 0
OutcomeNumbered (reading.message m) = Unit {0}
OutcomeNumbered (reading.refused n) = Numbered n

meaning_numbered : (s : List ℕ) (r : Result Located Refusal) → OutcomeNumbered (meaning s r)
meaning_numbered s (Ok m) = tt
meaning_numbered s (Err r) = (r, refl)

read_numbered : (s : List ℕ) → OutcomeNumbered (read_frame s)
unfolding read_frame
read_numbered s = meaning_numbered s (read_answer s)

-- ---- a request's outcome: a message that a writer takes, or a refusal with its number
abbrev pub Tellable : Served → Type 0
Tellable (done s c m) = (message_refusal m ≡ 0) × InRange m
Tellable (refused n) = Numbered n

module _ (s : List ℕ) where
  offer_tellable : (c : Clock) (a : Answer) → AnswerNumbered a → Tellable (offer_served s c a)
  unfolding offer_served
  offer_tellable c answer.stored n = (ok_taken, tt)
  offer_tellable c answer.replaced n = (ok_taken, tt)
  offer_tellable c answer.kept n = (ok_taken, tt)
  offer_tellable c (answer.merged j) n = (ok_taken, tt)
  offer_tellable c (answer.purged j) n = (ok_taken, tt)
  offer_tellable c (answer.refused j) n = n

module _ (s : List ℕ) where
  offered_tellable : (c : Clock) (e : Entry) → Tellable (offered s c e)
  unfolding offered
  offered_tellable c e = offer_tellable (after_offer s e) c (offer_answer s e) (offer_numbered s e)

  write_tellable : (k v : List ℕ) (f : ℕ) (t : Stepped) → StepNumbered t → Tellable (write_locally s k v f t)
  unfolding write_locally
  write_tellable k v f (clock.next c) n =
      either Tellable (overtaken s k (stamp_of c)) _ _ (refusal.Overtaken, refl) (offered_tellable c (entry_of k v f (stamp_of c)))
  write_tellable k v f (clock.refused j) n = step_numbered j n

  replica_tellable : (e : Entry) (t : Stepped) → StepNumbered t → Tellable (take_replica s e t)
  unfolding take_replica
  replica_tellable e (clock.next c) n = offered_tellable c e
  replica_tellable e (clock.refused j) n = step_numbered j n

  gets_tellable : (c : Clock) (v : List ℕ) (x : Finding) → length v ≤ 512 → FindingNumbered x → Tellable (gets s c v x)
  unfolding gets
  gets_tellable c v (lookup.value at len) l n = (value_taken v l, tt)
  gets_tellable c v lookup.deleted l n = (not_found-taken, tt)
  gets_tellable c v lookup.never l n = (not_found-taken, tt)
  gets_tellable c v (lookup.refused j) l n = n.0

  module _ (h : sound s ≡ true) (c : Clock) (now : ℕ) where
    serve_tellable : (m : Message) → Tellable (serve s c now m)
    unfolding serve
    serve_tellable (message.put k v) = write_tellable k v 0 (send_step c now) (send_numbered c now)
    serve_tellable (message.get k) = gets_tellable c (value_part s k) (lookup_answer s k) (value_fits s h k) (lookup_numbered s k)
    serve_tellable (message.del k) = write_tellable k [] 1 (send_step c now) (send_numbered c now)
    serve_tellable (message.repl e) =
        replica_tellable e (receive_step c e.stamp.phys e.stamp.logical now) (receive_numbered c e.stamp.phys e.stamp.logical now)
    serve_tellable message.ok = (refusal.BadFrame, refl)
    serve_tellable (message.value v) = (refusal.BadFrame, refl)
    serve_tellable message.not_found = (refusal.BadFrame, refl)
    serve_tellable (message.err n) = (refusal.BadFrame, refl)

    outcome_tellable : (o : Outcome) → OutcomeNumbered o → Tellable (serve_outcome s c now o)
    unfolding serve_outcome
    outcome_tellable (reading.message m) n = serve_tellable m
    outcome_tellable (reading.refused j) n = n

  pub frame_tellable : (c : Clock) (now : ℕ) (frame : List ℕ) → Tellable (serve_frame s c now frame)
  unfolding serve_frame
  frame_tellable c now frame = elim (test (sound s)) [
    | inl h ↦ rw h
        (either Tellable (bad_time now || bad_time c.phys) _ _ (refusal.BadTime, refl)
        (either Tellable (leb 16 (type_in frame)) _ _ (refusal.BadFrame, refl)
        (outcome_tellable h c now (read_frame frame) (read_numbered frame))))
    | inr h ↦ rw h (refusal.BadStore, refl)
  ]

-- ---- the whole call
err_numbered : (n : ℕ) → Numbered n → message_refusal (message.err n) ≡ 0
err_numbered n h = rw h.1 at (refusal_taken h.0)

written_reads : (m : Message) (reply : List ℕ) → message_refusal m ≡ 0 → InRange m
    → read_frame (take (length (frame_of m)) (over (frame_of m) reply)) ≡ reading.message m
unfolding over
written_reads m reply t i = ap read_frame (take_at (frame_of m) (drop (length (frame_of m)) reply) (length (frame_of m)) refl) ∙ written_reads_back m t i

settled_reads : (s : List ℕ) (c : Clock) (reply : List ℕ) (x : Served) → Tellable x → ReadsBack (settle s c reply x)
unfolding settle
settled_reads s c reply (done s' c' m) t =
    record { says = m; reads = written_reads m reply t.0 t.1; numbered = inl refl; tells = λ h. absurd (h refl) }
settled_reads s c reply (refused n) t =
    record { says = message.err n; reads = written_reads (message.err n) reply (err_numbered n t) tt; numbered = inr t; tells = λ h. refl }

pub reply_reads_back : ReplyReadsBack
unfolding handled
reply_reads_back s c now frame reply room =
    rw (le-ltb (length reply) max_frame room) (settled_reads s c reply (serve_frame s c now frame) (frame_tellable s c now frame))

settled_short : (s : List ℕ) (c : Clock) (reply : List ℕ) (x : Served) → Tellable x → (settle s c reply x).written ≤ max_frame
unfolding settle
settled_short s c reply (done s' c' m) t = frame_at_most_600 m t.0
settled_short s c reply (refused n) t = frame_at_most_600 (message.err n) (err_numbered n t)

pub reply_at_most_600 : ReplyAtMost600
unfolding handled
reply_at_most_600 s c now frame reply = elim (test (ltb (length reply) max_frame)) [
  | inl p ↦ rw p (omega arith)
  | inr p ↦ rw p (settled_short s c reply (serve_frame s c now frame) (frame_tellable s c now frame))
]

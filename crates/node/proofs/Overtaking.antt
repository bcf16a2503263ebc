-- A local write is overtaken only by what came from far ahead; and what an accepted one passes.
use Prim.Native.Nat.{ℕ, ◌+◌, ◌^◌, ◌<◌}
use native.Mathlib.Omega.{arith}
use mathlib.Core.Path.{◌≡◌, refl, sym, ap, ◌∙◌}
use mathlib.Core.Logic.{◌⊎◌, inl, inr}
use mathlib.Core.Bool.{true, false}
use mathlib.Core.List.Memᴰ.{not-nil as mem-nil}
use mathlib.Core.List.{List, [], ◌∷◌, ◌++◌}
use mathlib.Core.Option.{Option, none, some}
use lib.Dec.{ltb}
use borrow.Author.Tests.{ltb-true, ltb-false, not-false}
use Rattle.wire.specs.Number.{Bytes}
use Rattle.wire.proofs.Tests.{test, clash}
use Rattle.entry.specs.declared.Stamp.{Stamp}
use Rattle.entry.specs.Order.{stamp_below}
use Rattle.entry.specs.Entry.{Entry, entry_of, beats}
use Rattle.entry.proofs.Order.{stamp_order_by_field, stamp_below_trans, stamp_below_tied}
use Rattle.entry.proofs.EntryOrder.{beats_irrefl}
use Rattle.clock.specs.declared.Clock.{Clock}
use Rattle.clock.specs.Clock.{stamp_of, send_step}
use Rattle.clock.specs.Clock as clock
use Rattle.clock.specs.Calls.{Call, send, receive, step_of, after_calls, Met, gave, took, PairBelow}
use Rattle.clock.proofs.Rising.{send_reaches}
use Rattle.clock.proofs.Calls.{after-append, every_send_passes_from_any}
use Rattle.frame.specs.Message.{Message}
use Rattle.frame.specs.Message as message
use Rattle.frame.specs.Reading.{read_frame}
use Rattle.frame.specs.Reading as reading
use Rattle.image.specs.Image.{entries_of, sound}
use Rattle.store.specs.Held.{◌∈◌, find}
use Rattle.store.specs.Overtaken.{overtaken_by, overtaken}
use Rattle.store.proofs.HeldLaws.{mem-put, find-mem, find_some}
use Rattle.store.proofs.OnSound.{ordered}
use Rattle.store.proofs.Keeping.{fresh_keeps}
use Rattle.node.specs.Handler.{Served, done, write_locally, serve}
use Rattle.node.specs.Meaning.{LocalWrite, a_put, a_del, Replica, a_repl, StillHeld, OvertakenWrite, held_after}
use Rattle.node.specs.Overtaking.{Module, Request, result, after_request, after_requests, fresh_module, FramesOfBytes, Brings, Makes, Among}
use Rattle.node.specs.Overtaking.{BringsAmong, MakesAmong, AcceptedWriteMakes, OvertakenUntilPast, OvertakenOnlyFromFarAhead}
use Rattle.node.proofs.Deeds.{Received, LocallyWrote, replica_done, write_done}
use Rattle.node.proofs.Audit.{still, written}
use Rattle.node.proofs.Calls.{served_call, call_deed}
use Rattle.node.proofs.WholeCalls.{same_message, wrote_keeps, clock_never_lowered, accepted_replica_is_held}
use Rattle.node.proofs.Exactly.{refused_7}

-- ---- lists of requests
after_all_lem : (rs qs : List Request) (m : Module) → after_requests m (rs ++ qs) ≡ after_requests (after_requests m rs) qs
unfolding after_requests
after_all_lem [] qs m = refl
after_all_lem (r ∷ rs) qs m = after_all_lem rs qs (after_request m r)

split : (m : Module) (before : List Request) (this : Request) (later : List Request)
    → after_requests (after_request (after_requests m before) this) later ≡ after_requests m (before ++ this ∷ later)
unfolding after_requests
split m before this later = sym (after_all_lem before (this ∷ later) m)

-- a request behind one more
behind : (r : Request) (rs : List Request) (m : Module) (P : Module → Request → Type 0) → Among (after_request m r) rs P → Among m (r ∷ rs) P
unfolding after_requests
behind r rs m P a = record { before = r ∷ a.before; this = a.this; later = a.later; place = ap (λ (x : List Request). r ∷ x) a.place; holds = a.holds }

first : (r : Request) (rs : List Request) (m : Module) (P : Module → Request → Type 0) → P m r → Among m (r ∷ rs) P
unfolding after_requests
first r rs m P h = record { before = []; this = r; later = rs; place = refl; holds = h }

-- ---- the calls on the clock
-- calls that lead from one clock to another
record Leads (c d : Clock) : Type 0 where
  calls : List Call
  to : after_calls c calls ≡ d

by_one : (c d : Clock) (x : Call) → step_of c x ≡ clock.next d → Leads c d
unfolding after_calls
by_one c d x e = record { calls = x ∷ []; to = rw e }

by_write : (c d : Clock) (now : ℕ) (m : Message) (e : Entry) → LocalWrite c now d m e ⊎ Replica c now d m e → Leads c d
unfolding step_of
by_write c d now _ _ (inl (a_put k v q)) = by_one c d (send now) q
by_write c d now _ _ (inl (a_del k q)) = by_one c d (send now) q
by_write c d now _ _ (inr (a_repl e q)) = by_one c d (receive e.stamp.phys e.stamp.logical now) q

request_leads : (m : Module) (r : Request) → Leads m.clock (after_request m r).clock
unfolding after_request after_calls
request_leads m r = elim (call_deed m.store m.clock r.now r.frame r.reply) [
  | inl q ↦ record { calls = []; to = sym q.1 }
  | inr w ↦ by_write m.clock (result m r).clock r.now w.asks w.offers.entry w.offers.writes
]

requests_lead : (rs : List Request) (m : Module) → Leads m.clock (after_requests m rs).clock
unfolding after_requests after_calls
requests_lead [] m = record { calls = []; to = refl }
requests_lead (r ∷ rs) m =
    let a = request_leads m r in
    let b = requests_lead rs (after_request m r) in
    record { calls = a.calls ++ b.calls; to = after-append a.calls b.calls m.clock ∙ ap (λ (c : Clock). after_calls c b.calls) a.to ∙ b.to }

-- one call between two lists of them
through : (xs ys : List Call) (x : Call) (b c d e : Clock) → after_calls b xs ≡ c → step_of c x ≡ clock.next d → after_calls d ys ≡ e
    → after_calls b (xs ++ x ∷ ys) ≡ e
unfolding after_calls
through xs ys x b c d e p q r = after-append xs (x ∷ ys) b ∙ rw (p, q) r

-- what the clock met with one of the requests is below what a send after all of them gives
met_passed : (m : Module) (before : List Request) (this : Request) (later : List Request) (x : Call) (p l : ℕ)
    → step_of (after_requests m before).clock x ≡ clock.next (after_request (after_requests m before) this).clock
    → Met (after_requests m before).clock x p l
    → (now : ℕ) (d : Clock) → send_step (after_requests m (before ++ this ∷ later)).clock now ≡ clock.next d → PairBelow p l d.phys d.logical
met_passed m before this later x p l q met now d e =
    let n = after_requests m before in
    let a = requests_lead before m in
    let b = requests_lead later (after_request n this) in
    let end : after_calls (after_request n this).clock b.calls ≡ (after_requests m (before ++ this ∷ later)).clock =
    b.to ∙ ap (λ (k : Module). k.clock) (split m before this later) in
    let to = through a.calls b.calls x m.clock n.clock (after_request n this).clock _ a.to q end in
    every_send_passes_from_any m.clock a.calls x b.calls p l now d (rw a.to met) (rw to e)

-- ---- a stamp that was met does not overtake
-- what an accepted REPL did
brings_received : (m : Module) (r : Request) (e : Entry) → Brings m r e → Received m.store m.clock r.now e (result m r).store (result m r).clock
unfolding serve
brings_received m r e b =
    let k = served_call m.store m.clock r.now r.frame r.reply b.accepted in
    replica_done m.store m.clock r.now e (result m r).store (result m r).clock k.says
    (ap (serve m.store m.clock r.now) (same_message b.reads k.reads) ∙ k.is)

-- a local write sends the clock, and has its stamp
local_sends : (c d : Clock) (now : ℕ) (m : Message) (e : Entry) → LocalWrite c now d m e → (send_step c now ≡ clock.next d) × (e.stamp ≡ stamp_of d)
local_sends c d now _ _ (a_put k v q) = (q, refl)
local_sends c d now _ _ (a_del k q) = (q, refl)

below_stamp : (s t : Stamp) → PairBelow s.phys s.logical t.phys t.logical → stamp_below s t ≡ true
below_stamp s t (inl h) = (stamp_order_by_field s t).1 (inl h)
below_stamp s t (inr h) = (stamp_order_by_field s t).1 (inr (inl h))

-- the module has had e: it was held before the requests, or one of them brings or makes it
abbrev HasHad : Module → List Request → Entry → Type 0
HasHad m requests e = (e ∈ entries_of m.store) ⊎ BringsAmong m requests e ⊎ MakesAmong m requests e

module _ (m : Module) (requests : List Request) (r : Request) where
  abbrev now_on : Module
  now_on = after_requests m requests

  module _ (w : OvertakenWrite now_on.store now_on.clock r.now r.frame r.reply) where
    -- the pair of a write that is overtaken is not above that of the held entry
    not_passed : PairBelow w.held.stamp.phys w.held.stamp.logical w.sent.phys w.sent.logical → ⊥
    not_passed h =
        let s = (local_sends now_on.clock w.sent r.now w.request w.entry w.writes).1 in
        clash (rw s (below_stamp w.held.stamp (stamp_of w.sent) h)) w.not_below

    sends : send_step now_on.clock r.now ≡ clock.next w.sent
    sends = (local_sends now_on.clock w.sent r.now w.request w.entry w.writes).0

    brought_far_ahead : (b : BringsAmong m requests w.held) → b.this.now + 2000 < w.held.stamp.phys
    unfolding step_of after_request
    brought_far_ahead b = elim (test (ltb (b.this.now + 2000) w.held.stamp.phys)) [
      | inl p ↦ ltb-true _ _ p
      | inr p ↦
          let n = after_requests m b.before in
          let s = w.held.stamp in
          let q = (brings_received n b.this w.held b.holds).step in
          let met = took s.phys s.logical b.this.now (result n b.this).clock q (ltb-false _ _ p) in
          absurd (not_passed (met_passed m b.before b.this b.later (receive s.phys s.logical b.this.now) s.phys s.logical q met
          r.now w.sent (rw b.place at sends)))
    ]

    made_not : MakesAmong m requests w.held → ⊥
    unfolding step_of after_request
    made_not a =
        let n = after_requests m a.before in
        let k = local_sends n.clock (result n a.this).clock a.this.now a.holds.asks w.held a.holds.writes in
        let met = gave a.this.now (result n a.this).clock k.0 in
        let d = (result n a.this).clock in
        not_passed (rw k.1 (met_passed m a.before a.this a.later (send a.this.now) d.phys d.logical k.0 met
        r.now w.sent (rw a.place at sends)))

    -- the held entry came by a REPL, if the module held nothing at first
    brought : entries_of m.store ≡ [] → HasHad m requests w.held → BringsAmong m requests w.held
    brought q (inl i) = absurd (mem-nil (rw q at i))
    brought q (inr (inl b)) = b
    brought q (inr (inr a)) = absurd (made_not a)

-- ---- when a write is not overtaken
pub overtaken_until_past : OvertakenUntilPast
overtaken_until_past s c now frame reply w =
    let k = local_sends c w.sent now w.request w.entry w.writes in
    let h = w.held.stamp in
    let g = send_reaches c w.sent now k.0 in
    elim (test (ltb h.phys now)) [
      | inl q ↦
          let l = ltb-true h.phys now q in
          clash (rw k.1 ((stamp_order_by_field h (stamp_of w.sent)).1 (inl (omega (arith, l, g))))) w.not_below
      | inr q ↦ ltb-false _ _ q
    ]

-- ---- where a held entry came from
request_origin : (m : Module) (r : Request) → m.clock.node < 2 ^ 8 → Bytes r.frame → (e : Entry) → e ∈ entries_of (result m r).store
    → e ∈ entries_of m.store ⊎ Brings m r e ⊎ Makes m r e
request_origin m r n bytes e h = elim (call_deed m.store m.clock r.now r.frame r.reply) [
  | inl q ↦ inl (rw q.0 at h)
  | inr w ↦
      let k = wrote_keeps m.store m.clock r.now r.frame r.reply bytes n w in
      elim (mem-put w.offers.entry (entries_of m.store) (rw k.holds at h)) [
        | inl q ↦ inr (rw q (by w.accepted w.asks w.reads w.offers.entry w.offers.writes))
        | inr i ↦ inl i
      ]
]
  where
    by : (result m r).refusal ≡ 0 → (asks : Message) → read_frame r.frame ≡ reading.message asks → (e : Entry)
        → LocalWrite m.clock r.now (result m r).clock asks e ⊎ Replica m.clock r.now (result m r).clock asks e → Brings m r e ⊎ Makes m r e
    by z asks reads e (inl l) = inr (record { accepted = z; asks = asks; reads = reads; writes = l })
    by z _ reads _ (inr (a_repl e q)) = inl (record { accepted = z; reads = reads })

node_stays : (m : Module) (r : Request) → m.clock.node < 2 ^ 8 → (after_request m r).clock.node < 2 ^ 8
unfolding after_request
node_stays m r n = rw (clock_never_lowered m.store m.clock r.now r.frame r.reply).node n

origin : (rs : List Request) (m : Module) → m.clock.node < 2 ^ 8 → FramesOfBytes rs → (e : Entry) → e ∈ entries_of (after_requests m rs).store
    → HasHad m rs e
unfolding after_request after_requests
origin [] m n bytes e h = inl h
origin (r ∷ rs) m n bytes e h = go (origin rs (after_request m r) (node_stays m r n) bytes.1 e h)
  where
    at_first : e ∈ entries_of m.store ⊎ Brings m r e ⊎ Makes m r e → HasHad m (r ∷ rs) e
    at_first (inl i) = inl i
    at_first (inr (inl b)) = inr (inl (first r rs m (λ k q. Brings k q e) b))
    at_first (inr (inr a)) = inr (inr (first r rs m (λ k q. Makes k q e) a))

    go : HasHad (after_request m r) rs e → HasHad m (r ∷ rs) e
    go (inl i) = at_first (request_origin m r n bytes.0 e i)
    go (inr (inl b)) = inr (inl (behind r rs m (λ k q. Brings k q e) b))
    go (inr (inr a)) = inr (inr (behind r rs m (λ k q. Makes k q e) a))

pub overtaken_only_from_far_ahead : OvertakenOnlyFromFarAhead
overtaken_only_from_far_ahead slots node requests r lo hi n bytes z =
    let m = fresh_module slots node in
    let t = after_requests m requests in
    let w = refused_7 t.store t.clock r.now r.frame r.reply z in
    let held = (find_some w.entry.key (entries_of t.store) w.held_now).0 in
    record {
      write = w;
      came = brought m requests r w (fresh_keeps slots lo hi).3 (origin requests m n bytes w.held held);
      far_ahead = brought_far_ahead m requests r w;
      not_made = made_not m requests r w;
    }

-- ---- what an accepted request leaves
-- a REPL of e leaves an entry of its key that e does not beat
held_not_beaten : (e : Entry) (o : Option Entry) → beats e (held_after e o) ≡ false
held_not_beaten e none = beats_irrefl e
held_not_beaten e (some h) = elim (test (beats e h)) [ inl p ↦ rw p (beats_irrefl e) | inr p ↦ rw p p ]

pub brings_still : (m : Module) (r : Request) (e : Entry) → Bytes r.frame → Brings m r e → StillHeld e (entries_of (result m r).store)
brings_still m r e bytes b =
    let o = find e.key (entries_of m.store) in
    let f = accepted_replica_is_held m.store m.clock r.now r.frame r.reply e bytes b.reads b.accepted in
    still e (entries_of (result m r).store) (held_after e o) f (held_not_beaten e o)

pub accepted_write_makes : AcceptedWriteMakes
unfolding serve
accepted_write_makes m r a = (
  λ k v q. record { accepted = a; asks = message.put k v; reads = q; writes = a_put k v (wrote (message.put k v) q k v 0 (λ x. x)).step },
  λ k q. record { accepted = a; asks = message.del k; reads = q; writes = a_del k (wrote (message.del k) q k [] 1 (λ x. x)).step },
)
  where
    c : Served
    c = done (result m r).store (result m r).clock (served_call m.store m.clock r.now r.frame r.reply a).says

    wrote : (asks : Message) → read_frame r.frame ≡ reading.message asks → (k v : List ℕ) (f : ℕ)
        → (serve m.store m.clock r.now asks ≡ c → write_locally m.store k v f (send_step m.clock r.now) ≡ c)
        → LocallyWrote m.store m.clock r.now k v f (result m r).store (result m r).clock
    wrote asks q k v f is =
        let s = served_call m.store m.clock r.now r.frame r.reply a in
        write_done m.store m.clock r.now k v f (result m r).store (result m r).clock s.says
        (is (ap (serve m.store m.clock r.now) (same_message q s.reads) ∙ s.is))

-- what a PUT or a DEL did
pub record Wrote (m : Module) (r : Request) (e : Entry) : Type 0 where
  pub did : LocallyWrote m.store m.clock r.now e.key e.value e.flag (result m r).store (result m r).clock
  pub stamp : stamp_of (result m r).clock ≡ e.stamp
  pub is_sound : sound m.store ≡ true

pub makes_wrote : (m : Module) (r : Request) (e : Entry) → Makes m r e → Wrote m r e
unfolding serve
makes_wrote m r e a =
    let k = served_call m.store m.clock r.now r.frame r.reply a.accepted in
    let is = ap (serve m.store m.clock r.now) (same_message a.reads k.reads) ∙ k.is in
    go k.is_sound k.says a.asks e a.writes is
  where
    go : sound m.store ≡ true → (says asks : Message) (e : Entry) → LocalWrite m.clock r.now (result m r).clock asks e
        → serve m.store m.clock r.now asks ≡ done (result m r).store (result m r).clock says → Wrote m r e
    go h says _ _ (a_put k v t) q = record {
      did = write_done m.store m.clock r.now k v 0 (result m r).store (result m r).clock says q;
      stamp = refl;
      is_sound = h;
    }
    go h says _ _ (a_del k t) q = record {
      did = write_done m.store m.clock r.now k [] 1 (result m r).store (result m r).clock says q;
      stamp = refl;
      is_sound = h;
    }

-- its entry is held
pub wrote_held : (m : Module) (r : Request) (e : Entry) → m.clock.node < 2 ^ 8 → Wrote m r e → find e.key (entries_of (result m r).store) ≡ some e
wrote_held m r e n w =
    let h = written m.store w.is_sound m.clock n r.now e.key e.value e.flag (result m r).store (result m r).clock w.did in
    h.held ∙ ap (λ (t : Stamp). some (entry_of e.key e.value e.flag t)) w.stamp

-- what is above a stamp is above each that this one is not below
above_both : (s t u : Stamp) → stamp_below t s ≡ false → stamp_below t u ≡ true → stamp_below s u ≡ true
above_both s t u a b = elim (test (stamp_below s t)) [
  | inl p ↦ stamp_below_trans s t u p b
  | inr p ↦ rw (stamp_below_tied s t p a) b
]

not_overtaken : (o : Option Entry) (g : Entry) (t : Stamp) → o ≡ some g → overtaken_by o t ≡ false → stamp_below g.stamp t ≡ true
unfolding overtaken_by
not_overtaken o g t q z = not-false (stamp_below g.stamp t) (rw q at z)

-- and has a stamp above that of each entry of its key that does not beat the one held before
pub wrote_passes : (m : Module) (r : Request) (e made : Entry) → StillHeld e (entries_of m.store) → Wrote m r made → made.key ≡ e.key
    → stamp_below e.stamp made.stamp ≡ true
unfolding overtaken
wrote_passes m r e made o w q =
    let g = o.entry in
    let f = ap (λ (k : List ℕ). find k (entries_of m.store)) (q ∙ o.same_key)
    ∙ find-mem (entries_of m.store) (ordered m.store w.is_sound) o.held in
    let above = not_overtaken (find made.key (entries_of m.store)) g (stamp_of (result m r).clock) f w.did.above in
    above_both e.stamp g.stamp made.stamp o.not_lower (rw w.stamp at above)

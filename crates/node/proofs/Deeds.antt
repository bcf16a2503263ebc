-- What a served request did.
use Prim.Native.Nat.{ℕ, ◌^◌, ◌<◌}
use mathlib.Core.Path.{◌≡◌, refl}
use mathlib.Core.Logic.{◌⊎◌, inl, inr}
use mathlib.Core.Bool.{false}
use mathlib.Core.List.{List, []}
use Rattle.wire.proofs.Tests.{test, never}
use Rattle.entry.specs.Entry.{Entry, entry_of}
use Rattle.clock.specs.declared.Clock.{Clock}
use Rattle.clock.specs.Clock.{Stepped, stamp_of, send_step, receive_step}
use Rattle.clock.specs.Clock as clock
use Rattle.clock.specs.Meaning.{Rises}
use Rattle.clock.proofs.Rising.{send_rises, receive_rises}
use Rattle.frame.specs.Message.{Message, key_of, InRange}
use Rattle.frame.specs.Message as message
use Rattle.store.specs.Answer.{Answer, is_refused}
use Rattle.store.specs.Answer as answer
use Rattle.store.specs.Offer.{offer_answer, after_offer}
use Rattle.store.specs.Overtaken.{overtaken}
use Rattle.store.specs.Meaning.{Representable}
use Rattle.store.specs.Lookup.{Finding, lookup_answer, value_part}
use Rattle.store.specs.Lookup as lookup
use Rattle.node.specs.Handler.{Served, done, refused, offer_served, offered, write_locally, take_replica, gets, serve}
use Rattle.node.specs.Meaning.{LocalWrite, a_put, a_del, Replica, a_repl}

pub no_done : {A : Type 0} (n : ℕ) (s : List ℕ) (d : Clock) (m : Message) → refused n ≡ done s d m → A
no_done n s d m e = never (cc)

-- ---- an entry that was offered and not refused
pub record Took (s : List ℕ) (e : Entry) (s' : List ℕ) : Type 0 where
  pub taken : is_refused (offer_answer s e) ≡ false
  pub left : s' ≡ after_offer s e

module _ (s : List ℕ) (e : Entry) (n : Clock) (s' : List ℕ) (d : Clock) (m : Message) where
  by_answer : (a : Answer) → offer_answer s e ≡ a → offer_served (after_offer s e) n a ≡ done s' d m → Took s e s' × (n ≡ d)
  unfolding offer_served is_refused
  by_answer answer.stored q h = (record { taken = rw q; left = cc }, cc)
  by_answer answer.replaced q h = (record { taken = rw q; left = cc }, cc)
  by_answer answer.kept q h = (record { taken = rw q; left = cc }, cc)
  by_answer (answer.merged j) q h = (record { taken = rw q; left = cc }, cc)
  by_answer (answer.purged j) q h = (record { taken = rw q; left = cc }, cc)
  by_answer (answer.refused j) q h = no_done j s' d m h

  offered_done : offered s n e ≡ done s' d m → Took s e s' × (n ≡ d)
  unfolding offered
  offered_done h = by_answer (offer_answer s e) refl h

-- ---- a local write that was served
pub record LocallyWrote (s : List ℕ) (c : Clock) (now : ℕ) (k v : List ℕ) (f : ℕ) (s' : List ℕ) (d : Clock) : Type 0 where
  pub step : send_step c now ≡ clock.next d
  pub above : overtaken s k (stamp_of d) ≡ false
  pub took : Took s (entry_of k v f (stamp_of d)) s'

module _ (s : List ℕ) (c : Clock) (now : ℕ) (k v : List ℕ) (f : ℕ) (s' : List ℕ) (d : Clock) (m : Message) where
  stepped : (t : Stepped) → send_step c now ≡ t → write_locally s k v f t ≡ done s' d m → LocallyWrote s c now k v f s' d
  unfolding write_locally
  stepped (clock.next n) e h = elim (test (overtaken s k (stamp_of n))) [
    | inl p ↦ no_done 7 s' d m (rw p at h)
    | inr p ↦
        let (took, q) = offered_done s (entry_of k v f (stamp_of n)) n s' d m (rw p at h) in
        rw (← q) (record { step = e; above = p; took = took })
  ]
  stepped (clock.refused j) e h = no_done j s' d m h

  pub write_done : write_locally s k v f (send_step c now) ≡ done s' d m → LocallyWrote s c now k v f s' d
  write_done h = stepped (send_step c now) refl h

-- ---- a replica that was served
pub record Received (s : List ℕ) (c : Clock) (now : ℕ) (e : Entry) (s' : List ℕ) (d : Clock) : Type 0 where
  pub step : receive_step c e.stamp.phys e.stamp.logical now ≡ clock.next d
  pub took : Took s e s'

module _ (s : List ℕ) (c : Clock) (now : ℕ) (e : Entry) (s' : List ℕ) (d : Clock) (m : Message) where
  moved : (t : Stepped) → receive_step c e.stamp.phys e.stamp.logical now ≡ t → take_replica s e t ≡ done s' d m → Received s c now e s' d
  unfolding take_replica
  moved (clock.next n) q h = let (took, p) = offered_done s e n s' d m h in rw (← p) (record { step = q; took = took })
  moved (clock.refused j) q h = no_done j s' d m h

  pub replica_done : take_replica s e (receive_step c e.stamp.phys e.stamp.logical now) ≡ done s' d m → Received s c now e s' d
  replica_done h = moved (receive_step c e.stamp.phys e.stamp.logical now) refl h

-- ---- a read
-- an outcome that leaves the store and the clock
abbrev pub Stays : List ℕ → Clock → Served → Type 0
Stays s c (done s' d m) = (s' ≡ s) × (d ≡ c)
Stays s c (refused n) = Unit {0}

pub gets_stays : (s : List ℕ) (c : Clock) (v : List ℕ) (x : Finding) → Stays s c (gets s c v x)
unfolding gets
gets_stays s c v (lookup.value at len) = (refl, refl)
gets_stays s c v lookup.deleted = (refl, refl)
gets_stays s c v lookup.never = (refl, refl)
gets_stays s c v (lookup.refused n) = tt

-- ---- any request that was served
-- one that writes steps the clock and offers an entry with its key
pub record Offers (s : List ℕ) (c : Clock) (now : ℕ) (m : Message) (s' : List ℕ) (d : Clock) : Type 0 where
  pub entry : Entry
  pub writes : LocalWrite c now d m entry ⊎ Replica c now d m entry
  pub key : entry.key ≡ key_of m
  pub rises : Rises c d
  pub took : Took s entry s'
  -- an entry that `offer` can be given, where the node id is one
  pub fits : c.node < 2 ^ 8 → InRange m → Representable entry

module _ (s : List ℕ) (c : Clock) (now : ℕ) (s' : List ℕ) (d : Clock) where
  wrote : (m : Message) (v : List ℕ) (f : ℕ) → (send_step c now ≡ clock.next d → LocalWrite c now d m (entry_of (key_of m) v f (stamp_of d)))
      → LocallyWrote s c now (key_of m) v f s' d → Offers s c now m s' d
  wrote m v f l w =
      let r = send_rises c d now w.step in
      record {
        entry = entry_of (key_of m) v f (stamp_of d);
        writes = inl (l w.step);
        key = refl;
        rises = r;
        took = w.took;
        fits = λ n i. record { logical = r.logical; node = rw r.node n };
      }

  -- one that reads leaves the store and the clock
  pub deed : (m x : Message) → serve s c now m ≡ done s' d x → ((s' ≡ s) × (d ≡ c)) ⊎ Offers s c now m s' d
  unfolding serve
  deed (message.put k v) x h = inr (wrote (message.put k v) v 0 (a_put k v) (write_done s c now k v 0 s' d x h))
  deed (message.get k) x h = inl (rw h at (gets_stays s c (value_part s k) (lookup_answer s k)))
  deed (message.del k) x h = inr (wrote (message.del k) [] 1 (a_del k) (write_done s c now k [] 1 s' d x h))
  deed (message.repl e) x h =
      let w = replica_done s c now e s' d x h in
      inr (record {
        entry = e;
        writes = inr (a_repl e w.step);
        key = refl;
        rises = receive_rises c d e.stamp.phys e.stamp.logical now w.step;
        took = w.took;
        fits = λ n i. record { logical = i.0; node = i.1 };
      })
  deed message.ok x h = no_done 3 s' d x h
  deed (message.value v) x h = no_done 3 s' d x h
  deed message.not_found x h = no_done 3 s' d x h
  deed (message.err j) x h = no_done 3 s' d x h

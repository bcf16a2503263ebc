-- A local write passes all that its store has had of its key, whichever offers, merges, requests
-- and purges wrote the store.
use Rattle.std.specs.Prelude.{ℕ, ◌^◌, ◌<◌, ◌≡◌, true, false, List, ◌∷◌, ◌++◌}
use Rattle.std.proofs.Math.Option.{some}
use Rattle.wire.specs.Number.{Bytes}
use Rattle.entry.specs.Order.{stamp_below}
use Rattle.entry.specs.Entry.{Entry}
use Rattle.clock.specs.declared.Clock.{Clock}
use Rattle.image.specs.Image.{entries_of, sound}
use Rattle.store.specs.Held.{◌∈◌, find}
use Rattle.store.specs.Answer.{is_refused}
use Rattle.store.specs.Offer.{offer_answer}
use Rattle.store.specs.Merge.{merge_answer}
use Rattle.node.specs.Overtaking.{Module, Request, result, Brings, Makes}
use Rattle.history.specs.Returning.{Write, offer, merge, request, after_writes, CanBeGiven}

-- the module of a store that was s before some writes, with any clock
abbrev pub module_after : List ℕ → List Write → Clock → Module
module_after s writes c = record { store = after_writes s writes; clock = c }

-- a store that was s before some writes has had e: after some of them it holds e; or one of them is
-- a REPL or an offer of e, or a merge of a store that holds e, and is not refused, also if the
-- entry that was held is kept (R272)
pub data Had (s : List ℕ) (writes : List Write) (e : Entry) : Type 0 where
  holds : (before later : List Write) → writes ≡ before ++ later → e ∈ entries_of (after_writes s before) → Had s writes e
  takes : (before : List Write) (c : Clock) (r : Request) (later : List Write)
      → writes ≡ before ++ request c r.now r.frame r.reply ∷ later → Brings (module_after s before c) r e → Had s writes e
  offered : (before later : List Write) → writes ≡ before ++ offer e ∷ later → is_refused (offer_answer (after_writes s before) e) ≡ false → Had s writes e
  merged : (before : List Write) (giver : List ℕ) (later : List Write) → writes ≡ before ++ merge giver ∷ later
      → is_refused (merge_answer (after_writes s before) giver) ≡ false → e ∈ entries_of giver → Had s writes e

-- from any sound store on, after any offers, merges from any bytes, requests and purges: if the
-- store has had e, far ahead or not, then an accepted PUT or DEL of its key makes an entry with a
-- stamp above that of e, and the new one is then held (R272)
abbrev pub AcceptedWritePasses : Type 0
AcceptedWritePasses = (s : List ℕ) (writes : List Write) (c : Clock) (r : Request) (e made : Entry) → sound s ≡ true → CanBeGiven writes
    → Bytes r.frame → c.node < 2 ^ 8 → Had s writes e → Makes (module_after s writes c) r made → made.key ≡ e.key
    → (stamp_below e.stamp made.stamp ≡ true) × (find e.key (entries_of (result (module_after s writes c) r).store) ≡ some made)

-- A request's outcome, from what the clock, the store and the reader answered.
use Prim.Native.Nat.{ℕ, ◌+◌, ◌≤◌, ◌<◌}
use native.Mathlib.Omega.{arith}
use mathlib.Core.Path.{◌≡◌, refl, sym, ap, ◌∙◌}
use mathlib.Core.Logic.{inl, inr}
use mathlib.Core.Bool.{Bool, true, false}
use mathlib.Core.List.{List, []}
use mathlib.Core.Option.{Option, none, some}
use lib.ListN.{length}
use lib.Dec.{eqb}
use Rattle.wire.specs.Fill.{field}
use Rattle.wire.proofs.Tests.{test, never}
use Rattle.entry.specs.declared.Stamp.{Stamp}
use Rattle.entry.specs.Key.{bad_key}
use Rattle.entry.specs.declared.Refusal.{Refusal}
use Rattle.entry.specs.Entry.{Entry, entry_of}
use Rattle.clock.specs.declared.Clock.{Clock}
use Rattle.clock.specs.Clock.{Stepped, stamp_of, send_step, receive_step}
use Rattle.clock.specs.Clock as clock
use Rattle.clock.specs.Answer.{stamp, refusal, given, clock_after, step_refusal_of}
use Rattle.clock.proofs.Steps.{StepNumbered}
use Rattle.frame.specs.declared.answer.Message.{Message as Located}
use Rattle.frame.specs.declared.answer.Message.TheVariants.{Put, Get, Del, Repl, Ok as OkMessage, Value, NotFound, Err as ErrMessage}
use Rattle.frame.specs.Reading.{message_in}
use Rattle.image.specs.Image.{sound, entries_of}
use Rattle.image.proofs.ImageLaws.{sound_is, sound_fits}
use Rattle.store.specs.Held.{find}
use Rattle.store.specs.Lookup.{finding_of, value_for, lookup_answer, value_part}
use Rattle.store.specs.declared.Finding.{Finding as Found}
use Rattle.store.specs.declared.Finding.TheVariants as found
use Rattle.std.specs.Prelude.{Result, Ok}
use Rattle.wire.specs.declared.Span.{Span}
use Rattle.entry.specs.declared.EntryAt.{EntryAt}
use Rattle.store.specs.Unchecked.{lookup_unchecked}
use Rattle.store.specs.Overtaken.{overtaken, overtaken_unchecked}
use Rattle.store.proofs.HeldLaws.{find_some}
use Rattle.store.proofs.Members.{all_fit}
use Rattle.store.proofs.OnSound.{unchecked_on_sound}
use Rattle.store.proofs.Looking.{value_stands}
use Rattle.store.proofs.Overtaking.{overtaken_on_sound}
use Rattle.node.specs.Handler.{refused, offered, write_locally, take_replica, gets, serve}

-- ---- the clock's answer
module _ (s : List ℕ) (c n : Clock) where
  -- a send that gave a stamp
  module _ (h : sound s ≡ true) (k v : List ℕ) (f : ℕ) (st : Stamp) (r : Bool) (o : r ≡ overtaken_unchecked s k st) where
    told : (b : Bool) → r ≡ b → overtaken s k st ≡ b
    told b e = sym (overtaken_on_sound s h k st) ∙ sym o ∙ e

    pub overtook : (t : Stepped) → stamp st ≡ given t → r ≡ true → refused 7 ≡ write_locally s k v f t
    unfolding write_locally
    overtook (clock.next d) g b = let q : st ≡ stamp_of d = cc in rw (← q, told true b)
    overtook (clock.refused j) g b = never (cc)

    pub sent : (t : Stepped) → stamp st ≡ given t → n ≡ clock_after c t → r ≡ false → offered s n (entry_of k v f st) ≡ write_locally s k v f t
    unfolding write_locally
    sent (clock.next d) g m b = let q : st ≡ stamp_of d = cc in rw (← q, told false b) (ap (λ (a : Clock). offered s a (entry_of k v f st)) m)
    sent (clock.refused j) g m b = never (cc)

  pub not_sent : (k v : List ℕ) (f : ℕ) (t : Stepped) (j : ℕ) → refusal j ≡ given t → refused j ≡ write_locally s k v f t
  unfolding write_locally
  not_sent k v f (clock.next d) j g = never (cc)
  not_sent k v f (clock.refused i) j g = let q : j ≡ i = cc in ap refused q

  -- a receive that was taken
  pub received : (e : Entry) (t : Stepped) → StepNumbered t → n ≡ clock_after c t → 0 ≡ step_refusal_of t → offered s n e ≡ take_replica s e t
  unfolding take_replica
  received e (clock.next d) p k g = ap (λ (a : Clock). offered s a e) k
  received e (clock.refused j) p k g = absurd (omega arith)

  pub not_received : (e : Entry) (t : Stepped) (j : ℕ) → 0 < j → j ≡ step_refusal_of t → refused j ≡ take_replica s e t
  unfolding take_replica
  not_received e (clock.next d) j p g = absurd (omega arith)
  not_received e (clock.refused i) j p g = ap refused g

-- ---- the store's answer to a GET
module _ (s : List ℕ) (h : sound s ≡ true) (key : List ℕ) where
  pub looked_as : (c : Clock) (l k : Result Found Refusal) → finding_of l ≡ lookup_unchecked s key → l ≡ k
      → gets s c (value_part s key) (finding_of k) ≡ gets s c (value_part s key) (lookup_answer s key)
  looked_as c l k told e = ap (gets s c (value_part s key)) (sym (ap finding_of e) ∙ told ∙ (unchecked_on_sound s h).lookup key)

  -- the place that was given lies in the store, and the value stands there
  pub value_at_lem : (l : Result Found Refusal) (p : Span) → finding_of l ≡ lookup_unchecked s key → l ≡ Ok (found.Value p)
      → (p.at + p.len ≤ length s) × (field p.at p.len s ≡ value_part s key)
  value_at_lem l p told e = value_stands s key p.at p.len (sym ((unchecked_on_sound s h).lookup key) ∙ sym told ∙ ap finding_of e)

  found_fits : (o : Option Entry) → find key (entries_of s) ≡ o → length (value_for o) ≤ 512
  unfolding value_for
  found_fits none e = omega arith
  found_fits (some g) e = elim (test (eqb g.flag 1)) [
    | inl p ↦ rw p (omega arith)
    | inr p ↦ rw p (all_fit (entries_of s) (sound_fits s (sound_is s h)) g (find_some key (entries_of s) e).0).value
  ]

  -- a held value fits a VALUE frame
  pub value_fits : length (value_part s key) ≤ 512
  unfolding value_part
  value_fits = rw h (elim (test (bad_key key)) [
    | inl p ↦ rw p (omega arith)
    | inr p ↦ rw p (found_fits (find key (entries_of s)) refl)
  ])

-- ---- the reader's answer
module _ (s : List ℕ) (c : Clock) (now : ℕ) (frame : List ℕ) where
  module _ (m : Located) where
    pub got : (p : Span) (k : List ℕ) → m ≡ Get p → k ≡ field p.at p.len frame
        → gets s c (value_part s k) (lookup_answer s k) ≡ serve s c now (message_in frame m)
    unfolding serve
    got p k e q = rw (e, q)

    pub deleted : (p : Span) (k : List ℕ) → m ≡ Del p → k ≡ field p.at p.len frame
        → write_locally s k [] 1 (send_step c now) ≡ serve s c now (message_in frame m)
    unfolding serve
    deleted p k e q = rw (e, q)

    pub put : (p v : Span) (k b : List ℕ) → m ≡ Put p v → k ≡ field p.at p.len frame → b ≡ field v.at v.len frame
        → write_locally s k b 0 (send_step c now) ≡ serve s c now (message_in frame m)
    unfolding serve
    put p v k b e q r = rw (e, q, r)

    pub replicated : (t : EntryAt) (e : Entry) → m ≡ Repl t
        → e ≡ entry_of (field t.key.at t.key.len frame) (field t.value.at t.value.len frame) t.flag t.stamp
        → take_replica s e (receive_step c e.stamp.phys e.stamp.logical now) ≡ serve s c now (message_in frame m)
    unfolding serve
    replicated t e q r = rw (q, r)

  -- a reply is no request
  pub no_request : (m : Located) → ((k v : Span) → m ≡ Put k v → ⊥) → ((k : Span) → m ≡ Get k → ⊥) → ((k : Span) → m ≡ Del k → ⊥)
      → ((e : EntryAt) → m ≡ Repl e → ⊥) → refused 3 ≡ serve s c now (message_in frame m)
  unfolding serve
  no_request (Put k v) p g d r = absurd (p k v refl)
  no_request (Get k) p g d r = absurd (g k refl)
  no_request (Del k) p g d r = absurd (d k refl)
  no_request (Repl e) p g d r = absurd (r e refl)
  no_request OkMessage p g d r = refl
  no_request (Value v) p g d r = refl
  no_request NotFound p g d r = refl
  no_request (ErrMessage n) p g d r = refl

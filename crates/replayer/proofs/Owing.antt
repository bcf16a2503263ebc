-- What a replay has written, and what it still owes to the input that is left.
use mathlib.Core.Path.{◌≡◌, refl}
use mathlib.Core.Bool.{Bool, true, false, not, ◌&&◌}
use mathlib.Core.List.{List, [], ◌++◌, append_assoc, append-nil}
use Prim.Native.Nat.{ℕ, ◌+◌, ◌≤◌}
use native.Mathlib.Omega.{arith}
use lib.ListN.{length, drop}
use lib.Seq.{drop-drop}
use Rattle.wire.proofs.Tests.{cases, clash, never}
use Rattle.journal.specs.Journal.{whole, no_record, piece_of, record_at, following, journal_of}
use Rattle.journal.proofs.Records.{journal_ends, whole_more, broken_more}
use Rattle.replayer.specs.declared.Next.{Next}
use Rattle.replayer.specs.declared.Next.TheVariants.{Read, Write, Stop}
use Rattle.replayer.specs.Replies.{Kept, after, reply_to, replies_to, last_reply}
use Rattle.replayer.specs.Advance.{Replay, answered, waiting, stopped, turn, is_write, goes_on, advanced}
use Rattle.replayer.proofs.Advancing.{turn_cases, advanced_keeps}
use Rattle.replayer.proofs.Calls.{goes_on_lem}

-- the replies to a journal whose end is told by f
unfoldable pub told : (ℕ → List ℕ) → Kept → List ℕ → List ℕ
told f k s = replies_to k (journal_of s).records ++ f (journal_of s).refusal

module _ (f : ℕ → List ℕ) (k : Kept) (s : List ℕ) where
  pub told_whole : (more : List ℕ) (t e : ℕ) → piece_of s ≡ whole t e
      → told f k (s ++ more) ≡ reply_to k (record_at t e s) ++ told f (after k (record_at t e s)) (drop e s ++ more)
  unfolding told replies_to following
  told_whole more t e h = rw (whole_more s more t e h, append_assoc)

  pub told_broken : (more : List ℕ) (n : ℕ) → piece_of s ≡ no_record false n → told f k (s ++ more) ≡ f n
  unfolding told replies_to
  told_broken more n h = rw (broken_more s more n h)

  pub told_ends : (b : Bool) (n : ℕ) → piece_of s ≡ no_record b n → told f k s ≡ f n
  unfolding told replies_to
  told_ends b n h = rw (journal_ends s b n h)

module _ (ended : Bool) (k₀ : Kept) (a : List ℕ) where
  -- what is written, with what is owed to the rest, are the replies to all that came and to any
  -- more
  abbrev pub Open : Kept → List ℕ → List ℕ → Type 0
  Open k rest out = (f : ℕ → List ℕ) (more : List ℕ) → told f k₀ (a ++ more) ≡ out ++ told f k (rest ++ more)

  -- what is written are the replies to all that came and to any more
  abbrev pub Shut : List ℕ → Type 0
  Shut out = (more : List ℕ) → (ended ≡ true → more ≡ []) → told last_reply k₀ (a ++ more) ≡ out

  abbrev pub Owed : Next → Kept → List ℕ → List ℕ → Type 0
  Owed Read k rest out = Open k rest out
  Owed Write k rest out = Open k rest out
  Owed Stop k rest out = Shut out

-- ---- within a call
module _ (ended : Bool) (k₀ : Kept) (input : List ℕ) where
  record Owing (p : Replay) : Type 0 where
    within : p.taken ≤ length input
    owed : Owed ended k₀ input p.next p.kept (drop p.taken input) p.output

  still_open : (n : Next) (k : Kept) (rest out : List ℕ) → is_write n ≡ true → Owed ended k₀ input n k rest out → Open ended k₀ input k rest out
  still_open Read k rest out h o = o
  still_open Write k rest out h o = o
  still_open Stop k rest out h o = never (cc)

  module _ (p : Replay) (o : Open ended k₀ input p.kept (drop p.taken input) p.output) where
    answered_owes : (t e : ℕ) → piece_of (drop p.taken input) ≡ whole t e
        → Open ended k₀ input (after p.kept (record_at t e (drop p.taken input))) (drop (p.taken + e) input)
        (p.output ++ reply_to p.kept (record_at t e (drop p.taken input)))
    answered_owes t e h f more = rw (o f more, told_whole f p.kept (drop p.taken input) more t e h, drop-drop, append_assoc)

    stopped_shut : (b : Bool) (n : ℕ) → piece_of (drop p.taken input) ≡ no_record b n → b && not ended ≡ false → Shut ended k₀ input (p.output ++ last_reply n)
    stopped_shut false n h e more m = rw (o last_reply more, told_broken last_reply p.kept (drop p.taken input) more n h)
    stopped_shut true n h e more m = cases ended
        (λ t. rw (o last_reply more, m t, append-nil, told_ends last_reply p.kept (drop p.taken input) true n h))
        (λ t. clash refl (rw t at e))

  owing_turn : (room : ℕ) (p : Replay) → Owing p → goes_on room p ≡ true → Owing (turn ended input p)
  unfolding answered waiting stopped
  owing_turn room p w g =
      let o = still_open p.next p.kept (drop p.taken input) p.output (goes_on_lem room p g).0 w.owed in
      turn_cases ended input Owing p w.within
      (λ t e h x y. record { within = y; owed = answered_owes p o t e h })
      (λ n h e. record { within = w.within; owed = o })
      (λ b n h e. record { within = w.within; owed = stopped_shut p o b n h e })

  pub call_owes : (room : ℕ) → let x = advanced ended input room k₀ in Owed ended k₀ input x.next x.kept (drop x.taken input) x.output
  call_owes room = (advanced_keeps ended input room Owing (owing_turn room) k₀ (record { within = omega arith; owed = λ f more. refl })).owed

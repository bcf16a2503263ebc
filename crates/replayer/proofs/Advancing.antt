-- Turn after turn.
use mathlib.Core.Path.{◌≡◌, refl, sym, ap, ◌∙◌}
use mathlib.Core.Bool.{Bool, true, false, cond, not, ◌&&◌}
use mathlib.Core.List.{List, []}
use Prim.Native.Nat.{ℕ, zero, suc, ◌+◌, ◌-◌, ◌≤◌, ◌<◌}
use native.Mathlib.Omega.{arith}
use lib.ListN.{length, drop, length-append, length-drop}
use lib.Dec.{eqb}
use Rattle.wire.proofs.Tests.{cases}
use Rattle.frame.specs.Layout.{max_frame}
use Rattle.journal.specs.Journal.{Piece, whole, no_record, piece_of, record_at}
use Rattle.journal.proofs.Pieces.{whole_within}
use Rattle.replayer.specs.declared.Next.{Next}
use Rattle.replayer.specs.declared.Next.TheVariants.{Write}
use Rattle.replayer.specs.Replies.{Kept, reply_to, last_reply}
use Rattle.replayer.specs.Advance.{Replay, answered, waiting, stopped, turn_on, turn, is_write, goes_on, advance_within, advanced}
use Rattle.replayer.proofs.Filling.{length_err}
use Rattle.replayer.proofs.Answers.{reply_short}

last_short : (n : ℕ) → length (last_reply n) ≤ max_frame
unfolding last_reply
last_short n = cases (eqb n 0) (λ h. rw h (omega arith)) (λ h. rw h (omega (arith, length_err n)))

-- the turns that may be left: one for each input byte, and one that finds no record
abbrev pub turns_left : List ℕ → ℕ → Next → ℕ
turns_left input taken next = length input - taken + cond (is_write next) 1 0

module _ (ended : Bool) (input : List ℕ) where
  -- what a turn makes of a replay, case by case
  pub turn_cases : (P : Replay → Type 0) (p : Replay) → p.taken ≤ length input
      → ((t e : ℕ) → piece_of (drop p.taken input) ≡ whole t e → 14 ≤ e → p.taken + e ≤ length input → P
      (answered p (record_at t e (drop p.taken input)) e))
      → ((n : ℕ) → piece_of (drop p.taken input) ≡ no_record true n → ended ≡ false → P (waiting p))
      → ((more : Bool) (n : ℕ) → piece_of (drop p.taken input) ≡ no_record more n → more && not ended ≡ false → P (stopped p n))
      → P (turn ended input p)
  unfolding turn turn_on
  turn_cases P p l a w k = go (piece_of (drop p.taken input)) refl
    where
      s : List ℕ
      s = drop p.taken input

      none : (more : Bool) (n : ℕ) → piece_of s ≡ no_record more n → (b : Bool) → ended ≡ b → P (cond (more && not ended) (waiting p) (stopped p n))
      none true n h true e = rw e (k true n h (rw e))
      none true n h false e = rw e (w n h e)
      none false n h b e = k false n h refl

      go : (x : Piece) → piece_of s ≡ x → P (turn_on ended p s x)
      go (whole t e) h = let v = whole_within s t e h in a t e h v.0 (omega (arith, v.2, length-drop p.taken input))
      go (no_record more n) h = none more n h ended refl

  module _ (room : ℕ) where
    -- what each turn keeps holds at the end of a call
    pub advance_keeps : (P : Replay → Type 0) → ((p : Replay) → P p → goes_on room p ≡ true → P (turn ended input p))
        → (n : ℕ) (p : Replay) → P p → P (advance_within n ended input room p)
    unfolding advance_within
    advance_keeps P step zero p h = h
    advance_keeps P step (suc n) p h = cases (goes_on room p)
        (λ g. rw g (advance_keeps P step n (turn ended input p) (step p h g)))
        (λ g. rw g h)

    pub advanced_keeps : (P : Replay → Type 0) → ((p : Replay) → P p → goes_on room p ≡ true → P (turn ended input p))
        → (k : Kept) → P (record { kept = k; taken = 0; output = []; next = Write }) → P (advanced ended input room k)
    unfolding advanced
    advanced_keeps P step k h = advance_keeps P step (suc (length input)) (record { kept = k; taken = 0; output = []; next = Write }) h

    -- ---- the bound
    pub advance_rests : (n : ℕ) (p : Replay) → goes_on room p ≡ false → advance_within n ended input room p ≡ p
    unfolding advance_within
    advance_rests zero p g = refl
    advance_rests (suc n) p g = rw g

    stops_there : (m n : ℕ) (p : Replay) → is_write p.next ≡ false → advance_within m ended input room p ≡ advance_within n ended input room p
    unfolding goes_on
    stops_there m n p h = advance_rests m p (rw h) ∙ sym (advance_rests n p (rw h))

    pub advance_alike : (m n : ℕ) (p : Replay) → p.taken ≤ length input → length input - p.taken < m → length input - p.taken < n
        → advance_within m ended input room p ≡ advance_within n ended input room p
    unfolding advance_within answered waiting stopped
    advance_alike zero n p l a b = absurd (omega arith)
    advance_alike (suc m) zero p l a b = absurd (omega arith)
    advance_alike (suc m) (suc n) p l a b = cases (goes_on room p)
        (λ g. rw g (turn_cases (λ q. advance_within m ended input room q ≡ advance_within n ended input room q) p l
        (λ t e h x y. advance_alike m n (answered p (record_at t e (drop p.taken input)) e) y (omega arith) (omega arith))
        (λ k h e. stops_there m n (waiting p) refl)
        (λ more k h e. stops_there m n (stopped p k) refl)))
        (λ g. rw g)

    stopped_there : (n : ℕ) (p : Replay) → is_write p.next ≡ false → goes_on room (advance_within n ended input room p) ≡ false
    unfolding goes_on
    stopped_there n p h = ap (goes_on room) (advance_rests n p (rw h)) ∙ rw h

    pub advance_ends : (n : ℕ) (p : Replay) → p.taken ≤ length input → length input - p.taken < n → goes_on room (advance_within n ended input room p) ≡ false
    unfolding advance_within answered waiting stopped
    advance_ends zero p l a = absurd (omega arith)
    advance_ends (suc n) p l a = cases (goes_on room p)
        (λ g. rw g (turn_cases (λ q. goes_on room (advance_within n ended input room q) ≡ false) p l
        (λ t e h x y. advance_ends n (answered p (record_at t e (drop p.taken input)) e) y (omega arith))
        (λ k h e. stopped_there n (waiting p) refl)
        (λ more k h e. stopped_there n (stopped p k) refl)))
        (λ g. rw g g)

    -- one turn more
    pub advance_on : (p : Replay) → p.taken ≤ length input → goes_on room p ≡ true
        → advance_within (suc (length input - p.taken)) ended input room p ≡ advance_within (suc (length input - (turn ended input p).taken)) ended
        input room (turn ended input p)
    unfolding advance_within answered waiting stopped
    advance_on p l g = rw g (turn_cases (λ q. advance_within (length input - p.taken) ended input room q ≡ advance_within
        (suc (length input - q.taken)) ended input room q) p l
        (λ t e h x y. advance_alike (length input - p.taken) (suc (length input - (p.taken + e)))
        (answered p (record_at t e (drop p.taken input)) e) y (omega arith) (omega arith))
        (λ n h e. stops_there (length input - p.taken) (suc (length input - p.taken)) (waiting p) refl)
        (λ more n h e. stops_there (length input - p.taken) (suc (length input - p.taken)) (stopped p n) refl))

  -- ---- how far a turn goes
  pub record Moves (p q : Replay) : Type 0 where
    pub within : q.taken ≤ length input
    pub longer : length p.output ≤ length q.output
    pub room : length q.output ≤ length p.output + max_frame
    pub less : turns_left input q.taken q.next < turns_left input p.taken Write

  pub turn_moves : (p : Replay) → p.taken ≤ length input → Moves p (turn ended input p)
  unfolding answered waiting stopped
  turn_moves p l = turn_cases (Moves p) p l
      (λ t e h x y.
      let r = record_at t e (drop p.taken input) in
      let n = length-append p.output (reply_to p.kept r) in
      record { within = y; longer = omega (arith, n); room = omega (arith, n, reply_short p.kept r); less = omega arith })
      (λ n h e. record { within = l; longer = omega arith; room = omega arith; less = omega arith })
      (λ more n h e.
      let m = length-append p.output (last_reply n) in
      record { within = l; longer = omega (arith, m); room = omega (arith, m, last_short n); less = omega arith })

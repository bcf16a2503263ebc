-- Every send passes what the clock has met before.
use mathlib.Core.Path.{◌≡◌, refl, sym, ◌∙◌}
use mathlib.Core.Logic.{◌⊎◌, inl, inr}
use mathlib.Core.Bool.{true}
use mathlib.Core.List.{List, [], ◌∷◌, ◌++◌}
use Prim.Native.Nat.{ℕ, ◌<◌}
use native.Mathlib.Omega.{arith}
use Rattle.entry.specs.declared.Stamp.{Stamp}
use Rattle.entry.specs.Order.{stamp_below}
use Rattle.entry.proofs.Order.{stamp_order_by_field}
use Rattle.clock.specs.declared.Clock.{Clock}
use Rattle.clock.specs.Clock.{Stepped, next, refused, fresh_clock, stamp_of}
use Rattle.clock.specs.Answer.{clock_after}
use Rattle.clock.specs.Meaning.{Rises}
use Rattle.clock.specs.Calls.{Call, send, receive, step_of, after_calls, Met, gave, took, PairBelow}
use Rattle.clock.specs.Calls.{EverySendPasses, EverySendPassesFromAny}
use Rattle.clock.proofs.Rising.{NotAbove, send_rises, receive_rises, receive_passes}

-- (p, l) is at or below the clock
abbrev Reached : ℕ → ℕ → Clock → Type 0
Reached p l c = NotAbove p l c.phys c.logical

-- of two stamps with one node id the lower has the lower pair
pair_below : (s t : Stamp) → s.node ≡ t.node → stamp_below s t ≡ true → PairBelow s.phys s.logical t.phys t.logical
pair_below s t n b = go ((stamp_order_by_field s t).0 b)
  where
    go : (s.phys < t.phys) ⊎ ((s.phys ≡ t.phys) × (s.logical < t.logical)) ⊎ ((s.phys ≡ t.phys) × (s.logical ≡ t.logical) × (s.node < t.node))
        → PairBelow s.phys s.logical t.phys t.logical
    go (inl h) = inl h
    go (inr (inl h)) = inr h
    go (inr (inr h)) = absurd (omega (arith, n, h.2))

-- what is at or below a clock is below each clock that it rises to
rises_past : (c d : Clock) → Rises c d → (p l : ℕ) → Reached p l c → PairBelow p l d.phys d.logical
rises_past c d r p l h = go h (pair_below (stamp_of c) (stamp_of d) (sym r.node) r.above)
  where
    go : Reached p l c → PairBelow c.phys c.logical d.phys d.logical → PairBelow p l d.phys d.logical
    go (inl a) (inl b) = inl (omega (arith, a, b))
    go (inl a) (inr b) = inl (omega (arith, a, b.0))
    go (inr a) (inl b) = inl (omega (arith, a.0, b))
    go (inr a) (inr b) = inr (a.0 ∙ b.0, omega (arith, a.1, b.1))

-- and so at or below it
below_reached : (p l : ℕ) (d : Clock) → PairBelow p l d.phys d.logical → Reached p l d
below_reached p l d (inl h) = inl h
below_reached p l d (inr h) = inr (h.0, omega (arith, h.1))

-- a call leaves it there, refused or not
step_rises : (c d : Clock) (x : Call) → step_of c x ≡ next d → Rises c d
unfolding step_of
step_rises c d (send now) e = send_rises c d now e
step_rises c d (receive p l now) e = receive_rises c d p l now e

call_keeps : (c : Clock) (x : Call) (p l : ℕ) → Reached p l c → Reached p l (clock_after c (step_of c x))
call_keeps c x p l h = go (step_of c x) refl
  where
    go : (t : Stepped) → step_of c x ≡ t → Reached p l (clock_after c t)
    go (next d) e = below_reached p l d (rises_past c d (step_rises c d x e) p l h)
    go (refused n) e = h

calls_keep : (xs : List Call) (c : Clock) (p l : ℕ) → Reached p l c → Reached p l (after_calls c xs)
unfolding after_calls
calls_keep [] c p l h = h
calls_keep (x ∷ xs) c p l h = calls_keep xs (clock_after c (step_of c x)) p l (call_keeps c x p l h)

-- what a call meets is at or below the clock after it
met_reached : (c : Clock) (x : Call) (p l : ℕ) → Met c x p l → Reached p l (clock_after c (step_of c x))
unfolding step_of
met_reached c _ _ _ (gave now d e) = rw e (inr (refl, omega arith))
met_reached c _ _ _ (took p l now d e w) =
    let s : Stamp = record { phys = p; logical = l; node = c.node } in
    let n : c.node ≡ d.node = sym (receive_rises c d p l now e).node in
    rw e (below_reached p l d (pair_below s (stamp_of d) n (receive_passes c d s now e w)))

pub after-append : (xs ys : List Call) (c : Clock) → after_calls c (xs ++ ys) ≡ after_calls (after_calls c xs) ys
unfolding after_calls
after-append [] ys c = refl
after-append (x ∷ xs) ys c = after-append xs ys (clock_after c (step_of c x))

pub every_send_passes_from_any : EverySendPassesFromAny
unfolding after_calls
every_send_passes_from_any c before x between p l now d m e =
    let b = after_calls c before in
    let h = calls_keep between (clock_after b (step_of b x)) p l (met_reached b x p l m) in
    rises_past (after_calls b (x ∷ between)) d (send_rises _ d now (rw (after-append before (x ∷ between) c) at e)) p l h

pub every_send_passes : EverySendPasses
every_send_passes node = every_send_passes_from_any (fresh_clock node)

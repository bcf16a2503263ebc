-- Every step raises the clock, and a receive above the stamp that came, unless that is far ahead;
-- and which receives the case of an equal time leaves as they are without it.
use mathlib.Core.Path.{◌≡◌, refl, sym, ap, ◌∙◌}
use mathlib.Core.Logic.{◌⊎◌, inl, inr}
use mathlib.Core.Bool.{true, false, ◌||◌}
use Prim.Native.Nat.{ℕ, ◌+◌, ◌≤◌, ◌<◌, ◌^◌, max}
use native.Mathlib.Omega.{arith}
use lib.Dec.{ltb, leb, eqb}
use borrow.Author.Tests.{lt-ltb, ltb-true, ltb-false, leb-false, eq-eqb, eqb-true, eqb-false}
use Rattle.wire.proofs.Tests.{test, clash, never}
use Rattle.entry.specs.declared.Stamp.{Stamp}
use Rattle.entry.specs.Order.{stamp_below}
use Rattle.entry.proofs.Order.{stamp_order_by_field, stamp_below_trans}
use Rattle.clock.specs.declared.Clock.{Clock}
use Rattle.clock.specs.Clock.{next, refused, stamp_of, raise, with_skew, send_step, receive_in_range, receive_step}
use Rattle.clock.specs.Meaning.{
  Rises,
  SendRises,
  ReceiveRises,
  ReceivePasses,
  NextSendPasses,
  receive_before,
  OtherReceivesStay,
}

-- a refusal is no next clock
absurd_step : {A : Type 0} {n : ℕ} {d : Clock} → refused n ≡ next d → A
absurd_step {n = n} {d} e = never (cc)

next_is : {c d : Clock} → next c ≡ next d → c ≡ d
next_is e = cc

-- the clock d after a raise of b to phys p, from the count l, that is not refused
record Raised (b d : Clock) (p l : ℕ) : Type 0 where
  phys : d.phys ≡ p
  logical : d.logical ≡ l + 1
  fits : l < 65535
  node : d.node ≡ b.node
  skew : d.skew ≡ b.skew

raise_next : (b d : Clock) (p l : ℕ) → raise b p l ≡ next d → Raised b d p l
unfolding raise
raise_next b d p l e = elim (test (leb 65535 l)) [
  | inl q ↦ absurd_step (rw q at e)
  | inr q ↦
      let f : d ≡ record { phys = p; logical = l + 1; node = b.node; skew = b.skew } = sym (next_is (rw q at e)) in
      record {
        phys = ap (λ x. x.phys) f;
        logical = ap (λ x. x.logical) f;
        fits = leb-false 65535 l q;
        node = ap (λ x. x.node) f;
        skew = ap (λ x. x.skew) f;
      }
]

-- (a, b) is not above (p, l)
abbrev pub NotAbove : ℕ → ℕ → ℕ → ℕ → Type 0
NotAbove a b p l = (a < p) ⊎ ((a ≡ p) × (b ≤ l))

at_itself : (p l : ℕ) → NotAbove p l p l
at_itself p l = inr (refl, omega arith)

at_the_later : (p now l : ℕ) → NotAbove p l (max p now) l
at_the_later p now l = elim (test (ltb p now)) [
  | inl h ↦ inl (omega (arith, ltb-true p now h))
  | inr h ↦ inr (omega (arith, ltb-false p now h), omega arith)
]

-- a raise from (p, l) gives a clock above each stamp that is not above (p, l), whichever its node
past : (b d : Clock) (p l : ℕ) → raise b p l ≡ next d → (s : Stamp) → NotAbove s.phys s.logical p l → stamp_below s (stamp_of d) ≡ true
past b d p l e s h = (stamp_order_by_field s (stamp_of d)).1 (go (raise_next b d p l e) h)
  where
    go : Raised b d p l → NotAbove s.phys s.logical p l
        → (s.phys < d.phys) ⊎ ((s.phys ≡ d.phys) × (s.logical < d.logical)) ⊎ ((s.phys ≡ d.phys) × (s.logical ≡ d.logical) × (s.node < d.node))
    go r (inl k) = inl (omega (arith, r.phys, k))
    go r (inr k) = inr (inl (k.0 ∙ sym r.phys, omega (arith, r.logical, k.1)))

-- a raise of c, or of c with its skew count risen, from a (p, l) that (P, L) is not above
raised : (c b d : Clock) (p l : ℕ) → raise b p l ≡ next d → b.node ≡ c.node → c.skew ≤ b.skew → p < 2 ^ 48 → NotAbove c.phys c.logical p l
    → Rises c d
raised c b d p l e n s t h =
    let r = raise_next b d p l e in
    record {
      above = past b d p l e (stamp_of c) h;
      phys = low r h;
      timely = omega (arith, r.phys, t);
      logical = omega (arith, r.logical, r.fits);
      node = r.node ∙ n;
      skew = omega (arith, r.skew, s);
    }
  where
    low : Raised b d p l → NotAbove c.phys c.logical p l → c.phys ≤ d.phys
    low r (inl k) = omega (arith, r.phys, k)
    low r (inr k) = omega (arith, r.phys, k.0)

-- both times are in range where neither test found one out of it
in_range_lem : (a b : ℕ) → (leb (2 ^ 48) a || leb (2 ^ 48) b) ≡ false → (a < 2 ^ 48) × (b < 2 ^ 48)
in_range_lem a b h = elim (test (leb (2 ^ 48) a)) [
  | inl p ↦ clash refl (rw p at h)
  | inr p ↦ (leb-false (2 ^ 48) a p, leb-false (2 ^ 48) b (rw p at h))
]

pub send_rises : SendRises
unfolding send_step
send_rises c d now e = elim (test (leb (2 ^ 48) now || leb (2 ^ 48) c.phys)) [
  | inl p ↦ absurd_step (rw p at e)
  | inr p ↦
      let t = in_range_lem now c.phys p in
      elim (test (ltb c.phys now)) [
        | inl q ↦
            let f : record { phys = now; logical = 0; node = c.node; skew = c.skew } ≡ d = next_is (rw (p, q) at e) in
            let h : c.phys < now = ltb-true c.phys now q in
            let g : Rises c (record { phys = now; logical = 0; node = c.node; skew = c.skew }) = record {
              above = (stamp_order_by_field (stamp_of c) _).1 (inl h);
              phys = omega arith;
              timely = t.0;
              logical = omega arith;
              node = refl;
              skew = omega arith;
            } in
            rw f at g
        | inr q ↦ raised c c d c.phys c.logical (rw (p, q) at e) refl (omega arith) t.1 (at_itself c.phys c.logical)
      ]
]

-- a send gives a phys that is not below its reading
pub send_reaches : (c d : Clock) (now : ℕ) → send_step c now ≡ next d → now ≤ d.phys
unfolding send_step
send_reaches c d now e = elim (test (leb (2 ^ 48) now || leb (2 ^ 48) c.phys)) [
  | inl p ↦ absurd_step (rw p at e)
  | inr p ↦ elim (test (ltb c.phys now)) [
    | inl q ↦
        let f : record { phys = now; logical = 0; node = c.node; skew = c.skew } ≡ d = next_is (rw (p, q) at e) in
        let g = ap (λ (x : Clock). x.phys) f in
        omega (arith, g)
    | inr q ↦ omega (arith, (send_rises c d now e).phys, ltb-false c.phys now q)
  ]
]

-- a clock whose skew count rises keeps its other fields
skew_node : (c : Clock) → (with_skew c).node ≡ c.node
unfolding with_skew
skew_node c = elim (test (leb 4294967295 c.skew)) [ inl p ↦ rw p | inr p ↦ rw p ]

skew_rises : (c : Clock) → c.skew ≤ (with_skew c).skew
unfolding with_skew
skew_rises c = elim (test (leb 4294967295 c.skew)) [ inl p ↦ rw p (omega arith) | inr p ↦ rw p (omega arith) ]

-- the four ways in which a receive moves a clock; at an equal time from a count below neither
data Moved (c d : Clock) (p l now : ℕ) : Type 0 where
  far_ahead : now + 2000 < p → max c.phys now < 2 ^ 48 → raise (with_skew c) (max c.phys now) c.logical ≡ next d → Moved c d p l now
  ahead : c.phys < p → p < 2 ^ 48 → raise c p l ≡ next d → Moved c d p l now
  equal_time : p ≡ c.phys → c.phys < 2 ^ 48 → {n : ℕ} → raise c c.phys n ≡ next d → c.logical ≤ n → l ≤ n → Moved c d p l now
  behind : p < c.phys → c.phys < 2 ^ 48 → raise c c.phys c.logical ≡ next d → Moved c d p l now

receive_moves : (c d : Clock) (p l now : ℕ) → receive_step c p l now ≡ next d → Moved c d p l now
unfolding receive_step receive_in_range
receive_moves c d p l now e = elim (test (leb (2 ^ 48) now || leb (2 ^ 48) c.phys)) [
  | inl b ↦ absurd_step (simp b at e)
  | inr b ↦ elim (test (leb (2 ^ 48) p)) [
    | inl a ↦ absurd_step (simp (b, a) at e)
    | inr a ↦
        let t = in_range_lem now c.phys b in
        elim (test (ltb (now + 2000) p)) [
          | inl q ↦ far_ahead (ltb-true (now + 2000) p q) (omega (arith, t.0, t.1)) (simp (b, a, q) at e)
          | inr q ↦ elim (test (ltb c.phys p)) [
            | inl r ↦ ahead (ltb-true c.phys p r) (leb-false (2 ^ 48) p a) (simp (b, a, q, r) at e)
            | inr r ↦ elim (test (eqb p c.phys)) [
              | inl s ↦ equal_time (eqb-true p c.phys s) t.1 (simp (b, a, q, r, s) at e) (omega arith) (omega arith)
              | inr s ↦ behind (omega (arith, ltb-false c.phys p r, eqb-false p c.phys s)) t.1 (simp (b, a, q, r, s) at e)
            ]
          ]
        ]
  ]
]

pub receive_rises : ReceiveRises
receive_rises c d p l now e = go (receive_moves c d p l now e)
  where
    go : Moved c d p l now → Rises c d
    go (far_ahead w t k) = raised c (with_skew c) d (max c.phys now) c.logical k (skew_node c) (skew_rises c) t (at_the_later c.phys now c.logical)
    go (ahead w t k) = raised c c d p l k refl (omega arith) t (inl w)
    go (equal_time w t {n} k own theirs) = raised c c d c.phys n k refl (omega arith) t (inr (refl, own))
    go (behind w t k) = raised c c d c.phys c.logical k refl (omega arith) t (at_itself c.phys c.logical)

pub receive_passes : ReceivePasses
receive_passes c d s now e w = go (receive_moves c d s.phys s.logical now e)
  where
    go : Moved c d s.phys s.logical now → stamp_below s (stamp_of d) ≡ true
    go (far_ahead f t k) = absurd (omega (arith, w, f))
    go (ahead f t k) = past c d s.phys s.logical k s (at_itself s.phys s.logical)
    go (equal_time f t {n} k own theirs) = past c d c.phys n k s (inr (f, theirs))
    go (behind f t k) = past c d c.phys c.logical k s (inl f)

pub next_send_passes : NextSendPasses
next_send_passes c d e s now reading h w k =
    stamp_below_trans s (stamp_of d) (stamp_of e) (receive_passes c d s now h w) (send_rises d e reading k).above

pub other_receives_stay : OtherReceivesStay
unfolding receive_step receive_in_range receive_before
other_receives_stay c p l now h = elim (test (eqb p c.phys)) [ inl q ↦ go (eqb-true p c.phys q) h | inr q ↦ rw q ]
  where
    go : p ≡ c.phys → (p ≡ c.phys → ⊥) ⊎ (now + 2000 < p) ⊎ (l ≤ c.logical) → receive_step c p l now ≡ receive_before c p l now
    go e (inl k) = absurd (k e)
    go e (inr (inl k)) = rw (lt-ltb (now + 2000) p k)
    go e (inr (inr k)) = let m : max c.logical l ≡ c.logical = omega (arith, k) in rw (eq-eqb p c.phys e, m)

-- What a whole call did.
use Prim.Native.Nat.{ℕ, ◌^◌}
use mathlib.Core.Path.{◌≡◌, refl, sym, ap, ◌∙◌}
use mathlib.Core.Logic.{◌⊎◌, inl, inr}
use mathlib.Core.Bool.{true, false, ◌||◌}
use mathlib.Core.List.{List}
use lib.ListN.{length}
use lib.Dec.{ltb, leb, eqb}
use borrow.Author.Tests.{eqb-true, eqb-false, le-ltb, lt-leb}
use Rattle.wire.proofs.Tests.{test}
use Rattle.entry.specs.Entry.{bad_time}
use Rattle.entry.proofs.Numbers.{number_not_zero}
use Rattle.clock.specs.declared.Clock.{Clock}
use Rattle.frame.specs.Message.{Message}
use Rattle.frame.specs.Layout.{max_frame, type_of}
use Rattle.frame.specs.Reading.{Outcome, type_in, read_frame}
use Rattle.frame.specs.Reading as reading
use Rattle.frame.proofs.RoundTrips.{read_has_type}
use Rattle.image.specs.Image.{sound}
use Rattle.node.specs.Handler.{Served, done, refused, serve, serve_outcome, serve_frame, Result, settle, handled}
use Rattle.node.specs.Meaning.{Asks}
use Rattle.node.proofs.Deeds.{no_done, Offers, deed}
use Rattle.node.proofs.Audit.{refusal_changes_nothing}
use Rattle.node.proofs.Telling.{Tellable, frame_tellable}

-- ---- a call that passes the checks serves its message
pub passed_call : (s : List ℕ) (c : Clock) (now : ℕ) (frame reply : List ℕ) (m : Message) → Asks s c now frame reply m → leb 16 (type_of m) ≡ false
    → handled s c now frame reply ≡ settle s c reply (serve s c now m)
unfolding handled serve_frame serve_outcome
passed_call s c now frame reply m a q =
    let t : leb 16 (type_in frame) ≡ false = ap (leb 16) (sym (read_has_type frame m a.reads)) ∙ q in
    rw (le-ltb (length reply) max_frame a.room, a.is_sound, lt-leb (2 ^ 48) now a.time, lt-leb (2 ^ 48) c.phys a.phys, t, a.reads)

-- ---- a call that is not refused
pub record Done (s : List ℕ) (c : Clock) (reply : List ℕ) (x : Served) : Type 0 where
  pub says : Message
  pub is : x ≡ done (settle s c reply x).store (settle s c reply x).clock says

settled_done : (s : List ℕ) (c : Clock) (reply : List ℕ) (x : Served) → Tellable x → (settle s c reply x).refusal ≡ 0 → Done s c reply x
unfolding settle
settled_done s c reply (done s' d m) t z = record { says = m; is = refl }
settled_done s c reply (refused n) t z = absurd (number_not_zero t.0 (t.1 ∙ z))

module _ (s : List ℕ) (c : Clock) (now : ℕ) (frame : List ℕ) where
  -- a frame that is served has passed every check
  frame_served : (s' : List ℕ) (d : Clock) (m' : Message) → serve_frame s c now frame ≡ done s' d m'
      → (sound s ≡ true) × (serve_outcome s c now (read_frame frame) ≡ done s' d m')
  unfolding serve_frame
  frame_served s' d m' e = elim (test (sound s)) [
    | inl h ↦ elim (test (bad_time now || bad_time c.phys)) [
      | inl p ↦ no_done 9 s' d m' (rw (h, p) at e)
      | inr p ↦ elim (test (leb 16 (type_in frame))) [
        | inl q ↦ no_done 3 s' d m' (rw (h, p, q) at e)
        | inr q ↦ (h, rw (h, p, q) at e)
      ]
    ]
    | inr h ↦ no_done 5 s' d m' (rw h at e)
  ]

  module _ (reply : List ℕ) where
    abbrev left : Result
    left = handled s c now frame reply

    -- and its message is served
    pub record ServedCall : Type 0 where
      pub is_sound : sound s ≡ true
      pub asks : Message
      pub reads : read_frame frame ≡ reading.message asks
      pub says : Message
      pub is : serve s c now asks ≡ done left.store left.clock says

    module _ (s' : List ℕ) (d : Clock) (says : Message) (h : sound s ≡ true) (e₁ : left.store ≡ s') (e₂ : left.clock ≡ d) where
      by_outcome : (o : Outcome) → read_frame frame ≡ o → serve_outcome s c now o ≡ done s' d says → ServedCall
      unfolding serve_outcome
      by_outcome (reading.message m) r k = record { is_sound = h; asks = m; reads = r; says = says; is = rw (e₁, e₂) k }
      by_outcome (reading.refused j) r k = no_done j s' d says k

    pub served_call : left.refusal ≡ 0 → ServedCall
    unfolding handled
    served_call z = elim (test (ltb (length reply) max_frame)) [
      | inl p ↦ let a : ◌≡◌ {A = ℕ} 4 0 = rw p at z in absurd (eqb-false 4 0 refl a)
      | inr p ↦
          let x = serve_frame s c now frame in
          let k = settled_done s c reply x (frame_tellable s c now frame) (rw p at z) in
          let f = frame_served (settle s c reply x).store (settle s c reply x).clock k.says k.is in
          by_outcome (settle s c reply x).store (settle s c reply x).clock k.says f.0 (rw p) (rw p) (read_frame frame) refl f.1
    ]

    -- what a call did: nothing to the store and the clock; or it stepped the clock, and
    -- offered an entry with the key of the message that its frame reads as
    pub record CallWrote : Type 0 where
      pub accepted : left.refusal ≡ 0
      pub is_sound : sound s ≡ true
      pub asks : Message
      pub reads : read_frame frame ≡ reading.message asks
      pub offers : Offers s c now asks left.store left.clock

    pub call_deed : ((left.store ≡ s) × (left.clock ≡ c)) ⊎ CallWrote
    call_deed = elim (test (eqb left.refusal 0)) [
      | inl p ↦
          let z = eqb-true left.refusal 0 p in
          let k = served_call z in
          elim (deed s c now left.store left.clock k.asks k.says k.is) [
            | inl q ↦ inl q
            | inr o ↦ inr (record { accepted = z; is_sound = k.is_sound; asks = k.asks; reads = k.reads; offers = o })
          ]
      | inr p ↦ inl (refusal_changes_nothing s c now frame reply (eqb-false _ 0 p))
    ]

-- A number that no byte holds is refused as the one that is passed on in its place.
use mathlib.Core.Path.{◌≡◌, refl, sym, ◌∙◌}
use mathlib.Core.Logic.{inl, inr}
use mathlib.Core.Bool.{true, cond, ◌||◌, or-true}
use mathlib.Core.List.{List}
use Prim.Native.Nat.{ℕ, ◌≤◌}
use native.Mathlib.Omega.{arith}
use lib.ListN.{length}
use lib.Dec.{ltb}
use borrow.Author.Tests.{lt-ltb}
use Rattle.wire.proofs.Tests.{test}
use Rattle.entry.specs.Entry.{bad_time}
use Rattle.peers.specs.declared.PeerTable.{PeerTable}
use Rattle.peers.specs.declared.Admission.{Admission}
use Rattle.peers.specs.declared.Changed.{Changed}
use Rattle.peers.specs.Event.{Gives, unless_refused, reported_answer, after_reported}
use Rattle.ring.specs.Answer.{refuses}
use Rattle.ring.specs.Build.{bad_arguments, build_answer, build_output}
use Rattle.ring.specs.Owners.{bad_request, owners_answer, owners_output}
use Rattle.capi_words.specs.Words.{byte_of}
use Rattle.capi_words.proofs.Bytes.{either}

-- ---- a reported state
module _ (i n now : ℕ) (t : PeerTable) where
  state_refused : (s : ℕ) → 3 ≤ s → reported_answer i s n now t ≡ cond (bad_time now) 9 17
  unfolding reported_answer
  state_refused s h = rw (lt-ltb 2 s (omega arith))

  state_kept : (s : ℕ) → 3 ≤ s → after_reported i s n now t ≡ t
  unfolding after_reported unless_refused
  state_kept s h = rw (state_refused s h) (elim (test (bad_time now)) [
    | inl p ↦ rw p
    | inr p ↦ rw p
  ])

  pub reported_gives : (s b : ℕ) (d : Changed) → b ≡ byte_of s → Gives d (after_reported i b n now t) (reported_answer i b n now t)
      → Gives d (after_reported i s n now t) (reported_answer i s n now t)
  reported_gives s b d e =
      either (λ x. Gives d (after_reported i x n now t) (reported_answer i x n now t) → Gives d (after_reported i s n now t) (reported_answer i s n now t))
      s b e (λ g. g)
      (λ l g. record {
        table = g.table ∙ state_kept 255 (omega arith) ∙ sym (state_kept s (omega arith));
        answer = g.answer ∙ state_refused 255 (omega arith) ∙ sym (state_refused s (omega arith));
      })

-- ---- a number of vnodes
module _ (ids : List ℕ) where
  vnodes_bad : (v : ℕ) → 65 ≤ v → bad_arguments ids v ≡ true
  unfolding bad_arguments
  vnodes_bad v h = rw (lt-ltb 64 v (omega arith), or-true (ltb 10 (length ids) || ltb v 1))

  vnodes_refused : (v : ℕ) (ring : List ℕ) → 65 ≤ v → build_answer ids v ring ≡ refuses 17
  unfolding build_answer
  vnodes_refused v ring h = rw (vnodes_bad v h)

  vnodes_kept : (v salt : ℕ) (ring : List ℕ) → 65 ≤ v → build_output ids v salt ring ≡ ring
  unfolding build_output
  vnodes_kept v salt ring h = rw (vnodes_refused v ring h)

  pub vnodes_answer : (v b : ℕ) (ring : List ℕ) → b ≡ byte_of v → build_answer ids b ring ≡ build_answer ids v ring
  vnodes_answer v b ring e =
      either (λ x. build_answer ids x ring ≡ build_answer ids v ring) v b e refl
      (λ l. vnodes_refused 255 ring (omega arith) ∙ sym (vnodes_refused v ring (omega arith)))

  pub vnodes_output : (v b salt : ℕ) (ring : List ℕ) → b ≡ byte_of v → build_output ids b salt ring ≡ build_output ids v salt ring
  vnodes_output v b salt ring e =
      either (λ x. build_output ids x salt ring ≡ build_output ids v salt ring) v b e refl
      (λ l. vnodes_kept 255 salt ring (omega arith) ∙ sym (vnodes_kept v salt ring (omega arith)))

-- ---- a number of owners
module _ (ring : List ℕ) (peers : PeerTable) (who : Admission) where
  count_refused : (r : ℕ) (out : List ℕ) → 4 ≤ r → owners_answer ring peers who r out ≡ refuses 17
  unfolding owners_answer bad_request
  count_refused r out h = rw (lt-ltb 3 r (omega arith), or-true (ltb r 1))

  count_kept : (x r : ℕ) (out : List ℕ) → 4 ≤ r → owners_output ring peers x who r out ≡ out
  unfolding owners_output
  count_kept x r out h = rw (count_refused r out h)

  pub count_answer_lem : (r b : ℕ) (out : List ℕ) → b ≡ byte_of r → owners_answer ring peers who b out ≡ owners_answer ring peers who r out
  count_answer_lem r b out e =
      either (λ x. owners_answer ring peers who x out ≡ owners_answer ring peers who r out) r b e refl
      (λ l. count_refused 255 out (omega arith) ∙ sym (count_refused r out (omega arith)))

  pub count_output : (x r b : ℕ) (out : List ℕ) → b ≡ byte_of r → owners_output ring peers x who b out ≡ owners_output ring peers x who r out
  count_output x r b out e =
      either (λ y. owners_output ring peers x who y out ≡ owners_output ring peers x who r out) r b e refl
      (λ l. count_kept x 255 out (omega arith) ∙ sym (count_kept x r out (omega arith)))

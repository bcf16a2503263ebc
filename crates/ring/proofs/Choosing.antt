-- What the walk over flags says of the owners, and the answer of the owner walk, check by check.
use mathlib.Core.Path.{◌≡◌, refl, sym, ap, ◌∙◌}
use mathlib.Core.Bool.{Bool, true, false, not, ◌||◌}
use mathlib.Core.List.{List, [], ◌∷◌, ◌++◌, map}
use Prim.Native.Nat.{ℕ, ◌/◌, ◌≤◌, ◌<◌, min}
use native.Mathlib.Nat.{mod-lt}
use native.Mathlib.Omega.{arith}
use lib.Dec.{ltb, lit<}
use lib.ListN.{length, take, drop, length-take}
use lib.Seq.{length-take-le}
use borrow.Author.Tests.{lt-ltb, le-ltb, ltb-false}
use Rattle.peers.specs.declared.PeerTable.{PeerTable}
use Rattle.peers.specs.declared.Admission.{Admission}
use Rattle.peers.specs.Table.{sound_table}
use Rattle.peers.specs.Admitted.{admits, admitted_flags}
use Rattle.peers.proofs.Flags.{flag_at_lem}
use Rattle.wire.proofs.Tests.{or-false}
use Rattle.ring.specs.Answer.{Answer, gives, refuses, written}
use Rattle.ring.specs.Lists.{filter, firsts}
use Rattle.ring.specs.Place.{node}
use Rattle.ring.specs.Sound.{sound_ring}
use Rattle.ring.specs.Walk.{before, met, owners_of, admitted_with_place}
use Rattle.ring.specs.Owners.{bad_request, owners_answer, owners_output}
use Rattle.ring.specs.Helpers.{turned, flagged, Walked}
use Rattle.ring.proofs.Answers.{told}
use Rattle.ring.proofs.Meeting.{around-turned}
use Rattle.ring.proofs.NodesMet.{length-met}

-- flags that say of each node whether it is admitted
filter_nodes : (f g : ℕ → Bool) → ((n : ℕ) → n < 256 → f n ≡ g n) → (l : List ℕ) → filter f (map node l) ≡ filter g (map node l)
unfolding filter
filter_nodes f g h [] = refl
filter_nodes f g h (p ∷ l) = rw (h (node p) (mod-lt (p / 256) (lit< tt)), filter_nodes f g h l)

-- the nodes taken are the owners, and their count tells how many nodes were met
module _ (flags : List Bool) (peers : PeerTable) (a : Admission) (e : flags ≡ admitted_flags a peers)
    (ring : List ℕ) (x r k count : ℕ) (nodes : List ℕ)
    (s : k ≡ length (before x ring)) (w : Walked flags k r ring nodes count) (m : r ≤ 3) where
  taken_owners : take count nodes ≡ owners_of (admits a peers) x r ring
  unfolding owners_of met
  taken_owners =
      w.taken
      ∙ ap (λ (l : List ℕ). take r (firsts l))
      (filter_nodes (flagged flags) (admits a peers) (λ n h. ap (λ (t : List Bool). flagged t n) e ∙ flag_at_lem a peers n h) (turned k ring))
      ∙ ap (λ (l : List ℕ). take r (firsts (filter (admits a peers) (map node l)))) (ap (λ (n : ℕ). turned n ring) s ∙ sym (around-turned x ring))

  count_owners : count ≡ length (owners_of (admits a peers) x r ring)
  count_owners = sym (length-take-le count nodes (omega (arith, w.size, w.most))) ∙ ap length taken_owners

  pub count_met : count ≡ min r (admitted_with_place (admits a peers) ring)
  unfolding owners_of
  count_met = count_owners ∙ length-take r (met (admits a peers) x ring) ∙ ap (min r) (length-met (admits a peers) x ring)

  pub put_owners : (out : List ℕ) → take count nodes ++ drop count out ≡ written (gives r) (owners_of (admits a peers) x r ring) out
  put_owners out =
      ap (λ (t : List ℕ). t ++ drop count out) taken_owners
      ∙ ap (λ (n : ℕ). owners_of (admits a peers) x r ring ++ drop n out) count_owners

-- ---- the answer, check by check
-- a request that passes the checks of 17 asks at most 3
pub at_most_3 : (peers : PeerTable) (r : ℕ) → bad_request peers r ≡ false → r ≤ 3
unfolding bad_request
at_most_3 peers r h = ltb-false 3 r (or-false (ltb r 1) (ltb 3 r) (or-false (ltb r 1 || ltb 3 r) (not (sound_table peers)) h).0).1

module _ (ring : List ℕ) (peers : PeerTable) (a : Admission) (r : ℕ) (out : List ℕ) where
  pub says : (x : ℕ) (b : Answer) → owners_answer ring peers a r out ≡ b
      → (b ≡ owners_answer ring peers a r out) × (written b (owners_of (admits a peers) x r ring) out ≡ owners_output ring peers x a r out)
  unfolding owners_output
  says x b e = told (owners_of (admits a peers) x r ring) out e

  pub unfit : bad_request peers r ≡ true → owners_answer ring peers a r out ≡ refuses 17
  unfolding owners_answer
  unfit h = rw h

  module _ (fit : bad_request peers r ≡ false) where
    pub ring_unsound : sound_ring ring ≡ false → owners_answer ring peers a r out ≡ refuses 16
    unfolding owners_answer
    ring_unsound e = rw (fit, e)

    module _ (e : sound_ring ring ≡ true) where
      pub too_few : admitted_with_place (admits a peers) ring < r → owners_answer ring peers a r out ≡ refuses 10
      unfolding owners_answer
      too_few m = rw (fit, e, lt-ltb _ _ m)

      module _ (m : r ≤ admitted_with_place (admits a peers) ring) where
        pub no_room : length out < r → owners_answer ring peers a r out ≡ refuses 4
        unfolding owners_answer
        no_room o = rw (fit, e, le-ltb _ _ m, lt-ltb _ _ o)

        pub all_found : r ≤ length out → owners_answer ring peers a r out ≡ gives r
        unfolding owners_answer
        all_found o = rw (fit, e, le-ltb _ _ m, le-ltb _ _ o)

        pub all_written : (x : ℕ) (after : List ℕ) → r ≤ length out → after ≡ written (gives r) (owners_of (admits a peers) x r ring) out
            → (gives r ≡ owners_answer ring peers a r out) × (after ≡ owners_output ring peers x a r out)
        all_written x after o w = let q = says x (gives r) (all_found o) in (q.0, w ∙ q.1)

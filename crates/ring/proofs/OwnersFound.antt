-- An owner walk that succeeds leaves an owner list, and TOO_FEW is exact.
use mathlib.Core.Path.{◌≡◌, sym, ◌∙◌}
use mathlib.Core.Bool.{Bool, true, false}
use mathlib.Core.List.{List, map}
use Prim.Native.Nat.{ℕ, ◌<◌}
use native.Mathlib.Omega.{arith}
use lib.Dec.{ltb}
use lib.ListN.{length, take}
use lib.Seq.{take_at}
use borrow.Author.Tests.{le-ltb, ltb-true, ltb-false}
use Rattle.peers.specs.Admitted.{admits}
use Rattle.wire.specs.Number.{Bytes}
use Rattle.wire.proofs.Tests.{cases, and-true}
use Rattle.ring.specs.Answer.{refuses}
use Rattle.ring.specs.Lists.{elem, distinct, filter}
use Rattle.ring.specs.Place.{node}
use Rattle.ring.specs.Build.{build_output}
use Rattle.ring.specs.Sound.{sound_ring}
use Rattle.ring.specs.Walk.{owners_of, admitted_with_place}
use Rattle.ring.specs.Owners.{bad_request, owners_answer, owners_output}
use Rattle.ring.specs.Meaning.{MeetsAdmitted, FindsOwners, TooFewExactly, TooFewOfIds}
use Rattle.ring.proofs.Answers.{given, not_given, refused}
use Rattle.ring.proofs.Elements.{elem-filter, distinct_filter}
use Rattle.ring.proofs.Counting.{count_below_ext, length-distinct}
use Rattle.ring.proofs.BuiltRing.{byte, listed_once, builds_ring}
use Rattle.ring.proofs.NodesMet.{elem-met, distinct-met, length-met, owner_list}
use Rattle.ring.proofs.Choosing.{too_few, no_room, all_found}

pub meets_admitted : (admitted : ℕ → Bool) (x : ℕ) (ring : List ℕ) → MeetsAdmitted admitted x ring
meets_admitted f x ring = record { members = elem-met f x ring; once = distinct-met f x ring; count = length-met f x ring }

pub finds_owners : FindsOwners
unfolding owners_answer owners_output
finds_owners ring peers x a r out n e =
    let f : ℕ → Bool = admits a peers in
    cases (bad_request peers r)
    (λ h. not_given (rw h at e))
    (λ h. cases (sound_ring ring)
    (λ s. cases (ltb (admitted_with_place f ring) r)
    (λ m. not_given (rw (h, s, m) at e))
    (λ m. cases (ltb (length out) r)
    (λ o. not_given (rw (h, s, m, o) at e))
    (λ o.
    let l = owner_list f x r ring (ltb-false (admitted_with_place f ring) r m) in
    (sym (given (rw (h, s, m, o) at e)), rw (h, s, m, o, take_at (owners_of f x r ring) _ r l.size) l))))
    (λ s. not_given (rw (h, s) at e)))

pub too_few_exactly : TooFewExactly
unfolding bad_request
too_few_exactly ring peers a r out s t h l = (few, too_few ring peers a r out fit s)
  where
    fit : bad_request peers r ≡ false
    fit = rw (le-ltb r 1 h, le-ltb 3 r l, t)

    few : owners_answer ring peers a r out ≡ refuses 10 → admitted_with_place (admits a peers) ring < r
    few e =
        cases (ltb (admitted_with_place (admits a peers) ring) r)
        (λ m. ltb-true _ _ m)
        (λ m. cases (ltb (length out) r)
        (λ o. absurd (omega (arith, refused (sym (no_room ring peers a r out fit s (ltb-false _ _ m) (ltb-true _ _ o)) ∙ e))))
        (λ o. not_given (sym e ∙ all_found ring peers a r out fit s (ltb-false _ _ m) (ltb-false _ _ o))))

-- on a ring that was built, the admitted nodes that have a place are the admitted ids
admitted_ids : (f : ℕ → Bool) (ids ring : List ℕ) → Bytes ids → distinct ids ≡ true → ((n : ℕ) → elem n (map node ring) ≡ elem n ids)
    → admitted_with_place f ring ≡ length (filter f ids)
unfolding admitted_with_place
admitted_ids f ids ring b d h =
    count_below_ext _ (λ n. elem n (filter f ids)) 256 (λ n l. rw (h n) (sym (elem-filter f n ids)))
    ∙ sym (length-distinct (filter f ids) 256 (distinct_filter f ids d) (λ n e. byte ids b n (and-true (f n) (elem n ids) (sym (elem-filter f n ids) ∙ e)).1))

pub too_few_of_ids : TooFewOfIds
too_few_of_ids ids v s slice n b e peers a r out t h l =
    let ring : List ℕ = take n (build_output ids v s slice) in
    let g = builds_ring ids v s slice n b e in
    rw (admitted_ids (admits a peers) ids ring b (listed_once ids v slice n e) g.nodes) at
    (too_few_exactly ring peers a r out g.sound t h l)

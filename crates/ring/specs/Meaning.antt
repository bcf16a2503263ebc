-- What is proved of rings and owner lists.
use Rattle.std.specs.Prelude.{◌≡◌, ◌⊎◌, ◌↔◌, Bool, true, ◌&&◌, List, map, ℕ, ◌*◌, ◌≤◌, ◌<◌, length, get_or, take}
use Rattle.wire.specs.Number.{Bytes}
use Rattle.peers.specs.declared.PeerTable.{PeerTable}
use Rattle.peers.specs.declared.Admission.{Admission}
use Rattle.peers.specs.Table.{sound_table}
use Rattle.peers.specs.Admitted.{admits}
use Rattle.ring.specs.Answer.{gives, refuses}
use Rattle.ring.specs.Lists.{elem, distinct, filter, first_at}
use Rattle.ring.specs.Place.{place_number, token, node, vnode, place_of}
use Rattle.ring.specs.Build.{build_answer, build_output}
use Rattle.ring.specs.Sound.{sound_ring}
use Rattle.ring.specs.Walk.{nodes_around, met, admitted_with_place}
use Rattle.ring.specs.Owners.{owners_answer, owners_output}

-- ---- places (R76)
abbrev pub PlaceParts : Type 0
PlaceParts = (t n i : ℕ) → n < 256 → i < 256
    → (token (place_number t n i) ≡ t) × (node (place_number t n i) ≡ n) × (vnode (place_number t n i) ≡ i)

-- places go by token, equal tokens by node, then by vnode (R77)
abbrev pub PlaceOrder : Type 0
PlaceOrder = (t n i t' n' i' : ℕ) → n < 256 → i < 256 → n' < 256 → i' < 256
    → place_number t n i < place_number t' n' i' ↔ (t < t') ⊎ ((t ≡ t') × (n < n')) ⊎ ((t ≡ t') × (n ≡ n') × (i < i'))

-- ---- building
-- the ring is sound and has exactly the places of its ids; a node has a place exactly if it is one
-- of them (R74, R75, R79)
pub record BuiltRing (ids : List ℕ) (v s : ℕ) (ring : List ℕ) : Type 0 where
  pub sound : sound_ring ring ≡ true
  pub size : length ring ≡ length ids * v
  pub has : (n i : ℕ) → elem n ids ≡ true → i < v → elem (place_of n i s) ring ≡ true
  pub only : (p : ℕ) → elem p ring ≡ true → (n : ℕ) × (i : ℕ) × (elem n ids ≡ true) × (i < v) × (p ≡ place_of n i s)
  pub nodes : (n : ℕ) → elem n (map node ring) ≡ elem n ids

-- what a successful build leaves at the front of the slice (R78)
abbrev pub BuildsRing : Type 0
BuildsRing = (ids : List ℕ) (v s : ℕ) (slice : List ℕ) (n : ℕ) → Bytes ids → build_answer ids v slice ≡ gives n
    → BuiltRing ids v s (take n (build_output ids v s slice))

-- ---- owners
-- the nodes that the walk from x meets are exactly the admitted ones that have a place, each once (R81, R82)
pub record MeetsAdmitted (admitted : ℕ → Bool) (x : ℕ) (ring : List ℕ) : Type 0 where
  pub members : (n : ℕ) → elem n (met admitted x ring) ≡ (admitted n && elem n (map node ring))
  pub once : distinct (met admitted x ring) ≡ true
  pub count : length (met admitted x ring) ≡ admitted_with_place admitted ring

-- r distinct admitted nodes that have a place, in the order in which the walk from x meets them,
-- with no admitted node passed over (R82)
pub record OwnerList (admitted : ℕ → Bool) (x r : ℕ) (ring owners : List ℕ) : Type 0 where
  pub size : length owners ≡ r
  pub once : distinct owners ≡ true
  pub admit : (n : ℕ) → elem n owners ≡ true → admitted n ≡ true
  pub placed : (n : ℕ) → elem n owners ≡ true → elem n (map node ring) ≡ true
  pub order : (j k : ℕ) → j < k → k < r → first_at (get_or owners j 0) (nodes_around x ring) < first_at (get_or owners k 0) (nodes_around x ring)
  pub none_passed : (n k : ℕ) → admitted n ≡ true → k < r
      → first_at n (nodes_around x ring) < first_at (get_or owners k 0) (nodes_around x ring) → elem n owners ≡ true

-- what a successful walk leaves at the front of the output (R80, R87)
abbrev pub FindsOwners : Type 0
FindsOwners = (ring : List ℕ) (peers : PeerTable) (x : ℕ) (a : Admission) (r : ℕ) (out : List ℕ) (n : ℕ) → owners_answer ring peers a r out ≡ gives n
    → (n ≡ r) × OwnerList (admits a peers) x r ring (take r (owners_output ring peers x a r out))

-- TOO_FEW exactly when fewer than r admitted nodes have a place (R86, R181)
abbrev pub TooFewExactly : Type 0
TooFewExactly = (ring : List ℕ) (peers : PeerTable) (a : Admission) (r : ℕ) (out : List ℕ)
    → sound_ring ring ≡ true → sound_table peers ≡ true → 1 ≤ r → r ≤ 3
    → owners_answer ring peers a r out ≡ refuses 10 ↔ admitted_with_place (admits a peers) ring < r

-- on a ring that was built, TOO_FEW exactly when fewer than r of its ids are admitted (R86, R181)
abbrev pub TooFewOfIds : Type 0
TooFewOfIds = (ids : List ℕ) (v s : ℕ) (slice : List ℕ) (n : ℕ) → Bytes ids → build_answer ids v slice ≡ gives n
    → (peers : PeerTable) (a : Admission) (r : ℕ) (out : List ℕ) → sound_table peers ≡ true → 1 ≤ r → r ≤ 3
    → owners_answer (take n (build_output ids v s slice)) peers a r out ≡ refuses 10 ↔ length (filter (admits a peers) ids) < r

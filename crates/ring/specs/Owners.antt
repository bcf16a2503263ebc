-- What the owner walk answers and what it writes.
use Rattle.std.specs.Prelude.{Bool, cond, not, ◌||◌, List, ℕ, ltb, length}
use Rattle.peers.specs.declared.PeerTable.{PeerTable}
use Rattle.peers.specs.declared.Admission.{Admission}
use Rattle.peers.specs.Table.{sound_table}
use Rattle.peers.specs.Admitted.{admits}
use Rattle.ring.specs.Answer.{Answer, gives, refuses, written}
use Rattle.ring.specs.Sound.{sound_ring}
use Rattle.ring.specs.Walk.{owners_of, admitted_with_place}

-- r outside 1 to 3, or a peer table that is not sound (R27, R83)
unfoldable pub bad_request : PeerTable → ℕ → Bool
bad_request peers r = ltb r 1 || ltb 3 r || not (sound_table peers)

-- the checks in order: 17, 16, 10, 4; a success gives r (R42, R86, R87)
unfoldable pub owners_answer : List ℕ → PeerTable → Admission → ℕ → List ℕ → Answer
owners_answer ring peers a r out =
    cond (bad_request peers r) (refuses 17)
    (cond (not (sound_ring ring)) (refuses 16)
    (cond (ltb (admitted_with_place (admits a peers) ring) r) (refuses 10)
    (cond (ltb (length out) r) (refuses 4)
    (gives r))))

-- the output after the call, for the position x (R72, R87)
unfoldable pub owners_output : List ℕ → PeerTable → ℕ → Admission → ℕ → List ℕ → List ℕ
owners_output ring peers x a r out = written (owners_answer ring peers a r out) (owners_of (admits a peers) x r ring) out

-- The halves of every result.
use mathlib.Core.Bool.{Bool, cond, not, ◌||◌}
use mathlib.Core.List.{List}
use Prim.Native.Nat.{ℕ, ◌*◌}
use native.Mathlib.Omega.{arith}
use lib.ListN.{length}
use lib.Dec.{leb, ltb}
use Rattle.entry.specs.declared.Refusal.TheVariants as refusal
use Rattle.entry.specs.Key.{bad_key}
use Rattle.entry.specs.Entry.{bad_time}
use Rattle.peers.specs.declared.Row.{Row}
use Rattle.peers.specs.declared.PeerTable.{PeerTable}
use Rattle.peers.specs.Table.{rows_of, has_row, held_incarnation, is_own, sound_table}
use Rattle.peers.specs.Admitted.{admits}
use Rattle.peers.specs.Event.{row_answer, fresh_answer, add_answer, heard_answer, reported_answer, tick_answer}
use Rattle.ring.specs.Answer.{Answer}
use Rattle.ring.specs.Place.{position_answer}
use Rattle.ring.specs.Build.{bad_arguments, build_answer}
use Rattle.ring.specs.Sound.{sound_ring}
use Rattle.ring.specs.Walk.{admitted_with_place}
use Rattle.ring.specs.Owners.{bad_request, owners_answer}
use Rattle.capi_words.specs.Meaning.{Told}
use Rattle.capi_words.proofs.Halves.{taken, alone, tells_none, tells, both, tells_both, tells_write}
use Rattle.capi_cluster.specs.Words.{is_table, table_of}
use Rattle.capi_cluster.specs.Peers.{event_refusal}
use Rattle.capi_cluster.specs.Ring.{refusal_in, admission_of, bad_form, owners_refusal}
use Rattle.capi_cluster.specs.Meaning.{ClusterResultsTakenApart}
use Rattle.capi_cluster.proofs.Rings.{built_most}

-- ---- what is told is 0 or a number
-- an event of the peer table
tells_event : (time : ℕ) (answer : PeerTable → ℕ) (w : List ℕ) → ((t : PeerTable) → Told (answer t)) → Told (event_refusal time answer w)
unfolding event_refusal
tells_event time answer w h =
    tells_both (bad_time time) 9 _ (tells refusal.BadTime) (tells_both (is_table w) _ 17 (h (table_of w)) (tells refusal.BadArgument))

tells_fresh : (now : ℕ) → Told (fresh_answer now)
unfolding fresh_answer
tells_fresh now = tells_both (bad_time now) 9 0 (tells refusal.BadTime) tells_none

tells_add : (i now : ℕ) (t : PeerTable) → Told (add_answer i now t)
unfolding add_answer
tells_add i now t =
    tells_both (bad_time now) 9 _ (tells refusal.BadTime)
    (tells_both (not (sound_table t)) 17 _ (tells refusal.BadArgument)
    (tells_both (has_row i (rows_of t)) 14 _ (tells refusal.PeerKnown)
    (tells_both (leb 10 t.count) 13 0 (tells refusal.TableFull) tells_none)))

tells_row : (i n : ℕ) (rows : List Row) → Told (row_answer i n rows)
unfolding row_answer
tells_row i n rows =
    tells_both (is_own i rows) 15 _ (tells refusal.OwnPeer)
    (tells_both (not (has_row i rows)) 11 _ (tells refusal.UnknownPeer)
    (tells_both (ltb n (held_incarnation i rows)) 12 0 (tells refusal.Stale) tells_none))

tells_heard : (i n now : ℕ) (t : PeerTable) → Told (heard_answer i n now t)
unfolding heard_answer
tells_heard i n now t =
    tells_both (bad_time now) 9 _ (tells refusal.BadTime) (tells_both (not (sound_table t)) 17 _ (tells refusal.BadArgument) (tells_row i n (rows_of t)))

tells_reported : (i s n now : ℕ) (t : PeerTable) → Told (reported_answer i s n now t)
unfolding reported_answer
tells_reported i s n now t =
    tells_both (bad_time now) 9 _ (tells refusal.BadTime)
    (tells_both (ltb 2 s || not (sound_table t)) 17 _ (tells refusal.BadArgument) (tells_row i n (rows_of t)))

tells_tick : (now : ℕ) (t : PeerTable) → Told (tick_answer now t)
unfolding tick_answer
tells_tick now t = tells_both (bad_time now) 9 _ (tells refusal.BadTime) (tells_both (not (sound_table t)) 17 0 (tells refusal.BadArgument) tells_none)

-- the ring's answers
tells_given : (b : Bool) (x y : Answer) → Told (refusal_in x) → Told (refusal_in y) → Told (refusal_in (cond b x y))
tells_given b x y p q = both (λ a. Told (refusal_in a)) b x y p q

tells_position : (key : List ℕ) (salt : ℕ) → Told (refusal_in (position_answer key salt))
unfolding position_answer
tells_position key salt = tells_given (bad_key key) _ _ (tells refusal.BadKey) tells_none

tells_build : (ids : List ℕ) (v : ℕ) (ring : List ℕ) → Told (refusal_in (build_answer ids v ring))
unfolding build_answer
tells_build ids v ring =
    tells_given (bad_arguments ids v) _ _ (tells refusal.BadArgument)
    (tells_given (ltb (length ring) (length ids * v)) _ _ (tells refusal.NoRoom) tells_none)

tells_owners : (ring w : List ℕ) (admission count : ℕ) (out : List ℕ) → Told (owners_refusal ring w admission count out)
unfolding owners_refusal owners_answer
tells_owners ring w admission count out =
    let peers = table_of w in
    let who = admission_of admission in
    tells_both (bad_form admission w) 17 _ (tells refusal.BadArgument)
    (tells_given (bad_request peers count) _ _ (tells refusal.BadArgument)
    (tells_given (not (sound_ring ring)) _ _ (tells refusal.BadRing)
    (tells_given (ltb (admitted_with_place (admits who peers) ring) count) _ _ (tells refusal.TooFew)
    (tells_given (ltb (length out) count) _ _ (tells refusal.NoRoom) tells_none))))

-- ---- every result
pub cluster_results_taken_apart : ClusterResultsTakenApart
cluster_results_taken_apart =
    record {
      peers_fresh = λ i a p n now w. alone _ (tells_write (fresh_answer now) _ w (tells_fresh now));
      peers_add = λ i now w. alone _ (tells_event now (add_answer i now) w (tells_add i now));
      peers_heard = λ i n now w. alone _ (tells_event now (heard_answer i n now) w (tells_heard i n now));
      peers_reported = λ i s n now w. alone _ (tells_event now (reported_answer i s n now) w (tells_reported i s n now));
      peers_tick = λ now w. alone _ (tells_event now (tick_answer now) w (tells_tick now));
      key_position = λ key salt w. alone _ (tells_write (refusal_in (position_answer key salt)) _ w (tells_position key salt));
      owners = λ ring w admission count out. alone _ (tells_owners ring w admission count out);
      ring_build = λ ids v ring. taken _ _ _ (tells_build ids v ring) (built_most ids v ring) (omega arith);
    }

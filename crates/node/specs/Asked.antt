-- What a request asks of a store, from its clock, its time, its frame and its reply buffer alone.
use Rattle.std.specs.Prelude.{ℕ, cond, ◌||◌, List, [], length, ltb, leb}
use Rattle.entry.specs.Entry.{Entry, entry_of, bad_time}
use Rattle.clock.specs.declared.Clock.{Clock}
use Rattle.clock.specs.Clock.{Stepped, stamp_of, send_step, receive_step}
use Rattle.clock.specs.Clock as clock
use Rattle.frame.specs.Message as message
use Rattle.frame.specs.Layout.{max_frame}
use Rattle.frame.specs.Reading.{Outcome, type_in, read_frame}
use Rattle.frame.specs.Reading as reading
use Rattle.store.specs.Overtaken.{overtaken}
use Rattle.store.specs.Lookup.{lookup_answer, value_part}
use Rattle.node.specs.Handler.{Served, refused, offered, gets}

pub data Asked : Type 0 where
  -- refused with this number, whatever a sound store holds
  refusal : ℕ → Asked
  -- GET of a key
  look_up : (key : List ℕ) → Asked
  -- PUT and DEL: the clock that was sent, and the entry with its stamp
  local_write : Clock → Entry → Asked
  -- REPL: the clock that received its stamp, and the entry as it came
  replica : Clock → Entry → Asked

-- by the step of the clock (R134, R135)
unfoldable pub asked_locally : List ℕ → List ℕ → ℕ → Stepped → Asked
asked_locally k v f (clock.next d) = local_write d (entry_of k v f (stamp_of d))
asked_locally k v f (clock.refused n) = refusal n

unfoldable pub asked_replica : Entry → Stepped → Asked  -- (R139)
asked_replica e (clock.next d) = replica d e
asked_replica e (clock.refused n) = refusal n

-- by the message (R134 to R139, R142)
unfoldable pub asked_by : Clock → ℕ → message.Message → Asked
asked_by c now (message.put k v) = asked_locally k v 0 (send_step c now)
asked_by c now (message.get k) = look_up k
asked_by c now (message.del k) = asked_locally k [] 1 (send_step c now)
asked_by c now (message.repl e) = asked_replica e (receive_step c e.stamp.phys e.stamp.logical now)
asked_by c now message.ok = refusal 3
asked_by c now (message.value v) = refusal 3
asked_by c now message.not_found = refusal 3
asked_by c now (message.err n) = refusal 3

unfoldable pub asked_in : Clock → ℕ → Outcome → Asked
asked_in c now (reading.message m) = asked_by c now m
asked_in c now (reading.refused n) = refusal n

-- 4, 9, 3, 1, 2, 8: the checks that no store decides (R11, R32, R142, R261)
unfoldable pub asked : Clock → ℕ → (frame reply : List ℕ) → Asked
asked c now frame reply =
    cond (ltb (length reply) max_frame) (refusal 4)
    (cond (bad_time now || bad_time c.phys) (refusal 9)
    (cond (leb 16 (type_in frame)) (refusal 3)
    (asked_in c now (read_frame frame))))

-- how a sound store answers: 7 for a local write that is overtaken (R14, R261)
unfoldable pub answer_to : List ℕ → Clock → Asked → Served
answer_to store c (refusal n) = refused n
answer_to store c (look_up k) = gets store c (value_part store k) (lookup_answer store k)
answer_to store c (local_write d e) = cond (overtaken store e.key e.stamp) (refused 7) (offered store d e)
answer_to store c (replica d e) = offered store d e

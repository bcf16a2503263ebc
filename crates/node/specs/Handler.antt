-- The request handler: the next store and clock, the reply buffer and the answer, for every input.
use Rattle.std.specs.Prelude.{ℕ, cond, not, ◌||◌, List, [], ◌++◌, length, drop, ltb, leb}
use Rattle.entry.specs.Entry.{Entry, entry_of, bad_time}
use Rattle.clock.specs.declared.Clock.{Clock}
use Rattle.clock.specs.Clock.{Stepped, stamp_of, send_step, receive_step}
use Rattle.clock.specs.Clock as clock
use Rattle.frame.specs.Message as message
use Rattle.frame.specs.Layout.{max_frame, frame_of}
use Rattle.frame.specs.Reading.{Outcome, type_in, read_frame}
use Rattle.frame.specs.Reading as reading
use Rattle.image.specs.Image.{sound}
use Rattle.store.specs.Answer.{Answer}
use Rattle.store.specs.Answer as answer
use Rattle.store.specs.Offer.{offer_answer, after_offer}
use Rattle.store.specs.Overtaken.{overtaken}
use Rattle.store.specs.Lookup.{Finding, lookup_answer, value_part}
use Rattle.store.specs.Lookup as lookup

-- a request that was served has a next store, a next clock and a message to reply; or it is refused with a number
pub data Served : Type 0 where
  done : List ℕ → Clock → message.Message → Served
  refused : ℕ → Served

-- ---- writing
-- by the answer of an offer: OK whether the entry is stored, replaces the held one, or the held
-- one is kept (R140)
unfoldable pub offer_served : List ℕ → Clock → Answer → Served
offer_served store next answer.stored = done store next message.ok
offer_served store next answer.replaced = done store next message.ok
offer_served store next answer.kept = done store next message.ok
offer_served store next (answer.merged n) = done store next message.ok
offer_served store next (answer.purged n) = done store next message.ok
offer_served store next (answer.refused n) = refused n

-- an entry is offered, and the clock goes on to the next one (R134, R135, R139)
unfoldable pub offered : List ℕ → Clock → Entry → Served
offered store next e = offer_served (after_offer store e) next (offer_answer store e)

-- PUT and DEL send the clock and offer the entry with its stamp; a stamp that is not greater
-- than the held one for that key is OVERTAKEN, 7 (R14, R134, R135)
unfoldable pub write_locally : List ℕ → List ℕ → List ℕ → ℕ → Stepped → Served
write_locally store k v f (clock.next c) = cond (overtaken store k (stamp_of c)) (refused 7) (offered store c (entry_of k v f (stamp_of c)))
write_locally store k v f (clock.refused n) = refused n

-- REPL receives the stamp and offers the entry as it came (R100, R139)
unfoldable pub take_replica : List ℕ → Entry → Stepped → Served
take_replica store e (clock.next c) = offered store c e
take_replica store e (clock.refused n) = refused n

-- ---- reading
-- GET replies VALUE, or NOTFOUND for DELETED and NEVER, and moves no clock (R136 to R138)
unfoldable pub gets : List ℕ → Clock → List ℕ → Finding → Served
gets store c v (lookup.value at len) = done store c (message.value v)
gets store c v lookup.deleted = done store c message.not_found
gets store c v lookup.never = done store c message.not_found
gets store c v (lookup.refused n) = refused n

-- ---- a request (R134 to R139, R142)
unfoldable pub serve : List ℕ → Clock → ℕ → message.Message → Served
serve store c now (message.put k v) = write_locally store k v 0 (send_step c now)
serve store c now (message.get k) = gets store c (value_part store k) (lookup_answer store k)
serve store c now (message.del k) = write_locally store k [] 1 (send_step c now)
serve store c now (message.repl e) = take_replica store e (receive_step c e.stamp.phys e.stamp.logical now)
serve store c now message.ok = refused 3
serve store c now (message.value v) = refused 3
serve store c now message.not_found = refused 3
serve store c now (message.err n) = refused 3

unfoldable pub serve_outcome : List ℕ → Clock → ℕ → Outcome → Served
serve_outcome store c now (reading.message m) = serve store c now m
serve_outcome store c now (reading.refused n) = refused n

-- 5, 9, 3 (reply types, 16 and above, among them), 1, 2, 8, then 7, 34 or 6: 7 needs a held key,
-- and 34 one that is not held (R32, R142, R258)
unfoldable pub serve_frame : List ℕ → Clock → ℕ → List ℕ → Served
serve_frame store c now frame =
    cond (not (sound store)) (refused 5)
    (cond (bad_time now || bad_time c.phys) (refused 9)
    (cond (leb 16 (type_in frame)) (refused 3)
    (serve_outcome store c now (read_frame frame))))

-- ---- the whole call
pub record Result : Type 0 where
  pub store : List ℕ
  pub clock : Clock
  pub reply : List ℕ
  -- how many bytes of the reply were written, and the refusal's number, 0 for none
  pub written : ℕ
  pub refusal : ℕ

-- a frame at the front of a buffer; later bytes stay (R30, R31)
unfoldable pub over : List ℕ → List ℕ → List ℕ
over frame buffer = frame ++ drop (length frame) buffer

-- a refusal leaves store and clock as they came, and writes an ERR frame (R29, R30, R141)
unfoldable pub settle : List ℕ → Clock → List ℕ → Served → Result
settle store c reply (done store' c' m) = record {
  store = store';
  clock = c';
  reply = over (frame_of m) reply;
  written = length (frame_of m);
  refusal = 0;
}
settle store c reply (refused n) = record {
  store = store;
  clock = c;
  reply = over (frame_of (message.err n)) reply;
  written = length (frame_of (message.err n));
  refusal = n;
}

-- 4 for a reply buffer under max_frame bytes, with nothing written, and then the rest (R11, R32)
unfoldable pub handled : List ℕ → Clock → ℕ → List ℕ → List ℕ → Result
handled store c now frame reply =
    cond (ltb (length reply) max_frame) (record { store = store; clock = c; reply = reply; written = 0; refusal = 4 })
    (settle store c reply (serve_frame store c now frame))

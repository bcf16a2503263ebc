-- What an auditor would ask of the handler.
use Rattle.std.specs.Prelude.{ℕ, ◌^◌, ◌≤◌, ◌<◌, ◌≡◌, ◌⊎◌, ◌↔◌, true, false, cond, List, [], length, take, ltb}
use Rattle.std.proofs.Math.Option.{Option, none, some}
use Rattle.wire.specs.Number.{Bytes}
use Rattle.entry.specs.Refusal.{Numbered}
use Rattle.entry.specs.Key.{bad_key}
use Rattle.entry.specs.Order.{stamp_below}
use Rattle.entry.specs.Entry.{Entry, entry_of, beats}
use Rattle.clock.specs.declared.Clock.{Clock}
use Rattle.clock.specs.Clock.{next, stamp_of, send_step, receive_step}
use Rattle.frame.specs.Message.{Message, put, get, del, repl, value, not_found, err, key_of, InRange}
use Rattle.frame.specs.Layout.{max_frame}
use Rattle.frame.specs.Reading.{message, read_frame}
use Rattle.image.specs.Image.{slots_of, line_of, entries_of, sound}
use Rattle.store.specs.Held.{◌∈◌, put as put_entry, find, below_line}
use Rattle.store.specs.Offer.{after_offer}
use Rattle.store.specs.Meaning.{Representable}
use Rattle.node.specs.Handler.{Result, done, serve, settle, handled}
use Rattle.node.specs.Asked.{Asked, refusal, look_up, local_write, replica, asked, answer_to}

-- a message is served, and leaves the store s'
pub record Serves (s : List ℕ) (c : Clock) (now : ℕ) (m : Message) (s' : List ℕ) : Type 0 where
  pub next : Clock
  pub says : Message
  pub is : serve s c now m ≡ done s' next says

-- a refusal, whatever the input, leaves the store and the clock as they came (R29, R141)
abbrev pub RefusalChangesNothing : Type 0
RefusalChangesNothing = (store : List ℕ) (c : Clock) (now : ℕ) (frame reply : List ℕ) → ((handled store c now frame reply).refusal ≡ 0 → ⊥)
    → ((handled store c now frame reply).store ≡ store) × ((handled store c now frame reply).clock ≡ c)

-- a replicated entry that does not beat the held one of its key leaves the store as it came (R140)
abbrev pub StaleReplicaChangesNothing : Type 0
StaleReplicaChangesNothing = (s s' : List ℕ) (c d : Clock) (now : ℕ) (e h : Entry) (m : Message) → sound s ≡ true
    → find e.key (entries_of s) ≡ some h → beats e h ≡ false → serve s c now (repl e) ≡ done s' d m → s' ≡ s

-- a GET after an accepted PUT of its key gives that value, at any clock and any time (R134, R136)
abbrev pub GetAfterPut : Type 0
GetAfterPut = (s s' : List ℕ) (c d c' : Clock) (now now' : ℕ) (k v : List ℕ) (m : Message) → sound s ≡ true → c.node < 2 ^ 8
    → serve s c now (put k v) ≡ done s' d m → serve s' c' now' (get k) ≡ done s' c' (value v)

-- and after an accepted DEL, NOTFOUND (R135, R137)
abbrev pub GetAfterDel : Type 0
GetAfterDel = (s s' : List ℕ) (c d c' : Clock) (now now' : ℕ) (k : List ℕ) (m : Message) → sound s ≡ true → c.node < 2 ^ 8
    → serve s c now (del k) ≡ done s' d m → serve s' c' now' (get k) ≡ done s' c' not_found

-- some entries hold one with the key of h, whose stamp is not below that of h, and that h does not
-- beat (R256)
pub record StillHeld (h : Entry) (es : List Entry) : Type 0 where
  pub entry : Entry
  pub held : entry ∈ es
  pub same_key : h.key ≡ entry.key
  pub not_lower : stamp_below entry.stamp h.stamp ≡ false
  pub not_beaten : beats h entry ≡ false

-- a served request leaves a sound store, loses no held key, lowers no held stamp, and puts no entry
-- in the place of one that beats it (R139, R190, R256)
abbrev pub NeverLosesOrLowers : Type 0
NeverLosesOrLowers = (s s' : List ℕ) (c d : Clock) (now : ℕ) (m m' : Message) → sound s ≡ true → c.node < 2 ^ 8 → InRange m
    → serve s c now m ≡ done s' d m' → (sound s' ≡ true) × ((h : Entry) → h ∈ entries_of s → StillHeld h (entries_of s'))

-- the bytes written by a call read as a message; the refusal is 0 for none, or one of the numbers,
-- and the message is then its ERR (R7, R30)
pub record ReadsBack (x : Result) : Type 0 where
  pub says : Message
  pub reads : read_frame (take x.written x.reply) ≡ message says
  pub numbered : (x.refusal ≡ 0) ⊎ Numbered x.refusal
  pub tells : (x.refusal ≡ 0 → ⊥) → says ≡ err x.refusal

-- every reply reads back, where the reply buffer has room (R30)
abbrev pub ReplyReadsBack : Type 0
ReplyReadsBack = (store : List ℕ) (c : Clock) (now : ℕ) (frame reply : List ℕ) → max_frame ≤ length reply → ReadsBack (handled store c now frame reply)

-- no reply is longer than the longest frame, whatever the input (R49)
abbrev pub ReplyAtMost600 : Type 0
ReplyAtMost600 = (store : List ℕ) (c : Clock) (now : ℕ) (frame reply : List ℕ) → (handled store c now frame reply).written ≤ max_frame

-- ---- the same of whole calls

-- a call that is not refused serves the message that its frame reads as, on a sound store (R32)
abbrev pub AcceptedCallServes : Type 0
AcceptedCallServes = (s : List ℕ) (c : Clock) (now : ℕ) (frame reply : List ℕ) (m : Message) → (handled s c now frame reply).refusal ≡ 0
    → read_frame frame ≡ message m → (sound s ≡ true) × Serves s c now m (handled s c now frame reply).store

-- a REPL frame whose entry does not beat the held one leaves any store as it came, whatever else is
-- given (R140)
abbrev pub StaleFrameChangesNothing : Type 0
StaleFrameChangesNothing = (s : List ℕ) (c : Clock) (now : ℕ) (frame reply : List ℕ) (e h : Entry) → read_frame frame ≡ message (repl e)
    → find e.key (entries_of s) ≡ some h → beats e h ≡ false → (handled s c now frame reply).store ≡ s

-- any call, refused or not, leaves a sound store sound, loses no held key, lowers no held stamp, and
-- puts no entry in the place of one that beats it (R139, R190, R256)
abbrev pub CallNeverLosesOrLowers : Type 0
CallNeverLosesOrLowers = (s : List ℕ) (c : Clock) (now : ℕ) (frame reply : List ℕ) → Bytes frame → sound s ≡ true → c.node < 2 ^ 8
    → (sound (handled s c now frame reply).store ≡ true) × ((h : Entry) → h ∈ entries_of s → StillHeld h (entries_of (handled s c now frame reply).store))

-- the entry held for a key after a replica of it: the replica as it came if none was held before or
-- it beats that one, else that one
abbrev pub held_after : Entry → Option Entry → Entry
held_after e none = e
held_after e (some h) = cond (beats e h) e h

-- an accepted REPL leaves its entry held with its stamp unaltered, far ahead or not, if none of its
-- key was held or it beats that one, else that one (R100, R139)
abbrev pub AcceptedReplicaIsHeld : Type 0
AcceptedReplicaIsHeld = (s : List ℕ) (c : Clock) (now : ℕ) (frame reply : List ℕ) (e : Entry) → Bytes frame → read_frame frame ≡ message (repl e)
    → (handled s c now frame reply).refusal ≡ 0
    → find e.key (entries_of (handled s c now frame reply).store) ≡ some (held_after e (find e.key (entries_of s)))

-- a call, refused or not, leaves the entries of keys other than that of its frame's message as
-- they were
abbrev pub OtherKeysUntouched : Type 0
OtherKeysUntouched = (s : List ℕ) (c : Clock) (now : ℕ) (frame reply k : List ℕ) → Bytes frame → c.node < 2 ^ 8
    → ((m : Message) → read_frame frame ≡ message m → k ≡ key_of m → ⊥) → find k (entries_of (handled s c now frame reply).store) ≡ find k (entries_of s)

-- no call lowers the clock or its skew count, or changes its node id
pub record NotLowered (c d : Clock) : Type 0 where
  pub stamp : stamp_below (stamp_of d) (stamp_of c) ≡ false
  pub skew : c.skew ≤ d.skew
  pub node : d.node ≡ c.node

abbrev pub ClockNeverLowered : Type 0
ClockNeverLowered = (s : List ℕ) (c : Clock) (now : ℕ) (frame reply : List ℕ) → NotLowered c (handled s c now frame reply).clock

-- a GET frame leaves any store and any clock as they came, whatever else is given (R138)
abbrev pub GetFrameChangesNothing : Type 0
GetFrameChangesNothing = (s : List ℕ) (c : Clock) (now : ℕ) (frame reply k : List ℕ) → read_frame frame ≡ message (get k)
    → ((handled s c now frame reply).store ≡ s) × ((handled s c now frame reply).clock ≡ c)

-- a frame that reads as m was accepted and left the store t; one that reads as GET k is then answered with m', and moves neither store nor clock (R134 to R138)
abbrev pub GetsAfter : Message → List ℕ → Message → Type 0
GetsAfter m k m' = (s : List ℕ) (c c' : Clock) (now now' : ℕ) (frame frame' reply reply' : List ℕ) → c.node < 2 ^ 8
    → read_frame frame ≡ message m → (handled s c now frame reply).refusal ≡ 0
    → read_frame frame' ≡ message (get k) → now' < 2 ^ 48 → c'.phys < 2 ^ 48 → max_frame ≤ length reply'
    → let t : List ℕ = (handled s c now frame reply).store in handled t c' now' frame' reply' ≡ settle t c' reply' (done t c' m')

abbrev pub GetFrameAfterPutFrame : Type 0
GetFrameAfterPutFrame = (k v : List ℕ) → GetsAfter (put k v) k (value v)

abbrev pub GetFrameAfterDelFrame : Type 0
GetFrameAfterDelFrame = (k : List ℕ) → GetsAfter (del k) k not_found

-- ---- every store that a call leaves
-- the store t is the one after an offer of one entry that `offer` can be given
pub record AfterOffer (s t : List ℕ) : Type 0 where
  pub entry : Entry
  pub fits : Representable entry
  pub left : t ≡ after_offer s entry

-- the store that a call leaves is the one that it found, or one after an offer
abbrev pub FoundOrOffered : Type 0
FoundOrOffered = (s : List ℕ) (c : Clock) (now : ℕ) (frame reply : List ℕ) → Bytes frame → c.node < 2 ^ 8
    → ((handled s c now frame reply).store ≡ s) ⊎ AfterOffer s (handled s c now frame reply).store

-- ---- 7, 34 and 6, exactly
-- a call passes the checks 4, 5, 9, 3, 1 and 2, and asks m (R32)
pub record Asks (s : List ℕ) (c : Clock) (now : ℕ) (frame reply : List ℕ) (m : Message) : Type 0 where
  pub room : max_frame ≤ length reply
  pub is_sound : sound s ≡ true
  pub time : now < 2 ^ 48
  pub phys : c.phys < 2 ^ 48
  pub reads : read_frame frame ≡ message m

-- PUT and DEL send the clock to d, and make an entry with its stamp (R134, R135)
pub data LocalWrite (c : Clock) (now : ℕ) (d : Clock) : Message → Entry → Type 0 where
  a_put : (k v : List ℕ) → send_step c now ≡ next d → LocalWrite c now d (put k v) (entry_of k v 0 (stamp_of d))
  a_del : (k : List ℕ) → send_step c now ≡ next d → LocalWrite c now d (del k) (entry_of k [] 1 (stamp_of d))

-- REPL receives a stamp, which moves the clock to d, and brings its entry (R139)
pub data Replica (c : Clock) (now : ℕ) (d : Clock) : Message → Entry → Type 0 where
  a_repl : (e : Entry) → receive_step c e.stamp.phys e.stamp.logical now ≡ next d → Replica c now d (repl e) e

-- a local write whose stamp is not above that of the held entry of its key, whatever the contents
-- (R14)
pub record OvertakenWrite (s : List ℕ) (c : Clock) (now : ℕ) (frame reply : List ℕ) : Type 0 where
  pub request : Message
  pub asks : Asks s c now frame reply request
  pub sent : Clock
  pub entry : Entry
  pub writes : LocalWrite c now sent request entry
  pub held : Entry
  pub held_now : find entry.key (entries_of s) ≡ some held
  pub not_below : stamp_below held.stamp entry.stamp ≡ false

-- a write with a phys below the purge line, of a key that is not held (R258)
pub record BelowLineWrite (s : List ℕ) (c : Clock) (now : ℕ) (frame reply : List ℕ) : Type 0 where
  pub request : Message
  pub asks : Asks s c now frame reply request
  pub moved : Clock
  pub entry : Entry
  pub writes : LocalWrite c now moved request entry ⊎ Replica c now moved request entry
  pub below : below_line (line_of s) (entries_of s) entry ≡ true

-- a write not below the line, with which the distinct keys held would exceed the slots (R13, R258)
pub record FullWrite (s : List ℕ) (c : Clock) (now : ℕ) (frame reply : List ℕ) : Type 0 where
  pub request : Message
  pub asks : Asks s c now frame reply request
  pub moved : Clock
  pub entry : Entry
  pub writes : LocalWrite c now moved request entry ⊎ Replica c now moved request entry
  pub not_below : below_line (line_of s) (entries_of s) entry ≡ false
  pub exceeds : slots_of s < length (put_entry entry (entries_of s))

-- a call is refused with 7 exactly if it is such a local write (R14)
abbrev pub OvertakenExactly : Type 0
OvertakenExactly = (s : List ℕ) (c : Clock) (now : ℕ) (frame reply : List ℕ) → (handled s c now frame reply).refusal ≡ 7 ↔ OvertakenWrite s c now frame reply

-- with 34 exactly if it is such a write (R258)
abbrev pub BelowLineExactly : Type 0
BelowLineExactly = (s : List ℕ) (c : Clock) (now : ℕ) (frame reply : List ℕ) → Bytes frame
    → (handled s c now frame reply).refusal ≡ 34 ↔ BelowLineWrite s c now frame reply

-- and with 6 exactly if it is such a write (R13)
abbrev pub FullExactly : Type 0
FullExactly = (s : List ℕ) (c : Clock) (now : ℕ) (frame reply : List ℕ) → Bytes frame
    → (handled s c now frame reply).refusal ≡ 6 ↔ FullWrite s c now frame reply

-- ---- a request apart from the store
-- a call on a sound store is answered by what it asks, and the store (R32, R261)
abbrev pub AnsweredAsAsked : Type 0
AnsweredAsAsked = (s : List ℕ) (c : Clock) (now : ℕ) (frame reply : List ℕ) → sound s ≡ true → ltb (length reply) max_frame ≡ false
    → handled s c now frame reply ≡ settle s c reply (answer_to s c (asked c now frame reply))

-- the entry that a request brings is one that `offer` can be given, and a key that it looks up is
-- acceptable (R5, R6, R261)
abbrev pub AskedFits : Asked → Type 0
AskedFits (refusal n) = Unit {0}
AskedFits (look_up k) = bad_key k ≡ false
AskedFits (local_write d e) = Representable e
AskedFits (replica d e) = Representable e

-- of every request (R261)
abbrev pub EachAskedFits : Type 0
EachAskedFits = (c : Clock) (now : ℕ) (frame reply : List ℕ) → Bytes frame → c.node < 2 ^ 8 → AskedFits (asked c now frame reply)

-- with a short reply buffer a request asks for nothing but 4, whatever else is given, and the call
-- leaves the store, the clock and the buffer as they came (R11)
abbrev pub ShortReplyRefused : Type 0
ShortReplyRefused = (s : List ℕ) (c : Clock) (now : ℕ) (frame reply : List ℕ) → ltb (length reply) max_frame ≡ true
    → (asked c now frame reply ≡ refusal 4)
    × (handled s c now frame reply ≡ record { store = s; clock = c; reply = reply; written = 0; refusal = 4 })

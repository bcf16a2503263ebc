-- The messages, and which of them are refused.
use Rattle.std.specs.Prelude.{ℕ, ◌^◌, ◌<◌, Bool, false, cond, ◌||◌, List, [], length, ltb, eqb}
use Rattle.entry.specs.Key.{bad_key}
use Rattle.entry.specs.Entry.{Entry, bad_time, bad_flag}

-- put has a key and a value, get and del a key, repl an entry, value a value, err a refusal number (R53 to R60)
pub data Message : Type 0 where
  put : List ℕ → List ℕ → Message
  get : List ℕ → Message
  del : List ℕ → Message
  repl : Entry → Message
  ok : Message
  value : List ℕ → Message
  not_found : Message
  err : ℕ → Message

-- the key of a message, and its value; empty where it has none
abbrev pub key_of : Message → List ℕ
key_of (put k v) = k
key_of (get k) = k
key_of (del k) = k
key_of (repl e) = e.key
key_of ok = []
key_of (value v) = []
key_of not_found = []
key_of (err n) = []

abbrev pub value_of : Message → List ℕ
value_of (put k v) = v
value_of (get k) = []
value_of (del k) = []
value_of (repl e) = e.value
value_of ok = []
value_of (value v) = v
value_of not_found = []
value_of (err n) = []

-- a time is out of range: 9 (R16, R26)
unfoldable pub time_fault : Message → Bool
time_fault (put k v) = false
time_fault (get k) = false
time_fault (del k) = false
time_fault (repl e) = bad_time e.stamp.phys
time_fault ok = false
time_fault (value v) = false
time_fault not_found = false
time_fault (err n) = false

-- the key is refused: 1 (R66)
unfoldable pub key_fault : Message → Bool
key_fault (put k v) = bad_key k
key_fault (get k) = bad_key k
key_fault (del k) = bad_key k
key_fault (repl e) = bad_key e.key
key_fault ok = false
key_fault (value v) = false
key_fault not_found = false
key_fault (err n) = false

-- a value is over 512 bytes (R9, R226)
abbrev pub too_large : List ℕ → Bool
too_large v = ltb 512 (length v)

-- the value is refused: 2 (R9, R66)
unfoldable pub value_fault : Message → Bool
value_fault (put k v) = too_large v
value_fault (get k) = false
value_fault (del k) = false
value_fault (repl e) = too_large e.value
value_fault ok = false
value_fault (value v) = too_large v
value_fault not_found = false
value_fault (err n) = false

-- a flag or an ERR number is out of its range, or a tombstone has a value: 17; ERR numbers are 1 to 255 (R27, R63, R64)
unfoldable pub argument_fault : Message → Bool
argument_fault (put k v) = false
argument_fault (get k) = false
argument_fault (del k) = false
argument_fault (repl e) = bad_flag e
argument_fault ok = false
argument_fault (value v) = false
argument_fault not_found = false
argument_fault (err n) = eqb n 0 || ltb 255 n

-- the first of 9, 1, 2 and 17 that a message to be written fails, or 0 if it fails none (R36)
unfoldable pub message_refusal : Message → ℕ
message_refusal m =
    cond (time_fault m) 9
    (cond (key_fault m) 1
    (cond (value_fault m) 2
    (cond (argument_fault m) 17
    0)))

-- the numbers that no check bounds are in the ranges of their fields (R5, R6)
abbrev pub InRange : Message → Type 0
InRange (put k v) = Unit {0}
InRange (get k) = Unit {0}
InRange (del k) = Unit {0}
InRange (repl e) = (e.stamp.logical < 2 ^ 16) × (e.stamp.node < 2 ^ 8)
InRange ok = Unit {0}
InRange (value v) = Unit {0}
InRange not_found = Unit {0}
InRange (err n) = Unit {0}

-- The bytes of a message: LEN(2) TYPE(1) FLAGS(1) BODY CRC32C(4).
use Rattle.std.specs.Prelude.{ℕ, ◌+◌, ◌-◌, List, [], ◌∷◌, ◌++◌, length}
use Rattle.wire.specs.Number.{be}
use Rattle.checksum.specs.Crc32c.{crc32c}
use Rattle.entry.specs.declared.Stamp.{Stamp}
use Rattle.frame.specs.declared.kind.Kind.{Kind}
use Rattle.frame.specs.declared.kind.Kind.TheVariants as kind
use Rattle.frame.specs.Message.{Message, put, get, del, repl, ok, value, not_found, err}

-- the longest frame, in bytes (R49)
abbrev pub max_frame : ℕ
max_frame = 600

-- LEN counts what follows it (R49)
abbrev pub max_len : ℕ
max_len = max_frame - 2

-- a frame has eight bytes besides its body
abbrev pub max_body : ℕ
max_body = max_frame - 8

-- the length of a byte string in w bytes, and the byte string
unfoldable pub counted : ℕ → List ℕ → List ℕ
counted w s = be w (length s) ++ s

-- klen(1) key (R53 to R56)
abbrev pub key_bytes : List ℕ → List ℕ
key_bytes k = counted 1 k

-- vlen(2) value (R53, R56, R58)
abbrev pub value_bytes : List ℕ → List ℕ
value_bytes v = counted 2 v

-- phys(6) logical(2) node(1) (R56)
unfoldable pub stamp_bytes : Stamp → List ℕ
stamp_bytes s = be 6 s.phys ++ be 2 s.logical ++ be 1 s.node

-- TYPE of each kind of message (R53 to R60, R199)
abbrev pub number_of : Kind → ℕ
number_of kind.Put = 1
number_of kind.Get = 2
number_of kind.Del = 3
number_of kind.Repl = 4
number_of kind.Ok = 16
number_of kind.Value = 17
number_of kind.NotFound = 18
number_of kind.Err = 20

unfoldable pub type_of : Message → ℕ  -- (R53 to R60)
type_of (put k v) = 1
type_of (get k) = 2
type_of (del k) = 3
type_of (repl e) = 4
type_of ok = 16
type_of (value v) = 17
type_of not_found = 18
type_of (err n) = 20

unfoldable pub body : Message → List ℕ  -- (R53 to R60)
body (put k v) = key_bytes k ++ value_bytes v
body (get k) = key_bytes k
body (del k) = key_bytes k
body (repl e) = key_bytes e.key ++ be 1 e.flag ++ stamp_bytes e.stamp ++ value_bytes e.value
body ok = []
body (value v) = value_bytes v
body not_found = []
body (err n) = be 1 n

-- a body of a type in its frame: LEN counts TYPE through the checksum, FLAGS is 0, the checksum covers TYPE through the body's end (R47, R48, R50, R52)
unfoldable pub envelope : ℕ → List ℕ → List ℕ
envelope t b = be 2 (length b + 6) ++ (t ∷ 0 ∷ b) ++ be 4 (crc32c (t ∷ 0 ∷ b))

unfoldable pub frame_of : Message → List ℕ  -- (R47, R224, R225)
frame_of m = envelope (type_of m) (body m)

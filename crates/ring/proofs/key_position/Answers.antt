use mathlib.Core.Path.{◌≡◌}
use mathlib.Core.Bool.{true, false}
use mathlib.Core.List.{List}
use Prim.Native.Nat.{ℕ}
use Rattle.entry.specs.Key.{bad_key}
use Rattle.entry.proofs.Accept.{opposite_true, opposite_false}
use Rattle.ring.specs.Answer.{gives, refuses}
use Rattle.ring.specs.Place.{position_of, position_answer}
use mathlib.Core.Path.{ap}
use mathlib.Core.Bool.{not}
use Rattle.ring.proofs.key_position.Goals as goal

refused : (key : List ℕ) (s : ℕ) → bad_key key ≡ true → refuses 1 ≡ position_answer key s
unfolding position_answer
refused key s h = rw h

found : (key : List ℕ) (s : ℕ) → bad_key key ≡ false → gives (position_of key s) ≡ position_answer key s
unfolding position_answer
found key s h = rw h

pub returns-then-not-is_acceptable_key : goal.returns-then-not-is_acceptable_key
returns-then-not-is_acceptable_key c = refused _ _ (opposite_true _ _ c.is_acceptable_key.ensures (ap not c.if-not-is_acceptable_key.true))

pub returns : goal.returns
unfolding position_of
returns c = rw (c.fmix32.ensures, c.crc32c.ensures)
    (found _ _ (opposite_false _ _ c.is_acceptable_key.ensures (ap not c.if-not-is_acceptable_key.false)))

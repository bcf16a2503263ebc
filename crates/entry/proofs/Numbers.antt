-- The refusal numbers go from 1 to the last: none is 0.
use native.Mathlib.Omega.{arith}
use mathlib.Core.Path.{◌≡◌}
use mathlib.Core.Bool.{false}
use lib.Dec.{eqb}
use borrow.Author.Tests.{ne_eqb}
use Rattle.entry.specs.declared.Refusal.{Refusal}
use Rattle.entry.specs.declared.Refusal.TheVariants as refusal
use Rattle.entry.specs.Refusal.{number}
use Rattle.entry.specs.Meaning.{NumberRange}

pub number-range : NumberRange
number-range refusal.BadKey = omega arith
number-range refusal.ValueTooLarge = omega arith
number-range refusal.BadFrame = omega arith
number-range refusal.NoRoom = omega arith
number-range refusal.BadStore = omega arith
number-range refusal.StoreFull = omega arith
number-range refusal.Overtaken = omega arith
number-range refusal.ClockSpent = omega arith
number-range refusal.BadTime = omega arith
number-range refusal.TooFew = omega arith
number-range refusal.UnknownPeer = omega arith
number-range refusal.Stale = omega arith
number-range refusal.TableFull = omega arith
number-range refusal.PeerKnown = omega arith
number-range refusal.OwnPeer = omega arith
number-range refusal.BadRing = omega arith
number-range refusal.BadArgument = omega arith
number-range refusal.LowerLine = omega arith
number-range refusal.BelowLine = omega arith
number-range refusal.UnequalLines = omega arith

pub number_not_zero : (r : Refusal) → number r ≡ 0 → ⊥
number_not_zero r e = omega (arith, (number-range r).0)

pub number_not_0 : (r : Refusal) → eqb (number r) 0 ≡ false
number_not_0 r = ne_eqb (number r) 0 (number_not_zero r)

-- The refusal numbers. The rules' SELF is `OwnPeer` here.
use Rattle.std.specs.Prelude.{ℕ, ◌≡◌, Result, Ok, Err}
use Rattle.entry.specs.declared.Refusal.{Refusal}
use Rattle.entry.specs.declared.Refusal.TheVariants as refusal

abbrev pub number : Refusal → ℕ  -- (R7, R199)
number refusal.BadKey = 1
number refusal.ValueTooLarge = 2
number refusal.BadFrame = 3
number refusal.NoRoom = 4
number refusal.BadStore = 5
number refusal.StoreFull = 6
number refusal.Overtaken = 7
number refusal.ClockSpent = 8
number refusal.BadTime = 9
number refusal.TooFew = 10
number refusal.UnknownPeer = 11
number refusal.Stale = 12
number refusal.TableFull = 13
number refusal.PeerKnown = 14
number refusal.OwnPeer = 15
number refusal.BadRing = 16
number refusal.BadArgument = 17
number refusal.LowerLine = 33
number refusal.BelowLine = 34
number refusal.UnequalLines = 35

-- the highest of them (R7)
abbrev pub last_number : ℕ
last_number = 35

-- a number that a refusal has: there are gaps between them (R7, R168)
abbrev pub Numbered : ℕ → Type 0
Numbered n = (r : Refusal) × (number r ≡ n)

-- what a result means that has no more to say than whether something was done: the number of the
-- refusal, or 0 if there is none (R199)
abbrev pub refusal_number : {A : Type 0} → Result A Refusal → ℕ
refusal_number (Ok a) = 0
refusal_number (Err r) = number r

-- Refusals, and the number that each has in documents 01 and 02. "An accepted call answers 0." Assumes nothing.
use Rattle.std.specs.Prelude.{ℕ, Bool, true, false, Result, Ok, Err}
use Rattle.basics.specs.declared.refusal.Refusal.{Refusal}
use Rattle.basics.specs.declared.refusal.Refusal.TheVariants as why

abbrev pub number_of : Refusal → ℕ
number_of why.NoStation = 1
number_of why.Lost = 2
number_of why.Claimed = 3
number_of why.NotClaimed = 4
number_of why.Held = 5
number_of why.Idle = 6
number_of why.Decided = 7
number_of why.Waits = 8
number_of why.NoBallot = 9
number_of why.NoBit = 10
number_of why.Answered = 11
number_of why.NotCast = 12
number_of why.Short = 20
number_of why.UnknownTag = 21
number_of why.WrongLength = 22
number_of why.Cut = 23
number_of why.NoOpening = 24
number_of why.SecondOpening = 25
number_of why.Limit = 26
number_of why.NoRoom = 30
number_of why.Stations = 40
number_of why.Rule = 41
number_of why.Record = 42
number_of why.NotClosed = 43
number_of why.OpeningsDiffer = 60
number_of why.StationInBoth = 61
number_of why.NoOrder = 62
number_of why.ImageLength = 80
number_of why.ImageVersion = 81

-- the number that an answer tells: 0 where it is accepted
abbrev pub told : {A : Type 0} → Result A Refusal → ℕ
told (Ok x) = 0
told (Err e) = number_of e

-- a refusal where the test is met
abbrev pub refused_if : Bool → Refusal → Result (Unit {0}) Refusal
refused_if true e = Err e
refused_if false e = Ok (record {})

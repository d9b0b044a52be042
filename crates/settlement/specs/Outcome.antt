-- What OPEN and an event answer, as a number and a settlement (document 01, "Operations and what they turn away"): "An accepted call answers 0. A refused
-- event answers its number and the very settlement it was given." Assumes nothing.
use Rattle.std.specs.Prelude.{ℕ, Result, Ok, Err}
use Rattle.basics.specs.Refusals.{number_of}
use Rattle.settlement.specs.declared.record.Settlement.{Settlement}
use Rattle.settlement.specs.declared.record.Refused.{Refused}

pub record Outcome : Type 0 where
  pub number : ℕ
  pub settlement : Settlement

-- what an answer tells, where the settlement is handed back with it
abbrev pub outcome_told : Result Settlement Refused → Outcome
outcome_told (Ok r) = record { number = 0; settlement = r }
outcome_told (Err x) = record { number = number_of x.why; settlement = x.settlement }

-- a call answered the number n and left the settlement r behind the reference: as one outcome
abbrev pub leaving : ℕ → Settlement → Outcome
leaving n r = record { number = n; settlement = r }

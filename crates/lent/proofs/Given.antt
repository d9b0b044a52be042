-- A refused event by value hands back the settlement that it was given. Assumes nothing.
use mathlib.Core.Path.{◌≡◌, ◌∙◌, ap}
use Rattle.std.specs.Prelude.{Result, Ok, Err, IfErr}
use native.Mathlib.Omega.{arith}
use Rattle.basics.proofs.Refusals.{some_number}
use Rattle.consensus.specs.Events.{Event}
use Rattle.settlement.specs.declared.record.Settlement.{Settlement}
use Rattle.settlement.specs.declared.record.Refused.{Refused}
use Rattle.settlement.specs.Outcome.{Outcome, outcome_told}
use Rattle.settlement.specs.Events.{played}
use Rattle.settlement.proofs.Demand1.{demand1}

pub given_back : (o : Result Settlement Refused) (r : Settlement) (e : Event) → outcome_told o ≡ played r e → IfErr o (λ x. x.settlement ≡ r)
given_back (Ok s) r e h = record {}
given_back (Err x) r e h =
    ap (λ (y : Outcome). y.settlement) h
    ∙ demand1.unchanged r e (λ z. let n = ap (λ (y : Outcome). y.number) h ∙ z in omega (arith, some_number x.why, n))

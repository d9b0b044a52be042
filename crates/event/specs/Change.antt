-- The five events, whole, on what they look at: the number, and the entries that an accepted one leaves (document 01, "Operations and what they turn
-- away"). An event of the list is `Rattle.consensus.specs.Events.Event`, with any numbers as arguments. Assumes nothing.
use Rattle.std.specs.Prelude.{ℕ, ◌≡◌, Result, IfOk}
use Rattle.basics.specs.Tests.{first_met}
use Rattle.basics.specs.declared.refusal.Refusal.{Refusal}
use Rattle.basics.specs.Refusals.{told}
use Rattle.consensus.specs.Events.{Event, claim, deliver, step, lose, answer}
use Rattle.consensus.specs.Rules.{as_bit}
use Rattle.entry.specs.declared.entry.Station.{Station}
use Rattle.entry.specs.declared.entry.Ballot.{Ballot}
use Rattle.event.specs.declared.view.View.{View}
use Rattle.event.specs.declared.change.Change as declared_change
use Rattle.entry.specs.Entries.{claiming, holding, losing, answering}
use Rattle.event.specs.Tests.{tests_on}
use Rattle.event.specs.Step.{stepped, voted}

abbrev pub number_on : View → Event → ℕ
number_on v e = first_met (tests_on v e)

-- the own station's entry after an accepted event
unfoldable pub own_after : View → Event → Station
own_after v (claim s c) = claiming c v.own
own_after v (deliver t s) = holding t v.own
own_after v (step s) = stepped v s v.own.stage
own_after v (lose s) = losing v.own
own_after v (answer b a) = v.own

-- the ballot's entry after it
unfoldable pub ballot_after : View → Event → Ballot
ballot_after v (claim s c) = v.ballot
ballot_after v (deliver t s) = v.ballot
ballot_after v (step s) = voted v s v.own.stage
ballot_after v (lose s) = v.ballot
ballot_after v (answer b a) = answering (as_bit a) v.ballot

-- both: 0 or the number of the refusal, and the two entries
pub record Change : Type 0 where
  pub number : ℕ
  pub own : Station
  pub ballot : Ballot

abbrev pub change_of : View → Event → Change
change_of v e = record { number = number_on v e; own = own_after v e; ballot = ballot_after v e }

-- what an answer tells of a change: its number and, where that is 0, the entries to store
pub record Tells (answer : Result declared_change.Change Refusal) (c : Change) : Type 0 where
  pub number : told answer ≡ c.number
  pub entries : IfOk answer (λ x. (x.own ≡ c.own) × (x.ballot ≡ c.ballot))

-- OPEN and the five events, whole: number and record (document 01, "Operations and what they turn away"). What an event does to the entries that it
-- looks at is said in `Rattle.event.specs`; here it is lifted to the record. Assumes nothing.
use Rattle.std.specs.Prelude.{ℕ, cond, not, ◌||◌, List, [], ◌∷◌, eqb, ltb, replicate}
use Rattle.basics.specs.Tests.{Test, when, first_met}
use Rattle.consensus.specs.Events.{Event}
use Rattle.entry.specs.Entries.{station_entries, ballot_entries, blank_station, blank_ballot}
use Rattle.event.specs.Places.{own_of}
use Rattle.event.specs.Tests.{tests_on}
use Rattle.event.specs.Change.{own_after, ballot_after}
use Rattle.settlement.specs.declared.record.Settlement.{Settlement}
use Rattle.settlement.specs.Outcome.{Outcome}
use Rattle.settlement.specs.Record.{with_station, with_ballot, ballot_in, view}
use Rattle.settlement.specs.Fault.{fault}

-- "An accepted call answers 0. A refused event answers its number and the very settlement it was given."
unfoldable pub outcome : ℕ → Settlement → Settlement → Outcome
outcome k next given = record { number = k; settlement = cond (eqb k 0) next given }

-- ---- OPEN n, rule

abbrev pub open_tests : ℕ → ℕ → List Test
open_tests n rule =
    when (eqb n 0 || ltb station_entries n) 40
    ∷ when (not (eqb rule 1 || eqb rule 2)) 41
    ∷ []

-- n stations under a rule, and every entry as it starts
abbrev pub fresh : ℕ → ℕ → Settlement
fresh n rule =
    record {
      count = n;
      rule = rule;
      stations = replicate station_entries blank_station;
      ballots = replicate ballot_entries blank_ballot;
    }

-- "the blank settlement: no stations, rule 1, no ballots"
abbrev pub blank : Settlement
blank = fresh 0 1

unfoldable pub opened : ℕ → ℕ → Outcome
opened n rule = outcome (first_met (open_tests n rule)) (fresh n rule) blank

-- ---- the events

-- "Every event and LOOK first test the record"; then come the event's own tests, on what it looks at
abbrev pub tests : Settlement → Event → List Test
tests r e = when (fault r) 42 ∷ tests_on (view r e) e

unfoldable pub number : Settlement → Event → ℕ
number r e = first_met (tests r e)

-- what an accepted event makes of the record: its own station's entry and its ballot's entry are replaced
unfoldable pub effect : Settlement → Event → Settlement
effect r e = with_ballot (ballot_in r e) (ballot_after (view r e) e) (with_station (own_of e) (own_after (view r e) e) r)

unfoldable pub played : Settlement → Event → Outcome
played r e = outcome (number r e) (effect r e) r

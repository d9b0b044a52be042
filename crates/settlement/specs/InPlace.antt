-- One event on the entries at its places in the arrays, without the record test: past an array's end the first entry stands for the one that is not there.
-- On a record that passes the record test that is the event itself. Assumes nothing.
use Rattle.std.specs.Prelude.{ℕ, ◌≡◌, false}
use Rattle.consensus.specs.Events.{Event}
use Rattle.entry.specs.Entries.{station_entries, ballot_entries}
use Rattle.event.specs.declared.view.View.{View}
use Rattle.event.specs.Places.{own_of, beside_of, ballot_of, within}
use Rattle.event.specs.Change.{number_on, own_after, ballot_after}
use Rattle.settlement.specs.declared.record.Settlement.{Settlement}
use Rattle.settlement.specs.Outcome.{Outcome}
use Rattle.settlement.specs.Record.{entry, ballot, with_station, with_ballot}
use Rattle.settlement.specs.Fault.{fault}
use Rattle.settlement.specs.Events.{outcome, played}

abbrev pub own_place : Event → ℕ
own_place e = within station_entries (own_of e)

abbrev pub beside_place : Settlement → Event → ℕ
beside_place r e = within station_entries (beside_of r.count (entry r (own_place e)) e)

abbrev pub ballot_place : Settlement → Event → ℕ
ballot_place r e = within ballot_entries (ballot_of r.rule (entry r (own_place e)) e)

-- what is seen there
abbrev pub seen : Settlement → Event → View
seen r e =
    record {
      count = r.count;
      rule = r.rule;
      own = entry r (own_place e);
      beside = entry r (beside_place r e);
      ballot = ballot r (ballot_place r e);
    }

-- the two entries stored there
abbrev pub stored : Settlement → Event → Settlement
stored r e = with_ballot (ballot_place r e) (ballot_after (seen r e) e) (with_station (own_place e) (own_after (seen r e) e) r)

unfoldable pub advanced : Settlement → Event → Outcome
advanced r e = outcome (number_on (seen r e) e) (stored r e) r

-- on a record that passes the record test
abbrev pub PlayedInPlace : Type 0
PlayedInPlace = (r : Settlement) → fault r ≡ false → (e : Event) → advanced r e ≡ played r e

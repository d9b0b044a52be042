-- The settlement record: its entries read and replaced (document 01, "The settlement"). All of it holds on any record, made-up ones included.
-- Assumes nothing.
use Rattle.std.specs.Prelude.{ℕ, get_or, set}
use Rattle.consensus.specs.Events.{Event}
use Rattle.entry.specs.declared.entry.Station.{Station}
use Rattle.entry.specs.declared.entry.Ballot.{Ballot}
use Rattle.event.specs.declared.view.View.{View}
use Rattle.entry.specs.Entries.{blank_station, blank_ballot}
use Rattle.event.specs.Places.{own_of, beside_of, ballot_of}
use Rattle.settlement.specs.declared.record.Settlement.{Settlement}

-- the entry of station s, and of ballot b; past the arrays there is none, and a blank one is read
abbrev pub entry : Settlement → ℕ → Station
entry r s = get_or r.stations s blank_station

abbrev pub ballot : Settlement → ℕ → Ballot
ballot r b = get_or r.ballots b blank_ballot

-- the record with another entry for station s, and for ballot b; past the arrays nothing changes
abbrev pub with_station : ℕ → Station → Settlement → Settlement
with_station s t r = record { count = r.count; rule = r.rule; stations = set r.stations s t; ballots = r.ballots }

abbrev pub with_ballot : ℕ → Ballot → Settlement → Settlement
with_ballot b t r = record { count = r.count; rule = r.rule; stations = r.stations; ballots = set r.ballots b t }

-- ---- an event on a record

-- the station beside, and the ballot, as the record has them
abbrev pub beside_in : Settlement → Event → ℕ
beside_in r e = beside_of r.count (entry r (own_of e)) e

abbrev pub ballot_in : Settlement → Event → ℕ
ballot_in r e = ballot_of r.rule (entry r (own_of e)) e

-- what the event looks at
abbrev pub view : Settlement → Event → View
view r e =
    record {
      count = r.count;
      rule = r.rule;
      own = entry r (own_of e);
      beside = entry r (beside_in r e);
      ballot = ballot r (ballot_in r e);
    }

-- The record test (document 01, "Every event and LOOK first test the record"): met, it gives 42. Assumes nothing.
use Rattle.std.specs.Prelude.{ℕ, Bool, not, ◌&&◌, ◌||◌, eqb, ltb, leb}
use Rattle.basics.specs.Below.{any_below}
use Rattle.bits.specs.Log.{ceil_log2}
use Rattle.bits.specs.Words.{claim_bits}
use Rattle.entry.specs.declared.entry.Station.{Station}
use Rattle.entry.specs.Stages.{in_round, on_finish, past_waiting}
use Rattle.entry.specs.Entries.{station_entries}
use Rattle.settlement.specs.declared.record.Settlement.{Settlement}
use Rattle.settlement.specs.Record.{entry}

-- "a station below n whose cursor is n or more;
-- a voting, awaiting or seeking station whose round is R or more under rule 1;
-- a station voting or awaiting on a finish ballot under rule 1;
-- or a station past waiting whose round is 32 or more under rule 2"
unfoldable pub station_fault : ℕ → ℕ → Station → Bool
station_fault n rule t =
    leb n t.cursor
    || eqb rule 1 && in_round t.stage && leb (ceil_log2 n) t.round
    || eqb rule 1 && on_finish t.stage
    || eqb rule 2 && past_waiting t.stage && leb claim_bits t.round

abbrev pub fault_at : Settlement → ℕ → Bool
fault_at r s = station_fault r.count r.rule (entry r s)

-- "more than 32 stations; a rule other than 1 or 2;" or a fault of a station below n
unfoldable pub fault : Settlement → Bool
fault r =
    ltb station_entries r.count
    || not (eqb r.rule 1 || eqb r.rule 2)
    || any_below r.count (fault_at r)

-- A seeking station's STEP looks at no ballot: its own entry, and the one that its cursor moves to, are all that is needed. Assumes nothing.
use Prim.Native.Nat.{ℕ}
use mathlib.Core.Path.{◌≡◌}
use Rattle.basics.specs.Tests.{refuse, first_met}
use Rattle.basics.proofs.Lists.{set_again}
use Rattle.consensus.specs.Events.{step}
use Rattle.entry.specs.declared.entry.Stage.TheVariants.{Seeking}
use Rattle.entry.specs.declared.entry.Station.{Station}
use Rattle.entry.specs.Entries.{station_entries, blank_ballot, no_station}
use Rattle.event.specs.declared.view.View.{View}
use Rattle.event.specs.Places.{next_cursor, within}
use Rattle.event.specs.Step.{sought, stepped, voted}
use Rattle.event.specs.Change.{number_on, own_after, ballot_after}
use Rattle.settlement.specs.declared.record.Settlement.{Settlement}
use Rattle.settlement.specs.Events.{outcome}
use Rattle.settlement.specs.Record.{entry, ballot, with_station}
use Rattle.settlement.specs.InPlace.{seen, stored, advanced}

module _ (r : Settlement) (s : ℕ) where
  abbrev pub seeker : Station
  seeker = entry r (within station_entries s)

  abbrev pub moved_to : ℕ
  moved_to = next_cursor r.count seeker.cursor

  -- what it looks at; the ballot is the first one, which stays
  abbrev pub sight : View
  sight = record { count = r.count; rule = r.rule; own = seeker; beside = entry r (within station_entries moved_to); ballot = ballot r 0 }

  module _ (h : seeker.stage ≡ Seeking) where
    pub seek_number : number_on (seen r (step s)) (step s) ≡ refuse (no_station r.count s) 1 (refuse seeker.lost 2 0)
    unfolding first_met
    seek_number = rw (h)

    pub seek_stored : stored r (step s) ≡ with_station (within station_entries s) (sought sight moved_to) r
    unfolding own_after ballot_after stepped voted
    seek_stored = rw (h, set_again r.ballots 0 blank_ballot)

    pub seek_advanced : advanced r (step s)
        ≡ outcome (refuse (no_station r.count s) 1 (refuse seeker.lost 2 0)) (with_station (within station_entries s) (sought sight moved_to) r) r
    unfolding advanced
    seek_advanced = rw (seek_number, seek_stored)

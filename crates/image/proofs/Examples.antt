-- Images byte by byte: each row is computed. Assumes nothing.
use mathlib.Core.Path.{refl}
use Rattle.basics.specs.Below.{any_below}
use Rattle.basics.specs.Tests.{first_met}
use Rattle.settlement.specs.Events.{outcome, opened}
use Rattle.image.specs.Lists.{flat, each}
use Rattle.image.specs.Entries.{stage_from, station_bytes, station_from, voters_bytes, marks_bytes, ballot_from}
use Rattle.image.specs.Image.{image_of, record_in, unread, no_image}
use Rattle.image.specs.Examples.{BytesShown}

pub bytes_shown : BytesShown
unfolding any_below first_met outcome opened flat each stage_from station_bytes station_from voters_bytes marks_bytes ballot_from image_of record_in unread no_image
bytes_shown = record {
  lost = refl;
  live = refl;
  lost_read = refl;
  live_read = refl;
  voters = refl;
  marks = refl;
  ballots_read = refl;
  an_opening = refl;
  last_station = refl;
  first_voters = refl;
  last_voters = refl;
  first_answered = refl;
  last_answer = refl;
  nothing = refl;
  short = refl;
  long = refl;
  version_1 = refl;
  older = refl;
  newer = refl;
  first_stage = refl;
  last_stage = refl;
  first_lost = refl;
  last_lost = refl;
  first_mark = refl;
  last_mark = refl;
  a_stage = refl;
  a_mark = refl;
  an_answer = refl;
  any_count = refl;
  any_number = refl;
  any_voters = refl;
  any_last_voters = refl;
}

-- What is stored and what is reported, in literals: each row is computed. Assumes nothing.
use mathlib.Core.Path.{refl}
use Rattle.basics.specs.Below.{any_below}
use Rattle.basics.specs.Tests.{first_met}
use Rattle.bits.specs.Log.{least_from, ceil_log2}
use Rattle.settlement.specs.Fault.{station_fault, fault}
use Rattle.settlement.specs.Events.{outcome, opened}
use Rattle.settlement.specs.Look.{votes, looked}
use Rattle.report.specs.Decimal.{digits, decimal}
use Rattle.report.specs.Text.{first_line, decision_shown, presence, shown_line, station_line, station_lines, text}
use Rattle.image.specs.Lists.{flat, each}
use Rattle.image.specs.Entries.{stage_from, station_bytes, station_from, voters_bytes, marks_bytes, ballot_from}
use Rattle.image.specs.Image.{image_of, record_in, unread, no_image}
use Rattle.whole_image.specs.Whole.{read_record, stored_number, stored, report_number, image_text}
use Rattle.whole_image.specs.Examples.{WholeShown}

pub whole_shown : WholeShown
unfolding any_below first_met least_from ceil_log2 station_fault fault outcome opened votes looked digits decimal first_line decision_shown presence shown_line station_line station_lines text flat each stage_from station_bytes station_from voters_bytes marks_bytes ballot_from image_of record_in unread no_image read_record stored_number stored report_number image_text
whole_shown = record {
  short = refl;
  short_left = refl;
  long = refl;
  refused = refl;
  refused_left = refl;
  opened_left = refl;
  unread = refl;
  text = refl;
  text_80 = refl;
  text_81 = refl;
  text_42 = refl;
}

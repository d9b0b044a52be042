-- The starred cases, computed. Assumes nothing.
use mathlib.Core.Path.{refl}
use Rattle.bits.specs.Digits.{bit, binary_digits, digits_in}
use Rattle.bits.specs.Words.{with_bit, low_agree, word_with_bit, member, insert}
use Rattle.bits.specs.Log.{ceil_log2, least_from}
use Rattle.basics.specs.Below.{any_below}
use Rattle.settlement.specs.Fault.{station_fault, fault}
use Rattle.settlement.specs.Events.{number, outcome, opened, effect, played}
use Rattle.basics.specs.Tests.{first_met}
use Rattle.event.specs.Change.{own_after, ballot_after}
use Rattle.event.specs.Step.{started, voted, bit_taken, finish_taken, entry_after_seek, sought, stepped}
use Rattle.settlement.specs.Look.{votes, looked}
use Rattle.settlement.specs.Link.{record_after}
use Rattle.field.specs.Table.{row_with}
use Rattle.field.specs.Field.{length_said, claim_said, field_said}
use Rattle.field.specs.Read.{found_in, found_by, found}
use Rattle.logs.specs.Run.{by_outcome, next_in, by_next, turn, onwards, by_open, by_first, ran}
use Rattle.report.specs.Decimal.{digits, decimal}
use Rattle.report.specs.Text.{first_line, decision_shown, presence, shown_line, station_line, station_lines, text}
use Rattle.report.specs.Report.{report}
use Rattle.settle.specs.Cases.{StarredRight}

pub starred_right : StarredRight
unfolding bit binary_digits digits_in with_bit low_agree word_with_bit member insert ceil_log2 least_from any_below station_fault fault first_met number started voted bit_taken finish_taken entry_after_seek sought stepped own_after ballot_after outcome opened effect played votes looked record_after row_with length_said claim_said field_said found_in found_by found by_outcome next_in by_next turn onwards by_open by_first ran digits decimal first_line decision_shown presence shown_line station_line station_lines text report
starred_right = refl

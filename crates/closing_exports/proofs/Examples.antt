-- CLOSE as other languages call it, computed. Assumes nothing.
use mathlib.Core.Path.{refl}
use Rattle.basics.specs.Below.{any_below}
use Rattle.basics.specs.Tests.{first_met}
use Rattle.bits.specs.Digits.{bit, binary_digits, digits_in, bit_length}
use Rattle.bits.specs.Log.{ceil_log2, least_from}
use Rattle.bits.specs.Words.{with_bit, word_with_bit, member, insert, low_agree}
use Rattle.event.specs.Step.{started, bit_taken, finish_taken, entry_after_seek, sought, stepped, voted}
use Rattle.event.specs.Change.{own_after, ballot_after}
use Rattle.settlement.specs.Fault.{station_fault, fault}
use Rattle.settlement.specs.Events.{outcome, opened, number, effect, played}
use Rattle.field.specs.Table.{row_with}
use Rattle.field.specs.Field.{length_said, claim_said, field_said}
use Rattle.field.specs.Read.{found, found_by, found_in}
use Rattle.put.specs.Bytes.{bytes}
use Rattle.logs.specs.Run.{next_in, by_outcome, by_next, turn, onwards, by_open, by_first, ran}
use Rattle.closing.specs.Turn.{passing, turn_events}
use Rattle.closing.specs.Closing as closing
use Rattle.closing.specs.Closing.{and_then, and_all, turns, passes, greatest_below, step_bound, stuck}
use Rattle.written.specs.Bytes.{log_bytes}
use Rattle.closing.specs.Close.{close_number}
use Rattle.closing_exports.specs.Exports.{close_answer, close_after}
use Rattle.closing_exports.specs.Examples.{CloseAnswered}

pub close_answered : CloseAnswered
unfolding close_answer close_after close_number log_bytes bytes closing.closing stuck passes turns closing.turn and_all and_then closing.by_outcome step_bound greatest_below turn_events passing ran by_first by_open onwards turn by_next by_outcome next_in found found_by found_in row_with length_said claim_said field_said opened outcome played effect number fault station_fault own_after ballot_after stepped voted started bit_taken finish_taken entry_after_seek sought first_met any_below ceil_log2 least_from bit binary_digits digits_in bit_length with_bit word_with_bit member insert low_agree
close_answered =
    record {
      nine_bytes = refl;
      written = refl;
      other_bit = refl;
      just_room = refl;
      no_room = refl;
      no_room_left = refl;
      no_bit = refl;
      no_bit_first = refl;
      no_bit_left = refl;
      stops_early = refl;
      stops_early_left = refl;
      limit_met = refl;
      no_log = refl;
    }

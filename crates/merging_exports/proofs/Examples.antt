-- MERGE as other languages call it, computed. Assumes nothing.
use mathlib.Core.Path.{refl}
use Rattle.basics.specs.Below.{any_below}
use Rattle.basics.specs.Tests.{first_met}
use Rattle.bits.specs.Log.{ceil_log2, least_from}
use Rattle.consensus.specs.State.{update}
use Rattle.consensus.specs.Rules.{stage_number, number, step_from, effect, next}
use Rattle.settlement.specs.Events.{outcome, opened}
use Rattle.field.specs.Table.{row_with}
use Rattle.field.specs.Field.{length_said, claim_said, field_said}
use Rattle.field.specs.Read.{found, found_by, found_in}
use Rattle.put.specs.Bytes.{bytes}
use Rattle.written.specs.Bytes.{log_bytes}
use Rattle.merging.specs.Merged.{merged, has_events}
use Rattle.merging.specs.Logs.{fields, log_read}
use Rattle.merging.specs.Merge.{merge_number}
use Rattle.merging_exports.specs.Exports.{merge_answer}
use Rattle.merging_exports.specs.Examples.{MergeAnswered}

pub merge_answered : MergeAnswered
unfolding merge_answer merge_number log_bytes bytes merged has_events fields log_read next effect step_from number stage_number update found found_by found_in row_with length_said claim_said field_said opened outcome first_met any_below ceil_log2 least_from
merge_answered =
    record {
      twenty_five = refl;
      written = refl;
      just_room = refl;
      no_room = refl;
      no_room_left = refl;
      no_log = refl;
      no_second_log = refl;
      other_opening = refl;
      in_both = refl;
      no_order = refl;
      in_both_left = refl;
    }

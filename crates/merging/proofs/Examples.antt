-- The lists made one, and MERGE byte by byte, computed. Assumes nothing.
use mathlib.Core.Path.{refl}
use Rattle.basics.specs.Below.{any_below}
use Rattle.basics.specs.Tests.{first_met}
use Rattle.bits.specs.Digits.{bit, binary_digits, digits_in}
use Rattle.bits.specs.Words.{with_bit, low_agree}
use Rattle.bits.specs.Log.{ceil_log2, least_from}
use Rattle.consensus.specs.State.{update}
use Rattle.consensus.specs.Rules.{stage_number, number, step_from, effect, next}
use Rattle.field.specs.Table.{row_with}
use Rattle.field.specs.Field.{length_said, claim_said, field_said}
use Rattle.field.specs.Read.{found_in, found_by, found}
use Rattle.put.specs.Bytes.{bytes}
use Rattle.settlement.specs.Events.{outcome, opened}
use Rattle.written.specs.Bytes.{log_bytes}
use Rattle.merging.specs.Merged.{merged, has_events, nothing, from_first, from_second}
use Rattle.merging.specs.Logs.{fields, log_read}
use Rattle.merging.specs.Merge.{merge_number}
use Rattle.merging.specs.Examples.{MergedShown, MergeShown}

pub merged_shown : MergedShown
unfolding any_below bit binary_digits digits_in with_bit low_agree ceil_log2 least_from update stage_number number step_from effect next merged has_events
merged_shown = record {
  nothing = refl;
  first_alone = refl;
  second_alone = refl;
  first_goes = refl;
  first_goes_by_claim = refl;
  second_goes = refl;
  answered_twice = refl;
  answer_waits = refl;
  both_wait = refl;
  not_there = refl;
  first_left = refl;
  other_bits = refl;
  of_receiver = (refl, refl);
  of_nobody = (refl, refl);
  of_last = (refl, refl);
  of_200 = refl;
  station_in_both = (refl, from_second (from_first nothing), (refl, (refl, tt)));
}

pub merge_shown : MergeShown
unfolding any_below first_met bit binary_digits digits_in with_bit low_agree ceil_log2 least_from update stage_number number step_from effect next merged has_events row_with length_said claim_said field_said found_in found_by found bytes outcome opened log_bytes fields log_read merge_number
merge_shown = record { accepted = refl; faults = refl; new_numbers = refl; told = refl }

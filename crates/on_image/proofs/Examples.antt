-- Events and LOOKs on an image byte by byte: each row is computed. Assumes nothing.
use mathlib.Core.Path.{refl}
use Rattle.basics.specs.Below.{any_below, count_below}
use Rattle.basics.specs.Tests.{first_met}
use Rattle.bits.specs.Digits.{digits_in, binary_digits, bit}
use Rattle.bits.specs.Log.{least_from, ceil_log2}
use Rattle.bits.specs.Words.{with_bit, low_agree, word_with_bit, member, insert, size}
use Rattle.event.specs.Change.{own_after, ballot_after}
use Rattle.event.specs.Step.{stepped, voted}
use Rattle.settlement.specs.Fault.{station_fault, fault}
use Rattle.settlement.specs.Events.{outcome, number, effect, played}
use Rattle.settlement.specs.Look.{votes, looked}
use Rattle.settlement.specs.Tally.{tally, tallied}
use Rattle.image.specs.Lists.{flat, each}
use Rattle.image.specs.Entries.{stage_from, station_bytes, station_from, voters_bytes, marks_bytes, ballot_from}
use Rattle.image.specs.Image.{image_of, record_in, unread, no_image}
use Rattle.on_image.specs.Events.{image_number, image_after}
use Rattle.on_image.specs.Look.{looked_on, standing_bytes, standing_word, standings, all_number, all_after, all_answer}
use Rattle.on_image.specs.Tally.{tally_bytes, tally_number, tally_after, tally_answer}
use Rattle.on_image.specs.Examples.{LooksShown, EventsShown, TalliesShown}

pub looks_shown : LooksShown
unfolding any_below first_met bit least_from ceil_log2 station_fault fault votes looked flat each stage_from station_from ballot_from record_in unread no_image looked_on standing_bytes standing_word standings all_number all_after all_answer
looks_shown = record {
  bytes = refl;
  word = refl;
  refused_word = refl;
  nobody = refl;
  shown = refl;
  all = refl;
  all_count = refl;
  all_of_32 = refl;
  just_room = refl;
  nobody_there = refl;
  no_room = refl;
  no_room_left = refl;
  all_80 = refl;
  all_42 = refl;
}

pub events_shown : EventsShown
unfolding any_below first_met digits_in binary_digits bit least_from ceil_log2 with_bit low_agree word_with_bit member insert own_after ballot_after stepped voted station_fault fault outcome number effect played flat each stage_from station_bytes station_from voters_bytes marks_bytes ballot_from image_of record_in unread no_image image_number image_after
events_shown = record {
  short = refl;
  short_left = refl;
  older = refl;
  no_stage = refl;
  no_rule = refl;
  no_station = refl;
  claim_number = refl;
  claim_left = refl;
  lose_left = refl;
  deliver_left = refl;
  step_number = refl;
  step_left = refl;
  answer_number = refl;
  vote_left = refl;
  answer_left = refl;
  again_number = refl;
  again_left = refl;
  other_number = refl;
}

pub tallies_shown : TalliesShown
unfolding any_below count_below first_met digits_in binary_digits bit least_from ceil_log2 member size station_fault fault tally tallied each stage_from station_from ballot_from record_in unread no_image tally_bytes tally_number tally_after tally_answer
tallies_shown = record {
  bytes = refl;
  answer = refl;
  shown = refl;
  count = refl;
  just_room = refl;
  no_room = refl;
  no_room_left = refl;
  short = refl;
  older = refl;
  no_rule = refl;
  no_rule_left = refl;
  no_ballot = refl;
  no_ballot_left = refl;
}

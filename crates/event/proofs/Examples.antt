-- The worked rows, computed. Assumes nothing.
use mathlib.Core.Path.{refl}
use Rattle.basics.specs.Tests.{first_met}
use Rattle.bits.specs.Digits.{bit, binary_digits, digits_in}
use Rattle.bits.specs.Words.{with_bit, word_with_bit, low_agree, member, insert}
use Rattle.bits.specs.Log.{ceil_log2, least_from}
use Rattle.event.specs.Step.{started, bit_taken, finish_taken, entry_after_seek, sought, stepped, voted}
use Rattle.event.specs.Change.{own_after, ballot_after}
use Rattle.event.specs.Examples.{EntryRowsRight}

pub entry_rows_right : EntryRowsRight
unfolding first_met bit binary_digits digits_in with_bit word_with_bit low_agree member insert ceil_log2 least_from started bit_taken finish_taken entry_after_seek sought stepped voted own_after ballot_after
entry_rows_right = record { numbers_right = refl; entries_right = refl; places_right = refl }

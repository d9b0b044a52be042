-- The closing logs, computed. Assumes nothing.
use mathlib.Core.Path.{refl}
use Rattle.basics.specs.Below.{any_below}
use Rattle.basics.specs.Tests.{first_met}
use Rattle.bits.specs.Digits.{bit_length, bit, binary_digits, digits_in}
use Rattle.bits.specs.Words.{with_bit, word_with_bit, low_agree, member, insert}
use Rattle.bits.specs.Log.{ceil_log2, least_from}
use Rattle.event.specs.Step.{started, bit_taken, finish_taken, entry_after_seek, sought, stepped, voted}
use Rattle.event.specs.Change.{own_after, ballot_after}
use Rattle.put.specs.Bytes.{bytes}
use Rattle.settlement.specs.Fault.{station_fault, fault}
use Rattle.settlement.specs.Events.{number, outcome, effect, played}
use Rattle.closing.specs.Turn.{passing, turn_events}
use Rattle.closing.specs.Closing.{by_outcome, and_then, and_all, turn, turns, passes, greatest_below, step_bound, closing, stuck}
use Rattle.written.specs.Bytes.{log_bytes}
use Rattle.closing.specs.Close.{close_number}
use Rattle.closing.specs.Examples.{CloseShown}

pub close_shown : CloseShown
unfolding any_below first_met bit_length bit binary_digits digits_in with_bit word_with_bit low_agree member insert ceil_log2 least_from started bit_taken finish_taken entry_after_seek sought stepped voted own_after ballot_after bytes station_fault fault number outcome effect played passing turn_events by_outcome and_then and_all turn turns passes greatest_below step_bound closing stuck log_bytes close_number
close_shown = record { rows = refl; told = refl }

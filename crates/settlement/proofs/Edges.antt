-- The edges, computed. Assumes nothing.
use mathlib.Core.Path.{◌≡◌, refl}
use mathlib.Core.Bool.{true}
use Rattle.bits.specs.Examples.{every}
use Rattle.bits.specs.Digits.{bit, binary_digits, digits_in}
use Rattle.bits.specs.Words.{with_bit, word_with_bit, low_agree, member, insert, size}
use Rattle.bits.specs.Log.{ceil_log2, least_from}
use Rattle.basics.specs.Below.{any_below, count_below}
use Rattle.settlement.specs.Fault.{station_fault, fault}
use Rattle.settlement.specs.Events.{number, outcome, effect, opened, played}
use Rattle.basics.specs.Tests.{first_met}
use Rattle.event.specs.Step.{started, bit_taken, finish_taken, entry_after_seek, sought, stepped, voted}
use Rattle.event.specs.Change.{own_after, ballot_after}
use Rattle.settlement.specs.Look.{votes, looked}
use Rattle.settlement.specs.Tally.{tally, tallied}
use Rattle.settlement.specs.Edges.{edge_right, edges, wrong, not_right, EdgesRight}

rows_right : every edge_right edges ≡ true
unfolding bit binary_digits digits_in with_bit word_with_bit low_agree member insert size count_below ceil_log2 least_from any_below station_fault fault first_met own_after ballot_after voted number started bit_taken finish_taken entry_after_seek sought stepped outcome effect opened played votes looked tally tallied
rows_right = refl

wrong_told : every not_right wrong ≡ true
unfolding bit binary_digits digits_in with_bit word_with_bit low_agree member insert size count_below ceil_log2 least_from any_below station_fault fault first_met own_after ballot_after voted number started bit_taken finish_taken entry_after_seek sought stepped outcome effect opened played votes looked tally tallied
wrong_told = refl

pub edges_right : EdgesRight
edges_right = record { rows = rows_right; told = wrong_told }

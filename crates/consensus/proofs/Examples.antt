-- The examples against the four false readings, computed. Assumes nothing.
use mathlib.Core.Path.{refl}
use Rattle.bits.specs.Digits.{bit, binary_digits, digits_in}
use Rattle.bits.specs.Words.{with_bit, low_agree}
use Rattle.bits.specs.Log.{ceil_log2, least_from}
use Rattle.consensus.specs.State.{update}
use Rattle.consensus.specs.Rules.{stage_number, number, step_from, effect, next, after}
use Rattle.basics.specs.Below.{any_below}
use Rattle.consensus.specs.Examples.{FourReadings}

pub four_readings : FourReadings
unfolding bit binary_digits digits_in with_bit low_agree ceil_log2 least_from update any_below stage_number number step_from effect next after
four_readings = record { moves_first = refl; whole_claim = refl; goes_on = refl; not_zero = refl; any_cast = refl }

-- The rows, computed. Assumes nothing.
use mathlib.Core.Path.{refl}
use Rattle.bits.specs.Digits.{bit, binary_digits, digits_in}
use Rattle.bits.specs.Words.{with_bit, low_agree}
use Rattle.bits.specs.Log.{ceil_log2, least_from}
use Rattle.basics.specs.Below.{any_below}
use Rattle.consensus.specs.State.{update}
use Rattle.consensus.specs.Rules.{stage_number, number, step_from, effect, next, after}
use Rattle.consensus.specs.Figure.{onward, event}
use Rattle.consensus.specs.Figure1 as one
use Rattle.consensus.specs.Figure2 as two
use Rattle.consensus.specs.Runs.{happens, run}
use Rattle.consensus.specs.Rows.{number_right, PlayNumbers, walk, Walks}

pub numbers : PlayNumbers
unfolding number_right bit binary_digits digits_in with_bit low_agree ceil_log2 least_from update any_below stage_number number step_from effect next after
numbers = record { by_station = refl; by_claim = refl; apart = refl; made_up = refl }

pub walks : Walks
unfolding walk bit binary_digits digits_in with_bit low_agree ceil_log2 least_from update any_below stage_number number step_from effect next after onward event one.line two.line happens run
walks = record {
  at_once = refl;
  not_at_once = refl;
  S0 = refl;
  S1 = refl;
  SCasts = (refl, refl);
  three = refl;
  D0 = refl;
  D1 = refl;
  DCasts = (refl, refl);
  figure_1 = refl;
  figure_2 = refl;
}

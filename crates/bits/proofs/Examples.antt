-- The numbers that the documents write out are those of the definitions: antt computes each. Assumes nothing.
use mathlib.Core.Path.{refl}
use Rattle.basics.specs.Below.{count_below}
use Rattle.bits.specs.Digits.{digits_in, binary_digits, bit_length, bit}
use Rattle.bits.specs.Words.{with_bit, low_agree, word_with_bit, member, insert, size}
use Rattle.bits.specs.Difference.{rising, newest_first, first_among, first_difference}
use Rattle.bits.specs.Log.{least_from, ceil_log2}
use Rattle.bits.specs.Examples.{example_right, WrittenRight}

pub examples : WrittenRight
unfolding digits_in binary_digits bit_length bit with_bit low_agree rising newest_first first_among first_difference word_with_bit member insert size count_below least_from ceil_log2 example_right
examples = refl

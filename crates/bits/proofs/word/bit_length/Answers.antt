-- `bits::word::bit_length`: the length rule at the width of a word. Assumes nothing.
use native.Mathlib.Omega.{arith}
use lib.Dec.{lit<}
use borrow.Author.Rules.{rules}
use Rattle.bits.specs.Words.{claim_bits}
use Rattle.bits.proofs.Digits.{length_rule}
use Rattle.bits.proofs.word.bit_length.Goals as goal

pub returns : goal.returns
returns c = omega (arith, length_rule claim_bits c.args.x (lit< tt) (search rules))

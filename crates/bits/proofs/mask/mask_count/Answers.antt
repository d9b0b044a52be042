-- `bits::mask::mask_count`: the rule of ones at the width of a mask. Assumes nothing.
use borrow.Author.Rules.{rules}
use Rattle.bits.specs.Words.{mask_bits, member, size}
use Rattle.bits.proofs.Masks.{ones_rule}
use Rattle.bits.proofs.mask.mask_count.Goals as goal

pub returns : goal.returns
unfolding size member
returns c = ones_rule mask_bits c.args.mask (search rules)

-- `bits::word::bit_at`: the bit is the remainder by 2 of what stands from k on, and a word of a width has no bit past it. Assumes nothing.
use mathlib.Core.Path.{sym}
use borrow.Author.Rules.{rules}
use borrow.Author.Tests.{le-ltb}
use Rattle.bits.specs.Words.{claim_bits}
use Rattle.bits.proofs.Digits.{bit_above, bit_div}
use Rattle.bits.proofs.word.bit_at.Goals as goal

pub returns-then-k-lt-WORD_BITS : goal.returns-then-k-lt-WORD_BITS
returns-then-k-lt-WORD_BITS c = sym (bit_div c.args.k c.args.x)

pub returns-else-k-lt-WORD_BITS : goal.returns-else-k-lt-WORD_BITS
returns-else-k-lt-WORD_BITS c =
    let outside = c.if-k-lt-WORD_BITS.false in
    rw (le-ltb _ _ outside, bit_above claim_bits c.args.x (search rules) c.args.k outside)

-- `bits::word::first_difference`: the rule of differences at the width of a word. Assumes nothing.
use borrow.Author.Rules.{rules}
use Rattle.bits.specs.Words.{claim_bits}
use Rattle.bits.proofs.Difference.{place_unless, by_shift, by_whole}
use Rattle.bits.proofs.word.first_difference.Goals as goal

pub returns-then-k-ge-WORD_BITS : goal.returns-then-k-ge-WORD_BITS
returns-then-k-ge-WORD_BITS c =
    let a = c.args in
    rw (c.then_some.ensures, by_whole claim_bits a.k a.a a.b (search rules) (search rules) c.if-k-ge-WORD_BITS.true) (place_unless _ _)

pub returns-then-bit_at : goal.returns-then-bit_at
returns-then-bit_at c =
    let a = c.args in
    rw (by_shift claim_bits a.k a.a a.b (search rules) (search rules) c.if-k-ge-WORD_BITS.false, ← c.bit_at.ensures, c.if-bit_at.true)

pub returns : goal.returns
returns c =
    let a = c.args in
    rw (c.then_some-2.ensures, by_shift claim_bits a.k a.a a.b (search rules) (search rules) c.if-k-ge-WORD_BITS.false, ← c.bit_at.ensures, c.if-bit_at.false) (place_unless _ _)

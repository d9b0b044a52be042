-- `bits::word::with_bit`: below the width the two shifts lose nothing, so the code is the definition. Assumes nothing.
use mathlib.Core.Path.{sym}
use borrow.Author.Rules.{rules}
use Rattle.bits.specs.Words.{claim_bits}
use Rattle.bits.proofs.Words.{word_outside, word_lt}
use Rattle.bits.proofs.Machine.{word_taken, word_made}
use Rattle.bits.proofs.word.with_bit.Goals as goal

pub returns-then-k-ge-WORD_BITS : goal.returns-then-k-ge-WORD_BITS
returns-then-k-ge-WORD_BITS c = sym (word_outside claim_bits c.args.k c.args.b c.args.x c.if-k-ge-WORD_BITS.true)

pub overflow_sub-result : goal.overflow_sub-result
overflow_sub-result c =
    let a = c.args in
    word_taken claim_bits a.k a.x c.bit_at-old.result c.if-k-ge-WORD_BITS.false c.bit_at-old.ensures

pub returns : goal.returns
returns c =
    let a = c.args in
    word_made claim_bits a.k a.x c.bit_at-old.result a.b c.if-k-ge-WORD_BITS.false c.bit_at-old.ensures

pub overflow_add-result : goal.overflow_add-result
overflow_add-result c =
    let a = c.args in
    record { fits = rw (word_made claim_bits a.k a.x c.bit_at-old.result a.b c.if-k-ge-WORD_BITS.false c.bit_at-old.ensures) (word_lt claim_bits a.k a.b a.x (search rules)) }

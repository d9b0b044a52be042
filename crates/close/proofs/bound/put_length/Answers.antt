-- `close::bound::put_length`: a claim has at most 32 digits. Assumes nothing.
use native.Mathlib.Omega.{arith}
use borrow.Author.Rules.{rules}
use Rattle.bits.specs.Words.{claim_bits}
use Rattle.bits.proofs.Digits.{length_least}
use Rattle.close.proofs.bound.put_length.Goals as goal

pub returns-then-not_idle-clause-upper_bound : goal.returns-then-not_idle-clause-upper_bound
returns-then-not_idle-clause-upper_bound c = rw c.bit_length.ensures (length_least claim_bits _ (omega arith) (search rules))

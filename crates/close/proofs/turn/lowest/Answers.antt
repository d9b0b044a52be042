-- `close::turn::lowest`: below the trailing zeros nobody is in the mask. Assumes nothing.
use native.Mathlib.Omega.{arith}
use borrow.Author.Rules.{rules}
use Rattle.close.proofs.Sets.{lowest_inside, lowest_of, none_in}
use Rattle.close.proofs.turn.lowest.Goals as goal

pub overflow_cast-result : goal.overflow_cast-result
overflow_cast-result c = record { fits = omega (arith, lowest_inside c.args.mask (search rules) c.if-mask-eq0.false) }

pub returns-then-mask-eq0 : goal.returns-then-mask-eq0
returns-then-mask-eq0 c = none_in c.if-mask-eq0.true

pub returns : goal.returns
returns c = lowest_of c.args.mask (search rules) c.if-mask-eq0.false

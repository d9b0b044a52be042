-- `close::bound::claims_at_hand`: `held` and `claimed` are what the stations passed hold and put in. Assumes nothing.
use Rattle.close.proofs.Gathered.{Gathered}
use Rattle.close.proofs.bound.claims_at_hand.Given as goal

abbrev pub invariant-loop-s : goal.invariant-loop-s
invariant-loop-s l = Gathered l.r l.s l.held l.claimed

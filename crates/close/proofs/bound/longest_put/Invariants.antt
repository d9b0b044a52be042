-- `close::bound::longest_put`: `most` is the greatest at the stations passed. Assumes nothing.
use Prim.Native.Nat.{◌≤◌}
use mathlib.Core.Path.{◌≡◌}
use Rattle.closing.specs.Closing.{greatest_below, put_length}
use Rattle.close.proofs.bound.longest_put.Given as goal

abbrev pub invariant-loop-t : goal.invariant-loop-t
invariant-loop-t l = (l.most ≡ greatest_below l.t-index (put_length l.r)) × (l.most ≤ 32)

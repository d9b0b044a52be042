-- What was written is the bytes so far, as digits; what is left stands behind them. Assumes nothing.
use Rattle.std.proofs.Common.{◌≡◌, ℕ, List, ◌++◌}
use Rattle.std.specs.Io.KnownBytes.{Appends}
use Rattle.streams.specs.Hex.{hex}
use Rattle.streams.proofs.print.hex.Given as goal

abbrev pub invariant-loop-part : goal.invariant-loop-part
invariant-loop-part g l =
    (l.part-iterator.size ≡ 8)
    × ((d : List ℕ) × (d ++ l.part-iterator.rest.now ≡ l.s) × Appends (g.W.Write.contents l.initial.out) (g.W.Write.contents l.out) (hex d))

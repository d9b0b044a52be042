-- What was written is the numbers so far, each with a blank before it. Assumes nothing.
use Rattle.std.proofs.Common.{◌++◌, take, codes, decimal}
use Rattle.std.specs.Io.KnownBytes.{Appends}
use Rattle.std.specs.List.{flat_map}
use Rattle.lent_case.proofs.print.numbers.Given as goal

abbrev pub invariant-loop-n : goal.invariant-loop-n
invariant-loop-n g l =
    Appends (g.W.Write.contents l.initial.out) (g.W.Write.contents l.out) (flat_map (λ n. codes " " ++ decimal n) (take l.n-index l.numbers))

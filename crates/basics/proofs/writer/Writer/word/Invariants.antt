-- `basics::writer::Writer::word`. Assumes nothing.
use Rattle.std.proofs.Common.{take}
use Rattle.basics.specs.Writers.{Writes}
use Rattle.basics.proofs.writer.Writer.word.Given as goal

abbrev pub invariant-loop-b : goal.invariant-loop-b
invariant-loop-b l = Writes l.b-index (take l.b-index l.word) l.initial.self l.self

-- `basics::writer::Writer::word`: byte after byte. Assumes nothing.
use native.Mathlib.Numerals.{add-one}
use lib.Seq.{take-suc}
use Rattle.basics.proofs.Writers.{writes_then}
use Rattle.basics.proofs.writer.Writer.word.Goals as goal

pub loop-b-preserved : goal.loop-b-preserved
loop-b-preserved c =
    let i = c.loop-b.b-index in
    rw (add-one, take-suc c.args.word.now i 0 c.loop-b-test.true, ← add-one) (writes_then c.loop-b.invariant c.byte.ensures)

-- `report::line::put_named`: the number is written where the name ends. Assumes nothing.
use Rattle.basics.proofs.Writers.{writes_then}
use Rattle.report.proofs.line.put_named.Goals as goal

pub returns : goal.returns
returns c = writes_then c.word.ensures c.put_number.ensures

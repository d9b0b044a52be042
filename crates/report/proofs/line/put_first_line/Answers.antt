-- `report::line::put_first_line`: each number after its name, and a line feed. Assumes nothing.
use lib.Dec.{lit≤}
use Rattle.basics.proofs.Writers.{writes_then, writes_at_most}
use Rattle.report.specs.Text.{first_line}
use Rattle.report.proofs.line.put_first_line.Goals as goal

pub returns : goal.returns
unfolding first_line
returns c =
    let settlement = writes_then (writes_then c.put_named.ensures c.put_named-2.ensures) c.put_named-3.ensures in
    let run = writes_then (writes_then (writes_then settlement c.put_named-4.ensures) c.put_named-5.ensures) c.put_named-6.ensures in
    rw (← c.ballot_count.ensures) (writes_at_most {m = 168} (lit≤ tt) (writes_then run c.byte.ensures))

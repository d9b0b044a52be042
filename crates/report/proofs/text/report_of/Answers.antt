-- `report::text::report_of`: measured on no bytes, and written where it fits. Assumes nothing.
use lib.Dec.{lit≤}
use Rattle.report.proofs.Printed.{printed}
use Rattle.report.proofs.text.report_of.Goals as goal

pub returns-then-need-out : goal.returns-then-need-out
returns-then-need-out c = printed c.text_from_start-need.ensures (lit≤ tt) c.if-need-out.true c.text_from_start.ensures

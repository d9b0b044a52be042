-- A text is never empty: it begins with a word. Assumes nothing.
use Prim.Native.Nat.{ℕ, ◌<◌}
use mathlib.Core.Bool.{Bool, true, false, cond}
use mathlib.Core.List.{List}
use native.Mathlib.Omega.{arith}
use lib.Dec.{ltb}
use lib.ListN.{length}
use Rattle.settlement.specs.declared.record.Settlement.{Settlement}
use Rattle.logs.specs.Run.{ran}
use Rattle.report.specs.Text.{first_line, text, too_long_text}
use Rattle.report.specs.Report.{limit, text_of, report, NeverEmpty}

text_not_empty : (r : Settlement) (events taken status : ℕ) → 0 < length (text r events taken status)
unfolding text first_line
text_not_empty r events taken status = omega arith

either : (b : Bool) (log : List ℕ) → 0 < length (cond b too_long_text (text_of (ran log limit)))
unfolding too_long_text
either true log = omega arith
either false log =
    text_not_empty (ran log limit).settlement (ran log limit).events (ran log limit).taken (ran log limit).status

report_not_empty : (log : List ℕ) → 0 < length (report log)
unfolding report
report_not_empty log = either (ltb limit (length log)) log

pub never_empty : NeverEmpty
never_empty = record { of_log = report_not_empty; of_settlement = text_not_empty }

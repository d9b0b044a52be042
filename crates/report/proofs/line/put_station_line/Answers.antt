-- `report::line::put_station_line`: piece after piece. Assumes nothing.
use Rattle.std.proofs.Common.{arith}
use Rattle.basics.proofs.Writers.{writes_then, writes_at_most}
use Rattle.report.specs.Text.{shown_line, station_line}
use Rattle.report.proofs.line.put_station_line.Goals as goal

pub returns : goal.returns
unfolding shown_line station_line
returns c =
    let word = writes_then (writes_then (writes_then c.put_number.ensures c.byte.ensures) c.word.ensures) c.byte-2.ensures in
    let shown = writes_then (writes_then (writes_then word c.put_decision.ensures) c.put_named.ensures) c.put_presence.ensures in
    let line = writes_at_most {n = 90} (omega (arith, c.stage_word.ensures.short)) (writes_then shown c.byte-3.ensures) in
    rw (c.stage_word.ensures.word, c.look_at-shown.ensures.decided, c.look_at-shown.ensures.claim, c.look_at-shown.ensures.votes, c.entry_of-t.ensures) at line

-- `report::text::put_text`: line one, and the lines of the stations so far. Assumes nothing.
use Prim.Native.Nat.{◌+◌, ◌*◌}
use mathlib.Core.List.{◌++◌}
use Rattle.basics.specs.Writers.{Writes}
use Rattle.report.specs.Text.{first_line, station_line, station_lines}
use Rattle.report.proofs.text.put_text.Given as goal

abbrev pub invariant-loop-s : goal.invariant-loop-s
invariant-loop-s l =
    let first = first_line l.r.count l.r.rule l.fn.progress.events l.fn.progress.taken l.fn.progress.status in
    Writes (180 + 90 * l.s) (first ++ station_lines (station_line l.r) l.s) l.fn.w l.w

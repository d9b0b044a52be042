-- `report::text::put_text`: line one, and the lines of the stations so far. Assumes nothing.
use Rattle.std.proofs.Common.{◌≡◌, ◌+◌, ◌*◌, arith, add-one, append-nil, append_assoc}
use Rattle.basics.proofs.Writers.{writes_then, writes_at_most}
use Rattle.report.specs.Text.{station_lines, text}
use Rattle.report.proofs.text.put_text.Goals as goal

pub loop-s-init : goal.loop-s-init
unfolding station_lines
loop-s-init c = rw append-nil c.put_first_line.ensures

pub loop-s-preserved : goal.loop-s-preserved
unfolding station_lines
loop-s-preserved c =
    let s = c.loop-s.s in
    rw (add-one s, ← append_assoc)
    (writes_at_most {m = 180 + 90 * s + 90} (omega arith) (writes_then c.loop-s.invariant c.put_station_line.ensures))

pub returns : goal.returns
unfolding text
returns c =
    let e : c.loop-s.s ≡ c.args.r.now.count = omega arith in
    writes_at_most {m = 180 + 90 * c.args.r.now.count} (omega arith) (rw e at c.loop-s.invariant)

-- `on_image::look_ballot::put_tally`: each part is written where the last one ended. Assumes nothing.
use Rattle.std.specs.Option.{is_some, unwrap_or}
use mathlib.Core.Bool.{false}
use Rattle.basics.proofs.Writers.{writes_then}
use Rattle.on_image.specs.Tally.{tally_bytes}
use Rattle.on_image.proofs.Tallies.{mark_told}
use Rattle.on_image.proofs.look_ballot.put_tally.Goals as goal

pub returns : goal.returns
unfolding tally_bytes
returns c =
    let given = c.args.t.answer in
    let answered = rw (c.from.ensures, c.is_some.ensures, mark_told (is_some given)) at c.byte-3.ensures in
    let answer = rw (c.from-2.ensures, c.unwrap_or.ensures, mark_told (unwrap_or given false)) at c.byte-4.ensures in
    let sets = writes_then c.four.ensures c.four-2.ensures in
    writes_then (writes_then (writes_then (writes_then sets c.byte.ensures) c.byte-2.ensures) answered) answer

-- `on_image::place::store_ballot`: each part that was lent comes back with its start filled. Assumes nothing.
use mathlib.Core.Path.{◌≡◌, ◌∙◌}
use native.Mathlib.Omega.{arith}
use lib.ListN.{length}
use Rattle.basics.specs.Bytes.{over}
use Rattle.image.specs.Entries.{voters_bytes, marks_bytes}
use Rattle.image.specs.Image.{voters_at, marks_at}
use Rattle.image.proofs.Lists.{over_long, part_filled}
use Rattle.image.proofs.Entries.{voters_wide, marks_wide}
use Rattle.on_image.proofs.place.store_ballot.Goals as goal

pub returns : goal.returns
returns c =
    let b = c.args.image.now in
    let k = c.args.k in
    let t = c.args.t in
    let below = c.requires in
    let long : length b ≡ 1283 = c.told-image in
    let voters = part_filled b 1283 long (voters_at k) (voters_bytes t) (omega (arith, below, voters_wide t)) in
    let with_voters = over (voters_at k) (voters_bytes t) b in
    let still : length with_voters ≡ 1283 = over_long b (voters_at k) (voters_bytes t) (omega (arith, below, voters_wide t)) ∙ long in
    rw (c.write_marks.ensures, c.write_voters.ensures, voters)
    (part_filled with_voters 1283 still (marks_at k) (marks_bytes t) (omega (arith, below, marks_wide t)))

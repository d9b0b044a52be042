-- `on_image::place::ballot_in`: the parts from its two places on begin with the entry. Assumes nothing.
use mathlib.Core.Path.{sym}
use Rattle.image.specs.Image.{voters_at, marks_at}
use Rattle.image.proofs.Lists.{part_from}
use Rattle.image.proofs.Image.{ballot_in}
use Rattle.on_image.proofs.place.ballot_in.Goals as goal

pub returns : goal.returns
returns c =
    let b = c.args.image.now in
    let k = c.args.k in
    rw (c.ballot_from.ensures, part_from b 1283 c.told-image (voters_at k), part_from b 1283 c.told-image (marks_at k)) (sym (ballot_in b k c.requires))

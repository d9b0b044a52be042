-- `on_image::place::station_in`: the part from its place on begins with the entry. Assumes nothing.
use mathlib.Core.Path.{sym}
use Rattle.image.proofs.Lists.{part_from}
use Rattle.image.proofs.Image.{entry_in}
use Rattle.on_image.proofs.place.station_in.Goals as goal

pub returns : goal.returns
returns c = rw (c.station_from.ensures, part_from c.args.image.now 1283 c.told-image) (sym (entry_in c.args.image.now c.args.i c.requires))

-- `on_image::place::store_station`: the part that was lent comes back with its start filled. Assumes nothing.
use native.Mathlib.Omega.{arith}
use Rattle.image.specs.Entries.{station_bytes}
use Rattle.image.specs.Image.{station_at}
use Rattle.image.proofs.Lists.{part_filled}
use Rattle.image.proofs.Entries.{station_wide}
use Rattle.on_image.proofs.place.store_station.Goals as goal

pub returns : goal.returns
returns c =
    let below = c.requires in
    let wide = station_wide c.args.t in
    rw c.write_station.ensures
    (part_filled c.args.image.now 1283 c.told-image (station_at c.args.i) (station_bytes c.args.t) (omega (arith, below, wide)))

-- `image::unread::some_station_unread`: `found` is the definition at the stations passed. Assumes nothing.
use mathlib.Core.Path.{◌≡◌}
use lib.ListN.{drop}
use Rattle.basics.specs.Below.{any_below}
use Rattle.image.specs.Entries.{station_unread}
use Rattle.image.specs.Image.{station_at}
use Rattle.image.proofs.unread.some_station_unread.Given as goal

abbrev pub invariant-loop-s : goal.invariant-loop-s
invariant-loop-s l = l.found ≡ any_below l.s (λ s. station_unread (drop (station_at s) l.image))

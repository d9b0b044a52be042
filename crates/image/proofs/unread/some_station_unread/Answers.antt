-- `image::unread::some_station_unread`: `found` is the definition at the stations passed. Assumes nothing.
use mathlib.Core.Path.{refl}
use native.Mathlib.Nat.{add-zero}
use lib.Seq.{get_or-drop}
use Rattle.basics.specs.Below.{any_below}
use Rattle.basics.proofs.Below.{any_next}
use Rattle.image.specs.Image.{station_at}
use Rattle.image.proofs.unread.some_station_unread.Goals as goal

pub loop-s-init : goal.loop-s-init
unfolding any_below
loop-s-init c = refl

pub loop-s-preserved : goal.loop-s-preserved
loop-s-preserved c =
    let image = c.args.image.now in
    let at = station_at c.loop-s.s in
    rw (any_next, c.loop-s.invariant, get_or-drop at image 0 0, get_or-drop at image 1 0, add-zero)

-- `on_image::fault::some_station_faulty`: `found` is the definition at the stations passed. Assumes nothing.
use mathlib.Core.Path.{refl}
use native.Mathlib.Omega.{arith}
use Rattle.basics.specs.Below.{any_below}
use Rattle.basics.proofs.Below.{any_next}
use Rattle.on_image.proofs.Laws.{fault_asked}
use Rattle.on_image.proofs.fault.some_station_faulty.Goals as goal

pub loop-s-init : goal.loop-s-init
unfolding any_below
loop-s-init c = refl

pub loop-s-preserved : goal.loop-s-preserved
loop-s-preserved c =
    let here = fault_asked c.args.image.now c.loop-s.s (omega (arith, c.requires)) in
    rw (any_next, c.station_faulty-found.ensures, c.standing_so-t.ensures, c.loop-s.invariant, here)

-- `on_image::fault::some_station_faulty`: `found` is the definition at the stations passed. Assumes nothing.
use mathlib.Core.Path.{◌≡◌}
use Rattle.basics.specs.Below.{any_below}
use Rattle.image.specs.Image.{record_in}
use Rattle.settlement.specs.Fault.{fault_at}
use Rattle.on_image.proofs.fault.some_station_faulty.Given as goal

abbrev pub invariant-loop-s : goal.invariant-loop-s
invariant-loop-s l = l.found ≡ any_below l.s (fault_at (record_in l.image))

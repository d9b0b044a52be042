-- `settlement::fault::some_station_faulty`: `found` is the definition at the stations passed. Assumes nothing.
use mathlib.Core.Path.{◌≡◌}
use Rattle.basics.specs.Below.{any_below}
use Rattle.settlement.specs.Fault.{fault_at}
use Rattle.settlement.proofs.fault.some_station_faulty.Given as goal

abbrev pub invariant-loop-t : goal.invariant-loop-t
invariant-loop-t l = l.found ≡ any_below l.t-index (fault_at l.r)

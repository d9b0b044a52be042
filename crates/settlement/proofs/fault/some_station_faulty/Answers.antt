-- `settlement::fault::some_station_faulty`: `found` is the definition at the stations passed. Assumes nothing.
use Prim.Native.Nat.{ℕ, ◌+◌}
use mathlib.Core.Path.{◌≡◌, refl}
use mathlib.Core.Bool.{Bool, ◌||◌}
use native.Mathlib.Omega.{arith}
use Rattle.std.proofs.lemmas.List.{get_or-take}
use Rattle.basics.specs.Below.{any_below}
use Rattle.basics.proofs.Below.{any_next}
use Rattle.entry.specs.declared.entry.Station.{Station}
use Rattle.settlement.specs.declared.record.Settlement.{Settlement}
use Rattle.settlement.specs.Record.{entry}
use Rattle.settlement.specs.Fault.{station_fault, fault_at}
use Rattle.settlement.proofs.fault.some_station_faulty.Goals as goal

-- one station more, whose entry is t
one_more : (r : Settlement) (s : ℕ) (t : Station) (found b : Bool) → t ≡ entry r s → found ≡ any_below s (fault_at r) → b ≡ station_fault r.count r.rule t
    → (found || b) ≡ any_below (s + 1) (fault_at r)
one_more r s t found b own so_far asked = rw (any_next, so_far, asked, own)

pub loop-t-init : goal.loop-t-init
unfolding any_below
loop-t-init c = refl

pub loop-t-preserved : goal.loop-t-preserved
loop-t-preserved c =
    one_more c.args.r.now _ _ _ _ (get_or-take c.args.r.now.count c.args.r.now.stations c.loop-t.t-index _ (omega arith)) c.loop-t.invariant
    c.station_faulty-found.ensures

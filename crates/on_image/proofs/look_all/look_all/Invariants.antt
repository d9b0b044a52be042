-- `on_image::look_all::look_all`: station by station. Assumes nothing.
use Prim.Native.Nat.{◌*◌}
use Rattle.basics.specs.Writers.{Writes}
use Rattle.settlement.specs.Look.{looked}
use Rattle.image.specs.Image.{record_in}
use Rattle.on_image.specs.Look.{standings}
use Rattle.on_image.proofs.look_all.look_all.Given as goal

abbrev pub invariant-loop-s : goal.invariant-loop-s
invariant-loop-s l = Writes (8 * l.s) (standings (looked (record_in l.bytes)) l.s) l.initial.w l.w

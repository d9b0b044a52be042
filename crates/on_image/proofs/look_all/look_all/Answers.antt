-- `on_image::look_all::look_all`: station by station. Assumes nothing.
use mathlib.Core.Path.{◌≡◌, refl, sym}
use mathlib.Core.Bool.{false}
use native.Mathlib.Omega.{arith}
use native.Mathlib.Numerals.{add-one}
use Rattle.basics.proofs.Written.{nothing}
use Rattle.basics.proofs.Writers.{writes_then, writes_at_most}
use Rattle.settlement.specs.Fault.{fault}
use Rattle.settlement.specs.Look.{looked}
use Rattle.image.specs.Image.{record_in}
use Rattle.image.proofs.Image.{count_in}
use Rattle.on_image.specs.Look.{standings}
use Rattle.on_image.proofs.Looks.{tested_0, not_refused, eight}
use Rattle.on_image.proofs.look_all.look_all.Goals as goal

pub loop-s-init : goal.loop-s-init
unfolding standings
loop-s-init c = record { wrote = nothing c.args.out.now 0 (omega arith) (omega arith); same = refl }

pub standing_at-requires : goal.standing_at-requires
standing_at-requires c =
    let b = c.args.bytes.now in
    let sound : fault (record_in b) ≡ false = (tested_0 b 0 (sym c.in_ok-image.ensures.refused)).1 in
    rw c.in_ok-image.ensures.same (not_refused (record_in b) c.loop-s.s sound (rw (count_in, ← c.in_ok-image.ensures.same) (omega arith)))

pub loop-s-preserved : goal.loop-s-preserved
unfolding standings
loop-s-preserved c =
    let s = c.loop-s.s in
    let long = eight (looked (record_in c.args.bytes.now) s) in
    let w = writes_then c.loop-s.invariant (rw (c.standing_bytes.ensures, c.standing_at.ensures, c.in_ok-image.ensures.same) at c.word.ensures) in
    rw (add-one s, ← add-one s) (writes_at_most (omega (arith, long)) w)

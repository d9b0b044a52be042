-- `close::bound::claims_at_hand`: station by station. Assumes nothing.
use mathlib.Core.Path.{◌∙◌}
use native.Mathlib.Omega.{arith}
use Rattle.std.proofs.lemmas.List.{get_or-take}
use Rattle.close.proofs.Gathered.{none_gathered, one_gathered, all_gathered}
use Rattle.close.proofs.bound.claims_at_hand.Goals as goal
use Rattle.close.proofs.bound.claims_at_hand.Goals.{then-not_idle, else-not_idle}

pub loop-s-init : goal.loop-s-init
loop-s-init c = none_gathered _

pub loop-s-preserved : goal.loop-s-preserved
loop-s-preserved c =
    one_gathered _ _ _ _ c.loop-s.invariant (omega arith) _ (get_or-take c.args.r.now.count c.args.r.now.stations c.loop-s.s _ (omega arith)) _
    (elim c.if-not_idle.branch [
      | then-not_idle w ↦ w.claimed-is ∙ rw (← c.not_idle.ensures, w.if-not_idle.true) w.mask_with-claimed.ensures
      | else-not_idle w ↦ w.claimed-is ∙ rw (← c.not_idle.ensures, w.if-not_idle.false)
    ])

pub returns : goal.returns
returns c = all_gathered _ _ _ _ c.loop-s.invariant (omega arith)

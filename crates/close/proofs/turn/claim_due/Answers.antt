-- `close::turn::claim_due`: the own claim comes first, then the lowest that is lacked. Assumes nothing.
use Prim.Native.Nat.{ℕ}
use mathlib.Core.Path.{◌≡◌, sym, ◌∙◌}
use mathlib.Core.Logic.{inr}
use mathlib.Core.Bool.{true}
use Rattle.std.specs.Prelude.{Option, Some, None, MatchOption}
use Rattle.bits.specs.Words.{member}
use Rattle.entry.specs.declared.entry.Station.{Station}
use Rattle.close.specs.Masks.{Lowest}
use Rattle.close.specs.Due.{lacks_so, HasAll, DueClaim}
use Rattle.close.proofs.Sets.{missing}
use Rattle.close.proofs.turn.claim_due.Goals as goal

-- the own claim is held: the mask is of those that are lacked
lowest_due : (own : Station) (s hand mask : ℕ) → member s own.held ≡ true → ((t : ℕ) → member t mask ≡ lacks_so own s hand t)
    → (x : Option ℕ) → Lowest mask x → MatchOption x (HasAll own s hand) (DueClaim own s hand)
lowest_due own s hand mask h m None none = (h, λ t. sym (m t) ∙ none t)
lowest_due own s hand mask h m (Some x) low = inr (h, sym (m x) ∙ low.0, λ t l. sym (m t) ∙ low.1 t l)

pub returns : goal.returns
returns c =
    lowest_due c.args.own c.args.s c.args.hand _ (sym c.mask_has.ensures ∙ c.if-not-mask_has.false) (missing c.args.hand c.args.own.held) c.lowest.result
    c.lowest.ensures

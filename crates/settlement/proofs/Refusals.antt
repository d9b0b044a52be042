-- What the number of an outcome says of its settlement: `outcome` chooses by whether it is 0. Assumes nothing.
use Prim.Native.Nat.{ℕ}
use mathlib.Core.Path.{◌≡◌}
use borrow.Author.Tests.{ne_eqb, eq-eqb}
use Rattle.settlement.specs.declared.record.Settlement.{Settlement}
use Rattle.settlement.specs.Events.{outcome}

pub refused_outcome : (k : ℕ) (next given : Settlement) → (k ≡ 0 → ⊥) → outcome k next given ≡ record { number = k; settlement = given }
unfolding outcome
refused_outcome k next given h = rw (ne_eqb k 0 h)

pub accepted_outcome : (k : ℕ) (next given : Settlement) → k ≡ 0 → outcome k next given ≡ record { number = k; settlement = next }
unfolding outcome
accepted_outcome k next given h = rw (eq-eqb k 0 h)

-- A refusal by the first tests is one by a longer list. Assumes nothing.
use Prim.Native.Nat.{ℕ}
use mathlib.Core.Path.{◌≡◌, refl, sym}
use mathlib.Core.Bool.{Bool, true, false, ◌||◌}
use native.Mathlib.Omega.{arith}
use Rattle.basics.specs.declared.refusal.Refusal.{Refusal}
use Rattle.basics.specs.Refusals.{number_of}
use Rattle.basics.specs.Tests.{refuse}
use Rattle.basics.proofs.Refusals.{some_number}

pub refused_early : (a b : Bool) (k m rest : ℕ) (e : Refusal) → number_of e ≡ refuse a k (refuse b m 0) → refuse a k (refuse b m rest) ≡ number_of e
refused_early true b k m rest e h = sym h
refused_early false true k m rest e h = sym h
refused_early false false k m rest e h = absurd (omega (arith, some_number e))

pub passed_early : (a b : Bool) (rest : ℕ) → 0 ≡ refuse a 1 (refuse b 2 0) → refuse a 1 (refuse b 2 rest) ≡ rest
passed_early true b rest h = absurd (omega arith)
passed_early false true rest h = absurd (omega arith)
passed_early false false rest h = refl

-- two tests with one number
pub refuse_or : (a b : Bool) (k rest : ℕ) → refuse (a || b) k rest ≡ refuse a k (refuse b k rest)
refuse_or true b k rest = refl
refuse_or false b k rest = refl

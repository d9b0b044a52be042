-- Chains of refusals taken apart: an accepted call met none of the tests. Assumes nothing.
use Prim.Native.Nat.{ℕ, ◌<◌}
use mathlib.Core.Path.{◌≡◌, refl, ◌∙◌, ap}
use mathlib.Core.Bool.{Bool, true, false}
use mathlib.Core.List.{List, [], ◌∷◌, ◌++◌}
use lib.Dec.{eqb}
use borrow.Author.Tests.{eqb-false}
use Rattle.std.proofs.Common.{rules}
use Rattle.basics.specs.declared.refusal.Refusal.{Refusal}
use Rattle.basics.specs.Refusals.{number_of}
use Rattle.basics.specs.Tests.{refuse, Test, when, first_met, NoneMet, TestsInOrder}

pub refused_not : (t : Bool) (m rest : ℕ) → eqb m 0 ≡ false → refuse t m rest ≡ 0 → (t ≡ false) × (rest ≡ 0)
refused_not true m rest ne e = absurd (eqb-false m 0 ne e)
refused_not false m rest ne e = (refl, e)

-- a test that is met gives its number
pub met : (t : Bool) (m rest : ℕ) → t ≡ true → refuse t m rest ≡ m
met t m rest e = ap (λ (b : Bool). refuse b m rest) e

-- the same test, and then the same rest
pub refuse_both : (t t' : Bool) (m x y : ℕ) → t ≡ t' → (t' ≡ false → x ≡ y) → refuse t m x ≡ refuse t' m y
refuse_both t t' m x y e f = ap (λ (b : Bool). refuse b m x) e ∙ go t' f
  where
    go : (b : Bool) → (b ≡ false → x ≡ y) → refuse b m x ≡ refuse b m y
    go true f = refl
    go false f = f refl

-- ---- the first test met

first_of : (ts us : List Test) (m : ℕ) → NoneMet ts → first_met (ts ++ (when true m ∷ us)) ≡ m
unfolding first_met
first_of [] us m h = refl
first_of (when t k ∷ ts) us m h = ap (λ (b : Bool). refuse b k (first_met (ts ++ (when true m ∷ us)))) h.0 ∙ first_of ts us m h.1

none_of : (ts : List Test) → NoneMet ts → first_met ts ≡ 0
unfolding first_met
none_of [] h = refl
none_of (when t k ∷ ts) h = ap (λ (b : Bool). refuse b k (first_met ts)) h.0 ∙ none_of ts h.1

pub tests_in_order : TestsInOrder
tests_in_order = record { first = first_of; accepted = none_of }

-- no refusal has the number of an accepted call
pub some_number : (e : Refusal) → 0 < number_of e
some_number e = search rules

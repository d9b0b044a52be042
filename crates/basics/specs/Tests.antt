-- What an operation is turned away for (document 01, "Operations and what they turn away"): its tests in the order written, each with its number.
-- The first test met gives the number, and 0 is accepted. Assumes nothing.
use Rattle.std.specs.Prelude.{ℕ, ◌≡◌, Bool, true, false, List, [], ◌∷◌, ◌++◌}

-- the number where the test is met, else what the later tests give
abbrev pub refuse : Bool → ℕ → ℕ → ℕ
refuse true number rest = number
refuse false number rest = rest

-- a test, and the number that it gives where it is met
pub data Test : Type 0 where
  when : Bool → ℕ → Test

unfoldable pub first_met : List Test → ℕ
first_met [] = 0
first_met (when met number ∷ ts) = refuse met number (first_met ts)

-- none of the tests is met
abbrev pub NoneMet : List Test → Type 0
NoneMet [] = Unit {0}
NoneMet (when met number ∷ ts) = (met ≡ false) × NoneMet ts

-- "Tests run in the order written, and the first met gives the number"; "An accepted call answers 0"
pub record TestsInOrder : Type 0 where
  pub first : (ts us : List Test) (number : ℕ) → NoneMet ts → first_met (ts ++ (when true number ∷ us)) ≡ number
  pub accepted : (ts : List Test) → NoneMet ts → first_met ts ≡ 0

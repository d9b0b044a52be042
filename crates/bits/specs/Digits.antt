-- The binary digits of a number (paper 000, section 3: j is written j_m .. j_1 j_0, and j_m is 1 unless j is 0).
-- A digit is a Bool: true is 1. Assumes nothing.
use Rattle.std.specs.Prelude.{ℕ, zero, suc, ◌-◌, ◌/◌, ◌%◌, ◌^◌, ◌<◌, max, Bool, true, false, List, [], ◌∷◌, ◌≡◌, eqb, length, get_or}
use Rattle.std.specs.Int.Count.{count_leading_zeros}

-- a Bool as a number
abbrev pub value : Bool → ℕ
value true = 1
value false = 0

-- the lowest digit
abbrev pub lowest : ℕ → Bool
lowest n = eqb (n % 2) 1

-- The digits of a number, lowest first, up to its highest 1: none for 0. A number has no more than `fuel` digits where it is at most `fuel`.
unfoldable pub digits_in : ℕ → ℕ → List Bool
digits_in zero n = []
digits_in (suc fuel) zero = []
digits_in (suc fuel) (suc m) = lowest (suc m) ∷ digits_in fuel (suc m / 2)

-- The binary digits of n, lowest first. The number 0 has the one digit 0.
unfoldable pub binary_digits : ℕ → List Bool
binary_digits n = lowest n ∷ digits_in n (n / 2)

-- 01, "The settlement": the length of a claim is the count of its binary digits, with 1 for claim 0.
unfoldable pub bit_length : ℕ → ℕ
bit_length n = length (binary_digits n)

-- Paper 000, section 3: n[k] is digit k of n, and 0 past its highest digit.
unfoldable pub bit : ℕ → ℕ → Bool
bit k n = get_or (binary_digits n) k false

-- 01, "The settlement": the length rule for any width w. A number of w bits is as long as what its leading zeros leave of w, and at least 1.
abbrev pub LengthRule : Type 0
LengthRule = (w n : ℕ) → 0 < w → n < 2 ^ w → bit_length n ≡ max 1 (w - count_leading_zeros w n)

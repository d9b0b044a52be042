-- A number in decimal: its digits as bytes, the most significant first; 0 is the one digit 0. Assumes nothing.
use Rattle.std.specs.Prelude.{ℕ, zero, suc, ◌+◌, ◌-◌, ◌*◌, ◌/◌, ◌%◌, ◌≤◌, ◌<◌, ◌≡◌, cond, List, [], ◌∷◌, ◌++◌, ltb, length, get_or}

-- the byte of a digit: `0` is 48
abbrev pub digit : ℕ → ℕ
digit d = 48 + d

-- at most so many of the last digits
unfoldable pub digits : ℕ → ℕ → List ℕ
digits zero x = []
digits (suc most) x = cond (ltb x 10) (digit x ∷ []) (digits most (x / 10) ++ (digit (x % 10) ∷ []))

-- x has at most x + 1 digits
unfoldable pub decimal : ℕ → List ℕ
decimal x = digits (suc x) x

-- ---- that these are the digits of x

-- the number that digits after those of n make
abbrev pub read_on : ℕ → List ℕ → ℕ
read_on n [] = n
read_on n (b ∷ bs) = read_on (n * 10 + (b - digit 0)) bs

-- they are digits, they make x, and the first is not 0; but 0 is the one digit 0
pub record DecimalOf (x : ℕ) (bs : List ℕ) : Type 0 where
  pub digit_each : (i : ℕ) → i < length bs → (digit 0 ≤ get_or bs i 0) × (get_or bs i 0 ≤ digit 9)
  pub value : read_on 0 bs ≡ x
  pub no_leading_zero : 0 < x → digit 0 < get_or bs 0 0
  pub zero : x ≡ 0 → bs ≡ (digit 0 ∷ [])

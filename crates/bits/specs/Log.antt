-- ceil(log2 n), the number R of document 01: the least r with n ≤ 2 ^ r. Assumes nothing.
use Rattle.std.specs.Prelude.{ℕ, zero, suc, ◌-◌, ◌^◌, ◌≤◌, ◌<◌, true, false, ◌≡◌, leb}
use Rattle.std.specs.Int.Count.{count_leading_zeros}

-- the least r at or above `from` with n ≤ 2 ^ r, looked for in `fuel` steps
unfoldable pub least_from : ℕ → ℕ → ℕ → ℕ
least_from zero n from = from
least_from (suc fuel) n from = elim (leb n (2 ^ from)) [ true ↦ from | false ↦ least_from fuel n (suc from) ]

-- 01, "The settlement": R is ceil(log2 n). Since n ≤ 2 ^ n, the search ends within n steps.
unfoldable pub ceil_log2 : ℕ → ℕ
ceil_log2 n = least_from n n 0

-- It is the least r with n ≤ 2 ^ r: it is one, and each smaller r is none.
abbrev pub LeastPower : Type 0
LeastPower = (n : ℕ) → (n ≤ 2 ^ ceil_log2 n) × ((r : ℕ) → r < ceil_log2 n → 2 ^ r < n)

-- For any width w that holds n - 1, it is what the leading zeros of n - 1 leave of w.
abbrev pub LogRule : Type 0
LogRule = (w n : ℕ) → n ≤ 2 ^ w → ceil_log2 n ≡ w - count_leading_zeros w (n - 1)

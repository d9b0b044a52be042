-- ceil(log2 n) is the least r with n ≤ 2 ^ r: the search starts at 0, stops at the first that fits, and n steps are enough since n ≤ 2 ^ n.
-- So it is what the leading zeros of n - 1 leave of any width: n ≤ 2 ^ r says n - 1 < 2 ^ r. Assumes nothing.
use Prim.Native.Nat.{ℕ, zero, suc, ◌+◌, ◌-◌, ◌^◌, ◌≤◌, ◌<◌, zero-le}
use mathlib.Core.Path.{◌≡◌, refl, sym, ap, ◌∙◌, subst}
use mathlib.Core.Logic.{⊎_elim}
use mathlib.Core.Bool.{Bool, true, false}
use native.Mathlib.Nat.{le_antisymm, le_of_suc-le-suc, lt_of_not-le, not-le_of_lt, eq-or-lt_of_le, zero-add, add-zero, add-suc, suc-add, sub_self, pow-suc}
use native.Mathlib.Numerals.{sub-one}
use native.Mathlib.Omega.{arith}
use lib.Arith.{le-zero}
use lib.Count.{count_leading_zeros, leading_of_zero}
use lib.Dec.{leb}
use lib.Pow.{pow_pos}
use borrow.Author.Tests.{leb-true, leb-false}
use Rattle.bits.specs.Log.{least_from, ceil_log2, LeastPower, LogRule}
use Rattle.bits.proofs.Digits.{zeros_enough, zeros_least}

self_le : (n : ℕ) → n ≤ 2 ^ n
self_le zero = zero-le
self_le (suc n) = let twice = pow-suc 2 n in omega (arith, self_le n, pow_pos n)

-- one step of the search: it stops where the power is enough, and else goes on
stops : (fuel n from : ℕ) → leb n (2 ^ from) ≡ true → least_from (suc fuel) n from ≡ from
unfolding least_from
stops fuel n from e = ap (λ (t : Bool). elim t as (λ b. ℕ) [ true ↦ from | false ↦ least_from fuel n (suc from) ]) e

goes_on : (fuel n from : ℕ) → leb n (2 ^ from) ≡ false → least_from (suc fuel) n from ≡ least_from fuel n (suc from)
unfolding least_from
goes_on fuel n from e = ap (λ (t : Bool). elim t as (λ b. ℕ) [ true ↦ from | false ↦ least_from fuel n (suc from) ]) e

-- The search ends at a power that is enough, where the last one in reach is.
search_enough : (fuel n from : ℕ) → n ≤ 2 ^ (from + fuel) → n ≤ 2 ^ least_from fuel n from
unfolding least_from
search_enough zero n from h = rw add-zero at h
search_enough (suc fuel) n from h =
    go (leb n (2 ^ from)) refl (search_enough fuel n (suc from) (subst (λ (x : ℕ). n ≤ 2 ^ x) (add-suc from fuel ∙ sym (suc-add from fuel)) h))
  where
    go : (t : Bool) → leb n (2 ^ from) ≡ t → n ≤ 2 ^ least_from fuel n (suc from) → n ≤ 2 ^ least_from (suc fuel) n from
    go true e rest = subst (λ (x : ℕ). n ≤ 2 ^ x) (sym (stops fuel n from e)) (leb-true n (2 ^ from) e)
    go false e rest = subst (λ (x : ℕ). n ≤ 2 ^ x) (sym (goes_on fuel n from e)) rest

-- And it passed over none that is enough.
search_least : (fuel n from r : ℕ) → from ≤ r → r < least_from fuel n from → 2 ^ r < n
unfolding least_from
search_least zero n from r l h = absurd (not-le_of_lt h l)
search_least (suc fuel) n from r l h = go (leb n (2 ^ from)) refl (search_least fuel n (suc from) r)
  where
    go : (t : Bool) → leb n (2 ^ from) ≡ t → (suc from ≤ r → r < least_from fuel n (suc from) → 2 ^ r < n) → 2 ^ r < n
    go true e rest = absurd (not-le_of_lt (subst (λ (x : ℕ). r < x) (stops fuel n from e) h) l)
    go false e rest =
        ⊎_elim (λ q. subst (λ (x : ℕ). 2 ^ x < n) q (leb-false n (2 ^ from) e))
        (λ q. rest q (subst (λ (x : ℕ). r < x) (goes_on fuel n from e) h)) (eq-or-lt_of_le l)

pub log_enough : (n : ℕ) → n ≤ 2 ^ ceil_log2 n
unfolding ceil_log2
log_enough n = search_enough n n 0 (rw zero-add (self_le n))

pub log_least : (n r : ℕ) → r < ceil_log2 n → 2 ^ r < n
unfolding ceil_log2
log_least n r h = search_least n n 0 r zero-le h

pub least_power : LeastPower
least_power n = (log_enough n, log_least n)

-- any power that is enough is at least that one
pub log_le : (n r : ℕ) → n ≤ 2 ^ r → ceil_log2 n ≤ r
log_le n r h = le_of_suc-le-suc (lt_of_not-le (λ (g : suc r ≤ ceil_log2 n). not-le_of_lt (log_least n r g) h))

pub log_rule : LogRule
log_rule w zero h = le-zero (log_le zero zero zero-le) ∙ sym (rw leading_of_zero (sub_self w))
log_rule w (suc m) h =
    rw (sub-one (suc m))
    (le_antisymm (log_le (suc m) (w - count_leading_zeros w m) (zeros_enough w m h)) (zeros_least w m (ceil_log2 (suc m)) h (log_enough (suc m))))

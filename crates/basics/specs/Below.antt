-- A test over the numbers below n. Assumes nothing.
use Rattle.std.specs.Prelude.{ℕ, suc, ◌<◌, ◌≡◌, ◌↔◌, Bool, true, false, ◌||◌, cond}

-- some number below n passes the test
unfoldable pub any_below : ℕ → (ℕ → Bool) → Bool
any_below ℕ.zero f = false
any_below (suc n) f = f n || any_below n f

-- its law, both ways: the numbers looked at are those below n, each of them and no other
abbrev pub SomeBelow : Type 0
SomeBelow = (n : ℕ) (f : ℕ → Bool) → (any_below n f ≡ true) ↔ ((i : ℕ) × (i < n) × (f i ≡ true))

-- how many numbers below n pass it
unfoldable pub count_below : ℕ → (ℕ → Bool) → ℕ
count_below ℕ.zero f = 0
count_below (suc n) f = cond (f n) (suc (count_below n f)) (count_below n f)

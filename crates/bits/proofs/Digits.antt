-- A number by its binary digits. All of it follows from one step: the lowest digit of n is n % 2, and the digits above it are those of
-- n / 2 (`bit_step`, `length_above`). So a number is determined by its bits, and its length is the least k above 0 with n < 2 ^ k.
-- Assumes nothing.
use Prim.Native.Nat.{ℕ, zero, suc, ◌+◌, ◌-◌, ◌*◌, ◌/◌, ◌%◌, ◌^◌, ◌≤◌, ◌<◌, max, zero-le, suc-le-suc}
use mathlib.Core.Path.{◌≡◌, refl, sym, ap, ◌∙◌, subst}
use mathlib.Core.Logic.{◌≢◌}
use mathlib.Core.Bool.{Bool, true, false, false≢true}
use mathlib.Core.List.{List, [], ◌∷◌}
use native.Mathlib.Nat.{le_antisymm, le_of_eq, le-max_left, le-max_right, max-le, not-suc-le-zero, le_of_suc-le-suc}
use native.Mathlib.Nat.{lt_of_lt_of_le, lt_of_not-le, zero-lt-suc, div-one, div-eq_of_lt, div-add-mod', div-div-eq-div-mul, div-lt_iff_lt-mul, pow-suc, pow-succ'}
use native.Mathlib.Omega.{arith}
use lib.Arith.{half_le, bin_ind}
use lib.Count.{count_leading_zeros, leading_length}
use lib.Dec.{eqb}
use lib.ListN.{length, get_or}
use lib.Pow.{pow_mono, pow_pos}
use borrow.Author.Tests.{eqb-true, eqb-false}
use Rattle.std.specs.Int.{bit_at}
use Rattle.std.proofs.lemmas.Nat.Bits.{same_from_bits}
use Rattle.bits.specs.Digits.{value, lowest, digits_in, binary_digits, bit_length, bit, LengthRule}

-- ---- the step

-- more steps than a number has digits change nothing
fuel_same : (f g m : ℕ) → m ≤ f → m ≤ g → digits_in f m ≡ digits_in g m
unfolding digits_in
fuel_same zero zero m h l = refl
fuel_same zero (suc g) zero h l = refl
fuel_same zero (suc g) (suc m) h l = absurd (not-suc-le-zero h)
fuel_same (suc f) zero zero h l = refl
fuel_same (suc f) zero (suc m) h l = absurd (not-suc-le-zero l)
fuel_same (suc f) (suc g) zero h l = refl
fuel_same (suc f) (suc g) (suc m) h l =
    ap {B = List Bool} (λ d. lowest (suc m) ∷ d) (fuel_same f g (suc m / 2) (half_le h) (half_le l))

-- the digits above the lowest are those of half the number, or none where the half is 0
digits_above : (n m : ℕ) → n / 2 ≡ suc m → binary_digits n ≡ lowest n ∷ binary_digits (suc m)
unfolding binary_digits digits_in
digits_above zero m e = absurd (not-suc-le-zero (le_of_eq (sym e)))
digits_above (suc n) m e =
    let above : suc m ≤ suc n = omega arith in
    ap {B = List Bool} (λ h. lowest (suc n) ∷ digits_in (suc n) h) e
    ∙ ap {B = List Bool} (λ d. lowest (suc n) ∷ lowest (suc m) ∷ d) (fuel_same n (suc m) (suc m / 2) (half_le above) (half_le (omega arith)))

digits_last : (n : ℕ) → n / 2 ≡ zero → binary_digits n ≡ lowest n ∷ []
unfolding binary_digits digits_in
digits_last zero e = refl
digits_last (suc n) e = ap {B = List Bool} (λ h. lowest (suc n) ∷ digits_in (suc n) h) e

pub bit_zero : (k : ℕ) → bit k 0 ≡ false
unfolding bit binary_digits digits_in
bit_zero zero = refl
bit_zero (suc k) = refl

pub bit_low : (n : ℕ) → bit 0 n ≡ lowest n
unfolding bit binary_digits
bit_low n = refl

pub bit_step : (k n : ℕ) → bit (suc k) n ≡ bit k (n / 2)
unfolding bit
bit_step k n = go (n / 2) refl
  where
    go : (h : ℕ) → n / 2 ≡ h → bit (suc k) n ≡ bit k h
    go zero e = ap (λ (d : List Bool). get_or d (suc k) false) (digits_last n e) ∙ sym (bit_zero k)
    go (suc m) e = ap (λ (d : List Bool). get_or d (suc k) false) (digits_above n m e)

-- ---- bits

-- bit k is the remainder by 2 of what stands from k on
pub bit_div : (k n : ℕ) → bit k n ≡ eqb (n / 2 ^ k % 2) 1
bit_div zero n = bit_low n ∙ ap (λ (x : ℕ). eqb (x % 2) 1) (sym (div-one n))
bit_div (suc k) n =
    bit_step k n ∙ bit_div k (n / 2)
    ∙ ap (λ (x : ℕ). eqb (x % 2) 1) (div-div-eq-div-mul n 2 (2 ^ k) ∙ ap (λ (x : ℕ). n / x) (sym (pow-succ' 2 k)))

-- the lowest digit as a number
lowest_value : (n : ℕ) → value (lowest n) ≡ n % 2
lowest_value n = go (lowest n) refl
  where
    go : (b : Bool) → lowest n ≡ b → value b ≡ n % 2
    go true e = sym (eqb-true (n % 2) 1 e)
    go false e = let even : n % 2 ≢ 1 = eqb-false (n % 2) 1 e in omega arith

pub low_value : (n : ℕ) → n % 2 ≡ value (bit 0 n)
low_value n = sym (lowest_value n) ∙ ap value (sym (bit_low n))

-- a number is its half twice and its lowest bit
pub halves : (n : ℕ) → n ≡ n / 2 * 2 + value (bit 0 n)
halves n = sym (div-add-mod' n 2) ∙ ap (λ (x : ℕ). n / 2 * 2 + x) (low_value n)

-- the library's bit, a number
pub bit_value : (k n : ℕ) → value (bit k n) ≡ bit_at n k
bit_value k n = ap value (bit_div k n) ∙ lowest_value (n / 2 ^ k)

pub bit_ext : (a b : ℕ) → ((k : ℕ) → bit k a ≡ bit k b) → a ≡ b
bit_ext a b same = same_from_bits a b (λ k. sym (bit_value k a) ∙ ap value (same k) ∙ bit_value k b)

pub bit_above : (k n : ℕ) → n < 2 ^ k → (i : ℕ) → k ≤ i → bit i n ≡ false
bit_above k n h i l = bit_div i n ∙ ap (λ (x : ℕ). eqb (x % 2) 1) (div-eq_of_lt (lt_of_lt_of_le h (pow_mono l)))

-- one digit more doubles the bound
pub double_lt : (k n : ℕ) → n / 2 < 2 ^ k → n < 2 ^ suc k
double_lt k n h = subst (λ (x : ℕ). n < x) (sym (pow-suc 2 k)) ((div-lt_iff_lt-mul (zero-lt-suc 1)).0 h)

pub half_lt : (k n : ℕ) → n < 2 ^ suc k → n / 2 < 2 ^ k
half_lt k n h = (div-lt_iff_lt-mul (zero-lt-suc 1)).1 (subst (λ (x : ℕ). n < x) (pow-suc 2 k) h)

pub lt_of_bits : (k n : ℕ) → ((i : ℕ) → k ≤ i → bit i n ≡ false) → n < 2 ^ k
lt_of_bits zero n none = suc-le-suc (le_of_eq (bit_ext n 0 (λ i. none i zero-le ∙ sym (bit_zero i))))
lt_of_bits (suc k) n none = double_lt k n (lt_of_bits k (n / 2) (λ i l. sym (bit_step i n) ∙ none (suc i) (suc-le-suc l)))

pub pos_of_lt_pow : (k n : ℕ) → 0 < n → n < 2 ^ k → 0 < k
pos_of_lt_pow zero n p h = omega arith
pos_of_lt_pow (suc k) n p h = zero-lt-suc k

-- where a number is below 2 ^ l, its double and one more are below 2 ^ (l + 1)
not_double : (l t m : ℕ) → m < 2 ^ l → 2 ^ t ≤ 2 * m + 1 → 2 ^ suc l ≤ 2 ^ t → ⊥
not_double l t m b d g = let twice : 2 ^ suc l ≡ 2 ^ l * 2 = pow-suc 2 l in omega arith

-- ---- the length

length_above : (n m : ℕ) → n / 2 ≡ suc m → bit_length n ≡ suc (bit_length (n / 2))
unfolding bit_length
length_above n m e = ap length (digits_above n m e) ∙ ap (λ (x : ℕ). suc (length (binary_digits x))) (sym e)

length_last : (n : ℕ) → n / 2 ≡ zero → bit_length n ≡ 1
unfolding bit_length
length_last n e = ap length (digits_last n e)

pub length_pos : (n : ℕ) → 0 < bit_length n
unfolding bit_length binary_digits
length_pos n = zero-lt-suc (length (digits_in n (n / 2)))

pub length_bound : (n : ℕ) → n < 2 ^ bit_length n
length_bound n = bin_ind (λ (m : ℕ). m < 2 ^ bit_length m) (pow_pos (bit_length 0)) (λ m ih. go m (m / 2) refl ih) n
  where
    go : (m h : ℕ) → m / 2 ≡ h → m / 2 < 2 ^ bit_length (m / 2) → m < 2 ^ bit_length m
    go m zero e ih = rw (length_last m e) (omega arith)
    go m (suc h) e ih = rw (length_above m h e) (double_lt (bit_length (m / 2)) m ih)

pub length_least : (k n : ℕ) → 0 < k → n < 2 ^ k → bit_length n ≤ k
length_least zero n p h = absurd (not-suc-le-zero p)
length_least (suc k) n p h = go (n / 2) refl (length_least k (n / 2)) (half_lt k n h)
  where
    go : (m : ℕ) → n / 2 ≡ m → (0 < k → n / 2 < 2 ^ k → bit_length (n / 2) ≤ k) → n / 2 < 2 ^ k → bit_length n ≤ suc k
    go zero e ih l = rw (length_last n e) p
    go (suc m) e ih l = rw (length_above n m e) (suc-le-suc (ih (pos_of_lt_pow k (n / 2) (omega arith) l) l))

pub bit_below_length : (i n : ℕ) → bit i n ≡ true → i < bit_length n
bit_below_length i n e = lt_of_not-le (λ l. false≢true (sym (bit_above (bit_length n) n (length_bound n) i l) ∙ e))

-- ---- the length rule: what the leading zeros leave of a width is the least l with m < 2 ^ l

pub zeros_enough : (w m : ℕ) → m < 2 ^ w → m < 2 ^ (w - count_leading_zeros w m)
zeros_enough w m h = let t = leading_length w m h in let left : w - count_leading_zeros w m ≡ t.0 = omega arith in rw left t.2

pub zeros_least : (w m l : ℕ) → m < 2 ^ w → m < 2 ^ l → w - count_leading_zeros w m ≤ l
zeros_least w m l h b =
    let t = leading_length w m h in
    let short : t.0 ≤ l = le_of_suc-le-suc (lt_of_not-le (λ (g : suc l ≤ t.0). not_double l t.0 m b t.3 (pow_mono g))) in
    omega arith

pub length_rule : LengthRule
length_rule w n p h =
    let left = w - count_leading_zeros w n in
    le_antisymm
    (length_least (max 1 left) n (le-max_left 1 left) (lt_of_lt_of_le (zeros_enough w n h) (pow_mono (le-max_right 1 left))))
    (max-le (length_pos n) (zeros_least w n (bit_length n) h (length_bound n)))

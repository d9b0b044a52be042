-- Masks of stations, bit by bit: what both have, what either has, what one lacks of the other, and the lowest in one. Assumes nothing.
use Prim.Native.Nat.{ℕ, zero, suc, ◌+◌, ◌*◌, ◌/◌, ◌%◌, ◌^◌, ◌<◌, min, max}
use mathlib.Core.Path.{◌≡◌, refl, sym, ◌∙◌, ap, ap₂}
use mathlib.Core.Logic.{◌⊎◌, inl, inr}
use mathlib.Core.Bool.{Bool, true, false, not, ◌&&◌, ◌||◌}
use native.Mathlib.Omega.{arith}
use native.Mathlib.Nat.{mod-lt}
use lib.Bits.{bit_and, bit_or, bit_xor, differ, and_step, or_step, xor_step}
use lib.Count.{count_trailing_zeros, under}
use lib.Dec.{eqb, ltb}
use borrow.Author.Tests.{eqb-true, eqb-false, ltb-true, ltb-false}
use Rattle.basics.proofs.Bools.{by_bool, no_clash}
use Rattle.bits.specs.Digits.{bit}
use Rattle.bits.specs.Words.{mask_bits, member}
use Rattle.bits.proofs.Digits.{bit_low, bit_step, bit_above, half_lt}
use Rattle.bits.proofs.Masks.{member_none}
use Rattle.std.specs.Prelude.{Some}
use Rattle.close.specs.Masks.{Lowest}

-- ---- an operation digit by digit

halved : (n q m : ℕ) → n ≡ q * 2 + m → m < 2 → (n / 2 ≡ q) × (n % 2 ≡ m)
halved n q m e l = (omega arith, omega arith)

digit : (n : ℕ) → (n % 2 ≡ 0) ⊎ (n % 2 ≡ 1)
digit n = by_bool (eqb (n % 2) 0) (λ e. inl (eqb-true _ 0 e)) (λ e. inr (one (n % 2) (mod-lt n (omega arith)) (eqb-false _ 0 e)))
  where
    one : (x : ℕ) → x < 2 → (x ≡ 0 → ⊥) → x ≡ 1
    one zero l d = absurd (d refl)
    one (suc zero) l d = refl
    one (suc (suc x)) l d = absurd (omega arith)

module _ (op : ℕ → ℕ → ℕ) (on : ℕ → ℕ → ℕ) (f : Bool → Bool → Bool)
    (step : (a b : ℕ) → op a b ≡ op (a / 2) (b / 2) * 2 + on (a % 2) (b % 2))
    (few : (x y : ℕ) → (x ≡ 0) ⊎ (x ≡ 1) → (y ≡ 0) ⊎ (y ≡ 1) → (on x y < 2) × (eqb (on x y) 1 ≡ f (eqb x 1) (eqb y 1))) where
  bitwise : (k a b : ℕ) → bit k (op a b) ≡ f (bit k a) (bit k b)
  bitwise zero a b =
      let w = few (a % 2) (b % 2) (digit a) (digit b) in
      let h = halved (op a b) _ _ (step a b) w.0 in
      bit_low (op a b) ∙ ap (λ (x : ℕ). eqb x 1) h.1 ∙ w.1 ∙ ap₂ f (sym (bit_low a)) (sym (bit_low b))
  bitwise (suc k) a b =
      let w = few (a % 2) (b % 2) (digit a) (digit b) in
      let h = halved (op a b) _ _ (step a b) w.0 in
      bit_step k (op a b) ∙ ap (bit k) h.0 ∙ bitwise k (a / 2) (b / 2) ∙ ap₂ f (sym (bit_step k a)) (sym (bit_step k b))

both_digits : (x y : ℕ) → (x ≡ 0) ⊎ (x ≡ 1) → (y ≡ 0) ⊎ (y ≡ 1) → (min x y < 2) × (eqb (min x y) 1 ≡ (eqb x 1 && eqb y 1))
both_digits x y (inl p) (inl q) = rw (p, q) (omega arith, refl)
both_digits x y (inl p) (inr q) = rw (p, q) (omega arith, refl)
both_digits x y (inr p) (inl q) = rw (p, q) (omega arith, refl)
both_digits x y (inr p) (inr q) = rw (p, q) (omega arith, refl)

either_digits : (x y : ℕ) → (x ≡ 0) ⊎ (x ≡ 1) → (y ≡ 0) ⊎ (y ≡ 1) → (max x y < 2) × (eqb (max x y) 1 ≡ (eqb x 1 || eqb y 1))
either_digits x y (inl p) (inl q) = rw (p, q) (omega arith, refl)
either_digits x y (inl p) (inr q) = rw (p, q) (omega arith, refl)
either_digits x y (inr p) (inl q) = rw (p, q) (omega arith, refl)
either_digits x y (inr p) (inr q) = rw (p, q) (omega arith, refl)

abbrev one_of : Bool → Bool → Bool
one_of true y = not y
one_of false y = y

one_digits : (x y : ℕ) → (x ≡ 0) ⊎ (x ≡ 1) → (y ≡ 0) ⊎ (y ≡ 1) → (differ x y < 2) × (eqb (differ x y) 1 ≡ one_of (eqb x 1) (eqb y 1))
one_digits x y (inl p) (inl q) = rw (p, q) (omega arith, refl)
one_digits x y (inl p) (inr q) = rw (p, q) (omega arith, refl)
one_digits x y (inr p) (inl q) = rw (p, q) (omega arith, refl)
one_digits x y (inr p) (inr q) = rw (p, q) (omega arith, refl)

pub both : (a b t : ℕ) → member t (bit_and a b) ≡ (member t a && member t b)
unfolding member
both a b t = bitwise bit_and min ◌&&◌ and_step both_digits t a b

pub either : (a b t : ℕ) → member t (bit_or a b) ≡ (member t a || member t b)
unfolding member
either a b t = bitwise bit_or max ◌||◌ or_step either_digits t a b

-- those in a that are not in b
pub missing : (a b t : ℕ) → member t (bit_xor a (bit_and a b)) ≡ (member t a && not (member t b))
unfolding member
missing a b t = bitwise bit_xor differ one_of xor_step one_digits t a (bit_and a b) ∙ ap (one_of (bit t a)) (both a b t) ∙ without (bit t a) (bit t b)
  where
    without : (x y : Bool) → one_of x (x && y) ≡ (x && not y)
    without true y = refl
    without false y = refl

-- ---- the lowest

under_digit : (d t : ℕ) → (d ≡ 0) ⊎ (d ≡ 1) → ((d ≡ 0) × (under d t ≡ suc t)) ⊎ ((d ≡ 1) × (under d t ≡ 0))
under_digit d t (inl e) = inl (e, rw e)
under_digit d t (inr e) = inr (e, rw e)

-- below the trailing zeros every digit is 0, and a number below 2 ^ k that is not 0 has its lowest 1 there
module _ (n z : ℕ) where
  abbrev Under : Type 0
  Under = ((n % 2 ≡ 0) × (under (n % 2) z ≡ suc z)) ⊎ ((n % 2 ≡ 1) × (under (n % 2) z ≡ 0))

  zeros_by : Under → ((t : ℕ) → t < z → bit t (n / 2) ≡ false) → (t : ℕ) → t < under (n % 2) z → bit t n ≡ false
  zeros_by (inl e) f zero l = bit_low n ∙ ap (λ (x : ℕ). eqb x 1) e.0
  zeros_by (inl e) f (suc t) l = bit_step t n ∙ f t (omega (arith, l, e.1))
  zeros_by (inr e) f t l = absurd (omega (arith, l, e.1))

  one_by : Under → ((n / 2 ≡ 0 → ⊥) → bit z (n / 2) ≡ true) → (n ≡ 0 → ⊥) → bit (under (n % 2) z) n ≡ true
  one_by (inl e) f d = ap (λ (i : ℕ). bit i n) e.1 ∙ bit_step z n ∙ f (λ q. d (omega (arith, q, e.0)))
  one_by (inr e) f d = ap (λ (i : ℕ). bit i n) e.1 ∙ bit_low n ∙ ap (λ (x : ℕ). eqb x 1) e.0

low_zeros : (k n t : ℕ) → t < count_trailing_zeros k n → bit t n ≡ false
unfolding count_trailing_zeros
low_zeros zero n t l = absurd (omega arith)
low_zeros (suc k) n t l = zeros_by n _ (under_digit (n % 2) (count_trailing_zeros k (n / 2)) (digit n)) (low_zeros k (n / 2)) t l

lowest_one : (k n : ℕ) → n < 2 ^ k → (n ≡ 0 → ⊥) → bit (count_trailing_zeros k n) n ≡ true
unfolding count_trailing_zeros
lowest_one zero n l d = absurd (d (omega arith))
lowest_one (suc k) n l d = one_by n _ (under_digit (n % 2) (count_trailing_zeros k (n / 2)) (digit n)) (lowest_one k (n / 2) (half_lt k n l)) d

module _ (mask : ℕ) (fits : mask < 2 ^ mask_bits) (some : mask ≡ 0 → ⊥) where
  -- a mask that is not empty has its lowest inside its room
  pub lowest_inside : count_trailing_zeros mask_bits mask < mask_bits
  lowest_inside =
      by_bool (ltb (count_trailing_zeros mask_bits mask) mask_bits) (λ e. ltb-true _ _ e)
      (λ e. no_clash _ (lowest_one mask_bits mask fits some) (bit_above mask_bits mask fits _ (ltb-false _ _ e)))

  pub lowest_of : Lowest mask (Some (count_trailing_zeros mask_bits mask))
  unfolding member
  lowest_of = (lowest_one mask_bits mask fits some, low_zeros mask_bits mask)

-- nobody is in an empty mask
pub none_in : {mask : ℕ} → mask ≡ 0 → (t : ℕ) → member t mask ≡ false
none_in e t = ap (member t) e ∙ member_none t

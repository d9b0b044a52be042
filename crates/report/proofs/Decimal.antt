-- The digits of a number, and how many it has: x / 10 has all its digits but the last, which is x % 10. Assumes nothing.
use Prim.Native.Nat.{ℕ, zero, suc, ◌+◌, ◌-◌, ◌*◌, ◌/◌, ◌%◌, ◌^◌, ◌≤◌, ◌<◌}
use mathlib.Core.Path.{◌≡◌, refl, ap}
use mathlib.Core.Bool.{Bool, true, false, cond}
use mathlib.Core.List.{List, [], ◌∷◌, ◌++◌}
use native.Mathlib.Nat.{pow-suc}
use native.Mathlib.Omega.{arith}
use borrow.Author.Tests.{lt-ltb, le-ltb, ltb-true, ltb-false}
use lib.Dec.{ltb}
use lib.ListN.{length, get_or, length-append, get_or-append}
use lib.Seq.{get_or-append_seam}
use Rattle.report.specs.Decimal.{digit, digits, decimal, read_on, DecimalOf}

-- more room for digits changes nothing
enough : (f g x : ℕ) → x < f → x < g → digits f x ≡ digits g x
unfolding digits
enough zero g x h k = absurd (omega arith)
enough (suc f) zero x h k = absurd (omega arith)
enough (suc f) (suc g) x h k = go (ltb x 10) refl (λ p. enough f g (x / 10) (omega arith) (omega arith))
  where
    go : (b : Bool) → ltb x 10 ≡ b → (10 ≤ x → digits f (x / 10) ≡ digits g (x / 10))
        → cond b (digit x ∷ []) (digits f (x / 10) ++ (digit (x % 10) ∷ []))
        ≡ cond b (digit x ∷ []) (digits g (x / 10) ++ (digit (x % 10) ∷ []))
    go true e rest = refl
    go false e rest = rw (rest (ltb-false x 10 e))

pub decimal_small : (x : ℕ) → x < 10 → decimal x ≡ digit x ∷ []
unfolding decimal digits
decimal_small x h = rw (lt-ltb x 10 h)

pub decimal_more : (x : ℕ) → 10 ≤ x → decimal x ≡ decimal (x / 10) ++ (digit (x % 10) ∷ [])
unfolding decimal digits
decimal_more x h =
    let e = enough x (suc (x / 10)) (x / 10) (omega arith) (omega arith) in
    rw (le-ltb x 10 h) (ap (λ (l : List ℕ). l ++ (digit (x % 10) ∷ [])) e)

-- a number below 10 to the n has at most n digits, for n from 1 on
pub few_digits : (n x : ℕ) → x < 10 ^ suc n → length (decimal x) ≤ suc n
few_digits zero x h = rw (decimal_small x (omega (arith, pow-suc 10 0))) (omega arith)
few_digits (suc n) x h = go (ltb x 10) refl (few_digits n (x / 10) (omega (arith, pow-suc 10 (suc n))))
  where
    go : (b : Bool) → ltb x 10 ≡ b → length (decimal (x / 10)) ≤ suc n → length (decimal x) ≤ suc (suc n)
    go true e rest = rw (decimal_small x (ltb-true x 10 e)) (omega arith)
    go false e rest = rw (decimal_more x (ltb-false x 10 e), length-append) (omega arith)

-- ---- they are its digits

read_on_last : (n : ℕ) (bs : List ℕ) (d : ℕ) → read_on n (bs ++ (digit d ∷ [])) ≡ read_on n bs * 10 + d
read_on_last n [] d = omega arith
read_on_last n (b ∷ bs) d = read_on_last (n * 10 + (b - digit 0)) bs d

one_digit : (x : ℕ) → x < 10 → DecimalOf x (digit x ∷ [])
one_digit x h = record { digit_each = each; value = omega arith; no_leading_zero = λ p. omega arith; zero = λ e. ap (λ (d : ℕ). digit d ∷ []) e }
  where
    each : (i : ℕ) → i < 1 → (digit 0 ≤ get_or (digit x ∷ []) i 0) × (get_or (digit x ∷ []) i 0 ≤ digit 9)
    each zero p = (omega arith, omega arith)
    each (suc i) p = absurd (omega arith)

has_digit : (x : ℕ) → 0 < length (decimal x)
has_digit x = go (ltb x 10) refl
  where
    go : (b : Bool) → ltb x 10 ≡ b → 0 < length (decimal x)
    go true e = rw (decimal_small x (ltb-true x 10 e)) (omega arith)
    go false e = rw (decimal_more x (ltb-false x 10 e), length-append) (omega arith)

one_more : (x : ℕ) → 10 ≤ x → DecimalOf (x / 10) (decimal (x / 10)) → DecimalOf x (decimal (x / 10) ++ (digit (x % 10) ∷ []))
one_more x h r =
    record {
      digit_each = λ i p. each i p (ltb i (length front)) refl;
      value = rw (read_on_last 0 front (x % 10), r.value) (omega arith);
      no_leading_zero = λ p. rw (get_or-append front (digit (x % 10) ∷ []) 0 0 (has_digit (x / 10))) (r.no_leading_zero (omega arith));
      zero = λ e. absurd (omega arith);
    }
  where
    front : List ℕ
    front = decimal (x / 10)

    each : (i : ℕ) → i < length (front ++ (digit (x % 10) ∷ [])) → (b : Bool) → ltb i (length front) ≡ b
        → (digit 0 ≤ get_or (front ++ (digit (x % 10) ∷ [])) i 0) × (get_or (front ++ (digit (x % 10) ∷ [])) i 0 ≤ digit 9)
    each i p true e =
        let h = ltb-true i (length front) e in
        rw (get_or-append front (digit (x % 10) ∷ []) 0 i h) (r.digit_each i h)
    each i p false e =
        let last : i ≡ length front = omega (arith, ltb-false i (length front) e, rw length-append at p) in
        rw (last, get_or-append_seam front (digit (x % 10)) [] 0) (omega arith, omega arith)

below : (n x : ℕ) → x < n → DecimalOf x (decimal x)
below zero x h = absurd (omega arith)
below (suc n) x h = go (ltb x 10) refl (λ p. below n (x / 10) (omega arith))
  where
    go : (b : Bool) → ltb x 10 ≡ b → (10 ≤ x → DecimalOf (x / 10) (decimal (x / 10))) → DecimalOf x (decimal x)
    go true e rest = rw (decimal_small x (ltb-true x 10 e)) (one_digit x (ltb-true x 10 e))
    go false e rest = rw (decimal_more x (ltb-false x 10 e)) (one_more x (ltb-false x 10 e) (rest (ltb-false x 10 e)))

pub decimal_of : (x : ℕ) → DecimalOf x (decimal x)
decimal_of x = below (suc x) x (omega arith)

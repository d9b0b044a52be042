-- One bit changed, and low bits compared. A bit is changed digit by digit: bit 0 is the lowest digit, and bit k + 1 of n is bit k of its half
-- (`with_low`, `with_step`). Low bits agree exactly where the remainders by a power of 2 do, since a number is its bits.
-- Assumes nothing.
use Prim.Native.Nat.{ℕ, zero, suc, ◌+◌, ◌*◌, ◌/◌, ◌%◌, ◌^◌, ◌≤◌, ◌<◌, zero-le, suc-le-suc}
use mathlib.Core.Path.{◌≡◌, refl, sym, ap, ◌∙◌, subst}
use mathlib.Core.Logic.{⊎_elim}
use mathlib.Core.Bool.{Bool, true, false, beq, and-eq-true_iff}
use native.Mathlib.Nat.{le_refl, le_step, le-suc, le_of_suc-le-suc, eq-or-lt_of_le, lt_of_lt_of_le, ne_of_gt, mod-lt, mul-one, mul_assoc, pow-suc, div-add-mod'}
use native.Mathlib.Omega.{arith}
use lib.Arith.{le-zero, digits_div, digits_mod}
use lib.Dec.{eqb, ltb}
use lib.Pow.{pow_pos}
use borrow.Author.Tests.{eqb-true, eq-eqb, lt-ltb, le-ltb, ltb-true, ltb-false}
use Rattle.basics.proofs.Bools.{both_ways, beq_same, beq_true}
use Rattle.std.proofs.lemmas.Nat.Bits.{bit_at_cat_low}
use Rattle.bits.specs.Digits.{value, bit}
use Rattle.bits.specs.Words.{with_bit, low_agree, word_with_bit, BitLaws, WordLaws}
use Rattle.bits.proofs.Digits.{bit_div, bit_low, bit_step, bit_ext, bit_above, lt_of_bits, halves}

-- ---- a number made of a half and a lowest digit

pub value_lt : (b : Bool) → value b < 2
value_lt true = le_refl 2
value_lt false = le-suc 1

lowest_of_value : (b : Bool) → eqb (value b) 1 ≡ b
lowest_of_value true = refl
lowest_of_value false = refl

pub low_made : (q : ℕ) (b : Bool) → bit 0 (q * 2 + value b) ≡ b
low_made q b = bit_low (q * 2 + value b) ∙ ap (λ (x : ℕ). eqb x 1) (digits_mod q (value_lt b)) ∙ lowest_of_value b

pub high_made : (i q : ℕ) (b : Bool) → bit (suc i) (q * 2 + value b) ≡ bit i q
high_made i q b = bit_step i (q * 2 + value b) ∙ ap (bit i) (digits_div q (value_lt b))

-- ---- one bit changed

shifted : (v k : ℕ) → v * 2 ^ suc k ≡ v * 2 ^ k * 2
shifted v k = ap (λ (x : ℕ). v * x) (pow-suc 2 k) ∙ sym (mul_assoc v (2 ^ k) 2)

-- a set bit is part of the number
pub bit_le : (k n : ℕ) → value (bit k n) * 2 ^ k ≤ n
bit_le zero n = let whole = halves n in rw mul-one (omega arith)
bit_le (suc k) n = rw (bit_step k n, shifted (value (bit k (n / 2))) k) (omega (arith, bit_le k (n / 2)))

with_low : (b : Bool) (n : ℕ) → with_bit 0 b n ≡ n / 2 * 2 + value b
unfolding with_bit
with_low b n = let whole = halves n in rw (mul-one (value (bit 0 n)), mul-one (value b)) (omega arith)

with_step : (k : ℕ) (b : Bool) (n : ℕ) → with_bit (suc k) b n ≡ with_bit k b (n / 2) * 2 + value (bit 0 n)
unfolding with_bit
with_step k b n =
    rw (bit_step k n, shifted (value (bit k (n / 2))) k, shifted (value b) k) (omega (arith, halves n, bit_le k (n / 2)))

pub bit_same : (k : ℕ) (b : Bool) (n : ℕ) → bit k (with_bit k b n) ≡ b
bit_same zero b n = ap (bit 0) (with_low b n) ∙ low_made (n / 2) b
bit_same (suc k) b n =
    ap (bit (suc k)) (with_step k b n) ∙ high_made k (with_bit k b (n / 2)) (bit 0 n) ∙ bit_same k b (n / 2)

pub bit_other : (k i : ℕ) (b : Bool) (n : ℕ) → (i ≡ k → ⊥) → bit i (with_bit k b n) ≡ bit i n
bit_other zero zero b n d = absurd (d refl)
bit_other zero (suc i) b n d = ap (bit (suc i)) (with_low b n) ∙ high_made i (n / 2) b ∙ sym (bit_step i n)
bit_other (suc k) zero b n d = ap (bit 0) (with_step k b n) ∙ low_made (with_bit k b (n / 2)) (bit 0 n)
bit_other (suc k) (suc i) b n d =
    ap (bit (suc i)) (with_step k b n) ∙ high_made i (with_bit k b (n / 2)) (bit 0 n)
    ∙ bit_other k i b (n / 2) (λ e. d (ap suc e)) ∙ sym (bit_step i n)

-- ---- words of a width

pub word_inside : (w k : ℕ) (b : Bool) (n : ℕ) → k < w → word_with_bit w k b n ≡ with_bit k b n
unfolding word_with_bit
word_inside w k b n h = rw (lt-ltb k w h)

pub word_outside : (w k : ℕ) (b : Bool) (n : ℕ) → w ≤ k → word_with_bit w k b n ≡ n
unfolding word_with_bit
word_outside w k b n h = rw (le-ltb k w h)

pub with_lt : (w k : ℕ) (b : Bool) (n : ℕ) → k < w → n < 2 ^ w → with_bit k b n < 2 ^ w
with_lt w k b n h l =
    lt_of_bits w (with_bit k b n) (λ i g. bit_other k i b n (ne_of_gt (lt_of_lt_of_le h g)) ∙ bit_above w n l i g)

-- what holds of both, changed and as it was, holds of the word
word_either : (P : ℕ → Type 0) (w k : ℕ) (b : Bool) (n : ℕ) → (k < w → P (with_bit k b n)) → P n → P (word_with_bit w k b n)
word_either P w k b n f p = go (ltb k w) refl
  where
    go : (t : Bool) → ltb k w ≡ t → P (word_with_bit w k b n)
    go true e = let h = ltb-true k w e in subst P (sym (word_inside w k b n h)) (f h)
    go false e = subst P (sym (word_outside w k b n (ltb-false k w e))) p

pub word_lt : (w k : ℕ) (b : Bool) (n : ℕ) → n < 2 ^ w → word_with_bit w k b n < 2 ^ w
word_lt w k b n l = word_either (λ (x : ℕ). x < 2 ^ w) w k b n (λ h. with_lt w k b n h l) l

pub word_same : (w k : ℕ) (b : Bool) (n : ℕ) → k < w → bit k (word_with_bit w k b n) ≡ b
word_same w k b n h = ap (bit k) (word_inside w k b n h) ∙ bit_same k b n

pub word_other : (w k i : ℕ) (b : Bool) (n : ℕ) → (i ≡ k → ⊥) → bit i (word_with_bit w k b n) ≡ bit i n
word_other w k i b n d = word_either (λ (x : ℕ). bit i x ≡ bit i n) w k b n (λ h. bit_other k i b n d) refl

-- ---- low bits compared

pub agree_bits : (k a b : ℕ) → low_agree k a b ≡ true → (i : ℕ) → i ≤ k → bit i a ≡ bit i b
unfolding low_agree
agree_bits zero a b e i l = rw (le-zero l) (beq_true (bit 0 a) (bit 0 b) e)
agree_bits (suc k) a b e i l =
    let both = (and-eq-true_iff (beq (bit (suc k) a) (bit (suc k) b)) (low_agree k a b)).0 e in
    ⊎_elim (λ q. rw q (beq_true (bit (suc k) a) (bit (suc k) b) both.0))
    (λ q. agree_bits k a b both.1 i (le_of_suc-le-suc q)) (eq-or-lt_of_le l)

pub bits_agree : (k a b : ℕ) → ((i : ℕ) → i ≤ k → bit i a ≡ bit i b) → low_agree k a b ≡ true
unfolding low_agree
bits_agree zero a b same = rw (same 0 zero-le) (beq_same (bit 0 b))
bits_agree (suc k) a b same =
    (and-eq-true_iff (beq (bit (suc k) a) (bit (suc k) b)) (low_agree k a b)).1
    (rw (same (suc k) (le_refl (suc k))) (beq_same (bit (suc k) b)), bits_agree k a b (λ i l. same i (le_step l)))

-- the k low bits are those of the remainder by 2 ^ k
pub bit_mod : (k i n : ℕ) → i < k → bit i (n % 2 ^ k) ≡ bit i n
bit_mod k i n l =
    let same = bit_at_cat_low (n / 2 ^ k) k (n % 2 ^ k) i l in
    bit_div i (n % 2 ^ k) ∙ ap (λ (x : ℕ). eqb x 1) (sym (rw (div-add-mod' n (2 ^ k)) at same)) ∙ sym (bit_div i n)

same_mod : (k a b : ℕ) → ((i : ℕ) → i < k → bit i a ≡ bit i b) → a % 2 ^ k ≡ b % 2 ^ k
same_mod k a b same = bit_ext (a % 2 ^ k) (b % 2 ^ k) (λ i. go i (ltb i k) refl)
  where
    go : (i : ℕ) (t : Bool) → ltb i k ≡ t → bit i (a % 2 ^ k) ≡ bit i (b % 2 ^ k)
    go i true e = let l = ltb-true i k e in bit_mod k i a l ∙ same i l ∙ sym (bit_mod k i b l)
    go i false e =
        let g = ltb-false i k e in
        bit_above k (a % 2 ^ k) (mod-lt a (pow_pos k)) i g ∙ sym (bit_above k (b % 2 ^ k) (mod-lt b (pow_pos k)) i g)

pub low_agree_mod : (k a b : ℕ) → low_agree k a b ≡ eqb (a % 2 ^ suc k) (b % 2 ^ suc k)
low_agree_mod k a b =
    let m = 2 ^ suc k in
    both_ways (low_agree k a b) (eqb (a % m) (b % m))
    (λ e. eq-eqb (a % m) (b % m) (same_mod (suc k) a b (λ i l. agree_bits k a b e i (le_of_suc-le-suc l))))
    (λ e.
    bits_agree k a b (λ i l.
    let h = suc-le-suc l in
    sym (bit_mod (suc k) i a h) ∙ ap (bit i) (eqb-true (a % m) (b % m) e) ∙ bit_mod (suc k) i b h))

pub bit_laws : BitLaws
bit_laws = record {
  lowest_bit = bit_low;
  higher_bits = bit_step;
  written = bit_same;
  unchanged = bit_other;
  determined = bit_ext;
  compared = λ k a b. (agree_bits k a b, bits_agree k a b);
}

pub word_laws : WordLaws
word_laws = record { inside = word_inside; outside = word_outside }

-- What code on a machine word of w bits computes is what the definitions say: below the width a shift of one bit loses nothing, so the shifted bits
-- that the code takes away and adds are those of the definition; and a shift of a word loses what is shifted out. Assumes nothing.
use Prim.Native.Nat.{ℕ, suc, ◌+◌, ◌-◌, ◌*◌, ◌/◌, ◌%◌, ◌^◌, ◌≤◌, ◌<◌}
use mathlib.Core.Path.{◌≡◌, sym, ap, ap₂, ◌∙◌}
use mathlib.Core.Bool.{Bool, true, false}
use native.Mathlib.Nat.{le_refl, le_step, lt_of_lt_of_le, mod-eq_of_lt, mul-mod_left, add-zero, zero-mul, zero-div}
use native.Mathlib.Omega.{arith}
use lib.Dec.{eqb}
use lib.Pow.{pow_mono, shl_exact, shl-shr, shr-shr, mod-pow-add}
use borrow.Author.Tests.{eqb-true, eq-eqb}
use mir.Val.{bool_byte}
use Rattle.basics.proofs.Bools.{both_ways}
use Rattle.bits.specs.Digits.{value, bit}
use Rattle.bits.specs.Words.{with_bit, low_agree, word_with_bit}
use Rattle.bits.proofs.Digits.{bit_div}
use Rattle.bits.proofs.Words.{value_lt, bit_le, bit_mod, word_inside, low_agree_mod}

-- ---- a bit changed

pub shift_exact : (w k a : ℕ) → a < 2 → k < w → a * 2 ^ k % 2 ^ w ≡ a * 2 ^ k
shift_exact w k a l h = shl_exact 1 k w l (omega arith)

bool_shift : (w k : ℕ) (b : Bool) → k < w → bool_byte b * 2 ^ k % 2 ^ w ≡ value b * 2 ^ k
bool_shift w k true h = shift_exact w k 1 (value_lt true) h
bool_shift w k false h = shift_exact w k 0 (value_lt false) h

pub word_taken : (w k n : ℕ) (old : Bool) → k < w → old ≡ bit k n → bool_byte old * 2 ^ k % 2 ^ w ≤ n
word_taken w k n old h e = rw (bool_shift w k old h, e) (bit_le k n)

pub word_made : (w k n : ℕ) (old new : Bool) → k < w → old ≡ bit k n
    → n - bool_byte old * 2 ^ k % 2 ^ w + bool_byte new * 2 ^ k % 2 ^ w ≡ word_with_bit w k new n
unfolding with_bit
word_made w k n old new h e = rw (bool_shift w k old h, bool_shift w k new h, e) (sym (word_inside w k new n h))

-- ---- a word of w bits shifted so that its bit k is at the top: the bits above are out, and those below stay in order

on_top : (w k x : ℕ) → k < w → x * 2 ^ (w - 1 - k) % 2 ^ w ≡ x % 2 ^ suc k * 2 ^ (w - 1 - k)
on_top w k x h =
    let s = w - 1 - k in
    let whole : w ≡ suc k + s = omega arith in
    ap (λ (v : ℕ). x * 2 ^ s % 2 ^ v) whole
    ∙ mod-pow-add (x * 2 ^ s) (suc k) s
    ∙ ap₂ (λ (p q : ℕ). p % 2 ^ suc k * 2 ^ s + q) (shl-shr x s) (mul-mod_left x (2 ^ s))
    ∙ add-zero _

shifted_bit : (s i n : ℕ) → bit (s + i) (n * 2 ^ s) ≡ bit i n
shifted_bit s i n =
    bit_div (s + i) (n * 2 ^ s)
    ∙ ap (λ (x : ℕ). eqb (x % 2) 1) (sym (shr-shr (n * 2 ^ s) s i) ∙ ap (λ (x : ℕ). x / 2 ^ i) (shl-shr n s))
    ∙ sym (bit_div i n)

pub bit_on_top : (w k x : ℕ) → k < w → bit (w - 1) (x * 2 ^ (w - 1 - k) % 2 ^ w) ≡ bit k x
bit_on_top w k x h =
    let s = w - 1 - k in
    let top : w - 1 ≡ s + k = omega arith in
    ap (bit (w - 1)) (on_top w k x h) ∙ ap (λ (i : ℕ). bit i (x % 2 ^ suc k * 2 ^ s)) top
    ∙ shifted_bit s k (x % 2 ^ suc k) ∙ bit_mod (suc k) k x (le_refl (suc k))

pub zero_on_top : (w k x : ℕ) → k < w → eqb (x * 2 ^ (w - 1 - k) % 2 ^ w) 0 ≡ eqb (x % 2 ^ suc k) 0
zero_on_top w k x h = ap (λ (y : ℕ). eqb y 0) (on_top w k x h) ∙ go (x % 2 ^ suc k)
  where
    s : ℕ
    s = w - 1 - k

    go : (y : ℕ) → eqb (y * 2 ^ s) 0 ≡ eqb y 0
    go y =
        both_ways (eqb (y * 2 ^ s) 0) (eqb y 0)
        (λ e. eq-eqb y 0 (sym (shl-shr y s) ∙ ap (λ (x : ℕ). x / 2 ^ s) (eqb-true (y * 2 ^ s) 0 e) ∙ zero-div (2 ^ s)))
        (λ e. eq-eqb (y * 2 ^ s) 0 (ap (λ (x : ℕ). x * 2 ^ s) (eqb-true y 0 e) ∙ zero-mul (2 ^ s)))

-- ---- whole words compared, where the word has no more bits

pub agree_whole : (w k a b : ℕ) → w ≤ k → a < 2 ^ w → b < 2 ^ w → eqb a b ≡ low_agree k a b
agree_whole w k a b h l m =
    let g = pow_mono (le_step h) in
    sym (low_agree_mod k a b ∙ ap₂ eqb (mod-eq_of_lt (lt_of_lt_of_le l g)) (mod-eq_of_lt (lt_of_lt_of_le m g)))

-- One bit changed, and the low bits of two numbers compared (paper 000, section 3: writing j[k], and j[k..0]);
-- the same for words of a fixed width, and masks of stations. Assumes nothing.
use Rattle.std.specs.Prelude.{ℕ, zero, suc, ◌+◌, ◌-◌, ◌*◌, ◌/◌, ◌^◌, ◌≤◌, ◌<◌, ◌≡◌, ◌↔◌, Bool, true, false, ◌&&◌, cond, ltb}
use Rattle.std.specs.Bool.{beq}
use Rattle.std.specs.Int.Count.{ones}
use Rattle.basics.specs.Below.{count_below}
use Rattle.bits.specs.Digits.{value, lowest, bit}

-- n with bit k made b: bit k is taken out, and b put in its place; every other bit stays
unfoldable pub with_bit : ℕ → Bool → ℕ → ℕ
with_bit k b n = n - value (bit k n) * 2 ^ k + value b * 2 ^ k

-- the low k + 1 bits of a and b agree: a[k..0] = b[k..0]
unfoldable pub low_agree : ℕ → ℕ → ℕ → Bool
low_agree zero a b = beq (bit 0 a) (bit 0 b)
low_agree (suc k) a b = beq (bit (suc k) a) (bit (suc k) b) && low_agree k a b

-- how many bits a claim has: the one place that says it
abbrev pub claim_bits : ℕ
claim_bits = 32

-- how many stations a mask has room for
abbrev pub mask_bits : ℕ
mask_bits = 32

-- a word of w bits with bit k made b: a word has no bit at or past its width, and there nothing changes
unfoldable pub word_with_bit : ℕ → ℕ → Bool → ℕ → ℕ
word_with_bit w k b n = cond (ltb k w) (with_bit k b n) n

-- a mask is a set of stations: station s is in it where bit s is 1
unfoldable pub member : ℕ → ℕ → Bool
member s mask = bit s mask

-- the mask with station s in it; a station past the mask's room changes nothing
unfoldable pub insert : ℕ → ℕ → ℕ
insert s mask = word_with_bit mask_bits s true mask

-- how many stations are in the mask (document 02, A.2)
unfoldable pub size : ℕ → ℕ
size mask = count_below mask_bits (λ s. member s mask)

-- ---- what reading, writing and comparing mean (paper 000, section 3)

pub record BitLaws : Type 0 where
  -- bits are numbered from the lowest: bit 0 is the lowest digit, and the bits above it are those of the half
  pub lowest_bit : (n : ℕ) → bit 0 n ≡ lowest n
  pub higher_bits : (k n : ℕ) → bit (suc k) n ≡ bit k (n / 2)
  -- "when writing a bit b to j[k], .. the k-th bit j[k] becomes b and all other bits remain unchanged"
  pub written : (k : ℕ) (b : Bool) (n : ℕ) → bit k (with_bit k b n) ≡ b
  pub unchanged : (k i : ℕ) (b : Bool) (n : ℕ) → (i ≡ k → ⊥) → bit i (with_bit k b n) ≡ bit i n
  -- a number is its bits
  pub determined : (a b : ℕ) → ((k : ℕ) → bit k a ≡ bit k b) → a ≡ b
  -- j[k..0] = l[k..0]: each bit up to k is the same
  pub compared : (k a b : ℕ) → (low_agree k a b ≡ true) ↔ ((i : ℕ) → i ≤ k → bit i a ≡ bit i b)

-- a word keeps its width: a bit inside it is written, and past it there is none to write
pub record WordLaws : Type 0 where
  pub inside : (w k : ℕ) (b : Bool) (n : ℕ) → k < w → word_with_bit w k b n ≡ with_bit k b n
  pub outside : (w k : ℕ) (b : Bool) (n : ℕ) → w ≤ k → word_with_bit w k b n ≡ n

-- 01, "How to write each place": "A.2 adds counts of ones over voter sets", for any width w. A number of w bits has as many ones as it has bits below w that are 1.
abbrev pub OnesRule : Type 0
OnesRule = (w n : ℕ) → n < 2 ^ w → ones n ≡ count_below w (λ k. bit k n)

-- a mask is a set of the stations below 32
pub record MaskLaws : Type 0 where
  -- station s is bit s
  pub its_bit : (s mask : ℕ) → member s mask ≡ bit s mask
  pub empty : (s : ℕ) → member s 0 ≡ false
  -- only 0 is empty, whatever its width
  pub empty_only : (mask : ℕ) → ((s : ℕ) → member s mask ≡ false) → mask ≡ 0
  pub put_in : (s mask : ℕ) → s < 32 → member s (insert s mask) ≡ true
  pub others : (s t mask : ℕ) → (s ≡ t → ⊥) → member s (insert t mask) ≡ member s mask
  pub past : (s mask : ℕ) → 32 ≤ s → insert s mask ≡ mask
  -- a station put in counts once: put in again, it changes nothing
  pub size_none : size 0 ≡ 0
  pub size_more : (s mask : ℕ) → s < 32 → member s mask ≡ false → size (insert s mask) ≡ suc (size mask)
  pub put_again : (s mask : ℕ) → member s mask ≡ true → insert s mask ≡ mask

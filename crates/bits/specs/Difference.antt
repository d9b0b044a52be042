-- The first of the low k + 1 bits at which two numbers differ, in the order k, 0, 1, .., k - 1 (document 02, A.4). Bit k is the newest: of a
-- seeking station's word it was learnt last. Assumes nothing.
use Rattle.std.specs.Prelude.{ℕ, zero, suc, ◌^◌, ◌≤◌, ◌<◌, ◌≡◌, ◌↔◌, ◌⊎◌, true, cond, List, [], ◌∷◌, Option, Some, None}
use Rattle.std.specs.Bool.{beq}
use Rattle.std.specs.Int.Bits.{bit_xor}
use Rattle.std.specs.Int.Count.{count_trailing_zeros}
use Rattle.bits.specs.Digits.{bit}
use Rattle.bits.specs.Words.{low_agree}

-- from, from + 1, .., so many as count says
unfoldable pub rising : ℕ → ℕ → List ℕ
rising from zero = []
rising from (suc count) = from ∷ rising (suc from) count

-- "Compare bit k first and only then the bits below it, from bit 0 up"
unfoldable pub newest_first : ℕ → List ℕ
newest_first k = k ∷ rising 0 k

-- the first place of a list at which bits of a and b differ, or None
unfoldable pub first_among : List ℕ → ℕ → ℕ → Option ℕ
first_among [] a b = None
first_among (i ∷ places) a b = cond (beq (bit i a) (bit i b)) (first_among places a b) (Some i)

-- "The comparison answers the first bit in this order that differs, or none"
unfoldable pub first_difference : ℕ → ℕ → ℕ → Option ℕ
first_difference k a b = first_among (newest_first k) a b

-- ---- what it means

-- bit i of a is bit i of b
abbrev pub Same : ℕ → ℕ → ℕ → Type 0
Same i a b = bit i a ≡ bit i b

-- the order, of places up to k: i comes before p where p is not k, and i is k or lies below p
abbrev pub Before : ℕ → ℕ → ℕ → Type 0
Before k i p = (p ≡ k → ⊥) × ((i ≡ k) ⊎ (i < p))

-- p is one of the k + 1 places, a and b differ there, and agree at every place before it
pub record First (k a b p : ℕ) : Type 0 where
  pub inside : p ≤ k
  pub differs : Same p a b → ⊥
  pub before : (i : ℕ) → Before k i p → Same i a b

pub record DifferenceLaws : Type 0 where
  -- "answers the first bit in this order that differs"
  pub first_exactly : (k a b p : ℕ) → (first_difference k a b ≡ Some p) ↔ First k a b p
  -- "or none exactly when all k+1 agree"
  pub none_exactly : (k a b : ℕ) → (first_difference k a b ≡ None) ↔ (low_agree k a b ≡ true)
  -- Two numbers of w bits agree at every place from w on. So where k is w or more, the whole numbers are compared, from bit 0 up.
  pub past_first : (w k a b p : ℕ) → w ≤ k → a < 2 ^ w → b < 2 ^ w
      → (first_difference k a b ≡ Some p) ↔ ((Same p a b → ⊥) × ((i : ℕ) → i < p → Same i a b))
  pub past_none : (w k a b : ℕ) → w ≤ k → a < 2 ^ w → b < 2 ^ w → (first_difference k a b ≡ None) ↔ (a ≡ b)

-- ---- how the code finds it

-- For any width w that holds both, by the number that has a 1 where they differ: k, where its bit k is 1; else none, where the low bits agree; else
-- its lowest 1, which ends its trailing zeros.
abbrev pub DifferenceRule : Type 0
DifferenceRule = (w k a b : ℕ) → a < 2 ^ w → b < 2 ^ w
    → first_difference k a b
    ≡ cond (bit k (bit_xor a b)) (Some k) (cond (low_agree k a b) None (Some (count_trailing_zeros w (bit_xor a b))))

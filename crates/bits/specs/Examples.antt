-- What the documents write out: claims with their lengths and numbers of stations with their R (document 01, "The settlement"), and the bits
-- of 5 (paper 000, section 3). Made up: comparisons that tell the order of document 02, A.4, from others, and the edges of a claim's 32 bits and
-- of a mask's 32 stations. Assumes nothing.
use Rattle.std.specs.Prelude.{◌≡◌, ℕ, ◌-◌, ◌^◌, Bool, true, false, ◌&&◌, List, [], ◌∷◌, eqb, Option, Some, None}
use Rattle.std.specs.Bool.{beq}
use Rattle.bits.specs.Digits.{bit_length, bit}
use Rattle.bits.specs.Words.{with_bit, low_agree, claim_bits, word_with_bit, member, insert, size}
use Rattle.bits.specs.Difference.{first_difference}
use Rattle.bits.specs.Log.{ceil_log2}

pub data Example : Type 0 where
  has_length : ℕ → ℕ → Example
  has_log : ℕ → ℕ → Example
  has_bit : ℕ → ℕ → Bool → Example
  writing : ℕ → Bool → ℕ → ℕ → Example
  -- the low k + 1 bits of two numbers agree, or the first of them that differs, in A.4's order
  agreeing : ℕ → ℕ → ℕ → Bool → Example
  differing : ℕ → ℕ → ℕ → Option ℕ → Example
  -- a claim with one bit written; a station in a mask; a mask with a station put in; how many are in one
  in_claim : ℕ → Bool → ℕ → ℕ → Example
  has_member : ℕ → ℕ → Bool → Example
  inserting : ℕ → ℕ → ℕ → Example
  counting : ℕ → ℕ → Example

-- two answers are one
abbrev pub same_place : Option ℕ → Option ℕ → Bool
same_place None None = true
same_place None (Some j) = false
same_place (Some i) None = false
same_place (Some i) (Some j) = eqb i j

unfoldable pub example_right : Example → Bool
example_right (has_length n l) = eqb (bit_length n) l
example_right (has_log n r) = eqb (ceil_log2 n) r
example_right (has_bit k n b) = beq (bit k n) b
example_right (writing k b n m) = eqb (with_bit k b n) m
example_right (agreeing k n m b) = beq (low_agree k n m) b
example_right (differing k n m p) = same_place (first_difference k n m) p
example_right (in_claim k b n m) = eqb (word_with_bit claim_bits k b n) m
example_right (has_member s mask b) = beq (member s mask) b
example_right (inserting s mask m) = eqb (insert s mask) m
example_right (counting mask k) = eqb (size mask) k

-- every entry of a list passes a test
abbrev pub every : {A : Type 0} → (A → Bool) → List A → Bool
every f [] = true
every f (x ∷ l) = f x && every f l

abbrev pub written : List Example
written =
    has_length 0 1 ∷ has_length 1 1 ∷ has_length 2 2 ∷ has_length 3 2 ∷ has_length 4 3 ∷ has_length (2 ^ 32 - 1) 32
    ∷ has_length 2147483647 31 ∷ has_length 2147483648 32
    ∷ has_log 0 0 ∷ has_log 1 0 ∷ has_log 2 1 ∷ has_log 3 2 ∷ has_log 4 2 ∷ has_log 5 3 ∷ has_log 8 3 ∷ has_log 9 4 ∷ has_log 16 4 ∷ has_log 17 5 ∷ has_log 32 5 ∷ has_log 33 6
    ∷ has_bit 0 5 true ∷ has_bit 1 5 false ∷ has_bit 2 5 true ∷ has_bit 5 5 false ∷ has_bit 31 2147483648 true ∷ has_bit 31 2147483647 false ∷ has_bit 32 4294967295 false
    ∷ writing 3 true 5 13 ∷ writing 0 false 5 4 ∷ writing 2 true 5 5
    ∷ agreeing 0 3 5 true ∷ agreeing 1 3 5 false ∷ agreeing 2 1 9 true ∷ agreeing 3 1 9 false ∷ agreeing 30 0 2147483648 true ∷ agreeing 31 0 2147483648 false
    ∷ agreeing 32 0 2147483648 false ∷ agreeing 255 5 5 true
    ∷ differing 0 2 3 (Some 0) ∷ differing 0 2 0 None ∷ differing 1 3 0 (Some 1) ∷ differing 1 1 0 (Some 0) ∷ differing 2 5 0 (Some 2) ∷ differing 2 4 0 (Some 2) ∷ differing 2 8 0 None
    ∷ differing 2 13 5 None ∷ differing 3 7 0 (Some 0) ∷ differing 3 6 0 (Some 1) ∷ differing 3 10 9 (Some 0) ∷ differing 4 17 0 (Some 4) ∷ differing 16 65537 0 (Some 16)
    ∷ differing 30 2147483648 0 None ∷ differing 31 2147483649 0 (Some 31) ∷ differing 31 2147483648 0 (Some 31) ∷ differing 31 1073741824 0 (Some 30) ∷ differing 31 4294967295 4294967295 None
    ∷ differing 32 2147483649 0 (Some 0) ∷ differing 32 0 2147483648 (Some 31) ∷ differing 32 4294967297 0 (Some 32) ∷ differing 255 0 2147483648 (Some 31) ∷ differing 255 4294967295 4294967295 None
    ∷ differing 0 1 0 (Some 0) ∷ differing 31 0 2147483648 (Some 31) ∷ differing 31 0 0 None
    ∷ in_claim 31 true 0 2147483648 ∷ in_claim 32 true 0 0 ∷ in_claim 0 false 4294967295 4294967294
    ∷ has_member 0 1 true ∷ has_member 31 2147483648 true ∷ has_member 30 2147483648 false ∷ has_member 32 4294967295 false
    ∷ inserting 0 2 3 ∷ inserting 31 0 2147483648 ∷ inserting 31 2147483648 2147483648 ∷ inserting 32 5 5
    ∷ counting 0 0 ∷ counting 1 1 ∷ counting 10 2 ∷ counting 2147483648 1 ∷ counting 2147483649 2 ∷ counting 4294967295 32 ∷ []

abbrev pub WrittenRight : Type 0
WrittenRight = every example_right written ≡ true

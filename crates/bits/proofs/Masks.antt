-- A mask is a set of stations: inserting s makes s a member and leaves every other station as it was. It is a word with one bit set.
-- How many are in it is the count of ones of the word, digit by digit from the lowest. Assumes nothing.
use Prim.Native.Nat.{ℕ, zero, suc, ◌+◌, ◌/◌, ◌%◌, ◌≤◌, ◌<◌}
use mathlib.Core.Path.{◌≡◌, refl, sym, ap, ◌∙◌, subst}
use mathlib.Core.Bool.{Bool, true, false, cond, true≢false}
use native.Mathlib.Omega.{arith}
use lib.Count.{ones, ones_step}
use lib.Arith.{lt-one}
use lib.Dec.{eqb, ltb}
use borrow.Author.Tests.{eqb-true, eqb-false, ne_eqb, ltb-true, ltb-false}
use Rattle.basics.specs.Below.{any_below, count_below}
use Rattle.basics.proofs.Bools.{by_bool}
use Rattle.basics.proofs.Below.{any_found, any_none, count_same, count_past, count_first, count_more}
use Rattle.bits.specs.Digits.{value, bit, bit_length}
use Rattle.bits.specs.Words.{mask_bits, member, insert, size, MaskLaws, OnesRule}
use Rattle.bits.proofs.Digits.{bit_zero, bit_step, bit_ext, bit_above, half_lt, low_value, length_bound}
use Rattle.bits.proofs.Words.{word_outside, word_same, word_other}

pub member_none : (s : ℕ) → member s 0 ≡ false
unfolding member
member_none s = bit_zero s

pub member_same : (s mask : ℕ) → s < mask_bits → member s (insert s mask) ≡ true
unfolding member insert
member_same s mask h = word_same mask_bits s true mask h

pub member_other : (s t mask : ℕ) → (s ≡ t → ⊥) → member s (insert t mask) ≡ member s mask
unfolding member insert
member_other s t mask d = word_other mask_bits t s true mask d

pub member_past : (s mask : ℕ) → mask_bits ≤ s → insert s mask ≡ mask
unfolding insert
member_past s mask h = word_outside mask_bits s true mask h

pub empty_only : (mask : ℕ) → ((s : ℕ) → member s mask ≡ false) → mask ≡ 0
unfolding member
empty_only mask none = bit_ext mask 0 (λ k. none k ∙ sym (bit_zero k))

-- a station that is in it, put in again
pub insert_again : (s mask : ℕ) → member s mask ≡ true → insert s mask ≡ mask
unfolding member
insert_again s mask e =
    bit_ext (insert s mask) mask (λ k.
    by_bool (eqb k s)
    (λ q.
    let here = eqb-true k s q in
    subst (λ (i : ℕ). bit i (insert s mask) ≡ bit i mask) (sym here)
    (by_bool (ltb s mask_bits)
    (λ l. member_same s mask (ltb-true s mask_bits l) ∙ sym e)
    (λ l. ap (bit s) (member_past s mask (ltb-false s mask_bits l)))))
    (λ q. member_other k s mask (eqb-false k s q)))

-- whoever is in it stays in it
pub member_stays : (i s mask : ℕ) → member i mask ≡ true → member i (insert s mask) ≡ true
member_stays i s mask m =
    by_bool (eqb i s)
    (λ p. ap (member i) (insert_again s mask (ap (λ (x : ℕ). member x mask) (sym (eqb-true i s p)) ∙ m)) ∙ m)
    (λ p. member_other i s mask (eqb-false i s p) ∙ m)

-- a mask with a station in it is not 0, and stays so
pub some_member : (s mask : ℕ) → member s mask ≡ true → eqb mask 0 ≡ false
some_member s mask e = ne_eqb mask 0 (λ q. true≢false (sym e ∙ ap (member s) q ∙ member_none s))

-- and one that is not 0 has a station in it
pub some_in : (mask : ℕ) → eqb mask 0 ≡ false → (s : ℕ) × (member s mask ≡ true)
unfolding member
some_in mask e = by_bool (any_below (bit_length mask) f) (λ q. let t = any_found (bit_length mask) f q in (t.0, t.2)) (λ q. absurd (eqb-false mask 0 e (nobody q)))
  where
    f : ℕ → Bool
    f s = bit s mask

    nobody : any_below (bit_length mask) f ≡ false → mask ≡ 0
    nobody q =
        empty_only mask (λ s.
        by_bool (ltb s (bit_length mask)) (λ l. any_none (bit_length mask) f q s (ltb-true s (bit_length mask) l))
        (λ l. bit_above (bit_length mask) mask (length_bound mask) s (ltb-false s (bit_length mask) l)))

pub insert_some : (s mask : ℕ) → eqb mask 0 ≡ false → eqb (insert s mask) 0 ≡ false
insert_some s mask e =
    by_bool (ltb s mask_bits) (λ l. some_member s (insert s mask) (member_same s mask (ltb-true s mask_bits l)))
    (λ l. ap (λ (x : ℕ). eqb x 0) (member_past s mask (ltb-false s mask_bits l)) ∙ e)

-- ---- how many

pub ones_rule : OnesRule
unfolding count_below ones
ones_rule zero n h = ap ones (lt-one h)
ones_rule (suc w) n h =
    ones_step n
    ∙ ap (λ (x : ℕ). n % 2 + x) (ones_rule w (n / 2) (half_lt w n h) ∙ count_same w _ _ (λ k l. sym (bit_step k n)))
    ∙ first (bit 0 n) (sym (low_value n))
    ∙ sym (count_first w (λ k. bit k n))
  where
    rest : ℕ
    rest = count_below w (λ k. bit (suc k) n)

    first : (b : Bool) → value b ≡ n % 2 → n % 2 + rest ≡ cond b (suc rest) rest
    first true e = rw (sym e) (omega arith)
    first false e = rw (sym e) (omega arith)

pub size_more : (s mask : ℕ) → s < mask_bits → member s mask ≡ false → size (insert s mask) ≡ suc (size mask)
unfolding size
size_more s mask l e =
    count_more mask_bits (λ t. member t mask) (λ t. member t (insert s mask)) s l e (member_same s mask l) (λ t d. member_other t s mask d)

pub size_none : size 0 ≡ 0
unfolding size count_below
size_none = count_past 0 mask_bits (λ s. member s 0) (omega arith) (λ s l. member_none s)

pub mask_laws : MaskLaws
unfolding member
mask_laws = record {
  its_bit = λ s mask. refl;
  empty = member_none;
  empty_only = empty_only;
  put_in = member_same;
  others = member_other;
  past = member_past;
  size_none = size_none;
  size_more = size_more;
  put_again = insert_again;
}

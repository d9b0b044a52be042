-- The first bit at which two numbers differ. What each answer says is `Told`, and no two answers say the same of one comparison (`one_answer`):
-- so an answer is right where what it says holds. What differs is the exclusive or, bit by bit, and its trailing zeros end at its lowest 1.
-- Assumes nothing.
use Prim.Native.Nat.{ℕ, zero, suc, ◌+◌, ◌-◌, ◌*◌, ◌/◌, ◌%◌, ◌^◌, ◌≤◌, ◌<◌, zero-le}
use mathlib.Core.Path.{◌≡◌, refl, sym, ap, ◌∙◌, subst}
use mathlib.Core.Logic.{◌⊎◌, inl, inr, ⊎_elim}
use mathlib.Core.Bool.{Bool, true, false, not, beq, cond}
use Rattle.std.specs.Prelude.{Option, Some, None, is_some}
use Rattle.std.specs.Bool.{then_some}
use Rattle.std.proofs.lemmas.Nat.Bits.{bit_at_xor}
use native.Mathlib.Nat.{le_refl, le_antisymm, le_trans, le_of_lt, le_of_suc-le-suc, not-suc-le-zero, lt_of_lt_of_le, lt_of_not-le, ne_of_lt, eq-or-lt_of_le}
use native.Mathlib.Omega.{arith}
use lib.Bits.{bit_xor, xor_lt, xor_self, xor_mod}
use lib.Count.{count_trailing_zeros, under}
use lib.Dec.{eqb, ltb}
use borrow.Author.Tests.{eqb-true, eqb-false, eq-eqb, ltb-true, ltb-false, not-true, not-false}
use Rattle.basics.proofs.Bools.{by_bool, both_ways, cond_ind, no_clash, beq_same, beq_true}
use Rattle.bits.specs.Digits.{value, bit}
use Rattle.bits.specs.Words.{low_agree}
use Rattle.bits.specs.Difference.{rising, newest_first, first_among, first_difference, Same, Before, First, DifferenceLaws, DifferenceRule}
use Rattle.bits.proofs.Digits.{bit_div, bit_value, bit_low, bit_step, bit_zero, bit_ext, bit_above}
use Rattle.bits.proofs.Words.{agree_bits, bits_agree, low_agree_mod}
use Rattle.bits.proofs.Machine.{bit_on_top, zero_on_top, agree_whole}

-- ---- the definition, place by place

differ_at : (i a b : ℕ) → beq (bit i a) (bit i b) ≡ false → Same i a b → ⊥
differ_at i a b t s = no_clash (beq (bit i a) (bit i b)) (rw s (beq_same (bit i b))) t

-- what an answer says of the places from `from` to below `end`, rising
abbrev Scanned : (from end a b : ℕ) → Option ℕ → Type 0
Scanned from end a b None = (i : ℕ) → from ≤ i → i < end → Same i a b
Scanned from end a b (Some p) = (from ≤ p) × (p < end) × (Same p a b → ⊥) × ((i : ℕ) → from ≤ i → i < p → Same i a b)

-- what holds from the next place on, and at this one
from_next : (from a b : ℕ) (P : ℕ → Type 0) → Same from a b → ((i : ℕ) → from < i → P i → Same i a b) → (i : ℕ) → from ≤ i → P i → Same i a b
from_next from a b P s rest i g p = ⊎_elim (λ (e : from ≡ i). subst (λ (x : ℕ). Same x a b) e s) (λ q. rest i q p) (eq-or-lt_of_le g)

one_more : (from end a b : ℕ) (o : Option ℕ) → Same from a b → Scanned (suc from) end a b o → Scanned from end a b o
one_more from end a b None s f = from_next from a b (λ i. i < end) s f
one_more from end a b (Some p) s f = (le_of_lt f.0, f.1, f.2, from_next from a b (λ i. i < p) s f.3)

scanned : (count from end a b : ℕ) → from + count ≡ end → Scanned from end a b (first_among (rising from count) a b)
unfolding rising first_among
scanned zero from end a b e = λ i g h. absurd (omega arith)
scanned (suc count) from end a b e =
    let here = beq (bit from a) (bit from b) in
    cond_ind (Scanned from end a b) here (first_among (rising (suc from) count) a b) (Some from)
    (λ t. one_more from end a b (first_among (rising (suc from) count) a b) (beq_true (bit from a) (bit from b) t) (scanned count (suc from) end a b (omega arith)))
    (λ t. (le_refl from, omega arith, differ_at from a b t, λ i g h. absurd (omega arith)))

-- what an answer says of the low k + 1 bits
abbrev Told : (k a b : ℕ) → Option ℕ → Type 0
Told k a b None = (i : ℕ) → i ≤ k → Same i a b
Told k a b (Some p) = First k a b p

-- i is k, where they agree, or something says that they agree at i
same_or : (i k a b : ℕ) {P : Type 0} → Same k a b → (P → Same i a b) → (i ≡ k) ⊎ P → Same i a b
same_or i k a b s f = ⊎_elim (λ e. subst (λ (x : ℕ). Same x a b) (sym e) s) f

-- bit k agrees, and an answer is right below it
newest_agrees : (k a b : ℕ) (o : Option ℕ) → Same k a b → Scanned 0 k a b o → Told k a b o
newest_agrees k a b None s f = λ i l. same_or i k a b s (f i zero-le) (eq-or-lt_of_le l)
newest_agrees k a b (Some p) s f = record {
  inside = le_of_lt f.1;
  differs = f.2;
  before = λ i g. same_or i k a b s (f.3 i zero-le) g.1;
}

-- bit k differs
newest_differs : (k a b : ℕ) → (Same k a b → ⊥) → First k a b k
newest_differs k a b d = record { inside = le_refl k; differs = d; before = λ i g. absurd (g.0 refl) }

told : (k a b : ℕ) → Told k a b (first_difference k a b)
unfolding first_difference newest_first first_among
told k a b =
    cond_ind (Told k a b) (beq (bit k a) (bit k b)) (first_among (rising 0 k) a b) (Some k)
    (λ t. newest_agrees k a b (first_among (rising 0 k) a b) (beq_true (bit k a) (bit k b) t) (scanned k 0 k a b (omega arith)))
    (λ t. newest_differs k a b (differ_at k a b t))

-- ---- one answer is right

not_before : (k a b p q : ℕ) → First k a b p → First k a b q → Before k p q → ⊥
not_before k a b p q f g l = f.differs (g.before p l)

one_first : (k a b p q : ℕ) → First k a b p → First k a b q → p ≡ q
one_first k a b p q f g = go (eqb p k) (eqb q k) refl refl
  where
    go : (x y : Bool) → eqb p k ≡ x → eqb q k ≡ y → p ≡ q
    go true true e h = eqb-true p k e ∙ sym (eqb-true q k h)
    go true false e h = absurd (not_before k a b p q f g (eqb-false q k h, inl (eqb-true p k e)))
    go false true e h = absurd (not_before k a b q p g f (eqb-false p k e, inl (eqb-true q k h)))
    go false false e h =
        le_antisymm (le_of_suc-le-suc (lt_of_not-le (λ l. not_before k a b q p g f (eqb-false p k e, inr l))))
        (le_of_suc-le-suc (lt_of_not-le (λ l. not_before k a b p q f g (eqb-false q k h, inr l))))

one_answer : (k a b : ℕ) (x y : Option ℕ) → Told k a b x → Told k a b y → x ≡ y
one_answer k a b None None f g = refl
one_answer k a b None (Some q) f g = absurd (g.differs (f q g.inside))
one_answer k a b (Some p) None f g = absurd (f.differs (g p f.inside))
one_answer k a b (Some p) (Some q) f g = ap {B = Option ℕ} Some (one_first k a b p q f g)

-- so a right answer is the comparison's, and the comparison's is right
answers : (k a b : ℕ) (x : Option ℕ) → Told k a b x → first_difference k a b ≡ x
answers k a b x f = one_answer k a b (first_difference k a b) x (told k a b) f

says : (k a b : ℕ) (x : Option ℕ) → first_difference k a b ≡ x → Told k a b x
says k a b x e = subst (λ (o : Option ℕ). Told k a b o) e (told k a b)

-- ---- numbers of w bits

module _ (w a b : ℕ) (l : a < 2 ^ w) (m : b < 2 ^ w) where
  past_same : (i : ℕ) → w ≤ i → Same i a b
  past_same i g = bit_above w a l i g ∙ sym (bit_above w b m i g)

  place_in_width : (p : ℕ) → (Same p a b → ⊥) → p < w
  place_in_width p d = lt_of_not-le (λ g. d (past_same p g))

  module _ (k : ℕ) (past : w ≤ k) where
    whole_same : ((i : ℕ) → i ≤ k → Same i a b) → a ≡ b
    whole_same f = bit_ext a b (λ i. by_bool (ltb i w) (λ e. f i (le_of_lt (lt_of_lt_of_le (ltb-true i w e) past))) (λ e. past_same i (ltb-false i w e)))

    past_first : (p : ℕ) → First k a b p → (Same p a b → ⊥) × ((i : ℕ) → i < p → Same i a b)
    past_first p f = (f.differs, λ i h. f.before i (ne_of_lt (lt_of_lt_of_le (place_in_width p f.differs) past), inr h))

    first_past : (p : ℕ) → (Same p a b → ⊥) → ((i : ℕ) → i < p → Same i a b) → First k a b p
    first_past p d f = record {
      inside = le_of_lt (lt_of_lt_of_le (place_in_width p d) past);
      differs = d;
      before = λ i g. same_or i k a b (past_same k past) (f i) g.1;
    }

pub difference_laws : DifferenceLaws
difference_laws = record {
  first_exactly = λ k a b p. (says k a b (Some p), answers k a b (Some p));
  none_exactly = λ k a b. (λ e. bits_agree k a b (says k a b None e), λ e. answers k a b None (agree_bits k a b e));
  past_first = λ w k a b p g l m. (
    λ e. past_first w a b l m k g p (says k a b (Some p) e),
    λ d. answers k a b (Some p) (first_past w a b l m k g p d.0 d.1),
  );
  past_none = λ w k a b g l m. (λ e. whole_same w a b l m k g (says k a b None e), λ e. answers k a b None (λ i h. ap (bit i) e));
}

-- ---- what differs, as one number

odd_sum : (x y : Bool) → eqb ((value x + value y) % 2) 1 ≡ not (beq x y)
odd_sum true true = refl
odd_sum true false = refl
odd_sum false true = refl
odd_sum false false = refl

xor_bit : (i a b : ℕ) → bit i (bit_xor a b) ≡ not (beq (bit i a) (bit i b))
xor_bit i a b = bit_div i (bit_xor a b) ∙ rw (bit_at_xor a b i, ← bit_value i a, ← bit_value i b) (odd_sum (bit i a) (bit i b))

-- a 0 of it where they agree, a 1 where they differ
zero_same : (i a b : ℕ) → bit i (bit_xor a b) ≡ false → Same i a b
zero_same i a b e = beq_true (bit i a) (bit i b) (not-false _ (sym (xor_bit i a b) ∙ e))

one_differs : (i a b : ℕ) → bit i (bit_xor a b) ≡ true → Same i a b → ⊥
one_differs i a b e = differ_at i a b (not-true _ (sym (xor_bit i a b) ∙ e))

-- ---- the trailing zeros of n, among w digits: zeros, and where they end within w, a one

abbrev Lowest : (w n t : ℕ) → Type 0
Lowest w n t = ((i : ℕ) → i < t → bit i n ≡ false) × (t < w → bit t n ≡ true)

lowest_under : (w n d t : ℕ) → n % 2 ≡ d → Lowest w (n / 2) t → Lowest (suc w) n (under d t)
lowest_under w n zero t e f = (zeros, λ l. bit_step t n ∙ f.1 (le_of_suc-le-suc l))
  where
    zeros : (i : ℕ) → i < suc t → bit i n ≡ false
    zeros zero l = bit_low n ∙ ap (λ (x : ℕ). eqb x 1) e
    zeros (suc i) l = bit_step i n ∙ f.0 i (le_of_suc-le-suc l)
lowest_under w n (suc d) t e f = (λ i l. absurd (not-suc-le-zero l), λ l. bit_low n ∙ ap (λ (x : ℕ). eqb x 1) one)
  where
    one : n % 2 ≡ 1
    one = omega arith

lowest_one : (w n : ℕ) → Lowest w n (count_trailing_zeros w n)
unfolding count_trailing_zeros
lowest_one zero n = (λ i l. absurd (not-suc-le-zero l), λ l. absurd (not-suc-le-zero l))
lowest_one (suc w) n = lowest_under w n (n % 2) (count_trailing_zeros w (n / 2)) refl (lowest_one w (n / 2))

-- ---- how the code finds it

module _ (w k a b : ℕ) (l : a < 2 ^ w) (m : b < 2 ^ w) where
  abbrev x : ℕ
  x = bit_xor a b

  -- the trailing zeros of what differs, where some low bit does and bit k does not: they end below k
  lowest_below : low_agree k a b ≡ false → bit k x ≡ false → Scanned 0 k a b (Some (count_trailing_zeros w x))
  lowest_below some_low h = (zero-le, below, one_differs t a b ((lowest_one w x).1 in_word), λ i z q. zero_same i a b ((lowest_one w x).0 i q))
    where
      t : ℕ
      t = count_trailing_zeros w x

      not_all : ((i : ℕ) → i ≤ k → bit i x ≡ false) → ⊥
      not_all f = no_clash (low_agree k a b) (bits_agree k a b (λ i g. zero_same i a b (f i g))) some_low

      below : t < k
      below = lt_of_not-le (λ g. not_all (λ i q. ⊎_elim (λ (e : i ≡ k). ap (λ (j : ℕ). bit j x) e ∙ h) (λ r. (lowest_one w x).0 i (lt_of_lt_of_le r g)) (eq-or-lt_of_le q)))

      in_word : t < w
      in_word =
          lt_of_not-le (λ g.
          not_all (λ i q.
          by_bool (ltb i t) (λ e. (lowest_one w x).0 i (ltb-true i t e)) (λ e. bit_above w x (xor_lt w a b l m) i (le_trans g (ltb-false i t e)))))

pub difference_rule : DifferenceRule
difference_rule w k a b l m =
    let x = bit_xor a b in
    let t = count_trailing_zeros w x in
    let rest = cond (low_agree k a b) None (Some t) in
    answers k a b (cond (bit k x) (Some k) rest)
    (cond_ind (Told k a b) (bit k x) (Some k) rest (λ h. newest_differs k a b (one_differs k a b h))
    (λ h.
    cond_ind (Told k a b) (low_agree k a b) None (Some t) (agree_bits k a b)
    (λ e. newest_agrees k a b (Some t) (zero_same k a b h) (lowest_below w k a b l m e h))))

-- nothing differs where the number of the differences is 0
xor_zero : (a b : ℕ) → eqb (bit_xor a b) 0 ≡ eqb a b
xor_zero a b =
    both_ways (eqb (bit_xor a b) 0) (eqb a b)
    (λ e. eq-eqb a b (bit_ext a b (λ i. zero_same i a b (ap (bit i) (eqb-true (bit_xor a b) 0 e) ∙ bit_zero i))))
    (λ e. eq-eqb (bit_xor a b) 0 (ap (λ (x : ℕ). bit_xor x b) (eqb-true a b e) ∙ xor_self b))

-- the code's answer, where it is a place unless a test passes
pub place_unless : (b : Bool) (p : ℕ) → then_some (not b) p ≡ cond b None (Some p)
place_unless true p = refl
place_unless false p = refl

-- the code's tests: of the differences, shifted so that bit k is at the top, or whole where the word has no bit k
module _ (w k a b : ℕ) (l : a < 2 ^ w) (m : b < 2 ^ w) where
  abbrev d : ℕ
  d = bit_xor a b

  abbrev top : ℕ
  top = d * 2 ^ (w - 1 - k) % 2 ^ w

  pub by_shift : k < w → first_difference k a b ≡ cond (bit (w - 1) top) (Some k) (cond (eqb top 0) None (Some (count_trailing_zeros w d)))
  by_shift h = difference_rule w k a b l m ∙ sym (rw (bit_on_top w k d h, nothing))
    where
      nothing : eqb top 0 ≡ low_agree k a b
      nothing =
          zero_on_top w k d h ∙ ap (λ (x : ℕ). eqb x 0) (xor_mod a b (suc k)) ∙ xor_zero (a % 2 ^ suc k) (b % 2 ^ suc k)
          ∙ sym (low_agree_mod k a b)

  pub by_whole : w ≤ k → first_difference k a b ≡ cond (eqb d 0) None (Some (count_trailing_zeros w d))
  by_whole g = rw (difference_rule w k a b l m, bit_above w d (xor_lt w a b l m) k g, xor_zero a b, agree_whole w k a b g l m)

-- the comparison answers some place where the low bits do not agree
pub some_differs : (k a b : ℕ) → is_some (first_difference k a b) ≡ not (low_agree k a b)
some_differs k a b = go (first_difference k a b) refl
  where
    go : (o : Option ℕ) → first_difference k a b ≡ o → is_some o ≡ not (low_agree k a b)
    go None e = ap not (sym ((difference_laws.none_exactly k a b).0 e))
    go (Some p) e = by_bool (low_agree k a b) (λ t. let none = (difference_laws.none_exactly k a b).1 t in cc) (λ f. ap not (sym f))

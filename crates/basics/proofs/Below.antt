-- What is found below n, what is not, and how many. Assumes nothing.
use Prim.Native.Nat.{ℕ, zero, suc, ◌+◌, ◌≤◌, ◌<◌}
use mathlib.Core.Path.{◌≡◌, refl, sym, subst, ◌∙◌, ap, ap₂}
use mathlib.Core.Logic.{⊎_elim}
use mathlib.Core.Bool.{Bool, true, false, ◌||◌, cond, true≢false}
use native.Mathlib.Nat.{le_refl, le_step, not-suc-le-zero, eq-or-lt_of_le, le_of_suc-le-suc, lt_irrefl}
use native.Mathlib.Decide.{le_ind}
use native.Mathlib.Numerals.{add-one}
use native.Mathlib.Omega.{arith}
use mathlib.Core.List.{List}
use lib.ListN.{length, get_or, take}
use Rattle.std.specs.List.{list_any}
use Rattle.std.proofs.lemmas.List.Folds.{list_any_more}
use Rattle.basics.specs.Below.{any_below, count_below, SomeBelow}
use Rattle.basics.proofs.Bools.{by_bool, no_clash, or_false, or_swap}

-- a number found below n
pub any_found : (n : ℕ) (f : ℕ → Bool) → any_below n f ≡ true → (i : ℕ) × (i < n) × (f i ≡ true)
unfolding any_below
any_found zero f e = absurd (true≢false (sym e))
any_found (suc n) f e = by_bool (f n) (λ p. (n, le_refl (suc n), p)) (λ p. widen (any_found n f (rest p)))
  where
    rest : f n ≡ false → any_below n f ≡ true
    rest p = subst (λ (b : Bool). (b || any_below n f) ≡ true) p e

    widen : (i : ℕ) × (i < n) × (f i ≡ true) → (i : ℕ) × (i < suc n) × (f i ≡ true)
    widen t = (t.0, le_step t.1, t.2)

-- and none found
pub any_none : (n : ℕ) (f : ℕ → Bool) → any_below n f ≡ false → (i : ℕ) → i < n → f i ≡ false
unfolding any_below
any_none zero f e i l = absurd (not-suc-le-zero l)
any_none (suc n) f e i l =
    let both = or_false (f n) (any_below n f) e in
    ⊎_elim (λ q. ap f q ∙ both.0) (λ m. any_none n f both.1 i m) (eq-or-lt_of_le (le_of_suc-le-suc l))

pub any_true : (n : ℕ) (f : ℕ → Bool) (i : ℕ) → i < n → f i ≡ true → any_below n f ≡ true
any_true n f i l e = by_bool (any_below n f) (λ p. p) (λ p. no_clash (f i) e (any_none n f p i l))

pub none_below : (n : ℕ) (f : ℕ → Bool) → ((i : ℕ) → i < n → f i ≡ false) → any_below n f ≡ false
none_below n f g = by_bool (any_below n f) (λ e. let t = any_found n f e in no_clash (f t.0) t.2 (g t.0 t.1)) (λ e. e)

-- one number more, looked at last
pub any_next : (n : ℕ) (f : ℕ → Bool) → any_below (n + 1) f ≡ (any_below n f || f n)
unfolding any_below
any_next n f = rw add-one (or_swap (f n) (any_below n f))

-- over a list: std's test of some element, which `any` of an iterator answers
pub any_of_list : {X : Type 0} (p : X → Bool) (l : List X) (d : X) (n : ℕ) → n ≤ length l → any_below n (λ i. p (get_or l i d)) ≡ list_any p (take n l)
unfolding any_below
any_of_list p l d zero h = refl
any_of_list p l d (suc n) h =
    or_swap (p (get_or l n d)) (any_below n (λ i. p (get_or l i d)))
    ∙ ap (λ (b : Bool). b || p (get_or l n d)) (any_of_list p l d n (omega arith))
    ∙ sym (rw add-one at (list_any_more p l n d h))

pub some_below : SomeBelow
some_below n f = (any_found n f, λ t. any_true n f t.0 t.1 t.2)

-- ---- how many there are

-- tests that answer alike below n
pub count_same : (n : ℕ) (f g : ℕ → Bool) → ((i : ℕ) → i < n → f i ≡ g i) → count_below n f ≡ count_below n g
unfolding count_below
count_same zero f g same = refl
count_same (suc n) f g same =
    ap₂ (λ (b : Bool) (k : ℕ). cond b (suc k) k) (same n (le_refl (suc n))) (count_same n f g (λ i l. same i (le_step l)))

-- no number from n on passes
pub count_past : (n m : ℕ) (f : ℕ → Bool) → n ≤ m → ((i : ℕ) → n ≤ i → f i ≡ false) → count_below m f ≡ count_below n f
unfolding count_below
count_past n m f l none = le_ind (λ (k : ℕ). count_below k f ≡ count_below n f) refl (λ k h e. rw (none k h) e) m l

-- the first number apart
pub count_first : (n : ℕ) (f : ℕ → Bool) → count_below (suc n) f ≡ cond (f 0) (suc (count_below n (λ i. f (suc i)))) (count_below n (λ i. f (suc i)))
unfolding count_below
count_first zero f = refl
count_first (suc n) f = rw (count_first n f) (swapped (f (suc n)) (f 0) (count_below n (λ i. f (suc i))))
  where
    swapped : (a b : Bool) (k : ℕ) → cond a (suc (cond b (suc k) k)) (cond b (suc k) k) ≡ cond b (suc (cond a (suc k) k)) (cond a (suc k) k)
    swapped true true k = refl
    swapped true false k = refl
    swapped false true k = refl
    swapped false false k = refl

-- two tests that no number passes both of
pub count_either : (n : ℕ) (f g : ℕ → Bool) → ((i : ℕ) → i < n → f i ≡ true → g i ≡ false)
    → count_below n f + count_below n g ≡ count_below n (λ i. f i || g i)
unfolding count_below
count_either zero f g apart = refl
count_either (suc n) f g apart =
    let rest = count_either n f g (λ i l. apart i (le_step l)) in
    by_bool (f n)
    (λ e. rw (e, apart n (le_refl (suc n)) e) (omega (arith, rest)))
    (λ e. rw e (by_bool (g n) (λ d. rw d (omega (arith, rest))) (λ d. rw d rest)))

-- one number more passes
pub count_more : (n : ℕ) (f g : ℕ → Bool) (j : ℕ) → j < n → f j ≡ false → g j ≡ true → ((i : ℕ) → (i ≡ j → ⊥) → g i ≡ f i)
    → count_below n g ≡ suc (count_below n f)
unfolding count_below
count_more zero f g j l e d others = absurd (not-suc-le-zero l)
count_more (suc n) f g j l e d others = ⊎_elim last (λ k. before k (count_more n f g j k e d others)) (eq-or-lt_of_le (le_of_suc-le-suc l))
  where
    last : j ≡ n → count_below (suc n) g ≡ suc (count_below (suc n) f)
    last q =
        let none : f n ≡ false = ap f (sym q) ∙ e in
        let one : g n ≡ true = ap g (sym q) ∙ d in
        rw (none, one) (ap suc (count_same n g f (λ i k. others i (λ p. lt_irrefl n (subst (λ (x : ℕ). x < n) (p ∙ q) k)))))

    before : j < n → count_below n g ≡ suc (count_below n f) → count_below (suc n) g ≡ suc (count_below (suc n) f)
    before k rest =
        let same : g n ≡ f n = others n (λ p. lt_irrefl n (subst (λ (x : ℕ). x < n) (sym p) k)) in
        rw same (by_bool (f n) (λ t. rw t (ap suc rest)) (λ t. rw t rest))

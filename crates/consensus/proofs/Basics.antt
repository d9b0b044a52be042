-- Updates of a function at one place, and bits that were cast. Assumes nothing.
use Prim.Native.Nat.{ℕ}
use mathlib.Core.Path.{◌≡◌, refl, sym, ap}
use mathlib.Core.Bool.{Bool, true, false, cond, true≢false}
use mathlib.Core.Option.{Option, none, some}
use lib.Dec.{eqb}
use borrow.Author.Tests.{eqb-true, eqb-false}
use Rattle.consensus.specs.State.{update}
use Rattle.consensus.specs.Rules.{is_bit}
use Rattle.basics.proofs.Bools.{cond_ind, beq_true}

-- what holds of the new value, and of each old one, holds of an updated function's values
pub update_ind : {A : Type 0} (C : A → Type 0) (f : ℕ → A) (i : ℕ) (x : A) (j : ℕ) → (j ≡ i → C x) → ((j ≡ i → ⊥) → C (f j)) → C (update f i x j)
unfolding update
update_ind C f i x j new old = cond_ind C (eqb j i) x (f j) (λ e. new (eqb-true j i e)) (λ e. old (eqb-false j i e))

-- two functions updated at the same place are related at each place if they were, and the new values are
pub pair_ind : {A B : Type 0} (R : A → B → Type 0) (f : ℕ → A) (g : ℕ → B) (s : ℕ) (a : A) (b : B) (i : ℕ)
    → (i ≡ s → R a b) → R (f i) (g i) → R (update f s a i) (update g s b i)
unfolding update
pair_ind R f g s a b i new old = go (eqb i s) (eqb-true i s)
  where
    go : (t : Bool) → (t ≡ true → i ≡ s) → R (cond t a (f i)) (cond t b (g i))
    go true e = new (e refl)
    go false e = old

pub update_same : {A : Type 0} (f : ℕ → A) (i : ℕ) (x : A) → update f i x i ≡ x
update_same f i x = update_ind (λ y. y ≡ x) f i x i (λ e. refl) (λ ne. absurd (ne refl))

pub update_other : {A : Type 0} (f : ℕ → A) (i : ℕ) (x : A) (j : ℕ) → (j ≡ i → ⊥) → update f i x j ≡ f j
update_other f i x j ne = update_ind (λ y. y ≡ f j) f i x j (λ e. absurd (ne e)) (λ ne. refl)

pub is_bit_some : (a : Bool) (x : Option Bool) → is_bit a x ≡ true → x ≡ some a
is_bit_some a none e = absurd (true≢false (sym e))
is_bit_some a (some x) e = ap (λ (y : Bool). some y) (beq_true x a e)

-- Case splits that keep their equation, and two Bools compared; the library's lemmas on "and", "or" and "not" under the names used here. Assumes nothing.
use mathlib.Core.Path.{◌≡◌, refl, sym, ◌∙◌}
use mathlib.Core.Bool.{Bool, true, false, ◌||◌, cond, beq, true≢false}
pub use mathlib.Core.Bool.{or-false as or_none}
pub use Rattle.std.proofs.lemmas.Bool.{not-false as not_false→true, not-true as not_true→false, and_parts as and_true, or_parts as or_false, or_right as or_later}

unfoldable pub by_bool {ℓ} : {C : Type ℓ} (b : Bool) → (b ≡ true → C) → (b ≡ false → C) → C
by_bool true f g = f refl
by_bool false f g = g refl

pub cond_ind {ℓ} : {A : Type 0} (C : A → Type ℓ) (b : Bool) (x y : A) → (b ≡ true → C x) → (b ≡ false → C y) → C (cond b x y)
cond_ind C true x y f g = f refl
cond_ind C false x y f g = g refl

pub no_clash : {C : Type 0} (b : Bool) → b ≡ true → b ≡ false → C
no_clash b p q = absurd (true≢false (sym p ∙ q))

pub or_swap : (a b : Bool) → (a || b) ≡ (b || a)
or_swap true true = refl
or_swap true false = refl
or_swap false true = refl
or_swap false false = refl

-- each is true where the other is
pub both_ways : (a b : Bool) → (a ≡ true → b ≡ true) → (b ≡ true → a ≡ true) → a ≡ b
both_ways true b f g = sym (f refl)
both_ways false true f g = g refl
both_ways false false f g = refl

pub beq_same : (a : Bool) → beq a a ≡ true
beq_same true = refl
beq_same false = refl

pub beq_true : (a b : Bool) → beq a b ≡ true → a ≡ b
beq_true true true e = refl
beq_true true false e = absurd (true≢false (sym e))
beq_true false true e = absurd (true≢false (sym e))
beq_true false false e = refl

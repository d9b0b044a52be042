-- Entries laid one after the other, and a list of what stands at each place. Assumes nothing.
use Rattle.std.specs.Prelude.{ℕ, zero, suc, List, [], ◌∷◌, ◌++◌}

-- the bytes of the entries, in order
unfoldable pub flat : {A : Type 0} → (A → List ℕ) → List A → List ℕ
flat f [] = []
flat f (a ∷ l) = f a ++ flat f l

-- f 0, f 1 and so on, k entries
unfoldable pub each : {A : Type 0} → ℕ → (ℕ → A) → List A
each zero f = []
each (suc k) f = f 0 ∷ each k (λ i. f (suc i))

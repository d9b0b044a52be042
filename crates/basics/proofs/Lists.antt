-- Entries of an array as a list: past its end a read gives the default, and what stands there may be stored again.
-- Assumes nothing.
use Prim.Native.Nat.{ℕ, zero, suc, ◌≤◌}
use mathlib.Core.List.{List, [], ◌∷◌, map}
use mathlib.Core.Path.{◌≡◌, sym, ◌∙◌}
use lib.ListN.{length, get_or, set, length-map, get_or-eq_default}
-- an entry stored again where it stands, or past the end, changes nothing
pub use Rattle.std.proofs.lemmas.List.{set-get_or as set_again}

-- the length of an array of structs is known of its machine form
pub unmapped_length : {A B : Type 0} (f : A → B) (l : List A) (n : ℕ) → length (map f l) ≡ n → length l ≡ n
unmapped_length f l n h = sym (length-map l f) ∙ h

pub read_past : {A : Type 0} (l : List A) (d : A) (n i : ℕ) → length l ≡ n → n ≤ i → d ≡ get_or l i d
read_past l d n i e h = sym (get_or-eq_default l d (rw e h))

-- what holds of an entry that is stored, and of those that stood there, holds of each after it
pub set_keeps : {A : Type 0} (C : A → Type 0) (l : List A) (i : ℕ) (x d : A) (j : ℕ) → C x → C (get_or l j d) → C (get_or (set l i x) j d)
set_keeps C [] i x d j new old = old
set_keeps C (y ∷ ys) zero x d zero new old = new
set_keeps C (y ∷ ys) zero x d (suc j) new old = old
set_keeps C (y ∷ ys) (suc i) x d zero new old = old
set_keeps C (y ∷ ys) (suc i) x d (suc j) new old = set_keeps C ys i x d j new old

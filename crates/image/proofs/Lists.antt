-- Entries laid one after the other behind other bytes and before others: each is found at its place, an entry replaced is its bytes replaced, and
-- entries read off the bytes are laid as they stood. Assumes nothing.
use Prim.Native.Nat.{ℕ, zero, suc, ◌+◌, ◌-◌, ◌*◌, ◌≤◌, ◌<◌}
use mathlib.Core.Path.{◌≡◌, refl, sym, subst, ap, ap₂, ◌∙◌}
use mathlib.Core.List.{List, [], ◌∷◌, ◌++◌, append_assoc}
use native.Mathlib.Nat.{mul-zero, mul-suc, mul-le-mul_left, add_comm, add_assoc, zero-add, zero-lt-suc, le_of_lt, le_of_suc-le-suc, not-suc-le-zero}
use native.Mathlib.Omega.{arith}
use lib.ListN.{length, take, drop, get_or, set, length-append, length-drop}
use lib.Seq.{ext_get_or, length-take-le, sets, drop-drop, drop_at, take-add, take-suc, take-append-le, take-append-add, drop-append-le, drop-append-add}
use borrow.Rule.Slice.PartMut.{put_mid}
use Rattle.basics.specs.Bytes.{over}
use Rattle.basics.proofs.Bytes.{to_end, filled}
use Rattle.image.specs.Lists.{flat, each}

-- ---- bytes replaced in one of two lists

pub over_later : (a b : List ℕ) (p : ℕ) (fill : List ℕ) → over (length a + p) fill (a ++ b) ≡ a ++ over p fill b
over_later a b p fill =
    rw (add_assoc (length a) p (length fill), take-append-add a b p, drop-append-add a b (p + length fill))
    (append_assoc a (take p b) (fill ++ drop (p + length fill) b))

pub over_earlier : (a b : List ℕ) (p : ℕ) (fill : List ℕ) → p + length fill ≤ length a → over p fill (a ++ b) ≡ over p fill a ++ b
over_earlier a b p fill h =
    let front : take p (a ++ b) ≡ take p a = take-append-le p a b (omega arith) in
    let back : drop (p + length fill) (a ++ b) ≡ drop (p + length fill) a ++ b = drop-append-le (p + length fill) a b h in
    rw (front, back)
    (ap (λ (l : List ℕ). take p a ++ l) (sym (append_assoc fill (drop (p + length fill) a) b))
    ∙ sym (append_assoc (take p a) (fill ++ drop (p + length fill) a) b))

-- bytes that there are stay as many
pub over_long : (b : List ℕ) (p : ℕ) (fill : List ℕ) → p + length fill ≤ length b → length (over p fill b) ≡ length b
over_long b p fill h =
    omega (arith, length-append (take p b) (fill ++ drop (p + length fill) b), length-append fill (drop (p + length fill) b), length-take-le p b (omega arith), length-drop (p + length fill) b)

-- of so many bytes a part from a place on, to the end; lent, it comes back with its start filled
module _ (b : List ℕ) (size : ℕ) (long : length b ≡ size) where
  pub part_from : (place : ℕ) → take (size - place) (drop place b) ≡ drop place b
  part_from place = subst (λ (n : ℕ). take (n - place) (drop place b) ≡ drop place b) long (to_end place b)

  pub part_filled : (place : ℕ) (fill : List ℕ) → place + length fill ≤ size
      → put_mid place (size - place) b (sets (take (size - place) (drop place b)) 0 fill) ≡ over place fill b
  part_filled place fill h =
      subst (λ (n : ℕ). put_mid place (n - place) b (sets (take (n - place) (drop place b)) 0 fill) ≡ over place fill b) long
      (filled place b fill (omega arith))

-- ---- the first bytes, one by one

abbrev pub spelled_out : ℕ → List ℕ → List ℕ
spelled_out zero b = []
spelled_out (suc n) b = spelled_out n b ++ (get_or b n 0 ∷ [])

pub first_bytes : (n : ℕ) (b : List ℕ) → n ≤ length b → take n b ≡ spelled_out n b
first_bytes zero b h = refl
first_bytes (suc n) b h = take-suc b n 0 h ∙ ap (λ (l : List ℕ). l ++ (get_or b n 0 ∷ [])) (first_bytes n b (omega arith))

-- ---- bytes that stand between two places

pub record Between (b : List ℕ) (p n : ℕ) (fill : List ℕ) : Type 0 where
  pub ends : p + length fill ≡ n
  pub inside : n ≤ length b
  pub there : drop p b ≡ fill ++ drop n b

-- ---- what stands at each place

module _ {A : Type 0} where
  pub length_each : (k : ℕ) (f : ℕ → A) → length (each k f) ≡ k
  unfolding each
  length_each zero f = refl
  length_each (suc k) f = ap suc (length_each k (λ i. f (suc i)))

  pub getD_each : (k : ℕ) (f : ℕ → A) (s : ℕ) (d : A) → s < k → get_or (each k f) s d ≡ f s
  unfolding each
  getD_each zero f s d h = absurd (not-suc-le-zero h)
  getD_each (suc k) f zero d h = refl
  getD_each (suc k) f (suc s) d h = getD_each k (λ i. f (suc i)) s d (le_of_suc-le-suc h)

  -- a list is what stands at each of its places
  pub each_again : (k : ℕ) (f : ℕ → A) (l : List A) (d : A) → length l ≡ k → ((s : ℕ) → s < k → f s ≡ get_or l s d) → each k f ≡ l
  each_again k f l d long same =
      ext_get_or d (each k f) l (length_each k f ∙ sym long)
      (λ s h. let h : s < k = rw (length_each k f) at h in getD_each k f s d h ∙ same s h)

-- ---- entries

after_one : (w s : ℕ) (b : List ℕ) → drop (w * s) (drop w b) ≡ drop (w * suc s) b
after_one w s b = drop-drop (w * s) w b ∙ ap (λ (n : ℕ). drop n b) (add_comm w (w * s) ∙ sym (mul-suc w s))

module _ {A : Type 0} (f : A → List ℕ) (w : ℕ) (wide : (a : A) → length (f a) ≡ w) where
  pub length_flat : (l : List A) → length (flat f l) ≡ w * length l
  unfolding flat
  length_flat [] = sym (mul-zero w)
  length_flat (a ∷ l) = length-append (f a) (flat f l) ∙ ap₂ ◌+◌ (wide a) (length_flat l) ∙ add_comm w (w * length l) ∙ sym (mul-suc w (length l))

  flat_set : (l : List A) (i : ℕ) (t : A) → i < length l → flat f (set l i t) ≡ over (w * i) (f t) (flat f l)
  unfolding flat
  flat_set [] i t h = absurd (not-suc-le-zero h)
  flat_set (a ∷ l) zero t h =
      rw mul-zero (ap (λ (r : List ℕ). f t ++ r) (sym (drop_at (f a) (flat f l) (0 + length (f t)) (wide a ∙ sym (zero-add (length (f t)) ∙ wide t)))))
  flat_set (a ∷ l) (suc i) t h =
      ap (λ (r : List ℕ). f a ++ r) (flat_set l i t (le_of_suc-le-suc h))
      ∙ sym (over_later (f a) (flat f l) (w * i) (f t))
      ∙ ap (λ (n : ℕ). over n (f t) (f a ++ flat f l)) (ap (λ (n : ℕ). n + w * i) (wide a) ∙ add_comm w (w * i) ∙ sym (mul-suc w i))

  flat_at : (l : List A) (s : ℕ) (d : A) → s < length l → drop (w * s) (flat f l) ≡ f (get_or l s d) ++ drop (w * suc s) (flat f l)
  unfolding flat
  flat_at [] s d h = absurd (not-suc-le-zero h)
  flat_at (a ∷ l) zero d h = rw (mul-suc, mul-zero, zero-add, drop_at (f a) (flat f l) w (wide a))
  flat_at (a ∷ l) (suc s) d h =
      let past : (n : ℕ) → drop (w * suc n) (f a ++ flat f l) ≡ drop (w * n) (flat f l) =
      (λ n. sym (after_one w n (f a ++ flat f l)) ∙ ap (λ (q : List ℕ). drop (w * n) q) (drop_at (f a) (flat f l) w (wide a))) in
      past s ∙ flat_at l s d (le_of_suc-le-suc h) ∙ ap (λ (q : List ℕ). f (get_or l s d) ++ q) (sym (past (suc s)))

  -- behind p bytes, and before the rest
  module _ (a : List ℕ) (p : ℕ) (long : length a ≡ p) (l : List A) (rest : List ℕ) where
    -- as far as an entry begins
    reaches : (n : ℕ) → n ≤ length l → w * n ≤ length (flat f l)
    reaches n h = rw (length_flat l) (mul-le-mul_left w h)

    -- an entry replaced is its bytes replaced
    pub laid_set : (i : ℕ) (t : A) → i < length l → a ++ (flat f (set l i t) ++ rest) ≡ over (p + w * i) (f t) (a ++ (flat f l ++ rest))
    laid_set i t h =
        let room : w * i + length (f t) ≤ length (flat f l) = rw (wide t, ← mul-suc w i) (reaches (suc i) h) in
        ap (λ (q : List ℕ). a ++ (q ++ rest)) (flat_set l i t h)
        ∙ ap (λ (q : List ℕ). a ++ q) (sym (over_earlier (flat f l) rest (w * i) (f t) room))
        ∙ sym (over_later a (flat f l ++ rest) (w * i) (f t))
        ∙ ap (λ (n : ℕ). over (n + w * i) (f t) (a ++ (flat f l ++ rest))) long

    -- each entry's bytes stand at its place
    pub laid_at : (s : ℕ) (d : A) → s < length l → Between (a ++ (flat f l ++ rest)) (p + w * s) (p + w * suc s) (f (get_or l s d))
    laid_at s d h =
        let past : (n : ℕ) → n ≤ length l → drop (p + w * n) (a ++ (flat f l ++ rest)) ≡ drop (w * n) (flat f l) ++ rest =
        (λ n h. ap (λ (m : ℕ). drop (m + w * n) (a ++ (flat f l ++ rest))) (sym long) ∙ drop-append-add a (flat f l ++ rest) (w * n)
        ∙ drop-append-le (w * n) (flat f l) rest (reaches n h)) in
        record {
          ends = rw (wide (get_or l s d), mul-suc w s) (add_assoc p (w * s) w);
          inside = omega (arith, long, reaches (suc s) h, length-append a (flat f l ++ rest), length-append (flat f l) rest);
          there = past s (le_of_lt h)
              ∙ ap (λ (q : List ℕ). q ++ rest) (flat_at l s d h)
              ∙ append_assoc (f (get_or l s d)) (drop (w * suc s) (flat f l)) rest
              ∙ ap (λ (q : List ℕ). f (get_or l s d) ++ q) (sym (past (suc s) h));
        }

-- entries that were read at their places are laid as they stood
pub flat_each : {A : Type 0} (f : A → List ℕ) (w k : ℕ) (g : ℕ → A) (b : List ℕ)
    → ((s : ℕ) → s < k → f (g s) ≡ take w (drop (w * s) b)) → flat f (each k g) ≡ take (w * k) b
unfolding flat each
flat_each f w zero g b same = rw mul-zero
flat_each f w (suc k) g b same =
    let one : f (g 0) ≡ take w b = rw mul-zero at (same 0 (zero-lt-suc k)) in
    let later = flat_each f w k (λ i. g (suc i)) (drop w b) (λ s h. rw after_one (same (suc s) (omega arith))) in
    rw (one, later) (sym (take-add w (w * k) b) ∙ ap (λ (n : ℕ). take n b) (add_comm w (w * k) ∙ sym (mul-suc w k)))

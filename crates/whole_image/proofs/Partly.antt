-- A list whose first entries are already those of another, as a loop leaves it: one entry more, one entry's bytes more, and the end. Assumes nothing.
use Prim.Native.Nat.{ℕ, suc, ◌+◌, ◌-◌, ◌≤◌, ◌<◌}
use mathlib.Core.Path.{◌≡◌, refl, sym, ap, ap₂, ◌∙◌}
use mathlib.Core.List.{List, [], ◌∷◌, ◌++◌, append-nil, append_assoc}
use native.Mathlib.Omega.{arith}
use native.Mathlib.Numerals.{add-one}
use lib.ListN.{length, take, drop, get_or, set, length-append, length-drop, length-set, drop_of_length-le, take-append-drop}
use lib.Seq.{length-take-le, take_all, take-suc, take-add, take_at, take-append_seam, drop_at, drop-cons, drop-drop, set_at, append_snoc, sets}
use borrow.Rule.Slice.PartMut.{put_mid}
use Rattle.basics.specs.Bytes.{over}
use Rattle.image.proofs.Lists.{Between, part_filled}

-- the list with its first n entries from the target
abbrev pub partly : {A : Type 0} → ℕ → List A → List A → List A
partly n target l = take n target ++ drop n l

module _ {A : Type 0} (target l : List A) where
  pub partly_long : (n : ℕ) → n ≤ length target → n ≤ length l → length (partly n target l) ≡ length l
  partly_long n t h =
      omega (arith, length-append (take n target) (drop n l), length-take-le n target t, length-drop n l)

  pub partly_all : (n : ℕ) → length target ≤ n → length l ≤ n → partly n target l ≡ target
  partly_all n t h =
      ap₂ (λ (x y : List A). x ++ y) (take_all n target t) (drop_of_length-le l {i = n} h) ∙ append-nil target

  pub partly_front : (n : ℕ) → n ≤ length target → take n (partly n target l) ≡ take n target
  partly_front n t = take_at (take n target) (drop n l) n (length-take-le n target t)

  -- the next entry stored
  pub partly_set : (i : ℕ) (d : A) → i < length target → i < length l → set (partly i target l) i (get_or target i d) ≡ partly (i + 1) target l
  partly_set i d t h =
      rw (add-one, take-suc target i d t, append_snoc (take i target) (get_or target i d) (drop (suc i) l), drop-cons l i d h)
      (set_at (take i target) (get_or l i d) (drop (suc i) l) (get_or target i d) i (length-take-le i target (omega arith)))

-- the next bytes stored
pub partly_over : (target l fill rest : List ℕ) (p : ℕ) → p ≤ length target → drop p target ≡ fill ++ rest
    → over p fill (partly p target l) ≡ partly (p + length fill) target l
partly_over target l fill rest p h e =
    let past : drop p (partly p target l) ≡ drop p l = drop_at (take p target) (drop p l) p (length-take-le p target h) in
    let back : drop (p + length fill) (partly p target l) ≡ drop (p + length fill) l =
    sym (drop-drop (length fill) p (partly p target l)) ∙ ap (λ (q : List ℕ). drop (length fill) q) past ∙ drop-drop (length fill) p l in
    let more : take (p + length fill) target ≡ take p target ++ fill =
    take-add p (length fill) target ∙ ap (λ (q : List ℕ). take p target ++ q) (ap (λ (q : List ℕ). take (length fill) q) e ∙ take-append_seam fill rest) in
    ap₂ (λ (x y : List ℕ). x ++ (fill ++ y)) (partly_front target l p h) back
    ∙ sym (append_assoc (take p target) fill (drop (p + length fill) l))
    ∙ ap (λ (q : List ℕ). q ++ drop (p + length fill) l) (sym more)

-- a buffer of so many bytes that is the target as far as n
pub record Stored (target l : List ℕ) (size n : ℕ) (b : List ℕ) : Type 0 where
  pub long : length b ≡ size
  pub so_far : b ≡ partly n target l

-- before a loop that goes on from n
pub stored_from : {target b : List ℕ} {size n : ℕ} → length b ≡ size → take n b ≡ take n target → Stored target b size n b
stored_from {target} {b} {size} {n} long same = record { long = long; so_far = rw (← same) (sym (take-append-drop n b)) }

pub stored_front : {target l b : List ℕ} {size n : ℕ} → n ≤ length target → Stored target l size n b → take n b ≡ take n target
stored_front {target} {l} {b} {size} {n} h so = ap (take n) so.so_far ∙ partly_front target l n h

pub stored_whole : {target l b : List ℕ} {size : ℕ} → length target ≡ size → length l ≡ size → Stored target l size size b → b ≡ target
stored_whole {target} {l} {b} {size} t h so = so.so_far ∙ partly_all target l size (omega arith) (omega arith)

-- the next bytes stored by one to whom the part from there on was lent
module _ (target l : List ℕ) (size : ℕ) (t : length target ≡ size) (h : length l ≡ size) where
  pub stored_more : {p n : ℕ} {fill b part : List ℕ} → Between target p n fill → Stored target l size p b
      → part ≡ sets (take (size - p) (drop p b)) 0 fill → Stored target l size n (put_mid p (size - p) b part)
  stored_more {p} {n} {fill} {b} {part} between so e =
      let whole : put_mid p (size - p) b part ≡ partly n target l =
      rw e
      (part_filled b size so.long p fill (omega arith) ∙ ap (over p fill) so.so_far ∙ partly_over target l fill (drop n target) p (omega arith) between.there
      ∙ ap (λ (k : ℕ). partly k target l) between.ends) in
      record { long = ap length whole ∙ partly_long target l n (omega arith) (omega arith) ∙ h; so_far = whole }

-- the first three bytes stored
pub three_set : (b : List ℕ) (x y z : ℕ) → 3 ≤ length b → set (set (set b 0 x) 1 y) 2 z ≡ x ∷ y ∷ z ∷ drop 3 b
three_set [] x y z h = absurd (omega arith)
three_set (i ∷ []) x y z h = absurd (omega arith)
three_set (i ∷ j ∷ []) x y z h = absurd (omega arith)
three_set (i ∷ j ∷ k ∷ b) x y z h = refl

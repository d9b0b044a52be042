-- A list whose front was filled has the bytes of the next part after that front. Assumes nothing.
use Rattle.std.proofs.Common.{◌≡◌, ℕ, ◌+◌, ◌≤◌, List, ◌++◌, length, take, drop, sym, ap, ◌∙◌, le_refl, drop_at, length-take-le}
use Rattle.std.proofs.lemmas.Slice.{take-put_mid_below}
use borrow.Rule.Slice.PartMut.{put_mid, post_of}
use lib.Seq.{take-add, take-append-le}

module _ (a k n : ℕ) (xs ys : List ℕ) (within : a ≤ length xs) (fits : n ≤ length ys) where
  abbrev after : List ℕ
  after = put_mid a k xs ys

  part : take n (drop a after) ≡ take n ys
  part =
      ap (take n) (drop_at (take a xs) (ys ++ post_of a k xs) a (length-take-le a xs within)) ∙ take-append-le n ys (post_of a k xs) fits

  pub joined : take a xs ++ take n ys ≡ take (a + n) after
  joined =
      ap (λ l. l ++ take n ys) (sym (take-put_mid_below _ _ _ _ _ (le_refl _) within))
      ∙ ap (λ l. take a after ++ l) (sym part) ∙ sym (take-add a n after)

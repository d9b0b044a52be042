-- What a caller reads off the answer (`include/dagmuize.h`) for a buffer of fewer than 2^56 bytes. Assumes nothing.
use Rattle.std.specs.Prelude.{ℕ, ◌/◌, ◌%◌, ◌^◌, ◌<◌, ◌≡◌, List, length}
use Rattle.merging.specs.Merge.{merge_number, merge_count}
use Rattle.merging_exports.specs.Exports.{merge_answer}

module _ (first second before : List ℕ) where
  abbrev pub number : ℕ
  number = merge_answer first second (length before) / 72057594037927936

  abbrev pub count : ℕ
  count = merge_answer first second (length before) % 72057594037927936

  pub record MergeTold : Type 0 where
    -- "the number in the highest byte": whatever the buffer
    pub numbers : number ≡ merge_number first second (length before)
    -- "and the count in the seven below it"
    pub counts : length before < 72057594037927936 → count ≡ merge_count first second (length before)
    pub seven_bytes : ◌≡◌ {A = ℕ} (2 ^ 56) 72057594037927936

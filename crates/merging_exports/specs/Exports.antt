-- MERGE as it is called from other languages: an answer in one number. Assumes nothing.
use Rattle.std.specs.Prelude.{ℕ, ◌+◌, ◌*◌, ◌%◌, List}
use Rattle.merging.specs.Merge.{merge_number, merge_count}

-- 2^56 times the number, and the count, of which only the last seven bytes fit: no machine has a buffer of 2^56 bytes
unfoldable pub merge_answer : (first second : List ℕ) → (room : ℕ) → ℕ
merge_answer first second room = merge_number first second room * 72057594037927936 + merge_count first second room % 72057594037927936

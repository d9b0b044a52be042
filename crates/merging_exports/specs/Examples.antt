-- MERGE as other languages call it, byte by byte and number by number (`include/dagmuize.h`). Assumes nothing.
use Rattle.std.specs.Prelude.{ℕ, ◌≡◌, List, [], ◌∷◌, replicate}
use Rattle.merging.specs.Merge.{merge_buffer}
use Rattle.merging_exports.specs.Exports.{merge_answer}

-- two stations by station: CLAIM 0 5 and LOSE 0; a note and CLAIM 1 6; LOSE 0 alone, and three stations
abbrev first : List ℕ
first = 0x01 ∷ 0 ∷ 2 ∷ 2 ∷ 1 ∷ 0x10 ∷ 0 ∷ 5 ∷ 0 ∷ 0 ∷ 0 ∷ 0 ∷ 5 ∷ 0x13 ∷ 0 ∷ 1 ∷ 0 ∷ []

abbrev second : List ℕ
second = 0x01 ∷ 0 ∷ 2 ∷ 2 ∷ 1 ∷ 0x30 ∷ 0 ∷ 0 ∷ 0x10 ∷ 0 ∷ 5 ∷ 1 ∷ 0 ∷ 0 ∷ 0 ∷ 6 ∷ []

abbrev losing : List ℕ
losing = 0x01 ∷ 0 ∷ 2 ∷ 2 ∷ 1 ∷ 0x13 ∷ 0 ∷ 1 ∷ 0 ∷ []

abbrev three : List ℕ
three = 0x01 ∷ 0 ∷ 2 ∷ 3 ∷ 1 ∷ []

pub record MergeAnswered : Type 0 where
  -- accepted: the bytes written, and nothing behind them
  pub twenty_five : merge_answer first second 26 ≡ 25
  pub written : merge_buffer first second (replicate 26 9)
      ≡ 0x01 ∷ 0 ∷ 2 ∷ 2 ∷ 1 ∷ 0x10 ∷ 0 ∷ 5 ∷ 0 ∷ 0 ∷ 0 ∷ 0 ∷ 5 ∷ 0x13 ∷ 0 ∷ 1 ∷ 0 ∷ 0x10 ∷ 0 ∷ 5 ∷ 1 ∷ 0 ∷ 0 ∷ 0 ∷ 6 ∷ 9 ∷ []
  pub just_room : merge_answer first second 25 ≡ 25
  -- refused: 2^56 times the number, 30, 20, 60, 61 and 62
  pub no_room : merge_answer first second 24 ≡ 2161727821137838080
  pub no_room_left : merge_buffer first second (replicate 24 9) ≡ replicate 24 9
  pub no_log : merge_answer [] second 26 ≡ 1441151880758558720
  pub no_second_log : merge_answer three [] 26 ≡ 1441151880758558720
  pub other_opening : merge_answer first three 26 ≡ 4323455642275676160
  pub in_both : merge_answer first losing 26 ≡ 4395513236313604096
  pub no_order : merge_answer first (0x01 ∷ 0 ∷ 2 ∷ 2 ∷ 1 ∷ 0x12 ∷ 0 ∷ 1 ∷ 1 ∷ []) 26 ≡ 4467570830351532032
  pub in_both_left : merge_buffer first losing (replicate 3 9) ≡ replicate 3 9

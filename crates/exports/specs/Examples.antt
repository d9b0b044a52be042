-- PUT as other languages call it, byte by byte and number by number (`include/dagmuize.h`). Assumes nothing.
use Rattle.std.specs.Prelude.{ℕ, ◌≡◌, List, [], ◌∷◌, replicate}
use Rattle.field.specs.Table.{row_with}
use Rattle.exports.specs.Exports.{put_answer, put_after}

-- the field with this tag, x = 1, y = 2, v = 0x01020304 and the note 7, at place 1 of ten nines: the buffer afterwards, and the answer
abbrev pub written : ℕ → List ℕ
written tag = put_after (row_with tag) 1 2 0x01020304 (7 ∷ []) (replicate 10 9) 1

abbrev pub answered : ℕ → ℕ
answered tag = put_answer (row_with tag) 1 2 0x01020304 (7 ∷ []) (replicate 10 9) 1

-- "x and y are the field's one-byte numbers in the table's order, v a claim, note a note's body"
pub record PutShown : Type 0 where
  pub opening : written 0x01 ≡ 9 ∷ 0x01 ∷ 0 ∷ 2 ∷ 1 ∷ 2 ∷ 9 ∷ 9 ∷ 9 ∷ 9 ∷ []
  pub claim : written 0x10 ≡ 9 ∷ 0x10 ∷ 0 ∷ 5 ∷ 1 ∷ 1 ∷ 2 ∷ 3 ∷ 4 ∷ 9 ∷ []
  pub deliver : written 0x11 ≡ 9 ∷ 0x11 ∷ 0 ∷ 2 ∷ 1 ∷ 2 ∷ 9 ∷ 9 ∷ 9 ∷ 9 ∷ []
  pub step : written 0x12 ≡ 9 ∷ 0x12 ∷ 0 ∷ 1 ∷ 1 ∷ 9 ∷ 9 ∷ 9 ∷ 9 ∷ 9 ∷ []
  pub lose : written 0x13 ≡ 9 ∷ 0x13 ∷ 0 ∷ 1 ∷ 1 ∷ 9 ∷ 9 ∷ 9 ∷ 9 ∷ 9 ∷ []
  pub answer : written 0x14 ≡ 9 ∷ 0x14 ∷ 0 ∷ 2 ∷ 1 ∷ 2 ∷ 9 ∷ 9 ∷ 9 ∷ 9 ∷ []
  pub note : written 0x30 ≡ 9 ∷ 0x30 ∷ 0 ∷ 1 ∷ 7 ∷ 9 ∷ 9 ∷ 9 ∷ 9 ∷ 9 ∷ []
  pub unknown : written 0x02 ≡ replicate 10 9
  -- accepted: the bytes written
  pub opening_bytes : answered 0x01 ≡ 5
  pub claim_bytes : answered 0x10 ≡ 8
  pub step_bytes : answered 0x12 ≡ 4
  pub note_bytes : answered 0x30 ≡ 4
  -- refused: 65,536 times 21 for a tag that is not in the table, 22 for a long note, 30 for no room
  pub unknown_tag : answered 0x02 ≡ 1376256
  pub long_note : put_answer (row_with 0x30) 0 0 0 (replicate 65 7) (replicate 99 9) 0 ≡ 1441792
  pub no_room : put_answer (row_with 0x12) 1 0 0 [] (replicate 3 9) 0 ≡ 1966080
  pub no_room_left : put_after (row_with 0x12) 1 0 0 [] (replicate 3 9) 0 ≡ replicate 3 9

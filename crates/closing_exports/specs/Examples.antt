-- CLOSE as other languages call it, byte by byte and number by number (`include/dagmuize.h`). Assumes nothing.
use Rattle.std.specs.Prelude.{ℕ, ◌≡◌, List, [], ◌∷◌, replicate}
use Rattle.closing_exports.specs.Exports.{close_answer, close_after}

-- one station by station, which put in claim 5; then the same cut inside its last field
abbrev log : List ℕ
log = 0x01 ∷ 0 ∷ 2 ∷ 1 ∷ 1 ∷ 0x10 ∷ 0 ∷ 5 ∷ 0 ∷ 0 ∷ 0 ∷ 0 ∷ 5 ∷ []

abbrev cut : List ℕ
cut = 0x01 ∷ 0 ∷ 2 ∷ 1 ∷ 1 ∷ 0x10 ∷ 0 ∷ 5 ∷ 0 ∷ 0 ∷ []

-- into so many nines, with limit 1
abbrev pub answered : (log : List ℕ) → (preferred room : ℕ) → ℕ
answered b preferred room = close_answer b 1 preferred room

abbrev pub left : (log : List ℕ) → (preferred room : ℕ) → List ℕ
left b preferred room = close_after b 1 preferred (replicate room 9)

pub record CloseAnswered : Type 0 where
  -- accepted: the bytes written, DELIVER 0, 0 and STEP 0
  pub nine_bytes : answered log 1 10 ≡ 9
  pub written : left log 1 10 ≡ 0x11 ∷ 0 ∷ 2 ∷ 0 ∷ 0 ∷ 0x12 ∷ 0 ∷ 1 ∷ 0 ∷ 9 ∷ []
  pub other_bit : left log 0 10 ≡ left log 1 10
  pub just_room : answered log 1 9 ≡ 9
  -- refused: 4,294,967,296 times 30 for no room, 10 for no bit, and RUN's status where the log stops early, before either; no byte is written
  pub no_room : answered log 1 8 ≡ 128849018880
  pub no_room_left : left log 1 8 ≡ replicate 8 9
  pub no_bit : answered log 2 10 ≡ 42949672960
  pub no_bit_first : answered log 2 0 ≡ 42949672960
  pub no_bit_left : left log 2 10 ≡ replicate 10 9
  pub stops_early : answered cut 2 0 ≡ 98784247808
  pub stops_early_left : left cut 1 10 ≡ replicate 10 9
  pub limit_met : close_answer log 0 1 10 ≡ 111669149696
  pub no_log : answered [] 1 10 ≡ 85899345920

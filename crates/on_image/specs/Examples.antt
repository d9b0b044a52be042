-- Events and LOOKs on an image byte by byte, in literal numbers, so that a definition that changes together with its code is noticed here.
-- Assumes nothing.
use Rattle.std.specs.Prelude.{ℕ, ◌*◌, ◌≡◌, true, false, List, [], ◌∷◌, replicate, set}
use Rattle.consensus.specs.Events.{claim, deliver, step, lose, answer}
use Rattle.settlement.specs.Look.{Standing}
use Rattle.settlement.specs.Tally.{Tally}
use Rattle.on_image.specs.Events.{image_number, image_after}
use Rattle.on_image.specs.Look.{looked_on, standing_bytes, standing_word, all_answer, all_after}
use Rattle.on_image.specs.Tally.{tally_bytes, tally_answer, tally_after}

-- the image of two stations by station that OPEN leaves, and what CLAIM 1, 0x01020304 leaves of it: station 1 begins at 23
abbrev pub two : List ℕ
two = 3 ∷ 2 ∷ 1 ∷ replicate 1280 0

abbrev pub claimed : List ℕ
claimed = set (set (set (set (set two 23 1) 31 1) 32 2) 33 3) 34 4

-- a station that decided 0x01020304 after five votes
abbrev pub decided : Standing
decided = record { number = 0; decided = true; claim = 0x01020304; votes = 5 }

-- two stations by claim; station 1 has decided 7 in round 3: stage at 23, round at 26, decision from 39 on
abbrev pub one_decided : List ℕ
one_decided = set (set (set (3 ∷ 2 ∷ 2 ∷ replicate 1280 0) 23 7) 26 3) 42 7

-- station 1 votes in ballot 0, its cursor on itself: bit 0 of 1 is cast, and station 1 is in the set of 1, whose last byte is at 650
abbrev pub voting : List ℕ
voting = set (set two 23 2) 25 1

abbrev pub voted : List ℕ
voted = set (set voting 23 3) 650 2

-- the answer 1 stands in ballot 0, whose marks are at 1155, and nobody cast it
abbrev pub uncast : List ℕ
uncast = set (set two 1155 1) 1156 1

pub record LooksShown : Type 0 where
  -- number, decided, votes, 0, and the claim high byte first; the word is those bytes in one number
  pub bytes : standing_bytes decided ≡ 0 ∷ 1 ∷ 5 ∷ 0 ∷ 1 ∷ 2 ∷ 3 ∷ 4 ∷ []
  pub word : standing_word decided ≡ 0x0001050001020304
  pub refused_word : standing_word (looked_on [] 0) ≡ 0x5000000000000000
  pub nobody : standing_word (looked_on two 2) ≡ 0x0100000000000000
  pub shown : standing_word (looked_on one_decided 1) ≡ 0x0001080000000007
  -- all at once: eight bytes a station from the buffer's start on, every other byte as it was
  pub all : all_after one_decided (replicate 18 9)
      ≡ 0 ∷ 0 ∷ 0 ∷ 0 ∷ 0 ∷ 0 ∷ 0 ∷ 0 ∷ 0 ∷ 1 ∷ 8 ∷ 0 ∷ 0 ∷ 0 ∷ 0 ∷ 7 ∷ 9 ∷ 9 ∷ []
  pub all_count : all_answer one_decided (replicate 18 9) ≡ 16
  pub all_of_32 : all_answer (3 ∷ 32 ∷ 1 ∷ replicate 1280 0) (replicate 256 9) ≡ 256
  pub just_room : all_answer one_decided (replicate 16 9) ≡ 16
  pub nobody_there : all_answer (3 ∷ 0 ∷ 1 ∷ replicate 1280 0) [] ≡ 0
  pub no_room : all_answer one_decided (replicate 15 9) ≡ 30 * 65536
  pub no_room_left : all_after one_decided (replicate 15 9) ≡ replicate 15 9
  pub all_80 : all_answer [] [] ≡ 80 * 65536
  pub all_42 : all_answer (set two 1 33) [] ≡ 42 * 65536

pub record EventsShown : Type 0 where
  -- 80 and 81 before all else, and no byte is changed
  pub short : image_number [] (lose 0) ≡ 80
  pub short_left : image_after (7 ∷ []) (lose 0) ≡ 7 ∷ []
  pub older : image_number (set two 0 2) (lose 9) ≡ 81
  -- 42, though there is no station 9 either
  pub no_stage : image_number (set two 3 8) (lose 9) ≡ 42
  pub no_rule : image_number (set two 2 3) (lose 9) ≡ 42
  pub no_station : image_number two (lose 2) ≡ 1
  -- CLAIM: the stage and four bytes; LOSE: the mark; DELIVER: bit 1 of held
  pub claim_number : image_number two (claim 1 0x01020304) ≡ 0
  pub claim_left : image_after two (claim 1 0x01020304) ≡ claimed
  pub lose_left : image_after two (lose 0) ≡ set two 4 1
  pub deliver_left : image_after claimed (deliver 1 0) ≡ set claimed 10 2
  -- refused: every byte as it was
  pub step_number : image_number claimed (step 1) ≡ 8
  pub step_left : image_after claimed (step 1) ≡ claimed
  pub answer_number : image_number two (answer 0 1) ≡ 12
  -- a vote: the stage, and the voter in the set of the bit; its ANSWER: two marks
  pub vote_left : image_after voting (step 1) ≡ voted
  pub answer_left : image_after voted (answer 0 1) ≡ set (set voted 1155 1) 1156 1
  -- the bit that stands again, though nobody cast it: every byte as it was; the other bit: 11
  pub again_number : image_number uncast (answer 0 1) ≡ 0
  pub again_left : image_after uncast (answer 0 1) ≡ uncast
  pub other_number : image_number uncast (answer 0 0) ≡ 11

-- a look at a ballot whose parts all differ
abbrev pub some_tally : Tally
some_tally = record { number = 0; cast0 = 0x01020304; cast1 = 0x05060708; count0 = 9; count1 = 10; answered = true; answer = false }

pub record TalliesShown : Type 0 where
  -- the stations that cast 0 and those that cast 1, high byte first; how many; answered, the answer
  pub bytes : tally_bytes some_tally ≡ 1 ∷ 2 ∷ 3 ∷ 4 ∷ 5 ∷ 6 ∷ 7 ∷ 8 ∷ 9 ∷ 10 ∷ 1 ∷ 0 ∷ []
  pub answer : tally_bytes (record { number = 0; cast0 = 4294967295; cast1 = 0; count0 = 32; count1 = 0; answered = true; answer = true })
      ≡ 255 ∷ 255 ∷ 255 ∷ 255 ∷ 0 ∷ 0 ∷ 0 ∷ 0 ∷ 32 ∷ 0 ∷ 1 ∷ 1 ∷ []
  -- 12 bytes from the buffer's start on, every other byte as it was
  pub shown : tally_after voted 0 (replicate 14 9) ≡ 0 ∷ 0 ∷ 0 ∷ 0 ∷ 0 ∷ 0 ∷ 0 ∷ 2 ∷ 0 ∷ 1 ∷ 0 ∷ 0 ∷ 9 ∷ 9 ∷ []
  pub count : tally_answer voted 0 (replicate 14 9) ≡ 12
  pub just_room : tally_answer voted 0 (replicate 12 9) ≡ 12
  pub no_room : tally_answer voted 0 (replicate 11 9) ≡ 30 * 65536
  pub no_room_left : tally_after voted 0 (replicate 11 9) ≡ replicate 11 9
  -- refused: 80, 81, 42 before 9, 9 before 30, and no byte is written
  pub short : tally_answer [] 0 [] ≡ 80 * 65536
  pub older : tally_answer (set two 0 2) 1 [] ≡ 81 * 65536
  pub no_rule : tally_answer (set voted 2 3) 1 [] ≡ 42 * 65536
  pub no_rule_left : tally_after (set voted 2 3) 0 (replicate 13 9) ≡ replicate 13 9
  pub no_ballot : tally_answer two 1 [] ≡ 9 * 65536
  pub no_ballot_left : tally_after two 1 (replicate 13 9) ≡ replicate 13 9

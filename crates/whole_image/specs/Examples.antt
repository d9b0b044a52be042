-- What is stored and what is reported, in literal numbers and letters, so that a definition that changes together with its code is noticed here.
-- Assumes nothing.
use Rattle.std.specs.Prelude.{◌≡◌, [], ◌∷◌, replicate, set}
use Rattle.settlement.specs.Events.{blank, opened}
use Rattle.report.specs.Quoted.{bytes_of}
use Rattle.on_image.specs.Examples.{two, one_decided}
use Rattle.whole_image.specs.Whole.{read_record, stored_number, stored, image_text}

pub record WholeShown : Type 0 where
  -- 80 before the number of what made the record, and no byte is stored
  pub short : stored_number [] 40 ≡ 80
  pub short_left : stored (7 ∷ []) blank ≡ 7 ∷ []
  pub long : stored_number (replicate 1284 9) 0 ≡ 80
  -- whatever stood there is written over; refused, the blank settlement's image
  pub refused : stored_number (replicate 1283 9) (opened 33 3).number ≡ 40
  pub refused_left : stored (replicate 1283 9) (opened 33 3).settlement ≡ 3 ∷ 0 ∷ 1 ∷ replicate 1280 0
  pub opened_left : stored (replicate 1283 9) (opened 2 1).settlement ≡ two
  -- what is no image is read as the blank settlement, with its number
  pub unread : read_record [] ≡ record { number = 80; settlement = blank }
  -- the report: the caller's events, bytes and status; of what is refused the blank one's, with that number alone
  pub text : image_text one_decided 15 77 26
      ≡ bytes_of "stations 2 rule 2 ballots 64 events 15 taken 77 status 26\n0 idle - votes 0 live\n1 decided 7 votes 8 live\n"
  pub text_80 : image_text [] 15 77 26 ≡ bytes_of "stations 0 rule 1 ballots 0 events 0 taken 0 status 80\n"
  pub text_81 : image_text (replicate 1283 9) 15 77 26 ≡ bytes_of "stations 0 rule 1 ballots 0 events 0 taken 0 status 81\n"
  pub text_42 : image_text (set one_decided 2 3) 15 77 26 ≡ bytes_of "stations 0 rule 1 ballots 0 events 0 taken 0 status 42\n"

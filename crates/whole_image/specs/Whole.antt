-- A whole record read off an image, and stored as one: OPEN, the settlement that a log plays to, and the report. Assumes nothing.
use Rattle.std.specs.Prelude.{ℕ, ◌≡◌, true, false, cond, List, eqb, length}
use Rattle.basics.specs.Tests.{refuse}
use Rattle.settlement.specs.declared.record.Settlement.{Settlement}
use Rattle.settlement.specs.Outcome.{Outcome}
use Rattle.settlement.specs.Fault.{fault}
use Rattle.settlement.specs.Events.{outcome, blank}
use Rattle.report.specs.Text.{text}
use Rattle.image.specs.Image.{image_of, record_in, other_length, no_image, tested_first, RecordFits}

-- the record of an image, and 0; where the bytes are none, their number and the blank settlement
unfoldable pub read_record : List ℕ → Outcome
read_record b = outcome (no_image b) (record_in b) blank

-- a record stored as an image in a lent buffer, whatever stood there, and the number of what made it; in a buffer of another length nothing, and 80
unfoldable pub stored_number : List ℕ → ℕ → ℕ
stored_number b number = refuse (other_length b) 80 number

unfoldable pub stored : List ℕ → Settlement → List ℕ
stored b r = cond (other_length b) b (image_of r)

-- the report of an image: where it is none, or its record is outside its ranges, the text of the blank settlement with that number as status
unfoldable pub report_number : List ℕ → ℕ
report_number b = tested_first b 0

unfoldable pub image_text : List ℕ → (events taken status : ℕ) → List ℕ
image_text b events taken status =
    cond (eqb (report_number b) 0) (text (record_in b) events taken status) (text blank 0 0 (report_number b))

-- on any bytes, and on the image of any record whose numbers fit, made-up ones included
pub record WholeLaws : Type 0 where
  -- into 1,283 bytes a record is stored, whatever stands there; into any other length nothing is
  pub stored_there : (b : List ℕ) → length b ≡ 1283 → (r : Settlement) (number : ℕ) → (stored b r ≡ image_of r) × (stored_number b number ≡ number)
  pub another_length : (b : List ℕ) → (length b ≡ 1283 → ⊥) → (r : Settlement) (number : ℕ) → (stored b r ≡ b) × (stored_number b number ≡ 80)
  -- a record is read off its image, and where the bytes are none the blank settlement
  pub read : (r : Settlement) → RecordFits r → read_record (image_of r) ≡ record { number = 0; settlement = r }
  pub read_none : (b : List ℕ) → (no_image b ≡ 0 → ⊥) → read_record b ≡ record { number = no_image b; settlement = blank }
  -- the report is that of the record; where it is outside its ranges, or the bytes are no image, that of the blank settlement
  pub reported : (r : Settlement) → RecordFits r → fault r ≡ false → (events taken status : ℕ) → image_text (image_of r) events taken status ≡ text r events taken status
  pub reported_42 : (r : Settlement) → RecordFits r → fault r ≡ true → (events taken status : ℕ) → image_text (image_of r) events taken status ≡ text blank 0 0 42
  pub reported_none : (b : List ℕ) → (no_image b ≡ 0 → ⊥) → (events taken status : ℕ) → image_text b events taken status ≡ text blank 0 0 (no_image b)

-- What is stored, read and reported, by the tests that each definition makes. Assumes nothing.
use Prim.Native.Nat.{ℕ}
use mathlib.Core.Path.{◌≡◌}
use mathlib.Core.Bool.{true, false}
use mathlib.Core.List.{List}
use borrow.Author.Tests.{ne_eqb}
use lib.ListN.{length}
use Rattle.settlement.specs.declared.record.Settlement.{Settlement}
use Rattle.settlement.specs.Fault.{fault}
use Rattle.settlement.specs.Events.{blank, outcome}
use Rattle.report.specs.Text.{text}
use Rattle.image.specs.Image.{image_of, no_image, RecordFits}
use Rattle.image.proofs.Image.{an_image, record_again}
use Rattle.whole_image.specs.Whole.{read_record, stored_number, stored, report_number, image_text, WholeLaws}

module _ (b : List ℕ) (r : Settlement) (number : ℕ) where
  pub stored_there : length b ≡ 1283 → (stored b r ≡ image_of r) × (stored_number b number ≡ number)
  unfolding stored stored_number
  stored_there size = (rw size, rw size)

  another_length : (length b ≡ 1283 → ⊥) → (stored b r ≡ b) × (stored_number b number ≡ 80)
  unfolding stored stored_number
  another_length other = (rw (ne_eqb (length b) 1283 other), rw (ne_eqb (length b) 1283 other))

read_none : (b : List ℕ) → (no_image b ≡ 0 → ⊥) → read_record b ≡ record { number = no_image b; settlement = blank }
unfolding read_record outcome
read_none b n = rw (ne_eqb (no_image b) 0 n)

module _ (r : Settlement) (fits : RecordFits r) where
  there : no_image (image_of r) ≡ 0
  there = an_image r fits.station_entries fits.ballot_entries

  read : read_record (image_of r) ≡ record { number = 0; settlement = r }
  unfolding read_record outcome
  read = rw (there, record_again r fits)

  pub reported : fault r ≡ false → (events taken status : ℕ) → image_text (image_of r) events taken status ≡ text r events taken status
  unfolding image_text report_number
  reported passes events taken status = rw (record_again r fits, there, passes)

  reported_42 : fault r ≡ true → (events taken status : ℕ) → image_text (image_of r) events taken status ≡ text blank 0 0 42
  unfolding image_text report_number
  reported_42 met events taken status = rw (record_again r fits, there, met)

reported_none : (b : List ℕ) → (no_image b ≡ 0 → ⊥) → (events taken status : ℕ) → image_text b events taken status ≡ text blank 0 0 (no_image b)
unfolding image_text report_number
reported_none b n events taken status = rw (ne_eqb (no_image b) 0 n, ne_eqb (no_image b) 0 n)

pub whole_laws : WholeLaws
whole_laws = record {
  stored_there = λ b size r number. stored_there b r number size;
  another_length = λ b other r number. another_length b r number other;
  read = read;
  read_none = read_none;
  reported = reported;
  reported_42 = reported_42;
  reported_none = reported_none;
}

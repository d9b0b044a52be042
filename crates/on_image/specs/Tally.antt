-- LOOK at a ballot of an image (document 02, A.2): what it shows goes into a buffer that the caller lends. Assumes nothing.
use Rattle.std.specs.Prelude.{ℕ, ◌+◌, ◌*◌, ◌≤◌, ◌<◌, ◌≡◌, cond, List, [], ◌∷◌, ◌++◌, eqb, ltb, length, take, drop}
use Rattle.basics.specs.Bytes.{byte, four_bytes, four_from, over}
use Rattle.basics.specs.Tests.{refuse}
use Rattle.entry.specs.Entries.{no_ballot}
use Rattle.settlement.specs.Tally.{Tally, tallied}
use Rattle.image.specs.Entries.{mark_byte}
use Rattle.image.specs.Image.{record_in, image_first, tested_first}

-- what a look shows in 12 bytes: the stations that cast 0 and those that cast 1, four bytes each, high byte first; how many are in each; whether
-- there is an answer, and the answer
unfoldable pub tally_bytes : Tally → List ℕ
tally_bytes t =
    four_bytes t.cast0 ++ four_bytes t.cast1 ++ (t.count0 ∷ t.count1 ∷ mark_byte t.answered ∷ mark_byte t.answer ∷ [])

-- the bytes and the record first; then 9, and 30 for less room than 12 bytes
unfoldable pub tally_number : List ℕ → ℕ → List ℕ → ℕ
tally_number b k out =
    tested_first b (refuse (no_ballot (record_in b).count (record_in b).rule k) 9 (refuse (ltb (length out) 12) 30 0))

-- refused, no byte is written and the count is 0
unfoldable pub tally_after : List ℕ → ℕ → List ℕ → List ℕ
tally_after b k out = cond (eqb (tally_number b k out) 0) (over 0 (tally_bytes (tallied (record_in b) k)) out) out

-- 65,536 times the number, and the bytes written
unfoldable pub tally_answer : List ℕ → ℕ → List ℕ → ℕ
tally_answer b k out = 65536 * tally_number b k out + cond (eqb (tally_number b k out) 0) 12 0

-- the number of the look by value at the ballot k; what is no image has its own
abbrev pub by_value : List ℕ → ℕ → ℕ
by_value b k = image_first b (tallied (record_in b) k).number

module _ (b : List ℕ) (k : ℕ) (out : List ℕ) where
  pub record TalliesOf : Type 0 where
    -- the number is that of the look by value; where that is 0, 30 for less room than 12 bytes
    pub refused_first : (by_value b k ≡ 0 → ⊥) → tally_number b k out ≡ by_value b k
    pub no_room : by_value b k ≡ 0 → length out < 12 → tally_number b k out ≡ 30
    pub accepted : by_value b k ≡ 0 → 12 ≤ length out → tally_number b k out ≡ 0
    -- accepted: 12 bytes, which are what the look by value shows, and the others stay
    pub count : tally_number b k out ≡ 0 → tally_answer b k out ≡ 12
    pub shown : tally_number b k out ≡ 0 → take 12 (tally_after b k out) ≡ tally_bytes (tallied (record_in b) k)
    pub stays : tally_number b k out ≡ 0 → drop 12 (tally_after b k out) ≡ drop 12 out
    -- refused: the number alone, and every byte stays
    pub refused : (tally_number b k out ≡ 0 → ⊥) → tally_answer b k out ≡ 65536 * tally_number b k out
    pub refused_stays : (tally_number b k out ≡ 0 → ⊥) → tally_after b k out ≡ out

-- any bytes, any ballot, any buffer
abbrev pub Tallies : Type 0
Tallies = (b : List ℕ) (k : ℕ) (out : List ℕ) → TalliesOf b k out

-- a look whose numbers fit is read off its bytes
pub record TallyAgain (t : Tally) : Type 0 where
  pub cast0 : t.cast0 < 4294967296 → four_from (tally_bytes t) 0 ≡ t.cast0
  pub cast1 : t.cast1 < 4294967296 → four_from (tally_bytes t) 4 ≡ t.cast1
  pub count0 : byte (tally_bytes t) 8 ≡ t.count0
  pub count1 : byte (tally_bytes t) 9 ≡ t.count1
  pub answered : byte (tally_bytes t) 10 ≡ cond t.answered 1 0
  pub answer : byte (tally_bytes t) 11 ≡ cond t.answer 1 0

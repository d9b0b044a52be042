-- LOOK at one station of an image, and at all of them at once. Assumes nothing.
use Rattle.std.specs.Prelude.{ℕ, zero, suc, ◌+◌, ◌*◌, ◌/◌, ◌%◌, ◌≤◌, ◌<◌, ◌≡◌, cond, List, [], ◌∷◌, ◌++◌, eqb, ltb, length, take, drop}
use Rattle.basics.specs.Bytes.{four_bytes, four_from, over}
use Rattle.basics.specs.Tests.{refuse}
use Rattle.settlement.specs.Look.{Standing, looked, turned_away}
use Rattle.image.specs.Entries.{mark_byte}
use Rattle.image.specs.Image.{record_in, no_image, tested_first}

-- LOOK s on an image: what is no image is turned away with its number
unfoldable pub looked_on : List ℕ → ℕ → Standing
looked_on b s = cond (eqb (no_image b) 0) (looked (record_in b) s) (turned_away (no_image b))

-- its answer in eight bytes: number, decided, votes, 0, and the claim high byte first
unfoldable pub standing_bytes : Standing → List ℕ
standing_bytes t = t.number ∷ mark_byte t.decided ∷ t.votes ∷ 0 ∷ four_bytes t.claim

-- and as one number, those bytes high byte first
unfoldable pub standing_word : Standing → ℕ
standing_word t = 4294967296 * four_from (standing_bytes t) 0 + four_from (standing_bytes t) 4

-- ---- all stations at once

-- the answers of the stations below n, in order
unfoldable pub standings : (ℕ → Standing) → ℕ → List ℕ
standings f zero = []
standings f (suc s) = standings f s ++ standing_bytes (f s)

-- the bytes and the record first; then 30, for less room than eight bytes a station
unfoldable pub all_number : List ℕ → List ℕ → ℕ
all_number b out = tested_first b (refuse (ltb (length out) (8 * (record_in b).count)) 30 0)

-- refused, no byte is written and the count is 0
unfoldable pub all_after : List ℕ → List ℕ → List ℕ
all_after b out = cond (eqb (all_number b out) 0) (over 0 (standings (looked (record_in b)) (record_in b).count) out) out

-- 65,536 times the number, and the bytes written
unfoldable pub all_answer : List ℕ → List ℕ → ℕ
all_answer b out = 65536 * all_number b out + cond (eqb (all_number b out) 0) (8 * (record_in b).count) 0

module _ (b out : List ℕ) where
  -- the bytes of all its stations
  abbrev pub all_bytes : ℕ
  all_bytes = 8 * (record_in b).count

  pub record LooksOf : Type 0 where
    -- the number is that of the bytes and of the record; where that is 0, 30 for less room than eight bytes a station
    pub refused_first : (tested_first b 0 ≡ 0 → ⊥) → all_number b out ≡ tested_first b 0
    pub no_room : tested_first b 0 ≡ 0 → length out < all_bytes → all_number b out ≡ 30
    pub accepted : tested_first b 0 ≡ 0 → all_bytes ≤ length out → all_number b out ≡ 0
    -- 256 bytes are always enough
    pub enough : 256 ≤ length out → all_number b out ≡ 30 → ⊥
    -- accepted: the bytes of all stations are counted, each station's are LOOK's answer, and the others stay
    pub count : all_number b out ≡ 0 → all_answer b out ≡ all_bytes
    pub each : all_number b out ≡ 0 → (s : ℕ) → s < (record_in b).count → take 8 (drop (8 * s) (all_after b out)) ≡ standing_bytes (looked_on b s)
    pub stays : all_number b out ≡ 0 → drop all_bytes (all_after b out) ≡ drop all_bytes out
    -- refused: the number alone, and every byte stays
    pub refused : (all_number b out ≡ 0 → ⊥) → (all_answer b out ≡ 65536 * all_number b out) × (all_after b out ≡ out)

-- any bytes, any buffer
abbrev pub Looks : Type 0
Looks = (b out : List ℕ) → LooksOf b out

-- an answer whose numbers fit is read off its word
pub record WordAgain : Type 0 where
  pub number : (t : Standing) → t.number < 256 → t.votes < 256 → t.claim < 4294967296 → standing_word t / 72057594037927936 ≡ t.number
  pub decided : (t : Standing) → t.number < 256 → t.votes < 256 → t.claim < 4294967296 → standing_word t / 281474976710656 % 256 ≡ mark_byte t.decided
  pub votes : (t : Standing) → t.number < 256 → t.votes < 256 → t.claim < 4294967296 → standing_word t / 1099511627776 % 256 ≡ t.votes
  pub claim : (t : Standing) → t.number < 256 → t.votes < 256 → t.claim < 4294967296 → standing_word t % 4294967296 ≡ t.claim

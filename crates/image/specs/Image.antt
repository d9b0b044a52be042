-- A settlement as bytes that the caller keeps: the version, the record's numbers, its 32 station entries, and of its 64 ballots first who voted and then the marks. Assumes nothing.
use Rattle.std.specs.Prelude.{ℕ, ◌+◌, ◌*◌, ◌<◌, ◌≡◌, Bool, not, cond, ◌||◌, List, [], ◌∷◌, ◌++◌, eqb, length, drop, get_or}
use Rattle.basics.specs.Bytes.{byte, InBytes}
use Rattle.basics.specs.Below.{any_below}
use Rattle.basics.specs.Tests.{Test, when, refuse, first_met}
use Rattle.entry.specs.declared.entry.Station.{Station}
use Rattle.entry.specs.declared.entry.Ballot.{Ballot}
use Rattle.entry.specs.Entries.{station_entries, ballot_entries, blank_station, blank_ballot}
use Rattle.settlement.specs.declared.record.Settlement.{Settlement}
use Rattle.settlement.specs.Fault.{fault}
use Rattle.image.specs.Lists.{flat, each}
use Rattle.image.specs.Entries.{station_bytes, station_from, voters_bytes, marks_bytes, ballot_from, no_mark, station_unread}

-- the layout: the version at 0, n at 1, the rule at 2, the stations from 3 on; then who voted in the ballots, and then their marks,
-- side by side, since every call looks at all of them
abbrev pub version : ℕ
version = 3

abbrev pub station_width : ℕ
station_width = 20

abbrev pub voters_width : ℕ
voters_width = 8

abbrev pub marks_width : ℕ
marks_width = 2

abbrev pub station_at : ℕ → ℕ
station_at s = 3 + station_width * s

abbrev pub voters_at : ℕ → ℕ
voters_at b = station_at station_entries + voters_width * b

abbrev pub marks_at : ℕ → ℕ
marks_at b = voters_at ballot_entries + marks_width * b

abbrev pub image_bytes : ℕ
image_bytes = marks_at ballot_entries

unfoldable pub image_of : Settlement → List ℕ
image_of r =
    version ∷ r.count ∷ r.rule
    ∷ flat station_bytes r.stations ++ (flat voters_bytes r.ballots ++ flat marks_bytes r.ballots)

-- what the bytes say where they are an image
abbrev pub station_read : List ℕ → ℕ → Station
station_read b s = station_from (drop (station_at s) b)

abbrev pub ballot_read : List ℕ → ℕ → Ballot
ballot_read b k = ballot_from (drop (voters_at k) b) (drop (marks_at k) b)

abbrev pub stations_in : List ℕ → List Station
stations_in b = each station_entries (station_read b)

abbrev pub ballots_in : List ℕ → List Ballot
ballots_in b = each ballot_entries (ballot_read b)

unfoldable pub record_in : List ℕ → Settlement
record_in b = record { count = byte b 1; rule = byte b 2; stations = stations_in b; ballots = ballots_in b }

-- ---- which bytes are no image

-- a stage or a mark that does not exist, in any entry
unfoldable pub unread : List ℕ → Bool
unread b =
    any_below station_entries (λ s. station_unread (drop (station_at s) b))
    || any_below (marks_width * ballot_entries) (λ i. no_mark (byte (drop (marks_at 0) b) i))

abbrev pub other_length : List ℕ → Bool
other_length b = not (eqb (length b) image_bytes)

-- another length, another version; a stage or a mark that does not exist is a record outside its ranges
abbrev pub image_tests : List ℕ → List Test
image_tests b =
    when (other_length b) 80
    ∷ when (not (eqb (byte b 0) version)) 81
    ∷ when (unread b) 42
    ∷ []

unfoldable pub no_image : List ℕ → ℕ
no_image b = first_met (image_tests b)

-- the number of an operation on an image: what the bytes are if they are none, else what the operation says
abbrev pub image_first : List ℕ → ℕ → ℕ
image_first b number = cond (eqb (no_image b) 0) number (no_image b)

-- and then the record test
abbrev pub tested_first : List ℕ → ℕ → ℕ
tested_first b number = image_first b (refuse (fault (record_in b)) 42 number)

-- ---- both ways

-- a record whose numbers fit their types
pub record StationFits (t : Station) : Type 0 where
  pub cursor : t.cursor < 256
  pub round : t.round < 256
  pub held : t.held < 4294967296
  pub claim : t.claim < 4294967296
  pub word : t.word < 4294967296
  pub decision : t.decision < 4294967296

pub record BallotFits (t : Ballot) : Type 0 where
  pub cast0 : t.cast0 < 4294967296
  pub cast1 : t.cast1 < 4294967296

pub record RecordFits (r : Settlement) : Type 0 where
  pub count : r.count < 256
  pub rule : r.rule < 256
  pub station_entries : length r.stations ≡ 32
  pub ballot_entries : length r.ballots ≡ 64
  pub stations : (s : ℕ) → s < 32 → StationFits (get_or r.stations s blank_station)
  pub ballots : (b : ℕ) → b < 64 → BallotFits (get_or r.ballots b blank_ballot)

pub record RoundTrip : Type 0 where
  -- every record has an image, of one length, and comes back from it
  pub an_image : (r : Settlement) → RecordFits r → no_image (image_of r) ≡ 0
  pub one_length : (r : Settlement) → RecordFits r → length (image_of r) ≡ 1283
  pub of_record : (r : Settlement) → RecordFits r → record_in (image_of r) ≡ r
  -- and bytes that are an image are that of their record, so that no two images are of one record
  pub of_bytes : (b : List ℕ) → InBytes b → no_image b ≡ 0 → image_of (record_in b) ≡ b
  -- the records that bytes have are those whose numbers fit
  pub fits : (b : List ℕ) → InBytes b → RecordFits (record_in b)

-- what stands where, in numbers, in any bytes
pub record PlacesTold (b : List ℕ) : Type 0 where
  pub count : (record_in b).count ≡ byte b 1
  pub rule : (record_in b).rule ≡ byte b 2
  pub station : (s : ℕ) → s < 32 → get_or (record_in b).stations s blank_station ≡ station_from (drop (3 + 20 * s) b)
  pub ballot : (k : ℕ) → k < 64 → get_or (record_in b).ballots k blank_ballot ≡ ballot_from (drop (643 + 8 * k) b) (drop (1155 + 2 * k) b)

-- bytes that are no image: another length is 80, another version 81, and all else 42
pub record NumbersTold : Type 0 where
  pub another_length : (b : List ℕ) → (length b ≡ 1283 → ⊥) → no_image b ≡ 80
  pub another_version : (b : List ℕ) → length b ≡ 1283 → (byte b 0 ≡ 3 → ⊥) → no_image b ≡ 81
  pub nothing_else : (b : List ℕ) → length b ≡ 1283 → byte b 0 ≡ 3 → (no_image b ≡ 0 → ⊥) → no_image b ≡ 42

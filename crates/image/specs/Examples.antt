-- Images byte by byte, in literal numbers, so that a definition that changes together with its code is noticed here. Assumes nothing.
use Rattle.std.specs.Prelude.{ℕ, ◌≡◌, Bool, true, false, List, [], ◌∷◌, ◌++◌, map, replicate, set}
use Rattle.entry.specs.declared.entry.Stage.{Stage}
use Rattle.entry.specs.declared.entry.Stage.TheVariants.{Idle, Waiting, Voting, Awaiting, Seeking, FinishVoting, FinishAwaiting, Decided}
use Rattle.entry.specs.declared.entry.Station.{Station}
use Rattle.entry.specs.declared.entry.Ballot.{Ballot}
use Rattle.settlement.specs.Record.{entry, ballot}
use Rattle.settlement.specs.Events.{opened}
use Rattle.image.specs.Entries.{station_bytes, station_from, voters_bytes, marks_bytes, ballot_from}
use Rattle.image.specs.Image.{image_of, record_in, no_image}

-- the stages in document 01's order, voting and awaiting on a finish ballot before decided; and the byte of each
abbrev pub all_stages : List Stage
all_stages = Idle ∷ Waiting ∷ Voting ∷ Awaiting ∷ Seeking ∷ FinishVoting ∷ FinishAwaiting ∷ Decided ∷ []

abbrev pub stage_bytes : List ℕ
stage_bytes = 0 ∷ 1 ∷ 2 ∷ 3 ∷ 4 ∷ 5 ∷ 6 ∷ 7 ∷ []

-- a station with different numbers, lost or live, at any stage
abbrev pub some_station : Bool → Stage → Station
some_station lost g =
    record {
      stage = g;
      lost = lost;
      cursor = 7;
      round = 9;
      held = 0x01020304;
      claim = 0x05060708;
      word = 0x090a0b0c;
      decision = 0x0d0e0f10;
    }

abbrev pub some_bytes : ℕ → ℕ → List ℕ
some_bytes lost stage =
    stage ∷ lost ∷ 7 ∷ 9 ∷ 1 ∷ 2 ∷ 3 ∷ 4 ∷ 5 ∷ 6 ∷ 7 ∷ 8 ∷ 9 ∷ 10 ∷ 11 ∷ 12 ∷ 13 ∷ 14 ∷ 15 ∷ 16 ∷ []

-- a ballot in which two sets of stations voted, answered or not
abbrev pub some_ballot : Bool → Bool → Ballot
some_ballot answered answer = record { cast0 = 0x01020304; cast1 = 0x05060708; answered = answered; answer = answer }

abbrev pub some_ballots : List Ballot
some_ballots = some_ballot false false ∷ some_ballot false true ∷ some_ballot true false ∷ some_ballot true true ∷ []

abbrev pub some_marks : List (List ℕ)
some_marks = (0 ∷ 0 ∷ []) ∷ (0 ∷ 1 ∷ []) ∷ (1 ∷ 0 ∷ []) ∷ (1 ∷ 1 ∷ []) ∷ []

-- 1,283 bytes of version 3, all else 0 but for the byte at a place
abbrev pub but_for : ℕ → ℕ → List ℕ
but_for place x = set (3 ∷ replicate 1282 0) place x

pub record BytesShown : Type 0 where
  -- stage, lost, cursor, round; held, claim, word, decision: lost and live, at every stage; both ways, whatever follows
  pub lost : map (λ (g : Stage). station_bytes (some_station true g)) all_stages ≡ map (some_bytes 1) stage_bytes
  pub live : map (λ (g : Stage). station_bytes (some_station false g)) all_stages ≡ map (some_bytes 0) stage_bytes
  pub lost_read : map (λ (x : ℕ). station_from (some_bytes 1 x ++ (99 ∷ []))) stage_bytes ≡ map (some_station true) all_stages
  pub live_read : map (λ (x : ℕ). station_from (some_bytes 0 x ++ (99 ∷ []))) stage_bytes ≡ map (some_station false) all_stages
  -- the stations that cast 0 and 1; answered, the answer: the four ways that the marks can be; both ways, whatever follows
  pub voters : map voters_bytes some_ballots ≡ replicate 4 (1 ∷ 2 ∷ 3 ∷ 4 ∷ 5 ∷ 6 ∷ 7 ∷ 8 ∷ [])
  pub marks : map marks_bytes some_ballots ≡ some_marks
  pub ballots_read : map (λ (m : List ℕ). ballot_from (1 ∷ 2 ∷ 3 ∷ 4 ∷ 5 ∷ 6 ∷ 7 ∷ 8 ∷ 9 ∷ []) (m ++ (9 ∷ []))) some_marks ≡ some_ballots
  -- the version, n, the rule, and 1,280 bytes more
  pub an_opening : image_of (opened 7 2).settlement ≡ 3 ∷ 7 ∷ 2 ∷ replicate 1280 0
  -- the last station's first byte, the first and the last byte of who voted and of the marks, each read there
  pub last_station : (entry (record_in (but_for 623 7)) 31).stage ≡ Decided
  pub first_voters : (ballot (record_in (but_for 643 1)) 0).cast0 ≡ 0x01000000
  pub last_voters : (ballot (record_in (but_for 1154 1)) 63).cast1 ≡ 1
  pub first_answered : (ballot (record_in (but_for 1155 1)) 0).answered ≡ true
  pub last_answer : (ballot (record_in (but_for 1282 1)) 63).answer ≡ true
  -- another length: 80
  pub nothing : no_image [] ≡ 80
  pub short : no_image (3 ∷ replicate 1281 0) ≡ 80
  pub long : no_image (3 ∷ replicate 1283 0) ≡ 80
  -- so too an image of version 1, which had 899 bytes
  pub version_1 : no_image (1 ∷ replicate 898 0) ≡ 80
  -- another version: 81, whatever else; version 2 had as many bytes
  pub older : no_image (2 ∷ replicate 1282 0) ≡ 81
  pub newer : no_image (4 ∷ replicate 1282 9) ≡ 81
  -- a stage above 7, a mark above 1, in the first and the last entry: 42
  pub first_stage : no_image (but_for 3 8) ≡ 42
  pub last_stage : no_image (but_for 623 8) ≡ 42
  pub first_lost : no_image (but_for 4 2) ≡ 42
  pub last_lost : no_image (but_for 624 2) ≡ 42
  pub first_mark : no_image (but_for 1155 2) ≡ 42
  pub last_mark : no_image (but_for 1282 2) ≡ 42
  -- stages and marks that exist, and any number, are fine
  pub a_stage : no_image (but_for 623 7) ≡ 0
  pub a_mark : no_image (but_for 624 1) ≡ 0
  pub an_answer : no_image (but_for 1282 1) ≡ 0
  pub any_count : no_image (but_for 1 255) ≡ 0
  pub any_number : no_image (but_for 642 255) ≡ 0
  pub any_voters : no_image (but_for 643 255) ≡ 0
  pub any_last_voters : no_image (but_for 1154 255) ≡ 0

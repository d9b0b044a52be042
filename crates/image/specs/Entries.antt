-- A station's entry in 20 bytes, a ballot's in 8 and 2: numbers high byte first, as in the log. Assumes nothing.
use Rattle.std.specs.Prelude.{ℕ, Bool, cond, ◌||◌, List, [], ◌∷◌, ◌++◌, eqb, ltb}
use Rattle.basics.specs.Bytes.{byte, four_bytes, four_from}
use Rattle.entry.specs.declared.entry.Stage.{Stage}
use Rattle.entry.specs.declared.entry.Stage.TheVariants.{Idle, Waiting, Voting, Awaiting, Seeking, FinishVoting, FinishAwaiting, Decided}
use Rattle.entry.specs.declared.entry.Station.{Station}
use Rattle.entry.specs.declared.entry.Ballot.{Ballot}
use Rattle.entry.specs.Stages.{rank}

-- a stage is a byte, its place in the table of stages
unfoldable pub stage_from : ℕ → Stage
stage_from x =
    cond (eqb x 1) Waiting
    (cond (eqb x 2) Voting
    (cond (eqb x 3) Awaiting
    (cond (eqb x 4) Seeking (cond (eqb x 5) FinishVoting (cond (eqb x 6) FinishAwaiting (cond (eqb x 7) Decided Idle))))))

-- a mark is a byte, 0 or 1
abbrev pub mark_byte : Bool → ℕ
mark_byte m = cond m 1 0

abbrev pub mark_from : ℕ → Bool
mark_from x = eqb x 1

-- stage, lost, cursor, round; then held, claim, word and decision, four bytes each
unfoldable pub station_bytes : Station → List ℕ
station_bytes t =
    rank t.stage ∷ mark_byte t.lost ∷ t.cursor ∷ t.round
    ∷ four_bytes t.held ++ four_bytes t.claim ++ four_bytes t.word ++ four_bytes t.decision

unfoldable pub station_from : List ℕ → Station
station_from b =
    record {
      stage = stage_from (byte b 0);
      lost = mark_from (byte b 1);
      cursor = byte b 2;
      round = byte b 3;
      held = four_from b 4;
      claim = four_from b 8;
      word = four_from b 12;
      decision = four_from b 16;
    }

-- of a ballot: the stations that cast 0 and those that cast 1, four bytes each (document 02, A.2)
unfoldable pub voters_bytes : Ballot → List ℕ
voters_bytes t = four_bytes t.cast0 ++ four_bytes t.cast1

-- and whether it is answered, and the answer
unfoldable pub marks_bytes : Ballot → List ℕ
marks_bytes t = mark_byte t.answered ∷ mark_byte t.answer ∷ []

unfoldable pub ballot_from : (voters marks : List ℕ) → Ballot
ballot_from v m = record { cast0 = four_from v 0; cast1 = four_from v 4; answered = mark_from (byte m 0); answer = mark_from (byte m 1) }

-- a stage that does not exist, a mark that does not exist; a station with either
abbrev pub no_stage : ℕ → Bool
no_stage x = ltb 7 x

abbrev pub no_mark : ℕ → Bool
no_mark x = ltb 1 x

abbrev pub station_unread : List ℕ → Bool
station_unread b = no_stage (byte b 0) || no_mark (byte b 1)

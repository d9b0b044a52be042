-- LOOK, whole: number, decided, claim and votes (document 01, "LOOK s"). Assumes nothing.
use Rattle.std.specs.Prelude.{ℕ, ◌+◌, Bool, false, cond, List, [], ◌∷◌, eqb, Result, Ok, Err}
use Rattle.std.specs.Option.{is_some, unwrap_or}
use Rattle.basics.specs.declared.refusal.Refusal.{Refusal}
use Rattle.basics.specs.Refusals.{number_of}
use Rattle.basics.specs.Tests.{Test, when, first_met}
use Rattle.bits.specs.Log.{ceil_log2}
use Rattle.consensus.specs.Rules.{finish_ballot}
use Rattle.entry.specs.declared.entry.Stage.{Stage}
use Rattle.entry.specs.declared.entry.Stage.TheVariants.{Idle, Waiting, Voting, Awaiting, Seeking, FinishVoting, FinishAwaiting, Decided}
use Rattle.entry.specs.declared.entry.Station.{Station}
use Rattle.entry.specs.Stages.{is_decided}
use Rattle.entry.specs.Entries.{no_station, by_station, bit_ballot}
use Rattle.settlement.specs.declared.record.Settlement.{Settlement}
use Rattle.settlement.specs.declared.record.Standing as declared_standing
use Rattle.settlement.specs.Record.{entry}
use Rattle.settlement.specs.Fault.{fault}

abbrev pub look_tests : Settlement → ℕ → List Test
look_tests r s =
    when (fault r) 42
    ∷ when (no_station r.count s) 1
    ∷ []

-- "Votes: idle and waiting 0; rule 1 k when voting, k + 1 when awaiting or seeking, R when decided;
-- rule 2 2k before the bit vote, 2k + 1 after it and before the finish vote, 2k + 2 after."
-- The ballots of a rule are voted in one after the other: before a ballot, its number is how many votes there were (k or 2k, and 2k + 1).
-- A record that passes the record test has no station on a finish ballot under rule 1.
unfoldable pub votes : (n rule : ℕ) → Station → Stage → ℕ
votes n rule t Idle = 0
votes n rule t Waiting = 0
votes n rule t Voting = bit_ballot rule t.round
votes n rule t Awaiting = bit_ballot rule t.round + 1
votes n rule t Seeking = bit_ballot rule t.round + 1
votes n rule t FinishVoting = finish_ballot t.round
votes n rule t FinishAwaiting = finish_ballot t.round + 1
votes n rule t Decided = cond (by_station rule) (ceil_log2 n) (finish_ballot t.round + 1)

-- "the claim (0 if undecided)"
abbrev pub shown_claim : Station → ℕ
shown_claim t = cond (is_decided t.stage) t.decision 0

-- 0 or the number of the refusal; whether the station has decided, its claim, and its votes
pub record Standing : Type 0 where
  pub number : ℕ
  pub decided : Bool
  pub claim : ℕ
  pub votes : ℕ

-- "whether s has decided, the claim (0 if undecided) and its votes"
abbrev pub standing : (n rule : ℕ) → Station → Standing
standing n rule t = record { number = 0; decided = is_decided t.stage; claim = shown_claim t; votes = votes n rule t t.stage }

-- "a refusal gives undecided, 0, 0"
abbrev pub turned_away : ℕ → Standing
turned_away k = record { number = k; decided = false; claim = 0; votes = 0 }

unfoldable pub looked : Settlement → ℕ → Standing
looked r s =
    cond (eqb (first_met (look_tests r s)) 0) (standing r.count r.rule (entry r s)) (turned_away (first_met (look_tests r s)))

-- what an answer of the code tells
abbrev pub standing_told : Result declared_standing.Standing Refusal → Standing
standing_told (Ok t) = record { number = 0; decided = is_some t.decided; claim = unwrap_or t.decided 0; votes = t.votes }
standing_told (Err why) = turned_away (number_of why)

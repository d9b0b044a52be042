-- What an event does not name stays (document 01, "What one STEP does": "What a step does not name stays"), part by part; and what no accepted event
-- takes back. On any entries, made-up ones included. Assumes nothing.
use Rattle.std.specs.Prelude.{ℕ, ◌≡◌, Bool, true, false, cond, ◌||◌, List, [], ◌∷◌, eqb}
use Rattle.bits.specs.Words.{member}
use Rattle.consensus.specs.Events.{Event, claim, deliver, step, lose, answer}
use Rattle.entry.specs.declared.entry.Stage.{Stage}
use Rattle.entry.specs.declared.entry.Stage.TheVariants.{Idle, Waiting, Voting, Awaiting, Seeking, FinishVoting, FinishAwaiting, Decided}
use Rattle.entry.specs.declared.entry.Station.{Station}
use Rattle.entry.specs.declared.entry.Ballot.{Ballot}
use Rattle.event.specs.declared.view.View.{View}
use Rattle.entry.specs.Stages.{not_idle}
use Rattle.entry.specs.Entries.{by_station, voters, was_cast}
use Rattle.event.specs.Places.{next_cursor}
use Rattle.event.specs.Step.{at_once, seeking_ends, last_round, bit_voted, finish_voted}
use Rattle.event.specs.Change.{number_on, own_after, ballot_after}

-- ---- the parts of a station's entry and of a ballot's

pub data Part : Type 0 where
  its_stage its_lost its_held its_claim its_cursor its_round its_word its_decision : Part
  its_cast0 its_cast1 its_answered its_answer : Part

abbrev place : Part → ℕ
place its_stage = 0
place its_lost = 1
place its_held = 2
place its_claim = 3
place its_cursor = 4
place its_round = 5
place its_word = 6
place its_decision = 7
place its_cast0 = 8
place its_cast1 = 9
place its_answered = 10
place its_answer = 11

abbrev pub named : Part → List Part → Bool
named p [] = false
named p (q ∷ l) = eqb (place p) (place q) || named p l

-- the entries u and c after an event beside t and b before it: every part that the list does not name is as it was
pub record AllBut (l : List Part) (t u : Station) (b c : Ballot) : Type 0 where
  pub stage : named its_stage l ≡ false → u.stage ≡ t.stage
  pub lost : named its_lost l ≡ false → u.lost ≡ t.lost
  pub held : named its_held l ≡ false → u.held ≡ t.held
  pub claim : named its_claim l ≡ false → u.claim ≡ t.claim
  pub cursor : named its_cursor l ≡ false → u.cursor ≡ t.cursor
  pub round : named its_round l ≡ false → u.round ≡ t.round
  pub word : named its_word l ≡ false → u.word ≡ t.word
  pub decision : named its_decision l ≡ false → u.decision ≡ t.decision
  pub cast0 : named its_cast0 l ≡ false → c.cast0 ≡ b.cast0
  pub cast1 : named its_cast1 l ≡ false → c.cast1 ≡ b.cast1
  pub answered : named its_answered l ≡ false → c.answered ≡ b.answered
  pub answer : named its_answer l ≡ false → c.answer ≡ b.answer

-- ---- which parts an event names

-- seeking that ends at j: "rule 1 decides the claim of j if k + 1 = R, otherwise adds 1 to k and is voting; rule 2 is voting on ballot 2k+1"
abbrev seek_names : View → List Part
seek_names v = cond (by_station v.rule) (cond (last_round v) (its_stage ∷ its_decision ∷ []) (its_stage ∷ its_round ∷ [])) (its_stage ∷ [])

-- a vote: the stage, and the set of the bit cast
abbrev vote_names : Bool → List Part
vote_names a = its_stage ∷ cond a its_cast1 its_cast0 ∷ []

-- document 01, "What one STEP does", at each stage of the station
unfoldable pub step_names : View → Stage → List Part
step_names v Idle = []
step_names v Waiting = its_cursor ∷ its_stage ∷ cond (at_once v) (its_decision ∷ []) []
step_names v Voting = vote_names (bit_voted v)
step_names v Awaiting = its_word ∷ its_stage ∷ []
step_names v Seeking = its_cursor ∷ cond (seeking_ends v (next_cursor v.count v.own.cursor)) (seek_names v) []
step_names v FinishVoting = vote_names (finish_voted v)
step_names v FinishAwaiting = its_stage ∷ cond v.ballot.answer its_decision its_round ∷ []
step_names v Decided = []

-- "Otherwise s is waiting", with its claim; DELIVER a mark, LOSE a mark; ANSWER the ballot's answer
unfoldable pub names : View → Event → List Part
names v (claim s c) = its_stage ∷ its_claim ∷ []
names v (deliver t s) = its_held ∷ []
names v (step s) = step_names v v.own.stage
names v (lose s) = its_lost ∷ []
names v (answer b a) = its_answered ∷ its_answer ∷ []

-- what it does not name stays
abbrev pub EntryFrame : Type 0
EntryFrame = (v : View) (e : Event) → AllBut (names v e) v.own (own_after v e) v.ballot (ballot_after v e)

-- ---- what no accepted event takes back

pub record Kept (v : View) (e : Event) : Type 0 where
  -- "a lost station never comes back and keeps its stage and decision", and all else
  pub lost : v.own.lost ≡ true → own_after v e ≡ v.own
  -- a claim put in is not put in again: "the claim itself staying in its claimer's entry"
  pub put_in : not_idle v.own.stage ≡ true → not_idle (own_after v e).stage ≡ true
  pub claim_stays : not_idle v.own.stage ≡ true → (own_after v e).claim ≡ v.own.claim
  -- what is held stays held
  pub held : (i : ℕ) → member i v.own.held ≡ true → member i (own_after v e).held ≡ true
  -- a decided station stays so, with its decision and, for its votes, its round
  pub decided : v.own.stage ≡ Decided → (own_after v e).stage ≡ Decided
  pub decision : v.own.stage ≡ Decided → (own_after v e).decision ≡ v.own.decision
  pub round : v.own.stage ≡ Decided → (own_after v e).round ≡ v.own.round
  -- "A vote counts though its voter is lost later": a bit once cast stays cast
  pub cast : (a : Bool) → was_cast v.ballot a ≡ true → was_cast (ballot_after v e) a ≡ true
  -- and whoever cast it stays in its set (document 02, A.2)
  pub voter_stays : (a : Bool) (i : ℕ) → member i (voters v.ballot a) ≡ true → member i (voters (ballot_after v e) a) ≡ true
  -- "Answered: an ANSWER was accepted, and the first gives the bit"
  pub answered : v.ballot.answered ≡ true → (ballot_after v e).answered ≡ true
  pub answer_stays : v.ballot.answered ≡ true → (ballot_after v e).answer ≡ v.ballot.answer

abbrev pub NeverTakenBack : Type 0
NeverTakenBack = (v : View) (e : Event) → number_on v e ≡ 0 → Kept v e

-- "accepted again and changes nothing" (document 02, A.1): where an answer stands, an accepted ANSWER leaves both entries as they were
abbrev pub RepeatStays : Type 0
RepeatStays = (v : View) (b a : ℕ) → v.ballot.answered ≡ true → number_on v (answer b a) ≡ 0
    → (own_after v (answer b a) ≡ v.own) × (ballot_after v (answer b a) ≡ v.ballot)

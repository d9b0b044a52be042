-- Edges, as one list of rows with literal numbers (document 01, "Operations and what they turn away"): a row is a record, made up mostly, an operation
-- and what it answers or leaves. The entries are odd on purpose: no two fields have the same number, so a field that moves is seen. Assumes nothing.
use Rattle.bits.specs.Examples.{every}
use Rattle.std.specs.Prelude.{◌≡◌, ℕ, Bool, true, false, not, ◌&&◌, List, [], ◌∷◌, ◌++◌, eqb}
use Rattle.std.specs.Bool.{beq}
use Rattle.consensus.specs.Events.{Event, claim, deliver, step, lose, answer}
use Rattle.entry.specs.declared.entry.Stage.{Stage}
use Rattle.entry.specs.declared.entry.Stage.TheVariants.{Idle, Waiting, Voting, Awaiting, Seeking, FinishVoting, FinishAwaiting, Decided}
use Rattle.entry.specs.declared.entry.Station.{Station}
use Rattle.entry.specs.declared.entry.Ballot.{Ballot}
use Rattle.event.specs.Examples.{same_station, same_ballot, live, lost, voted_by}
use Rattle.settlement.specs.declared.record.Settlement.{Settlement}
use Rattle.settlement.specs.Outcome.{Outcome}
use Rattle.settlement.specs.Record.{entry, ballot, with_station, with_ballot}
use Rattle.settlement.specs.Events.{fresh, opened, played}
use Rattle.settlement.specs.Look.{Standing, looked}
use Rattle.settlement.specs.Tally.{Tally, tallied}

-- OPEN's number, and the count and the rule of the settlement that it answers; an event's number; the whole entry of station s after an event, and of
-- ballot b; LOOK's whole answer, at a station and at a ballot
pub data Row : Type 0 where
  opens : (n rule number count rule_after : ℕ) → Row
  gives : Settlement → Event → (number : ℕ) → Row
  leaves : Settlement → Event → (s : ℕ) → Station → Row
  leaves_ballot : Settlement → Event → (b : ℕ) → Ballot → Row
  shows : Settlement → (s number : ℕ) → (decided : Bool) → (claim votes : ℕ) → Row
  tallies : Settlement → (b number zeros ones count0 count1 : ℕ) → (answered answer : Bool) → Row

abbrev same_outcome : Outcome → (number count rule : ℕ) → Bool
same_outcome o k n rule = eqb o.number k && eqb o.settlement.count n && eqb o.settlement.rule rule

abbrev same_standing : Standing → ℕ → Bool → ℕ → ℕ → Bool
same_standing x k d v m = eqb x.number k && beq x.decided d && eqb x.claim v && eqb x.votes m

abbrev same_tally : Tally → (number zeros ones count0 count1 : ℕ) → (answered answer : Bool) → Bool
same_tally x k z o m n d a =
    eqb x.number k && eqb x.cast0 z && eqb x.cast1 o && eqb x.count0 m && eqb x.count1 n && beq x.answered d && beq x.answer a

abbrev pub edge_right : Row → Bool
edge_right (opens n rule k n' rule') = same_outcome (opened n rule) k n' rule'
edge_right (gives r e k) = eqb (played r e).number k
edge_right (leaves r e s t) = same_station (entry (played r e).settlement s) t
edge_right (leaves_ballot r e b t) = same_ballot (ballot (played r e).settlement b) t
edge_right (shows r s k d v m) = same_standing (looked r s) k d v m
edge_right (tallies r b k z o m n d a) = same_tally (tallied r b) k z o m n d a

-- ---- made_up records

-- a live station with a cursor and a round, and nothing else
abbrev entry_at : Stage → (cursor round : ℕ) → Station
entry_at g j k = live g 0 0 j k 0 0

-- n stations under a rule, the entry of station s made up; and that of station q, or of ballot b, too
abbrev made_up : (n rule s : ℕ) → Station → Settlement
made_up n rule s t = with_station s t (fresh n rule)

abbrev beside : (n rule s : ℕ) → Station → (q : ℕ) → Station → Settlement
beside n rule s t q u = with_station q u (made_up n rule s t)

abbrev at_ballot : (n rule s : ℕ) → Station → (b : ℕ) → Ballot → Settlement
at_ballot n rule s t b u = with_ballot b u (made_up n rule s t)

-- a LOSE of station 0 gives the number
abbrev tests_to : (n rule s : ℕ) → Station → ℕ → Row
tests_to n rule s t k = gives (made_up n rule s t) (lose 0) k

-- ---- OPEN

abbrev opening : List Row
opening =
    -- "n is 0 or above 32: 40. Rule neither 1 nor 2: 41. Refused, it returns the blank settlement: no stations, rule 1"
    opens 0 1 40 0 1 ∷ opens 0 2 40 0 1 ∷ opens 33 1 40 0 1 ∷ opens 33 2 40 0 1 ∷ opens 255 2 40 0 1
    ∷ opens 1 0 41 0 1 ∷ opens 1 3 41 0 1 ∷ opens 32 0 41 0 1 ∷ opens 32 3 41 0 1 ∷ opens 7 255 41 0 1
    ∷ opens 0 0 40 0 1 ∷ opens 0 3 40 0 1 ∷ opens 33 0 40 0 1 ∷ opens 255 255 40 0 1
    ∷ opens 1 1 0 1 1 ∷ opens 1 2 0 1 2 ∷ opens 32 1 0 32 1 ∷ opens 32 2 0 32 2
    ∷ []

-- ---- the record test, each clause on both sides and under both rules

abbrev record_test : List Row
record_test =
    -- "more than 32 stations"
    gives (fresh 33 1) (lose 0) 42 ∷ gives (fresh 33 2) (lose 0) 42 ∷ gives (fresh 255 1) (lose 0) 42
    ∷ gives (fresh 32 1) (lose 0) 0 ∷ gives (fresh 32 2) (lose 0) 0
    -- "a rule other than 1 or 2"
    ∷ gives (fresh 3 0) (lose 0) 42 ∷ gives (fresh 3 3) (lose 0) 42 ∷ gives (fresh 3 255) (lose 0) 42 ∷ gives (fresh 0 0) (lose 0) 42
    ∷ gives (fresh 3 1) (lose 0) 0 ∷ gives (fresh 3 2) (lose 0) 0
    -- "a station below n whose cursor is n or more", at any stage
    ∷ tests_to 3 1 0 (entry_at Waiting 3 0) 42 ∷ tests_to 3 1 0 (entry_at Waiting 2 0) 0
    ∷ tests_to 3 2 0 (entry_at Waiting 3 0) 42 ∷ tests_to 3 2 0 (entry_at Waiting 2 0) 0
    ∷ tests_to 3 1 2 (entry_at Idle 3 0) 42 ∷ tests_to 3 2 2 (entry_at Idle 3 0) 42
    ∷ tests_to 3 1 2 (entry_at Decided 31 0) 42 ∷ tests_to 3 2 2 (entry_at Decided 31 0) 42
    ∷ tests_to 3 2 1 (entry_at Voting 3 0) 42 ∷ tests_to 3 2 1 (entry_at Seeking 3 0) 42 ∷ tests_to 3 2 1 (lost Seeking 0 0 3 0 0 0) 42
    ∷ tests_to 1 1 0 (entry_at Idle 1 0) 42 ∷ tests_to 1 2 0 (entry_at Idle 1 0) 42 ∷ tests_to 1 2 0 (entry_at Idle 0 0) 0
    ∷ tests_to 32 1 31 (entry_at Idle 32 0) 42 ∷ tests_to 32 1 31 (entry_at Idle 31 0) 0
    ∷ tests_to 32 2 31 (entry_at Idle 32 0) 42 ∷ tests_to 32 2 31 (entry_at Idle 31 0) 0
    -- a station from n on is not tested
    ∷ tests_to 3 1 3 (entry_at Waiting 200 0) 0 ∷ tests_to 3 2 3 (entry_at Waiting 200 0) 0
    ∷ tests_to 4 1 4 (entry_at Voting 0 9) 0 ∷ tests_to 4 2 4 (entry_at Voting 0 32) 0
    -- "a voting, awaiting or seeking station whose round is R or more under rule 1"
    ∷ tests_to 4 1 0 (entry_at Voting 0 2) 42 ∷ tests_to 4 1 0 (entry_at Voting 0 1) 0 ∷ tests_to 4 2 0 (entry_at Voting 0 2) 0
    ∷ tests_to 4 1 0 (entry_at Awaiting 0 2) 42 ∷ tests_to 4 1 0 (entry_at Awaiting 0 1) 0 ∷ tests_to 4 2 0 (entry_at Awaiting 0 2) 0
    ∷ tests_to 4 1 3 (entry_at Seeking 0 2) 42 ∷ tests_to 4 1 3 (entry_at Seeking 0 1) 0 ∷ tests_to 4 2 3 (entry_at Seeking 0 2) 0
    ∷ tests_to 1 1 0 (entry_at Voting 0 0) 42 ∷ tests_to 1 1 0 (entry_at Seeking 0 0) 42 ∷ tests_to 1 2 0 (entry_at Seeking 0 0) 0
    ∷ tests_to 32 1 31 (entry_at Voting 0 5) 42 ∷ tests_to 32 1 31 (entry_at Voting 0 4) 0
    ∷ tests_to 4 1 0 (entry_at Idle 0 255) 0 ∷ tests_to 4 1 0 (entry_at Waiting 0 255) 0 ∷ tests_to 4 1 0 (entry_at Decided 0 255) 0
    -- "a station voting or awaiting on a finish ballot under rule 1"
    ∷ tests_to 4 1 0 (entry_at FinishVoting 0 0) 42 ∷ tests_to 4 2 0 (entry_at FinishVoting 0 0) 0
    ∷ tests_to 4 1 3 (entry_at FinishAwaiting 0 0) 42 ∷ tests_to 4 2 3 (entry_at FinishAwaiting 0 0) 0
    -- "or a station past waiting whose round is 32 or more under rule 2"
    ∷ tests_to 4 2 0 (entry_at Idle 0 32) 0 ∷ tests_to 4 2 0 (entry_at Waiting 0 32) 0 ∷ tests_to 4 2 0 (entry_at Waiting 0 255) 0
    ∷ tests_to 4 2 0 (entry_at Voting 0 31) 0 ∷ tests_to 4 2 0 (entry_at Voting 0 32) 42
    ∷ tests_to 4 2 0 (entry_at Awaiting 0 31) 0 ∷ tests_to 4 2 0 (entry_at Awaiting 0 32) 42
    ∷ tests_to 4 2 0 (entry_at Seeking 0 31) 0 ∷ tests_to 4 2 0 (entry_at Seeking 0 32) 42
    ∷ tests_to 4 2 0 (entry_at FinishVoting 0 31) 0 ∷ tests_to 4 2 0 (entry_at FinishVoting 0 32) 42
    ∷ tests_to 4 2 3 (entry_at FinishAwaiting 0 31) 0 ∷ tests_to 4 2 3 (entry_at FinishAwaiting 0 32) 42
    ∷ tests_to 4 2 3 (entry_at Decided 0 31) 0 ∷ tests_to 4 2 3 (entry_at Decided 0 32) 42 ∷ tests_to 4 1 3 (entry_at Decided 0 32) 0
    ∷ []

-- ---- "Every event and LOOK first test the record": 42 before the number that each would have

-- the cursor of station 2 is n
abbrev faulty : ℕ → Settlement
faulty rule = made_up 3 rule 2 (live Decided 5 6 3 1 9 11)

abbrev test_first : List Row
test_first =
    gives (faulty 1) (claim 0 7) 42 ∷ gives (faulty 1) (claim 3 7) 42 ∷ gives (faulty 2) (claim 0 7) 42 ∷ gives (faulty 2) (claim 3 7) 42
    ∷ gives (faulty 1) (deliver 2 0) 42 ∷ gives (faulty 1) (deliver 3 0) 42 ∷ gives (faulty 2) (deliver 2 0) 42 ∷ gives (faulty 2) (deliver 0 3) 42
    ∷ gives (faulty 1) (step 0) 42 ∷ gives (faulty 1) (step 3) 42 ∷ gives (faulty 2) (step 0) 42 ∷ gives (faulty 2) (step 3) 42
    ∷ gives (faulty 1) (lose 0) 42 ∷ gives (faulty 1) (lose 3) 42 ∷ gives (faulty 2) (lose 0) 42 ∷ gives (faulty 2) (lose 3) 42
    ∷ gives (faulty 1) (answer 0 0) 42 ∷ gives (faulty 1) (answer 2 0) 42 ∷ gives (faulty 2) (answer 0 0) 42 ∷ gives (faulty 2) (answer 64 2) 42
    ∷ gives (fresh 33 1) (claim 0 7) 42 ∷ gives (fresh 33 1) (answer 0 0) 42 ∷ gives (fresh 3 0) (claim 0 7) 42 ∷ gives (fresh 3 0) (answer 9 9) 42
    ∷ shows (faulty 1) 2 42 false 0 0 ∷ shows (faulty 1) 3 42 false 0 0 ∷ shows (faulty 2) 2 42 false 0 0 ∷ shows (faulty 2) 3 42 false 0 0
    ∷ shows (fresh 33 2) 0 42 false 0 0 ∷ shows (fresh 33 2) 33 42 false 0 0 ∷ shows (fresh 0 3) 0 42 false 0 0
    -- refused, the entries stay
    ∷ leaves (faulty 2) (claim 0 7) 0 (entry_at Idle 0 0) ∷ leaves (faulty 2) (claim 2 7) 2 (live Decided 5 6 3 1 9 11)
    ∷ []

-- ---- LOOK

abbrev looking : List Row
looking =
    -- "No station s: 1"; "A refusal gives undecided, 0, 0."
    shows (fresh 0 1) 0 1 false 0 0 ∷ shows (fresh 0 2) 0 1 false 0 0 ∷ shows (made_up 4 2 4 (live Decided 5 6 3 7 9 11)) 4 1 false 0 0
    ∷ shows (fresh 32 1) 32 1 false 0 0 ∷ shows (fresh 32 2) 255 1 false 0 0 ∷ shows (fresh 32 2) 31 0 false 0 0
    -- "idle and waiting 0; rule 1 k when voting, k + 1 when awaiting or seeking, R when decided"
    ∷ shows (made_up 32 1 31 (live Idle 5 6 4 3 9 11)) 31 0 false 0 0 ∷ shows (made_up 32 1 31 (live Waiting 5 6 4 3 9 11)) 31 0 false 0 0
    ∷ shows (made_up 32 1 31 (live Voting 5 6 4 3 9 11)) 31 0 false 0 3 ∷ shows (made_up 32 1 31 (live Awaiting 5 6 4 3 9 11)) 31 0 false 0 4
    ∷ shows (made_up 32 1 31 (live Seeking 5 6 4 3 9 11)) 31 0 false 0 4 ∷ shows (made_up 32 1 31 (live Decided 5 6 4 3 9 11)) 31 0 true 11 5
    ∷ shows (made_up 32 1 31 (lost Seeking 5 6 4 3 9 11)) 31 0 false 0 4 ∷ shows (made_up 32 1 31 (lost Decided 5 6 4 3 9 11)) 31 0 true 11 5
    ∷ shows (made_up 1 1 0 (live Waiting 5 6 0 3 9 11)) 0 0 false 0 0 ∷ shows (made_up 1 1 0 (live Decided 5 6 0 3 9 11)) 0 0 true 11 0
    ∷ shows (made_up 2 1 0 (live Voting 5 6 1 0 9 11)) 0 0 false 0 0 ∷ shows (made_up 2 1 0 (live Decided 5 6 1 0 9 0)) 0 0 true 0 1
    -- "rule 2 2k before the bit vote, 2k + 1 after it and before the finish vote, 2k + 2 after"
    ∷ shows (made_up 32 2 31 (live Idle 5 6 4 3 9 11)) 31 0 false 0 0 ∷ shows (made_up 32 2 31 (live Waiting 5 6 4 3 9 11)) 31 0 false 0 0
    ∷ shows (made_up 32 2 31 (live Voting 5 6 4 3 9 11)) 31 0 false 0 6 ∷ shows (made_up 32 2 31 (live Awaiting 5 6 4 3 9 11)) 31 0 false 0 7
    ∷ shows (made_up 32 2 31 (live Seeking 5 6 4 3 9 11)) 31 0 false 0 7 ∷ shows (made_up 32 2 31 (live FinishVoting 5 6 4 3 9 11)) 31 0 false 0 7
    ∷ shows (made_up 32 2 31 (live FinishAwaiting 5 6 4 3 9 11)) 31 0 false 0 8 ∷ shows (made_up 32 2 31 (live Decided 5 6 4 3 9 11)) 31 0 true 11 8
    ∷ shows (made_up 32 2 31 (lost FinishVoting 5 6 4 3 9 11)) 31 0 false 0 7 ∷ shows (made_up 32 2 31 (lost Decided 5 6 4 3 9 11)) 31 0 true 11 8
    ∷ shows (made_up 1 2 0 (live Voting 5 6 0 31 9 11)) 0 0 false 0 62 ∷ shows (made_up 1 2 0 (live Seeking 5 6 0 31 9 11)) 0 0 false 0 63
    ∷ shows (made_up 1 2 0 (live FinishAwaiting 5 6 0 31 9 11)) 0 0 false 0 64
    ∷ shows (made_up 1 2 0 (live Decided 5 6 0 31 9 4294967295)) 0 0 true 4294967295 64 ∷ shows (made_up 1 2 0 (live Decided 5 6 0 0 9 0)) 0 0 true 0 2
    ∷ []

-- ---- LOOK at a ballot (document 02, A.2)

-- a record of n stations whose ballot b is made up
abbrev with_votes : (n rule b : ℕ) → Ballot → Settlement
with_votes n rule b t = with_ballot b t (fresh n rule)

abbrev looking_at_ballots : List Row
looking_at_ballots =
    -- "It refuses with 42, then 9, and then gives empty sets, counts 0 and no answer"
    tallies (with_votes 33 1 0 (voted_by 4 9 true true)) 0 42 0 0 0 0 false false ∷ tallies (with_votes 3 0 0 (voted_by 4 9 true true)) 255 42 0 0 0 0 false false
    ∷ tallies (at_ballot 3 2 2 (entry_at Waiting 3 0) 0 (voted_by 4 9 true true)) 64 42 0 0 0 0 false false
    ∷ tallies (with_votes 0 1 0 (voted_by 4 9 true true)) 0 9 0 0 0 0 false false ∷ tallies (with_votes 0 2 0 (voted_by 4 9 true true)) 0 9 0 0 0 0 false false
    ∷ tallies (with_votes 1 1 0 (voted_by 4 9 true true)) 0 9 0 0 0 0 false false ∷ tallies (with_votes 32 1 5 (voted_by 4 9 true true)) 5 9 0 0 0 0 false false
    ∷ tallies (with_votes 2 1 1 (voted_by 4 9 true true)) 1 9 0 0 0 0 false false ∷ tallies (fresh 32 2) 64 9 0 0 0 0 false false
    ∷ tallies (with_votes 1 2 0 (voted_by 4 9 true true)) 255 9 0 0 0 0 false false
    -- "answers both sets, how many stations are in each, and the answer if there is one"; a bit beside no answer is none
    ∷ tallies (fresh 2 1) 0 0 0 0 0 0 false false
    ∷ tallies (with_votes 32 1 4 (voted_by 4 9 false false)) 4 0 4 9 1 2 false false ∷ tallies (with_votes 32 1 4 (voted_by 4 9 false true)) 4 0 4 9 1 2 false false
    ∷ tallies (with_votes 32 2 63 (voted_by 9 4 true true)) 63 0 9 4 2 1 true true ∷ tallies (with_votes 32 2 63 (voted_by 9 4 true false)) 63 0 9 4 2 1 true false
    -- made up: stations from n on, sets that meet, an answer that nobody cast, every station
    ∷ tallies (with_votes 1 2 0 (voted_by 2147483648 6 false false)) 0 0 2147483648 6 1 2 false false
    ∷ tallies (with_votes 2 1 0 (voted_by 3 3 true true)) 0 0 3 3 2 2 true true ∷ tallies (with_votes 2 1 0 (voted_by 0 0 true true)) 0 0 0 0 0 0 true true
    ∷ tallies (with_votes 32 2 1 (voted_by 4294967295 0 true false)) 1 0 4294967295 0 32 0 true false
    ∷ tallies (with_votes 32 2 1 (voted_by 0 4294967295 true true)) 1 0 0 4294967295 0 32 true true
    -- another ballot's sets, and a lost voter's
    ∷ tallies (with_votes 32 2 1 (voted_by 4 9 true true)) 2 0 0 0 0 0 false false
    ∷ tallies (at_ballot 4 1 2 (lost Awaiting 5 6 3 1 9 11) 1 (voted_by 4 8 false false)) 1 0 4 8 1 1 false false
    ∷ []

-- ---- whole entries after an event: "what a step does not name stays"

abbrev entries_after : List Row
entries_after =
    -- CLAIM, LOSE, DELIVER
    leaves (made_up 32 1 31 (live Idle 5 6 4 3 9 11)) (claim 31 4294967295) 31 (live Waiting 5 4294967295 4 3 9 11)
    ∷ leaves (made_up 32 2 31 (live Idle 5 6 4 3 9 11)) (claim 31 4294967295) 31 (live Waiting 5 4294967295 4 3 9 11)
    ∷ leaves (made_up 1 1 0 (live Idle 5 6 0 3 9 11)) (claim 0 0) 0 (live Waiting 5 0 0 3 9 11)
    ∷ leaves (made_up 1 2 0 (live Idle 5 6 0 3 9 11)) (claim 0 0) 0 (live Waiting 5 0 0 3 9 11)
    ∷ leaves (made_up 32 1 31 (live Seeking 5 6 4 3 9 11)) (lose 31) 31 (lost Seeking 5 6 4 3 9 11)
    ∷ leaves (made_up 32 2 31 (live Decided 5 6 4 3 9 11)) (lose 31) 31 (lost Decided 5 6 4 3 9 11)
    ∷ leaves (made_up 1 1 0 (live Idle 5 6 0 3 9 11)) (lose 0) 0 (lost Idle 5 6 0 3 9 11)
    ∷ leaves (beside 32 1 0 (live Seeking 5 6 4 3 9 11) 31 (live Waiting 0 8 0 0 0 0)) (deliver 31 0) 0 (live Seeking 2147483653 6 4 3 9 11)
    ∷ leaves (beside 32 2 31 (live Idle 4 6 4 3 9 11) 0 (lost Waiting 0 8 0 0 0 0)) (deliver 0 31) 31 (live Idle 5 6 4 3 9 11)
    ∷ leaves (made_up 1 2 0 (live Waiting 4 6 0 3 9 11)) (deliver 0 0) 0 (live Waiting 5 6 0 3 9 11)
    -- STEP, waiting
    ∷ leaves (made_up 32 1 31 (live Waiting 2147483653 6 4 3 9 11)) (step 31) 31 (live Voting 2147483653 6 31 3 9 11)
    ∷ leaves (made_up 32 2 31 (live Waiting 2147483653 6 4 3 9 11)) (step 31) 31 (live Voting 2147483653 6 31 3 9 11)
    ∷ leaves (made_up 1 1 0 (live Waiting 5 6 0 3 9 11)) (step 0) 0 (live Decided 5 6 0 3 9 6)
    ∷ leaves (made_up 1 2 0 (live Waiting 5 6 0 3 9 11)) (step 0) 0 (live Voting 5 6 0 3 9 11)
    -- STEP, voting: bit 2 of 4 in ballot 2, bit 2 of the claim of 4 in ballot 4
    ∷ leaves (made_up 32 1 31 (live Voting 5 6 4 2 9 11)) (step 31) 31 (live Awaiting 5 6 4 2 9 11)
    ∷ leaves_ballot (at_ballot 32 1 31 (live Voting 5 6 4 2 9 11) 2 (voted_by 4 0 false true)) (step 31) 2 (voted_by 4 2147483648 false true)
    ∷ leaves (beside 32 2 31 (live Voting 5 6 4 2 9 11) 4 (live Waiting 0 3 0 0 0 0)) (step 31) 31 (live Awaiting 5 6 4 2 9 11)
    ∷ leaves_ballot (beside 32 2 31 (live Voting 5 6 4 2 9 11) 4 (live Waiting 0 3 0 0 0 0)) (step 31) 4 (voted_by 2147483648 0 false false)
    ∷ leaves_ballot (made_up 1 2 0 (live Voting 5 4294967295 0 31 9 11)) (step 0) 62 (voted_by 0 1 false false)
    -- STEP, awaiting: the answer becomes bit 2, or bit 3, of 9
    ∷ leaves (at_ballot 32 1 31 (live Awaiting 5 6 4 2 9 11) 2 (voted_by 4 8 true true)) (step 31) 31 (live Seeking 5 6 4 2 13 11)
    ∷ leaves (at_ballot 32 1 31 (live Awaiting 5 6 4 3 9 11) 3 (voted_by 4 8 true false)) (step 31) 31 (live Seeking 5 6 4 3 1 11)
    ∷ leaves (at_ballot 1 2 0 (live Awaiting 5 6 0 2 9 11) 4 (voted_by 0 8 true true)) (step 0) 0 (live Seeking 5 6 0 2 13 11)
    ∷ leaves_ballot (at_ballot 1 2 0 (live Awaiting 5 6 0 2 9 11) 4 (voted_by 0 8 true true)) (step 0) 4 (voted_by 0 8 true true)
    -- STEP, seeking: 5 is not held; held, and 9 is 5 in bit 0, 5 in all five bits, or its claim in bits 0 and 1
    ∷ leaves (made_up 32 1 31 (live Seeking 5 6 4 0 9 11)) (step 31) 31 (live Seeking 5 6 5 0 9 11)
    ∷ leaves (made_up 32 2 31 (live Seeking 5 6 4 0 9 11)) (step 31) 31 (live Seeking 5 6 5 0 9 11)
    ∷ leaves (made_up 32 1 31 (live Seeking 32 6 4 0 9 11)) (step 31) 31 (live Voting 32 6 5 1 9 11)
    ∷ leaves (made_up 32 1 31 (live Seeking 32 6 4 2 9 11)) (step 31) 31 (live Seeking 32 6 5 2 9 11)
    ∷ leaves (beside 32 1 31 (live Seeking 32 6 4 4 5 11) 5 (live Waiting 0 8 0 0 0 0)) (step 31) 31 (live Decided 32 6 5 4 5 8)
    ∷ leaves (beside 32 2 31 (live Seeking 32 6 4 1 9 11) 5 (live Waiting 0 13 0 0 0 0)) (step 31) 31 (live FinishVoting 32 6 5 1 9 11)
    ∷ leaves (beside 32 2 31 (live Seeking 32 6 4 1 9 11) 5 (live Waiting 0 10 0 0 0 0)) (step 31) 31 (live Seeking 32 6 5 1 9 11)
    ∷ leaves (beside 32 2 31 (live Seeking 1 6 31 1 9 11) 0 (live Waiting 0 13 0 0 0 0)) (step 31) 31 (live FinishVoting 1 6 0 1 9 11)
    ∷ leaves (made_up 1 2 0 (live Seeking 5 6 0 1 10 11)) (step 0) 0 (live FinishVoting 5 6 0 1 10 11)
    -- STEP, the finish ballot 2k + 1
    ∷ leaves (made_up 32 2 31 (live FinishVoting 5 6 4 3 9 11)) (step 31) 31 (live FinishAwaiting 5 6 4 3 9 11)
    ∷ leaves_ballot (beside 32 2 31 (live FinishVoting 5 6 4 3 9 11) 4 (live Waiting 0 9 0 0 0 0)) (step 31) 7 (voted_by 0 2147483648 false false)
    ∷ leaves_ballot (beside 32 2 31 (live FinishVoting 5 6 4 3 9 11) 4 (live Waiting 0 25 0 0 0 0)) (step 31) 7 (voted_by 2147483648 0 false false)
    ∷ leaves (at_ballot 32 2 31 (live FinishAwaiting 5 6 4 3 9 11) 7 (voted_by 4 8 true true)) (step 31) 31 (live Decided 5 6 4 3 9 9)
    ∷ leaves (at_ballot 32 2 31 (live FinishAwaiting 5 6 4 3 9 11) 7 (voted_by 4 8 true false)) (step 31) 31 (live Voting 5 6 4 4 9 11)
    ∷ leaves (at_ballot 1 2 0 (live FinishAwaiting 5 6 0 31 9 11) 63 (voted_by 4 8 true true)) (step 0) 0 (live Decided 5 6 0 31 9 9)
    -- "Taking answer 0 from ballot 63"
    ∷ gives (at_ballot 1 2 0 (live FinishAwaiting 5 6 0 31 9 11) 63 (voted_by 4 8 false false)) (step 0) 8
    ∷ gives (at_ballot 1 2 0 (live FinishAwaiting 5 6 0 31 9 11) 63 (voted_by 4 8 true false)) (step 0) 42
    ∷ gives (at_ballot 1 2 0 (live FinishAwaiting 5 6 0 31 9 11) 63 (voted_by 4 8 true true)) (step 0) 0
    ∷ leaves (at_ballot 1 2 0 (live FinishAwaiting 5 6 0 31 9 11) 63 (voted_by 4 8 true false)) (step 0) 0 (live FinishAwaiting 5 6 0 31 9 11)
    -- ANSWER
    ∷ leaves_ballot (at_ballot 32 1 0 (live Awaiting 5 6 4 3 9 11) 4 (voted_by 4 0 false true)) (answer 4 0) 4 (voted_by 4 0 true false)
    ∷ leaves (at_ballot 32 1 0 (live Awaiting 5 6 4 3 9 11) 4 (voted_by 4 0 false true)) (answer 4 0) 0 (live Awaiting 5 6 4 3 9 11)
    ∷ leaves_ballot (at_ballot 32 2 0 (live Awaiting 5 6 4 3 9 11) 63 (voted_by 4 8 false false)) (answer 63 1) 63 (voted_by 4 8 true true)
    ∷ leaves_ballot (at_ballot 1 2 0 (lost Awaiting 5 6 0 3 9 11) 0 (voted_by 0 8 false false)) (answer 0 1) 0 (voted_by 0 8 true true)
    -- the bit that stands again: 0 and nothing changes, though nobody cast it; the other bit: 11, though somebody did
    ∷ gives (at_ballot 32 1 0 (live Awaiting 5 6 4 3 9 11) 4 (voted_by 4 0 true false)) (answer 4 0) 0
    ∷ leaves_ballot (at_ballot 32 1 0 (live Awaiting 5 6 4 3 9 11) 4 (voted_by 4 0 true false)) (answer 4 0) 4 (voted_by 4 0 true false)
    ∷ leaves (at_ballot 32 1 0 (live Awaiting 5 6 4 3 9 11) 4 (voted_by 4 0 true false)) (answer 4 0) 0 (live Awaiting 5 6 4 3 9 11)
    ∷ gives (at_ballot 32 2 0 (lost Idle 5 6 4 3 9 11) 63 (voted_by 0 0 true true)) (answer 63 1) 0
    ∷ leaves_ballot (at_ballot 32 2 0 (lost Idle 5 6 4 3 9 11) 63 (voted_by 0 0 true true)) (answer 63 1) 63 (voted_by 0 0 true true)
    ∷ gives (at_ballot 32 2 0 (live Idle 5 6 4 3 9 11) 63 (voted_by 0 0 true false)) (answer 63 0) 0
    ∷ leaves_ballot (at_ballot 32 2 0 (live Idle 5 6 4 3 9 11) 63 (voted_by 0 0 true false)) (answer 63 0) 63 (voted_by 0 0 true false)
    ∷ gives (at_ballot 32 1 0 (live Idle 5 6 4 3 9 11) 4 (voted_by 4 8 true false)) (answer 4 1) 11
    ∷ gives (at_ballot 32 2 0 (live Idle 5 6 4 3 9 11) 63 (voted_by 0 0 true true)) (answer 63 0) 11
    ∷ leaves_ballot (at_ballot 32 2 0 (live Idle 5 6 4 3 9 11) 63 (voted_by 0 0 true true)) (answer 63 0) 63 (voted_by 0 0 true true)
    ∷ gives (at_ballot 3 1 2 (live Decided 5 6 3 1 9 11) 0 (voted_by 4 8 true true)) (answer 0 1) 42
    ∷ gives (at_ballot 3 2 2 (live Decided 5 6 3 1 9 11) 0 (voted_by 4 8 true true)) (answer 0 0) 42
    -- a member from n on counts as one who cast the bit
    ∷ gives (at_ballot 2 1 0 (live Awaiting 5 6 1 0 9 11) 0 (voted_by 4 0 false false)) (answer 0 0) 0
    ∷ gives (at_ballot 2 1 0 (live Awaiting 5 6 1 0 9 11) 0 (voted_by 4 0 false false)) (answer 0 1) 12
    ∷ leaves_ballot (at_ballot 2 1 0 (live Awaiting 5 6 1 0 9 11) 0 (voted_by 1 2 true false)) (lose 0) 0 (voted_by 1 2 true false)
    -- LOSE of a voter, and a vote beside other voters: "A vote counts though its voter is lost later"
    ∷ leaves_ballot (at_ballot 4 1 2 (live Awaiting 5 6 3 1 9 11) 1 (voted_by 4 8 false false)) (lose 2) 1 (voted_by 4 8 false false)
    ∷ leaves_ballot (at_ballot 4 1 2 (live Voting 5 6 3 1 9 11) 1 (voted_by 8 1 true false)) (step 2) 1 (voted_by 8 5 true false)
    ∷ leaves_ballot (at_ballot 4 1 2 (live Voting 5 6 1 1 9 11) 1 (voted_by 8 1 true false)) (step 2) 1 (voted_by 12 1 true false)
    -- made up: members from n on, and sets that meet, stay as they are beside the voter
    ∷ leaves_ballot (at_ballot 1 2 0 (live Voting 5 6 0 0 9 11) 0 (voted_by 8 9 true true)) (step 0) 0 (voted_by 9 9 true true)
    ∷ leaves_ballot (at_ballot 1 2 0 (live Voting 5 7 0 0 9 11) 0 (voted_by 9 8 false true)) (step 0) 0 (voted_by 9 9 false true)
    ∷ leaves_ballot (at_ballot 2 2 1 (live FinishVoting 5 6 0 1 9 11) 3 (voted_by 4294967292 4294967292 true false)) (step 1) 3 (voted_by 4294967294 4294967292 true false)
    -- the other entries: a station beside, one from n on, and the sender; ballot 0, and a ballot that is not voted in
    ∷ leaves (made_up 3 2 1 (live Waiting 5 6 2 3 9 11)) (lose 0) 1 (live Waiting 5 6 2 3 9 11)
    ∷ leaves (made_up 2 1 31 (live Idle 5 6 4 3 9 11)) (claim 0 7) 31 (live Idle 5 6 4 3 9 11)
    ∷ leaves (beside 32 1 0 (live Seeking 5 6 4 3 9 11) 31 (live Waiting 5 8 4 3 9 11)) (deliver 31 0) 31 (live Waiting 5 8 4 3 9 11)
    ∷ leaves_ballot (at_ballot 32 1 31 (live Voting 5 6 4 2 9 11) 0 (voted_by 4 0 true false)) (step 31) 0 (voted_by 4 0 true false)
    ∷ leaves_ballot (at_ballot 32 2 31 (live Seeking 5 6 4 2 9 11) 4 (voted_by 4 0 true false)) (step 31) 4 (voted_by 4 0 true false)
    ∷ leaves_ballot (at_ballot 1 2 0 (live Idle 5 6 0 2 9 11) 0 (voted_by 4 0 true false)) (claim 0 7) 0 (voted_by 4 0 true false)
    -- "A record without stations has no ballots under either rule"; a lone station by station has none
    ∷ gives (fresh 0 1) (answer 0 0) 9 ∷ gives (fresh 0 2) (answer 0 0) 9 ∷ gives (fresh 1 1) (answer 0 0) 9 ∷ gives (fresh 1 2) (answer 63 0) 12
    ∷ []

abbrev pub edges : List Row
edges = opening ++ record_test ++ test_first ++ looking ++ looking_at_ballots ++ entries_after

-- ---- rows that are wrong in one number or mark: each is told

abbrev idle_31 : Settlement
idle_31 = made_up 32 1 31 (live Idle 5 6 4 3 9 11)

abbrev cast_1 : Settlement
cast_1 = at_ballot 1 2 0 (live Awaiting 5 6 0 3 9 11) 0 (voted_by 0 8 false false)

abbrev decided_31 : Settlement
decided_31 = made_up 32 2 31 (live Decided 5 6 4 3 9 11)

abbrev pub wrong : List Row
wrong =
    opens 1 2 40 1 2 ∷ opens 1 2 0 0 2 ∷ opens 1 2 0 1 1 ∷ gives (fresh 1 2) (step 0) 0
    ∷ leaves idle_31 (lose 31) 31 (lost Waiting 5 6 4 3 9 11) ∷ leaves idle_31 (lose 31) 31 (live Idle 5 6 4 3 9 11)
    ∷ leaves idle_31 (lose 31) 31 (lost Idle 4 6 4 3 9 11) ∷ leaves idle_31 (lose 31) 31 (lost Idle 5 7 4 3 9 11)
    ∷ leaves idle_31 (lose 31) 31 (lost Idle 5 6 5 3 9 11) ∷ leaves idle_31 (lose 31) 31 (lost Idle 5 6 4 2 9 11)
    ∷ leaves idle_31 (lose 31) 31 (lost Idle 5 6 4 3 8 11) ∷ leaves idle_31 (lose 31) 31 (lost Idle 5 6 4 3 9 12)
    ∷ leaves_ballot cast_1 (answer 0 1) 0 (voted_by 4 8 true true) ∷ leaves_ballot cast_1 (answer 0 1) 0 (voted_by 0 0 true true)
    ∷ leaves_ballot cast_1 (answer 0 1) 0 (voted_by 0 8 false true) ∷ leaves_ballot cast_1 (answer 0 1) 0 (voted_by 0 8 true false)
    ∷ shows decided_31 31 1 true 11 8 ∷ shows decided_31 31 0 false 11 8 ∷ shows decided_31 31 0 true 6 8 ∷ shows decided_31 31 0 true 11 7
    ∷ tallies cast_1 0 1 0 8 0 1 false false ∷ tallies cast_1 0 0 8 0 1 0 false false ∷ tallies cast_1 0 0 1 8 0 1 false false
    ∷ tallies cast_1 0 0 0 9 0 1 false false ∷ tallies cast_1 0 0 0 8 1 1 false false ∷ tallies cast_1 0 0 0 8 0 2 false false ∷ tallies cast_1 0 0 0 8 0 1 true false
    ∷ tallies cast_1 0 0 0 8 0 1 false true
    ∷ []

abbrev pub not_right : Row → Bool
not_right row = not (edge_right row)

pub record EdgesRight : Type 0 where
  pub rows : every edge_right edges ≡ true
  pub told : every not_right wrong ≡ true

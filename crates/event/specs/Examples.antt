-- Worked rows, with literal numbers, on made-up entries among others: each number of document 01's events, every two tests of an event that can be met
-- together, and the whole entries that each event and each STEP leaves. Assumes nothing.
use Rattle.std.specs.Prelude.{ℕ, Bool, true, false, ◌&&◌, ◌≡◌, List, [], ◌∷◌, eqb}
use Rattle.std.specs.Bool.{beq}
use Rattle.bits.specs.Examples.{every}
use Rattle.consensus.specs.Events.{Event, claim, deliver, step, lose, answer}
use Rattle.entry.specs.declared.entry.Stage.{Stage}
use Rattle.entry.specs.declared.entry.Stage.TheVariants.{Idle, Waiting, Voting, Awaiting, Seeking, FinishVoting, FinishAwaiting, Decided}
use Rattle.entry.specs.declared.entry.Station.{Station}
use Rattle.entry.specs.declared.entry.Ballot.{Ballot}
use Rattle.event.specs.declared.view.View.{View}
use Rattle.entry.specs.Stages.{at}
use Rattle.entry.specs.Entries.{blank_station, blank_ballot}
use Rattle.event.specs.Places.{own_of, beside_of, ballot_of}
use Rattle.event.specs.Change.{number_on, own_after, ballot_after}

-- an event's number; that it is accepted, and the whole entries of its station and of its ballot after it; its station, the one beside it and its ballot
pub data Row : Type 0 where
  gives : View → Event → ℕ → Row
  leaves : View → Event → Station → Ballot → Row
  looks : View → Event → (own beside ballot : ℕ) → Row

abbrev pub same_station : Station → Station → Bool
same_station t u =
    at u.stage t.stage && beq t.lost u.lost && eqb t.held u.held && eqb t.claim u.claim
    && eqb t.cursor u.cursor && eqb t.round u.round && eqb t.word u.word && eqb t.decision u.decision

abbrev pub same_ballot : Ballot → Ballot → Bool
same_ballot b c =
    eqb b.cast0 c.cast0 && eqb b.cast1 c.cast1 && beq b.answered c.answered && beq b.answer c.answer

abbrev pub entry_row_right : Row → Bool
entry_row_right (gives v e k) = eqb (number_on v e) k
entry_row_right (leaves v e t b) = eqb (number_on v e) 0 && same_station (own_after v e) t && same_ballot (ballot_after v e) b
entry_row_right (looks v e o s b) = eqb (own_of e) o && eqb (beside_of v.count v.own e) s && eqb (ballot_of v.rule v.own e) b

-- a station at a stage, which holds the claims of the stations in the mask `held`, with claim c, cursor j, round k, word d and decision w
abbrev pub live : Stage → (held c j k d w : ℕ) → Station
live g held c j k d w = record { stage = g; lost = false; held = held; claim = c; cursor = j; round = k; word = d; decision = w }

abbrev pub lost : Stage → (held c j k d w : ℕ) → Station
lost g held c j k d w = record { stage = g; lost = true; held = held; claim = c; cursor = j; round = k; word = d; decision = w }

-- a ballot: the masks of the stations that cast 0 and 1, answered, the answer
abbrev pub voted_by : (zeros ones : ℕ) (answered bit : Bool) → Ballot
voted_by zeros ones answered bit = record { cast0 = zeros; cast1 = ones; answered = answered; answer = bit }

-- n stations under a rule: the own station alone; or the one beside it and the ballot too
abbrev alone : (n rule : ℕ) → Station → View
alone n rule t = record { count = n; rule = rule; own = t; beside = blank_station; ballot = blank_ballot }

abbrev seen : (n rule : ℕ) → Station → Station → Ballot → View
seen n rule t u b = record { count = n; rule = rule; own = t; beside = u; ballot = b }

-- a made-up entry whose parts all differ: it holds the claims of 1 and 2, its claim is 7, cursor 1, round 3, word 5 and decision 9; and one lost
abbrev made : Stage → Station
made g = live g 6 7 1 3 5 9

abbrev gone : Stage → Station
gone g = lost g 6 7 1 3 5 9

-- a station that claimed 5; a ballot answered 0, where only 0 was cast, and one answered 1, where only 1 was
abbrev five : Station
five = live Waiting 0 5 0 0 0 0

abbrev no : Ballot
no = voted_by 4 0 true false

abbrev yes : Ballot
yes = voted_by 0 8 true true

-- the numbers, tests in order; a row that meets several says which comes first
abbrev numbers : List Row
numbers =
    -- CLAIM: 1, 2, 3
    gives (alone 2 1 blank_station) (claim 2 7) 1
    ∷ gives (alone 0 2 blank_station) (claim 0 7) 1
    ∷ gives (alone 2 1 (gone Idle)) (claim 2 7) 1
    ∷ gives (alone 2 1 (made Waiting)) (claim 2 7) 1
    ∷ gives (alone 2 1 (gone Idle)) (claim 1 7) 2
    ∷ gives (alone 2 1 (gone Waiting)) (claim 1 7) 2
    ∷ gives (alone 2 1 (made Waiting)) (claim 1 7) 3
    ∷ gives (alone 2 2 (made FinishVoting)) (claim 1 7) 3
    ∷ gives (alone 2 2 (made FinishAwaiting)) (claim 1 7) 3
    ∷ gives (alone 2 1 (made Decided)) (claim 1 7) 3
    -- DELIVER: 1, 2, 4, 5
    ∷ gives (seen 2 1 blank_station five no) (deliver 2 1) 1
    ∷ gives (seen 2 1 blank_station five no) (deliver 0 2) 1
    ∷ gives (seen 2 1 (gone Waiting) five no) (deliver 2 1) 1
    ∷ gives (seen 2 1 (gone Waiting) five no) (deliver 0 2) 1
    ∷ gives (seen 2 1 (made Waiting) blank_station no) (deliver 2 1) 1
    ∷ gives (seen 2 1 (made Waiting) five no) (deliver 1 2) 1
    ∷ gives (seen 2 1 (gone Idle) five no) (deliver 0 1) 2
    ∷ gives (seen 2 1 (gone Idle) blank_station no) (deliver 0 1) 2
    ∷ gives (seen 2 1 (gone Idle) five no) (deliver 1 0) 2
    ∷ gives (seen 2 1 (made Idle) blank_station no) (deliver 0 1) 4
    ∷ gives (seen 2 1 (made Idle) blank_station no) (deliver 1 0) 4
    ∷ gives (seen 2 1 (made Idle) (made Idle) no) (deliver 0 1) 4
    ∷ gives (seen 2 1 (made Idle) five no) (deliver 1 0) 5
    ∷ gives (seen 32 2 (live Idle 2147483648 0 0 0 0 0) five no) (deliver 31 1) 5
    -- STEP: 1, 2, 6, 7, 8, 42
    ∷ gives (alone 2 1 (made Voting)) (step 2) 1
    ∷ gives (alone 2 1 (gone Voting)) (step 2) 1
    ∷ gives (alone 2 1 (made Idle)) (step 2) 1
    ∷ gives (alone 2 1 (made Decided)) (step 2) 1
    ∷ gives (alone 2 1 (made Awaiting)) (step 2) 1
    ∷ gives (seen 2 2 (live FinishAwaiting 6 7 1 31 5 9) five no) (step 2) 1
    ∷ gives (alone 2 1 (gone Voting)) (step 1) 2
    ∷ gives (alone 2 1 (gone Idle)) (step 1) 2
    ∷ gives (alone 2 1 (gone Decided)) (step 1) 2
    ∷ gives (alone 2 1 (gone Waiting)) (step 0) 2
    ∷ gives (alone 2 1 (gone Awaiting)) (step 1) 2
    ∷ gives (seen 2 2 (lost FinishAwaiting 6 7 1 31 5 9) five no) (step 1) 2
    ∷ gives (seen 2 1 (made Idle) five no) (step 1) 6
    ∷ gives (seen 2 1 (made Decided) five no) (step 1) 7
    ∷ gives (alone 2 1 (made Waiting)) (step 0) 8
    ∷ gives (alone 2 1 (made Awaiting)) (step 1) 8
    ∷ gives (seen 2 1 (made Awaiting) five (voted_by 4 8 false true)) (step 1) 8
    ∷ gives (seen 2 2 (made FinishAwaiting) five (voted_by 4 8 false true)) (step 1) 8
    ∷ gives (seen 2 2 (live FinishAwaiting 6 7 1 31 5 9) five (voted_by 4 8 false false)) (step 1) 8
    ∷ gives (seen 2 2 (live FinishAwaiting 6 7 1 31 5 9) five no) (step 1) 42
    -- LOSE: 1, 2
    ∷ gives (alone 2 1 blank_station) (lose 2) 1
    ∷ gives (alone 2 1 (gone Idle)) (lose 2) 1
    ∷ gives (alone 2 1 (gone Decided)) (lose 1) 2
    -- ANSWER: 9, 10, 11, 12; the bit that stands: 0, though nobody cast it; a bit beside no answer does not stand; a member from n on counts
    ∷ gives (alone 32 1 blank_station) (answer 5 0) 9
    ∷ gives (alone 32 2 blank_station) (answer 64 0) 9
    ∷ gives (alone 1 1 blank_station) (answer 0 0) 9
    ∷ gives (alone 0 2 blank_station) (answer 0 0) 9
    ∷ gives (alone 32 1 blank_station) (answer 5 2) 9
    ∷ gives (seen 32 1 blank_station five no) (answer 5 0) 9
    ∷ gives (seen 32 1 blank_station five (voted_by 4 8 false false)) (answer 4 2) 10
    ∷ gives (seen 32 1 blank_station five yes) (answer 4 2) 10
    ∷ gives (alone 32 1 blank_station) (answer 4 2) 10
    ∷ gives (seen 32 1 blank_station five no) (answer 4 2) 10
    ∷ gives (seen 32 1 blank_station five yes) (answer 5 1) 9
    ∷ gives (seen 32 1 blank_station five yes) (answer 4 0) 11
    ∷ gives (seen 32 1 blank_station five no) (answer 4 1) 11
    ∷ gives (seen 32 2 blank_station five (voted_by 4 8 true true)) (answer 63 0) 11
    ∷ gives (seen 32 2 blank_station five (voted_by 4 8 true false)) (answer 63 1) 11
    ∷ gives (seen 32 1 blank_station five yes) (answer 4 1) 0
    ∷ gives (seen 32 1 blank_station five no) (answer 4 0) 0
    ∷ gives (seen 32 2 blank_station five (voted_by 0 0 true true)) (answer 63 1) 0
    ∷ gives (seen 32 2 blank_station five (voted_by 0 0 true true)) (answer 63 0) 11
    ∷ gives (seen 1 2 blank_station five (voted_by 0 8 true false)) (answer 0 0) 0
    ∷ gives (seen 1 2 blank_station five (voted_by 0 8 true false)) (answer 0 1) 11
    ∷ gives (seen 2 1 blank_station five (voted_by 4 0 false true)) (answer 0 1) 12
    ∷ gives (seen 2 1 blank_station five (voted_by 0 8 false false)) (answer 0 0) 12
    ∷ gives (seen 2 1 blank_station five (voted_by 65536 0 false true)) (answer 0 0) 0
    ∷ gives (seen 2 1 blank_station five (voted_by 65536 0 false true)) (answer 0 1) 12
    ∷ gives (seen 2 2 blank_station five (voted_by 0 2147483648 false false)) (answer 63 1) 0
    ∷ gives (alone 32 1 blank_station) (answer 4 0) 12
    ∷ gives (seen 32 2 blank_station five (voted_by 4 0 false false)) (answer 63 1) 12
    ∷ gives (seen 1 2 blank_station five (voted_by 0 8 false false)) (answer 0 0) 12
    ∷ []

-- accepted: the whole entries after it
abbrev entries : List Row
entries =
    -- CLAIM, from OPEN's entry too
    leaves (seen 2 1 blank_station blank_station blank_ballot) (claim 1 7) (live Waiting 0 7 0 0 0 0) (voted_by 0 0 false false)
    ∷ leaves (seen 4 1 (made Idle) five no) (claim 3 8) (live Waiting 6 8 1 3 5 9) no
    ∷ leaves (seen 32 2 (made Idle) five yes) (claim 31 4294967295) (live Waiting 6 4294967295 1 3 5 9) yes
    -- DELIVER: one claim more; s may be idle, t lost, and t may be s
    ∷ leaves (seen 4 1 (made Seeking) five no) (deliver 0 1) (live Seeking 7 7 1 3 5 9) no
    ∷ leaves (seen 4 2 (made Idle) (gone Decided) yes) (deliver 3 1) (live Idle 14 7 1 3 5 9) yes
    ∷ leaves (seen 32 2 (made Waiting) (made Waiting) yes) (deliver 31 31) (live Waiting 2147483654 7 1 3 5 9) yes
    -- LOSE: the mark
    ∷ leaves (seen 1 1 blank_station blank_station blank_ballot) (lose 0) (lost Idle 0 0 0 0 0 0) (voted_by 0 0 false false)
    ∷ leaves (seen 4 2 (made Decided) five no) (lose 1) (lost Decided 6 7 1 3 5 9) no
    ∷ leaves (seen 4 1 (made Awaiting) five (voted_by 2 2 true true)) (lose 1) (lost Awaiting 6 7 1 3 5 9) (voted_by 2 2 true true)
    -- ANSWER: the ballot's answer; any bit cast may be given
    ∷ leaves (seen 32 1 (made Seeking) five (voted_by 4 0 false true)) (answer 4 0) (live Seeking 6 7 1 3 5 9) (voted_by 4 0 true false)
    ∷ leaves (seen 32 2 (gone Decided) five (voted_by 0 8 false false)) (answer 63 1) (lost Decided 6 7 1 3 5 9) (voted_by 0 8 true true)
    ∷ leaves (seen 1 2 (made Idle) five (voted_by 4 8 false false)) (answer 1 1) (live Idle 6 7 1 3 5 9) (voted_by 4 8 true true)
    ∷ leaves (seen 2 1 (made Idle) five (voted_by 4 8 false true)) (answer 0 0) (live Idle 6 7 1 3 5 9) (voted_by 4 8 true false)
    -- ANSWER of the bit that stands: nothing, whoever cast it
    ∷ leaves (seen 32 1 (made Awaiting) five yes) (answer 4 1) (live Awaiting 6 7 1 3 5 9) yes
    ∷ leaves (seen 32 2 (gone Decided) five (voted_by 4 8 true false)) (answer 63 0) (lost Decided 6 7 1 3 5 9) (voted_by 4 8 true false)
    ∷ leaves (seen 2 1 (made Idle) five (voted_by 0 0 true true)) (answer 0 1) (live Idle 6 7 1 3 5 9) (voted_by 0 0 true true)
    ∷ leaves (seen 1 2 (made Seeking) five (voted_by 0 8 true false)) (answer 1 0) (live Seeking 6 7 1 3 5 9) (voted_by 0 8 true false)
    -- STEP, waiting: the cursor on itself; by station a lone one decides its own claim
    ∷ leaves (seen 4 1 (made Waiting) five no) (step 2) (live Voting 6 7 2 3 5 9) no
    ∷ leaves (seen 32 2 (live Waiting 2147483648 7 1 3 5 9) five yes) (step 31) (live Voting 2147483648 7 31 3 5 9) yes
    ∷ leaves (seen 1 1 (live Waiting 3 7 1 3 5 9) five no) (step 0) (live Decided 3 7 0 3 5 7) no
    ∷ leaves (seen 1 2 (live Waiting 3 7 1 3 5 9) five yes) (step 0) (live Voting 3 7 0 3 5 9) yes
    -- voting: bit k of the cursor, or of its claim; the voter in that set alone, where it may be already, or in the other one
    ∷ leaves (seen 4 1 (live Voting 6 7 2 1 5 9) five (voted_by 0 0 true false)) (step 1) (live Awaiting 6 7 2 1 5 9) (voted_by 0 2 true false)
    ∷ leaves (seen 4 2 (live Voting 6 7 2 1 5 9) five (voted_by 0 0 true true)) (step 1) (live Awaiting 6 7 2 1 5 9) (voted_by 2 0 true true)
    ∷ leaves (seen 4 1 (live Voting 6 7 1 1 5 9) (made Waiting) (voted_by 4 8 false false)) (step 3) (live Awaiting 6 7 1 1 5 9) (voted_by 12 8 false false)
    ∷ leaves (seen 32 1 (live Voting 6 7 16 4 5 9) five (voted_by 4 0 false true)) (step 31) (live Awaiting 6 7 16 4 5 9) (voted_by 4 2147483648 false true)
    ∷ leaves (seen 32 2 (live Voting 6 7 31 31 5 9) (live Decided 0 2147483648 0 0 0 0) blank_ballot) (step 1) (live Awaiting 6 7 31 31 5 9) (voted_by 0 2 false false)
    ∷ leaves (seen 4 2 (live Voting 6 7 2 0 5 9) (made Idle) (voted_by 5 5 false false)) (step 0) (live Awaiting 6 7 2 0 5 9) (voted_by 5 5 false false)
    ∷ leaves (seen 4 2 (live Voting 6 7 2 0 5 9) (made Idle) (voted_by 9 4294967280 false false)) (step 3) (live Awaiting 6 7 2 0 5 9) (voted_by 9 4294967288 false false)
    -- awaiting: the answer becomes bit k of the word, whatever stood there
    ∷ leaves (seen 32 1 (made Awaiting) five yes) (step 1) (live Seeking 6 7 1 3 13 9) yes
    ∷ leaves (seen 2 2 (live Awaiting 6 7 1 2 5 9) five no) (step 1) (live Seeking 6 7 1 2 1 9) no
    ∷ leaves (seen 2 2 (live Awaiting 6 7 1 2 5 9) five yes) (step 1) (live Seeking 6 7 1 2 5 9) yes
    ∷ leaves (seen 2 2 (live Awaiting 6 7 1 1 5 9) five no) (step 1) (live Seeking 6 7 1 1 5 9) no
    ∷ leaves (seen 1 2 (live Awaiting 6 7 0 31 5 9) five yes) (step 0) (live Seeking 6 7 0 31 2147483653 9) yes
    -- seeking: the cursor moves first, around the n stations; a claim that is not held, or that does not fit, is passed over
    ∷ leaves (seen 3 2 (live Seeking 6 7 2 0 5 9) five no) (step 1) (live Seeking 6 7 0 0 5 9) no
    ∷ leaves (seen 4 2 (live Seeking 6 7 1 1 7 9) five yes) (step 1) (live Seeking 6 7 2 1 7 9) yes
    ∷ leaves (seen 4 1 (live Seeking 6 7 1 1 5 9) five yes) (step 1) (live Seeking 6 7 2 1 5 9) yes
    ∷ leaves (seen 32 1 (live Seeking 6 7 31 4 5 9) five no) (step 1) (live Seeking 6 7 0 4 5 9) no
    ∷ leaves (seen 32 2 (live Seeking 6 7 15 0 5 9) five yes) (step 1) (live Seeking 6 7 16 0 5 9) yes
    -- it ends where the low k + 1 bits fit: by station the next round, or after the last one the claim; by claim the finish ballot
    ∷ leaves (seen 4 1 (live Seeking 6 7 1 0 4 9) five yes) (step 1) (live Voting 6 7 2 1 4 9) yes
    ∷ leaves (seen 4 1 (live Seeking 6 7 1 1 6 9) five no) (step 1) (live Decided 6 7 2 1 6 5) no
    ∷ leaves (seen 32 1 (live Seeking 1 7 31 4 32 9) five no) (step 1) (live Decided 1 7 0 4 32 5) no
    ∷ leaves (seen 32 1 (live Seeking 1 7 31 3 16 9) five no) (step 1) (live Voting 1 7 0 4 16 9) no
    ∷ leaves (seen 3 2 (live Seeking 1 7 2 1 13 9) five no) (step 1) (live FinishVoting 1 7 0 1 13 9) no
    ∷ leaves (seen 4 2 (live Seeking 6 7 1 0 5 9) (made Idle) no) (step 1) (live FinishVoting 6 7 2 0 5 9) no
    ∷ leaves (seen 32 2 (live Seeking 2147483648 7 30 0 5 9) five yes) (step 1) (live FinishVoting 2147483648 7 31 0 5 9) yes
    ∷ leaves (seen 1 2 (live Seeking 1 7 0 0 1 9) (live Seeking 1 7 0 0 1 9) yes) (step 0) (live FinishVoting 1 7 0 0 1 9) yes
    -- the finish vote: 1 for the whole claim, not for its low bits
    ∷ leaves (seen 2 2 (live FinishVoting 6 7 0 1 1 9) five (voted_by 0 0 true true)) (step 1) (live FinishAwaiting 6 7 0 1 1 9) (voted_by 2 0 true true)
    ∷ leaves (seen 32 2 (live FinishVoting 6 7 0 2 5 9) five (voted_by 0 0 true false)) (step 31) (live FinishAwaiting 6 7 0 2 5 9) (voted_by 0 2147483648 true false)
    ∷ leaves (seen 2 2 (live FinishVoting 6 7 0 0 5 9) five (voted_by 4 8 false true)) (step 1) (live FinishAwaiting 6 7 0 0 5 9) (voted_by 4 10 false true)
    ∷ leaves (seen 2 2 (live FinishVoting 6 7 0 0 5 9) (live Waiting 0 1 0 0 0 0) (voted_by 4 8 false false)) (step 1) (live FinishAwaiting 6 7 0 0 5 9) (voted_by 6 8 false false)
    ∷ leaves (seen 2 2 (live FinishVoting 6 7 0 0 0 9) blank_station blank_ballot) (step 1) (live FinishAwaiting 6 7 0 0 0 9) (voted_by 0 2 false false)
    -- the finish answer: 1 decides the word, in the last ballot too; 0 begins the next round
    ∷ leaves (seen 2 2 (made FinishAwaiting) five yes) (step 1) (live Decided 6 7 1 3 5 5) yes
    ∷ leaves (seen 32 2 (live FinishAwaiting 6 7 1 31 5 9) five yes) (step 1) (live Decided 6 7 1 31 5 5) yes
    ∷ leaves (seen 2 2 (made FinishAwaiting) five no) (step 1) (live Voting 6 7 1 4 5 9) no
    ∷ leaves (seen 1 2 (live FinishAwaiting 6 7 0 30 5 9) five no) (step 0) (live Voting 6 7 0 31 5 9) no
    -- a round is a byte; the record test turns such a record away before
    ∷ leaves (seen 2 2 (live FinishAwaiting 6 7 1 255 5 9) five no) (step 1) (live Voting 6 7 1 0 5 9) no
    ∷ []

-- the station, the one beside it and the ballot; round 3 by station, by claim, and whether to finish; the cursor, and the next one around
abbrev places : List Row
places =
    looks (alone 32 1 (live Voting 0 0 4 3 0 0)) (step 1) 1 4 3
    ∷ looks (alone 32 1 (live Awaiting 0 0 4 3 0 0)) (step 1) 1 4 3
    ∷ looks (alone 32 2 (live Voting 0 0 4 3 0 0)) (step 1) 1 4 6
    ∷ looks (alone 32 2 (live Awaiting 0 0 4 3 0 0)) (step 1) 1 4 6
    ∷ looks (alone 32 2 (live FinishVoting 0 0 4 3 0 0)) (step 1) 1 4 7
    ∷ looks (alone 32 2 (live FinishAwaiting 0 0 4 31 0 0)) (step 1) 1 4 63
    ∷ looks (alone 32 2 (live Seeking 0 0 4 3 0 0)) (step 1) 1 5 0
    ∷ looks (alone 32 2 (live Seeking 0 0 31 3 0 0)) (step 1) 1 0 0
    ∷ looks (alone 1 2 (live Seeking 0 0 0 3 0 0)) (step 0) 0 0 0
    -- a cursor that is no station; the record test turns such a record away before
    ∷ looks (alone 4 1 (live Seeking 0 0 9 0 0 0)) (step 1) 1 2 0
    ∷ looks (alone 0 1 (live Seeking 0 0 9 0 0 0)) (step 1) 1 0 0
    -- the other events
    ∷ looks (alone 32 2 (live Seeking 0 0 4 3 0 0)) (deliver 9 1) 1 9 0
    ∷ looks (alone 32 2 (live Seeking 0 0 4 3 0 0)) (claim 2 7) 2 2 0
    ∷ looks (alone 32 2 (live Seeking 0 0 4 3 0 0)) (lose 2) 2 2 0
    ∷ looks (alone 32 2 (live Seeking 0 0 4 3 0 0)) (answer 9 1) 0 0 9
    ∷ []

-- every row is right
pub record EntryRowsRight : Type 0 where
  pub numbers_right : every entry_row_right numbers ≡ true
  pub entries_right : every entry_row_right entries ≡ true
  pub places_right : every entry_row_right places ≡ true

-- What each event is turned away for (document 01, "Operations and what they turn away"): its tests in the order written, each with its number, on
-- what it looks at. Assumes nothing.
use Rattle.std.specs.Prelude.{ℕ, pred, Bool, not, ◌&&◌, ◌||◌, List, [], ◌∷◌, eqb, ltb}
use Rattle.std.specs.Bool.{beq}
use Rattle.basics.specs.Tests.{Test, when}
use Rattle.bits.specs.Words.{member}
use Rattle.consensus.specs.Events.{Event, claim, deliver, step, lose, answer}
use Rattle.consensus.specs.Rules.{finish_ballot, as_bit}
use Rattle.entry.specs.declared.entry.Stage.TheVariants.{Waiting, Awaiting, FinishAwaiting}
use Rattle.event.specs.declared.view.View.{View}
use Rattle.entry.specs.Stages.{at, not_idle, is_decided}
use Rattle.entry.specs.Entries.{ballot_entries, no_station, no_ballot, was_cast}

abbrev pub claim_tests : View → ℕ → List Test
claim_tests v s =
    when (no_station v.count s) 1
    ∷ when v.own.lost 2
    ∷ when (not_idle v.own.stage) 3
    ∷ []

-- beside the receiver stands the sender
abbrev pub deliver_tests : View → ℕ → ℕ → List Test
deliver_tests v t s =
    when (no_station v.count t || no_station v.count s) 1
    ∷ when v.own.lost 2
    ∷ when (not (not_idle v.beside.stage)) 4
    ∷ when (member t v.own.held) 5
    ∷ []

-- "waiting without its own claim, or awaiting an unanswered ballot"
abbrev pub must_wait : View → ℕ → Bool
must_wait v s =
    at Waiting v.own.stage && not (member s v.own.held)
    || (at Awaiting v.own.stage || at FinishAwaiting v.own.stage) && not v.ballot.answered

-- "taking answer 0 from ballot 63", the last one
abbrev pub last_ballot : ℕ
last_ballot = pred ballot_entries

abbrev pub takes_last_no : View → Bool
takes_last_no v = at FinishAwaiting v.own.stage && not v.ballot.answer && eqb (finish_ballot v.own.round) last_ballot

abbrev pub step_tests : View → ℕ → List Test
step_tests v s =
    when (no_station v.count s) 1
    ∷ when v.own.lost 2
    ∷ when (not (not_idle v.own.stage)) 6
    ∷ when (is_decided v.own.stage) 7
    ∷ when (must_wait v s) 8
    ∷ when (takes_last_no v) 42
    ∷ []

abbrev pub lose_tests : View → ℕ → List Test
lose_tests v s =
    when (no_station v.count s) 1
    ∷ when v.own.lost 2
    ∷ []

-- document 02, A.1: "the answer a ballot already has is accepted again", "Number 11 is for the other bit only", "12 is met only where no answer stands"
abbrev pub answer_tests : View → ℕ → ℕ → List Test
answer_tests v b a =
    when (no_ballot v.count v.rule b) 9
    ∷ when (ltb 1 a) 10
    ∷ when (v.ballot.answered && not (beq v.ballot.answer (as_bit a))) 11
    ∷ when (not v.ballot.answered && not (was_cast v.ballot (as_bit a))) 12
    ∷ []

abbrev pub tests_on : View → Event → List Test
tests_on v (claim s c) = claim_tests v s
tests_on v (deliver t s) = deliver_tests v t s
tests_on v (step s) = step_tests v s
tests_on v (lose s) = lose_tests v s
tests_on v (answer b a) = answer_tests v b a

-- The rules of document 01, as document 02 changed them, on the play's state: the number of each event, the tests in the order written
-- ("Operations and what they turn away"), and what an accepted event does ("What one STEP does"). Assumes nothing.
use Rattle.std.specs.Prelude.{ℕ, suc, ◌+◌, ◌*◌, ◌%◌, Bool, true, false, cond, not, ◌&&◌, ◌||◌, eqb, ltb}
use Rattle.std.specs.Bool.{beq}
use Rattle.std.proofs.Math.Option.{Option, none, some}
use Rattle.bits.specs.Digits.{bit}
use Rattle.bits.specs.Words.{with_bit, low_agree}
use Rattle.basics.specs.Tests.{refuse}
use Rattle.basics.specs.Below.{any_below}
use Rattle.consensus.specs.Events.{Event, claim, deliver, step, lose, answer, History, start, ◌▷◌, Rule, rule_1, rule_2, Opening, rounds, ballots}
use Rattle.consensus.specs.State.{Stage, idle, waiting, voting, awaiting, seeking, finish_voting, finish_awaiting, decided, Station, State, fresh, claimed, claim_of, held, answered, bit_of, update, set_station, with_stage}

-- ---- ballots and bits

-- the ballot that settles bit k: k by station, 2k by claim; and the one that settles whether to finish after bit k, 2k + 1
abbrev pub bit_ballot_by : Rule → ℕ → ℕ
bit_ballot_by rule_1 k = k
bit_ballot_by rule_2 k = 2 * k

abbrev pub bit_ballot : Opening → ℕ → ℕ
bit_ballot o k = bit_ballot_by o.rule k

abbrev pub finish_ballot : ℕ → ℕ
finish_ballot k = 2 * k + 1

-- what the bits of station j are read of: its number by station, its claim by claim
abbrev pub spelled_by : Rule → State → ℕ → ℕ
spelled_by rule_1 st j = j
spelled_by rule_2 st j = claim_of st j

abbrev pub spelled : Opening → State → ℕ → ℕ
spelled o st j = spelled_by o.rule st j

-- what was cast is the bit a
abbrev pub is_bit : Bool → Option Bool → Bool
is_bit a none = false
is_bit a (some x) = beq x a

-- bit a was cast in ballot b: some station cast it
abbrev pub was_cast : Opening → State → ℕ → Bool → Bool
was_cast o st b a = any_below o.count (λ s. is_bit a ((st.station s).cast b))

-- a bit is given as a number, 0 or 1
abbrev pub as_bit : ℕ → Bool
as_bit a = eqb a 1

-- ---- numbers: 0 is accepted, and the first test met gives the number

abbrev pub no_station : Opening → ℕ → Bool
no_station o s = not (ltb s o.count)

-- 8 was tested before: only taking answer 0 from the last ballot is refused, with 42
abbrev pub last_refusal : Opening → Option Bool → ℕ → ℕ
last_refusal o none b = 0
last_refusal o (some true) b = 0
last_refusal o (some false) b = refuse (eqb (suc b) (ballots o)) 42 0

-- What an ANSWER of the bit a is refused for, beside the answer that its ballot has, and whether a was cast there (document 02, A.1): "the answer
-- a ballot already has is accepted again", "Number 11 is for the other bit only", "12 is met only where no answer stands"
abbrev pub answer_number : Option Bool → (a was_cast : Bool) → ℕ
answer_number none a c = refuse (not c) 12 0
answer_number (some x) a c = refuse (not (beq x a)) 11 0

-- what STEP is refused for at each stage
unfoldable pub stage_number : Opening → State → ℕ → Stage → ℕ
stage_number o st s idle = 6
stage_number o st s waiting = refuse (not (held st s s)) 8 0
stage_number o st s (voting j k d) = 0
stage_number o st s (awaiting j k d) = refuse (not (answered (st.answer_of (bit_ballot o k)))) 8 0
stage_number o st s (seeking j k d) = 0
stage_number o st s (finish_voting j k d) = 0
stage_number o st s (finish_awaiting j k d) =
    refuse (not (answered (st.answer_of (finish_ballot k)))) 8 (last_refusal o (st.answer_of (finish_ballot k)) (finish_ballot k))
stage_number o st s (decided v k) = 7

unfoldable pub number : Opening → State → Event → ℕ
number o st (claim s v) = refuse (no_station o s) 1 (refuse (st.station s).lost 2 (refuse (claimed st s) 3 0))
number o st (deliver t s) =
    refuse (no_station o t || no_station o s) 1 (refuse (st.station s).lost 2 (refuse (not (claimed st t)) 4 (refuse (held st s t) 5 0)))
number o st (step s) = refuse (no_station o s) 1 (refuse (st.station s).lost 2 (stage_number o st s (st.station s).stage))
number o st (lose s) = refuse (no_station o s) 1 (refuse (st.station s).lost 2 0)
number o st (answer b a) =
    refuse (not (ltb b (ballots o))) 9
    (refuse (ltb 1 a) 10 (answer_number (st.answer_of b) (as_bit a) (was_cast o st b (as_bit a))))

-- ---- what one STEP does

-- the first step: by station with one station, the own claim is decided at once
abbrev pub first_stage : Rule → ℕ → ℕ → ℕ → Stage
first_stage rule_1 n s v = cond (eqb n 1) (decided v 0) (voting s 0 0)
first_stage rule_2 n s v = voting s 0 0

-- seeking ends at j: by station the claim of j is decided after the last round, else the next round begins; by claim the finish ballot comes
abbrev pub stage_after_seek : Opening → State → Rule → ℕ → ℕ → ℕ → Stage
stage_after_seek o st rule_1 j k d = cond (eqb (suc k) (rounds o)) (decided (claim_of st j) k) (voting j (suc k) d)
stage_after_seek o st rule_2 j k d = finish_voting j k d

-- the cursor is at j: its claim is held and fits the word in the low k + 1 bits, or the station goes on seeking
abbrev pub sought : Opening → State → ℕ → ℕ → ℕ → ℕ → Stage
sought o st s j k d =
    cond (held st s j && low_agree k d (spelled o st j)) (stage_after_seek o st o.rule j k d) (seeking j k d)

-- the finish answer 1 decides the word; 0 begins the next round
abbrev pub finished : Bool → ℕ → ℕ → ℕ → Stage
finished true j k d = decided d k
finished false j k d = voting j (suc k) d

-- the station casts the bit a in the ballot b, and goes to the stage g
abbrev pub casting : ℕ → Bool → Stage → Station → Station
casting b a g p = record { stage = g; own_claim = p.own_claim; holds = p.holds; lost = p.lost; cast = update p.cast b (some a) }

unfoldable pub step_from : Opening → State → ℕ → Stage → Station → Station
step_from o st s idle p = p
step_from o st s waiting p = with_stage (first_stage o.rule o.count s p.own_claim) p
step_from o st s (voting j k d) p = casting (bit_ballot o k) (bit k (spelled o st j)) (awaiting j k d) p
step_from o st s (awaiting j k d) p = with_stage (seeking j k (with_bit k (bit_of (st.answer_of (bit_ballot o k))) d)) p
step_from o st s (seeking j k d) p = with_stage (sought o st s ((j + 1) % o.count) k d) p
step_from o st s (finish_voting j k d) p = casting (finish_ballot k) (eqb d (claim_of st j)) (finish_awaiting j k d) p
step_from o st s (finish_awaiting j k d) p = with_stage (finished (bit_of (st.answer_of (finish_ballot k))) j k d) p
step_from o st s (decided v k) p = p

-- ---- what an accepted event does

abbrev pub claiming : ℕ → Station → Station
claiming v p = record { stage = waiting; own_claim = v; holds = p.holds; lost = p.lost; cast = p.cast }

abbrev pub holding : ℕ → Station → Station
holding t p = record { stage = p.stage; own_claim = p.own_claim; holds = update p.holds t true; lost = p.lost; cast = p.cast }

abbrev pub losing : Station → Station
losing p = record { stage = p.stage; own_claim = p.own_claim; holds = p.holds; lost = true; cast = p.cast }

unfoldable pub effect : Opening → State → Event → State
effect o st (claim s v) = set_station st s (claiming v (st.station s))
effect o st (deliver t s) = set_station st s (holding t (st.station s))
effect o st (step s) = set_station st s (step_from o st s (st.station s).stage (st.station s))
effect o st (lose s) = set_station st s (losing (st.station s))
effect o st (answer b a) = record { station = st.station; answer_of = update st.answer_of b (some (as_bit a)) }

-- an event with its refusal: refused, it leaves the state as it was
unfoldable pub next : Opening → State → Event → State
next o st e = cond (eqb (number o st e) 0) (effect o st e) st

-- a list of events played from the opening, each on what the last one left
unfoldable pub after : Opening → History → State
after o start = fresh
after o (h ▷ e) = next o (after o h) e

-- Lists of events that tell readings apart: the four false readings of document 01, each with an event that the false reading gives
-- another number; and that demand 3's bounds are met exactly, so that none can be wider. Assumes nothing.
use Rattle.std.specs.Prelude.{ℕ, ◌<◌, ◌≡◌}
use Rattle.consensus.specs.Events.{Event, claim, deliver, step, lose, answer, History, start, ◌▷◌, Rule, rule_1, rule_2, Opening, rounds}
use Rattle.consensus.specs.Rules.{number, after}
use Rattle.consensus.specs.Terms.{longest, SuppliedSteps}
use Rattle.consensus.specs.Demand3.{most_steps}

abbrev pub opening : ℕ → Rule → Opening
opening n r = record { count = n; rule = r }

-- the number of the event e after the list h, from an opening of n stations
abbrev number_after : ℕ → Rule → History → Event → ℕ
number_after n r h e = number (opening n r) (after (opening n r) h) e

-- Station 0 voted bit 0 of its own number, took the answer 0 and made one seek. It moved to station 1, which does not fit, and seeks on:
-- testing first, it would have decided.
abbrev one_seek : History
one_seek = start ▷ claim 0 7 ▷ claim 1 9 ▷ deliver 0 0 ▷ deliver 1 0 ▷ step 0 ▷ step 0 ▷ answer 0 0 ▷ step 0 ▷ step 0

-- Claims 3 and 5 share their lowest bit, which is settled as 1. Both stations hold both claims and have cast their finish votes: neither
-- claim is 1, so nobody cast 1. Comparing only the low bit, both would have, and both would decide 1, which nobody claimed.
abbrev pub three_and_five : History
three_and_five =
    start ▷ claim 0 3 ▷ claim 1 5 ▷ deliver 0 0 ▷ deliver 1 0 ▷ deliver 0 1 ▷ deliver 1 1
    ▷ step 0 ▷ step 0 ▷ step 1 ▷ step 1 ▷ answer 0 1 ▷ step 0 ▷ step 0 ▷ step 0 ▷ step 1 ▷ step 1 ▷ step 1

-- Station 0 holds its own claim 2 alone, took the answer 0 and made two seeks: the first passed station 1 by, the second came back to
-- station 0, which fits. Taking the undelivered claim as 0, the first would have ended the seeking, and the station would await an answer.
abbrev undelivered : History
undelivered = start ▷ claim 0 2 ▷ claim 1 4 ▷ deliver 0 0 ▷ step 0 ▷ step 0 ▷ answer 0 0 ▷ step 0 ▷ step 0 ▷ step 0

-- Stations 0 and 2 cast 0, station 1 cast 1.
abbrev two_to_one : History
two_to_one =
    start ▷ claim 0 7 ▷ claim 1 8 ▷ claim 2 9 ▷ deliver 0 0 ▷ deliver 1 1 ▷ deliver 2 2
    ▷ step 0 ▷ step 0 ▷ step 1 ▷ step 1 ▷ step 2 ▷ step 2

pub record FourReadings : Type 0 where
  -- the figures move first: a further seek is accepted
  pub moves_first : number_after 2 rule_1 one_seek (step 0) ≡ 0
  -- the finish vote compares whole claims: answer 1 was cast by nobody
  pub whole_claim : number_after 2 rule_2 three_and_five (answer 1 1) ≡ 12
  pub goes_on : number_after 2 rule_2 three_and_five (answer 1 0) ≡ 0
  -- an undelivered claim fits nothing: the finish vote comes only now
  pub not_zero : number_after 2 rule_2 undelivered (step 0) ≡ 0
  -- any cast bit may be answered, not only the one that most sent
  pub any_cast : number_after 3 rule_1 two_to_one (answer 0 1) ≡ 0

-- ---- a lone claimant uses up the bounds of demand 3

-- by station, n = 2, R = 1: 1 + 1 (2 + 2) = 5
abbrev pub lone_by_station : History
lone_by_station = start ▷ claim 0 7 ▷ deliver 0 0 ▷ step 0 ▷ step 0 ▷ answer 0 0 ▷ step 0 ▷ step 0 ▷ step 0

-- by claim, n = 1, claim 0, K = 1 (case B of document 01): 1 + 1 (1 + 4) = 6
abbrev pub lone_by_claim : History
lone_by_claim = start ▷ claim 0 0 ▷ deliver 0 0 ▷ step 0 ▷ step 0 ▷ answer 0 0 ▷ step 0 ▷ step 0 ▷ step 0 ▷ answer 1 1 ▷ step 0

-- by station, n = 3, R = 2: 1 + 2 (3 + 2) = 11
abbrev pub lone_of_three : History
lone_of_three =
    start ▷ claim 0 7 ▷ deliver 0 0 ▷ step 0
    ▷ step 0 ▷ answer 0 0 ▷ step 0 ▷ step 0 ▷ step 0 ▷ step 0
    ▷ step 0 ▷ answer 1 0 ▷ step 0 ▷ step 0 ▷ step 0 ▷ step 0

-- by claim, n = 3, claim 2, K = 2: 1 + 2 (3 + 4) = 15
abbrev pub lone_two_bits : History
lone_two_bits =
    start ▷ claim 0 2 ▷ deliver 0 0 ▷ step 0
    ▷ step 0 ▷ answer 0 0 ▷ step 0 ▷ step 0 ▷ step 0 ▷ step 0 ▷ step 0 ▷ answer 1 0 ▷ step 0
    ▷ step 0 ▷ answer 2 1 ▷ step 0 ▷ step 0 ▷ step 0 ▷ step 0 ▷ step 0 ▷ answer 3 1 ▷ step 0

-- the first of them with its answer announced four times
abbrev pub with_repeats : History
with_repeats =
    start ▷ claim 0 7 ▷ deliver 0 0 ▷ step 0 ▷ step 0 ▷ answer 0 0 ▷ answer 0 0 ▷ step 0 ▷ answer 0 0 ▷ step 0 ▷ answer 0 0 ▷ step 0

-- a claim that nobody holds need not be held: station 1 put one in and was lost, and the five steps of station 0 are supplied all the same
abbrev pub beside_a_lost_claim : History
beside_a_lost_claim =
    start ▷ claim 0 7 ▷ claim 1 9 ▷ deliver 0 0 ▷ lose 1 ▷ step 0 ▷ step 0 ▷ answer 0 0 ▷ step 0 ▷ step 0 ▷ step 0

-- station 1 holds its own claim and station 0 lacks it, so the step of station 0 is not supplied
abbrev pub lacking_a_held_claim : History
lacking_a_held_claim = start ▷ claim 0 7 ▷ claim 1 9 ▷ deliver 0 0 ▷ deliver 1 1 ▷ step 0

-- In the list h station 0 has taken as many supplied steps as the bound of that very list allows: m, and no smaller number.
pub record MeetsBound (n : ℕ) (r : Rule) (h : History) (m : ℕ) : Type 0 where
  pub taken : SuppliedSteps (opening n r) 0 (most_steps r n (rounds (opening n r)) (longest (opening n r) h)) h
  pub most : most_steps r n (rounds (opening n r)) (longest (opening n r) h) ≡ m
  pub no_fewer : (i : ℕ) → i < m → SuppliedSteps (opening n r) 0 i h → ⊥

pub record BoundsMet : Type 0 where
  pub by_station : MeetsBound 2 rule_1 lone_by_station 5
  pub by_station_3 : MeetsBound 3 rule_1 lone_of_three 11
  pub by_claim : MeetsBound 1 rule_2 lone_by_claim 6
  pub by_claim_3 : MeetsBound 3 rule_2 lone_two_bits 15
  pub repeats_between : MeetsBound 2 rule_1 with_repeats 5
  -- what is supplied, and what is not
  pub nobody_holds : SuppliedSteps (opening 2 rule_1) 0 5 beside_a_lost_claim
  pub somebody_holds : SuppliedSteps (opening 2 rule_1) 0 0 lacking_a_held_claim

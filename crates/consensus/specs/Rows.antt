-- The play in literal numbers: every number of document 01 that an event gets, every two tests of an event that can be met together (so their order
-- shows), and where a station stands after each of its STEPs. A row follows no definition: a number changed everywhere else is noticed here.
-- Assumes nothing.
use Rattle.std.specs.Prelude.{ℕ, ◌≡◌, Bool, true, false, List, [], ◌∷◌, ◌++◌, eqb}
use Rattle.std.proofs.Math.Option.{Option, none, some}
use Rattle.bits.specs.Examples.{every}
use Rattle.consensus.specs.Events.{Event, claim, deliver, step, lose, answer, History, start, ◌▷◌, Rule, rule_1, rule_2, Opening}
use Rattle.consensus.specs.State.{Stage, idle, voting, awaiting, seeking, finish_voting, finish_awaiting, decided, State}
use Rattle.consensus.specs.Rules.{number, after}
use Rattle.consensus.specs.Terms.{is_step, listed}
use Rattle.consensus.specs.Demand2.{figure_after}
use Rattle.consensus.specs.Figure1 as one
use Rattle.consensus.specs.Figure2 as two
use Rattle.consensus.specs.Examples.{opening, lone_of_three, lone_two_bits}

-- ---- numbers

-- n stations, the rule, the list or the state before, the event and its number
pub data Row : Type 0 where
  numbered : ℕ → Rule → History → Event → ℕ → Row
  made_up : ℕ → Rule → State → Event → ℕ → Row

unfoldable pub number_right : Row → Bool
number_right (numbered n r h e m) = eqb (number (opening n r) (after (opening n r) h) e) m
number_right (made_up n r st e m) = eqb (number (opening n r) st e) m

-- Station 0 put in 6, holds it and has cast 0 in ballot 0; station 1 put in 9, holds it and is lost; station 2 is lost and idle, station 3 idle.
abbrev pub four : History
four = start ▷ claim 0 6 ▷ deliver 0 0 ▷ step 0 ▷ step 0 ▷ claim 1 9 ▷ deliver 1 1 ▷ lose 1 ▷ lose 2

-- case S of document 01
abbrev pub case_S : History
case_S =
    start ▷ claim 0 7 ▷ claim 1 9 ▷ deliver 0 0 ▷ deliver 1 1 ▷ deliver 1 0 ▷ step 0 ▷ step 0 ▷ step 1 ▷ step 1 ▷ answer 0 1
    ▷ step 0 ▷ step 0 ▷ step 1 ▷ step 1 ▷ step 1

-- case D of document 01
abbrev pub case_D : History
case_D =
    start ▷ claim 0 1 ▷ claim 1 3 ▷ deliver 0 0 ▷ deliver 1 0 ▷ deliver 0 1 ▷ deliver 1 1 ▷ step 0 ▷ step 0 ▷ step 1 ▷ step 1 ▷ answer 0 1
    ▷ step 0 ▷ step 0 ▷ step 0 ▷ step 1 ▷ step 1 ▷ step 1 ▷ answer 1 0
    ▷ step 0 ▷ step 0 ▷ step 1 ▷ step 1 ▷ answer 2 1
    ▷ step 0 ▷ step 0 ▷ step 0 ▷ step 0 ▷ step 1 ▷ step 1 ▷ step 1 ▷ answer 3 1 ▷ step 0 ▷ step 1

-- as document 01 lists the tests of each event; both rules have the same numbers here
abbrev pub numbers_by : Rule → List Row
numbers_by r =
    -- CLAIM: 1, 2, 3; lost and claimed already: 2
    numbered 4 r four (claim 3 5) 0 ∷ numbered 4 r four (claim 4 5) 1 ∷ numbered 4 r four (claim 2 5) 2 ∷ numbered 4 r four (claim 0 5) 3
    ∷ numbered 4 r four (claim 1 5) 2 ∷ numbered 4 r four (claim 3 4294967295) 0
    -- DELIVER: 1, 2, 4, 5; no station and lost, no station and no claim: 1; lost and no claim, lost and held: 2; of a lost station, to an idle one: 0
    ∷ numbered 4 r four (deliver 1 0) 0 ∷ numbered 4 r four (deliver 1 3) 0 ∷ numbered 4 r four (deliver 4 0) 1 ∷ numbered 4 r four (deliver 0 4) 1
    ∷ numbered 4 r four (deliver 4 1) 1 ∷ numbered 4 r four (deliver 3 4) 1 ∷ numbered 4 r four (deliver 0 1) 2 ∷ numbered 4 r four (deliver 3 1) 2
    ∷ numbered 4 r four (deliver 1 1) 2 ∷ numbered 4 r four (deliver 3 0) 4 ∷ numbered 4 r four (deliver 3 3) 4 ∷ numbered 4 r four (deliver 0 0) 5
    -- STEP: 1, 2, 6, 8 of an unanswered ballot; 8 of a claim of its own not held; lost and idle, lost and waiting: 2
    ∷ numbered 4 r four (step 4) 1 ∷ numbered 4 r four (step 1) 2 ∷ numbered 4 r four (step 2) 2 ∷ numbered 4 r four (step 3) 6 ∷ numbered 4 r four (step 0) 8
    ∷ numbered 4 r (four ▷ answer 0 0) (step 0) 0 ∷ numbered 4 r (four ▷ claim 3 5) (step 3) 8 ∷ numbered 4 r (four ▷ claim 3 5 ▷ deliver 0 3) (step 3) 8
    ∷ numbered 4 r (four ▷ claim 3 5 ▷ deliver 3 3) (step 3) 0 ∷ numbered 4 r (four ▷ claim 3 5 ▷ lose 3) (step 3) 2 ∷ numbered 4 r (four ▷ lose 0) (step 0) 2
    -- LOSE: 1, 2
    ∷ numbered 4 r four (lose 0) 0 ∷ numbered 4 r four (lose 3) 0 ∷ numbered 4 r four (lose 4) 1 ∷ numbered 4 r four (lose 1) 2
    -- ANSWER: 10, 11, 12; above 1 and answered, above 1 and not cast: 10; the other bit answered, and not cast: 11; the voter lost later: 0
    ∷ numbered 4 r four (answer 0 0) 0 ∷ numbered 4 r four (answer 0 1) 12 ∷ numbered 4 r four (answer 1 0) 12 ∷ numbered 4 r four (answer 0 2) 10
    ∷ numbered 4 r four (answer 1 2) 10
    ∷ numbered 4 r (four ▷ answer 0 0) (answer 0 2) 10 ∷ numbered 4 r (four ▷ answer 0 0) (answer 0 1) 11 ∷ numbered 4 r (four ▷ lose 0) (answer 0 0) 0
    -- a repeat: 0, a second time, after a refused ANSWER of the other bit, and after its only voter was lost too; another ballot's answer is no repeat
    ∷ numbered 4 r (four ▷ answer 0 0) (answer 0 0) 0 ∷ numbered 4 r (four ▷ answer 0 0 ▷ answer 0 0) (answer 0 0) 0
    ∷ numbered 4 r (four ▷ answer 0 0 ▷ answer 0 0) (answer 0 1) 11 ∷ numbered 4 r (four ▷ answer 0 0 ▷ answer 0 1) (answer 0 0) 0
    ∷ numbered 4 r (four ▷ answer 0 0 ▷ lose 0) (answer 0 0) 0 ∷ numbered 4 r (four ▷ lose 0 ▷ answer 0 0) (answer 0 0) 0
    ∷ numbered 4 r (four ▷ answer 0 0 ▷ lose 0) (answer 0 1) 11 ∷ numbered 4 r (four ▷ answer 0 0) (answer 1 0) 12 ∷ []

-- 7, and a decided station that is lost: 2; 8 of an unanswered finish ballot; ballots, in number R or 64: 9, before 10
abbrev pub numbers_apart : List Row
numbers_apart =
    numbered 1 rule_1 (start ▷ claim 0 5 ▷ deliver 0 0 ▷ step 0) (step 0) 7 ∷ numbered 1 rule_1 (start ▷ claim 0 5 ▷ deliver 0 0 ▷ step 0 ▷ lose 0) (step 0) 2
    ∷ numbered 3 rule_2 lone_two_bits (step 0) 7 ∷ numbered 3 rule_2 (lone_two_bits ▷ lose 0) (step 0) 2
    ∷ numbered 1 rule_2 (start ▷ claim 0 0 ▷ deliver 0 0 ▷ step 0 ▷ step 0 ▷ answer 0 0 ▷ step 0 ▷ step 0 ▷ step 0) (step 0) 8
    ∷ numbered 32 rule_1 start (answer 4 0) 12 ∷ numbered 32 rule_1 start (answer 5 0) 9 ∷ numbered 32 rule_1 start (answer 5 2) 9
    ∷ numbered 17 rule_1 start (answer 4 0) 12 ∷ numbered 17 rule_1 start (answer 5 0) 9 ∷ numbered 16 rule_1 start (answer 4 0) 9
    ∷ numbered 32 rule_2 start (answer 63 0) 12 ∷ numbered 32 rule_2 start (answer 64 0) 9 ∷ numbered 32 rule_2 start (answer 64 2) 9
    ∷ numbered 32 rule_1 start (claim 31 0) 0 ∷ numbered 32 rule_1 start (claim 32 0) 1 ∷ numbered 1 rule_1 start (answer 0 0) 9
    -- both bits were cast, and one answered
    ∷ numbered 2 rule_1 case_S (answer 0 1) 0 ∷ numbered 2 rule_1 case_S (answer 0 0) 11
    ∷ numbered 2 rule_2 case_D (answer 1 0) 0 ∷ numbered 2 rule_2 case_D (answer 1 1) 11 ∷ []

-- made_up states: every station, those from n on too, has the one part, and every ballot the one answer
abbrev all_alike : Stage → (holds lost : Bool) → Option Bool → State
all_alike g x y a = record {
  station = λ s. record { stage = g; own_claim = 0; holds = λ t. x; lost = y; cast = λ b. none };
  answer_of = λ b. a;
}

-- 1 before 2, 3, 4, 5, 6 and 7; 4 before 5; 9 and 10 before 11 and a repeat; an answer that nobody cast: again 0, the other bit 11, and 12 where
-- none stands; 42, of the last ballot and the answer 0 alone
abbrev pub numbers_made_up : List Row
numbers_made_up =
    made_up 2 rule_1 (all_alike (decided 7 0) true true none) (claim 2 5) 1 ∷ made_up 2 rule_1 (all_alike (decided 7 0) true true none) (deliver 2 0) 1
    ∷ made_up 2 rule_1 (all_alike (decided 7 0) true true none) (step 2) 1 ∷ made_up 2 rule_1 (all_alike idle true true none) (step 2) 1
    ∷ made_up 2 rule_1 (all_alike idle true true none) (lose 2) 1 ∷ made_up 2 rule_1 (all_alike idle true false none) (deliver 0 0) 4
    ∷ made_up 2 rule_1 (all_alike idle true true (some true)) (answer 1 1) 9 ∷ made_up 2 rule_1 (all_alike idle true true (some true)) (answer 1 0) 9
    ∷ made_up 2 rule_1 (all_alike idle true true (some true)) (answer 0 2) 10 ∷ made_up 2 rule_1 (all_alike idle true true (some false)) (answer 0 2) 10
    ∷ made_up 2 rule_1 (all_alike idle true true (some true)) (answer 0 1) 0 ∷ made_up 2 rule_1 (all_alike idle true true (some true)) (answer 0 0) 11
    ∷ made_up 2 rule_2 (all_alike idle true true (some false)) (answer 63 0) 0 ∷ made_up 2 rule_2 (all_alike idle true true (some false)) (answer 63 1) 11
    ∷ made_up 2 rule_2 (all_alike idle true true (some false)) (answer 64 0) 9 ∷ made_up 2 rule_2 (all_alike idle true true none) (answer 63 0) 12
    ∷ made_up 2 rule_2 (all_alike (finish_awaiting 0 31 0) true false (some false)) (step 0) 42
    ∷ made_up 2 rule_2 (all_alike (finish_awaiting 0 31 0) true false (some true)) (step 0) 0
    ∷ made_up 2 rule_2 (all_alike (finish_awaiting 0 30 0) true false (some false)) (step 0) 0
    ∷ made_up 2 rule_2 (all_alike (finish_awaiting 0 31 0) true false none) (step 0) 8
    ∷ made_up 2 rule_2 (all_alike (finish_awaiting 0 31 0) true true (some false)) (step 0) 2 ∷ []

pub record PlayNumbers : Type 0 where
  pub by_station : every number_right (numbers_by rule_1) ≡ true
  pub by_claim : every number_right (numbers_by rule_2) ≡ true
  pub apart : every number_right numbers_apart ≡ true
  pub made_up : every number_right numbers_made_up ≡ true

-- ---- what one STEP does

-- where p stands after each of its STEPs
unfoldable pub walk : Opening → ℕ → History → List Stage
walk o p start = []
walk o p (h ▷ e) = walk o p h ++ listed (is_step p e) (some ((after o (h ▷ e)).station p).stage)

abbrev alone : History
alone = start ▷ claim 0 5 ▷ deliver 0 0 ▷ step 0

-- the bits that p cast in the ballots 0 and 1
abbrev casts : ℕ → Rule → History → ℕ → Option Bool × Option Bool
casts n r h p = (((after (opening n r) h).station p).cast 0, ((after (opening n r) h).station p).cast 1)

pub record Walks : Type 0 where
  -- by station with one station: its own claim at once
  pub at_once : walk (opening 1 rule_1) 0 alone ≡ decided 5 0 ∷ []
  pub not_at_once : walk (opening 1 rule_2) 0 alone ≡ voting 0 0 0 ∷ []
  -- station 1's second-last step tries station 0, whose claim it lacks
  pub S0 : walk (opening 2 rule_1) 0 case_S ≡ voting 0 0 0 ∷ awaiting 0 0 0 ∷ seeking 0 0 1 ∷ decided 9 0 ∷ []
  pub S1 : walk (opening 2 rule_1) 1 case_S ≡ voting 1 0 0 ∷ awaiting 1 0 0 ∷ seeking 1 0 1 ∷ seeking 0 0 1 ∷ decided 9 0 ∷ []
  pub SCasts : (casts 2 rule_1 case_S 0 ≡ (some false, none)) × (casts 2 rule_1 case_S 1 ≡ (some true, none))
  -- two rounds; the cursor goes around 3
  pub three : walk (opening 3 rule_1) 0 lone_of_three
      ≡ voting 0 0 0 ∷ awaiting 0 0 0 ∷ seeking 0 0 0 ∷ seeking 1 0 0 ∷ seeking 2 0 0
      ∷ voting 0 1 0 ∷ awaiting 0 1 0 ∷ seeking 0 1 0 ∷ seeking 1 1 0 ∷ seeking 2 1 0 ∷ decided 7 1 ∷ []
  -- the finish answer 0 adds 1 to the round and keeps cursor and word; 1 decides the word
  pub D0 : walk (opening 2 rule_2) 0 case_D
      ≡ voting 0 0 0 ∷ awaiting 0 0 0 ∷ seeking 0 0 1 ∷ finish_voting 1 0 1 ∷ finish_awaiting 1 0 1
      ∷ voting 1 1 1 ∷ awaiting 1 1 1 ∷ seeking 1 1 3 ∷ seeking 0 1 3 ∷ finish_voting 1 1 3 ∷ finish_awaiting 1 1 3 ∷ decided 3 1 ∷ []
  pub D1 : walk (opening 2 rule_2) 1 case_D
      ≡ voting 1 0 0 ∷ awaiting 1 0 0 ∷ seeking 1 0 1 ∷ finish_voting 0 0 1 ∷ finish_awaiting 0 0 1
      ∷ voting 0 1 1 ∷ awaiting 0 1 1 ∷ seeking 0 1 3 ∷ finish_voting 1 1 3 ∷ finish_awaiting 1 1 3 ∷ decided 3 1 ∷ []
  -- finish votes: 0 from station 0, whose cursor is at 3, and 1 from station 1, whose cursor is at 1
  pub DCasts : (casts 2 rule_2 case_D 0 ≡ (some true, some false)) × (casts 2 rule_2 case_D 1 ≡ (some true, some true))
  -- the figures, run over the same lists, return what the play decides
  pub figure_1 : ((figure_after (opening 2 rule_1) case_S).process 1).place ≡ one.returned (some 9)
  pub figure_2 : ((figure_after (opening 2 rule_2) case_D).process 1).place ≡ two.returned 3

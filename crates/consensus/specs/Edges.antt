-- The words of demands 2 and 3 at their edges, in literal numbers: which openings there are, R, the ballots and K of some, the bound, how many ballots
-- a decider may have voted in, that two stations with another claim, other ballots or other answers are not the same, and what is a repeat. A word made
-- a little wider or narrower still bears the demand; here it is noticed. Assumes nothing.
use Rattle.std.specs.Prelude.{ℕ, ◌≡◌, true, false, List, [], ◌∷◌, map}
use Rattle.consensus.specs.Events.{claim, deliver, step, lose, answer, History, start, ◌▷◌, Rule, rule_1, rule_2, Opening, Openable, rounds, ballots}
use Rattle.consensus.specs.Terms.{Repeat, voted_in, answers_taken, Decided, longest}
use Rattle.consensus.specs.Demand3.{BallotsVoted, most_steps, Same}
use Rattle.consensus.specs.Examples.{opening, lone_of_three, lone_two_bits}
use Rattle.consensus.specs.Rows.{case_D}

-- "n from 1 to 32"; R "0 for n = 1, 1 for 2, 2 for 3 and 4, 5 for 17 to 32"; "rule 1 has ballots 0 to R − 1. Rule 2 has ballots 0 to 63"
pub record Openings : Type 0 where
  pub least : (r : Rule) → Openable (opening 1 r)
  pub most : (r : Rule) → Openable (opening 32 r)
  pub none : (r : Rule) → Openable (opening 0 r) → ⊥
  pub too_many : (r : Rule) → Openable (opening 33 r) → ⊥
  pub R : (r : Rule)
      → map (λ n. rounds (opening n r)) (1 ∷ 2 ∷ 3 ∷ 4 ∷ 5 ∷ 8 ∷ 9 ∷ 16 ∷ 17 ∷ 32 ∷ []) ≡ 0 ∷ 1 ∷ 2 ∷ 2 ∷ 3 ∷ 3 ∷ 4 ∷ 4 ∷ 5 ∷ 5 ∷ []
  pub by_station : map (λ n. ballots (opening n rule_1)) (1 ∷ 2 ∷ 3 ∷ 16 ∷ 17 ∷ 32 ∷ []) ≡ 0 ∷ 1 ∷ 2 ∷ 4 ∷ 5 ∷ 5 ∷ []
  pub by_claim : map (λ n. ballots (opening n rule_2)) (1 ∷ 17 ∷ 32 ∷ []) ≡ 64 ∷ 64 ∷ 64 ∷ []

-- K is the length of the longest claim put in, "0 if nothing was put in"; a refused CLAIM puts nothing in
pub record LongestClaims : Type 0 where
  pub nothing : (r : Rule) → longest (opening 2 r) start ≡ 0
  pub of_zero : (r : Rule) → longest (opening 2 r) (start ▷ claim 0 0) ≡ 1
  pub refused : (r : Rule) → longest (opening 2 r) (start ▷ claim 0 1 ▷ claim 0 7 ▷ claim 2 255 ▷ lose 1 ▷ claim 1 255) ≡ 1
  pub whole : (r : Rule) → longest (opening 2 r) (start ▷ claim 0 4294967295 ▷ claim 1 1) ≡ 32
  pub n_17 : (r : Rule) → longest (opening 17 r) (start ▷ claim 16 65535 ▷ claim 17 65536) ≡ 16
  pub n_32 : (r : Rule) → longest (opening 32 r) (start ▷ claim 31 65536 ▷ claim 0 65535) ≡ 17

-- "at most 1 + R(n + 2) supplied steps by station, or 1 + K(n + 4) by claim"; that four lists meet it is in Examples
pub record Bounds : Type 0 where
  pub by_station : (k : ℕ) → (most_steps rule_1 1 0 k ≡ 1) × (most_steps rule_1 3 2 k ≡ 11) × (most_steps rule_1 17 5 k ≡ 96) × (most_steps rule_1 32 5 k ≡ 171)
  pub by_claim : (r : ℕ) → (most_steps rule_2 3 r 0 ≡ 1) × (most_steps rule_2 3 r 2 ≡ 15) × (most_steps rule_2 17 r 16 ≡ 337) × (most_steps rule_2 32 r 32 ≡ 1153)

-- case C of document 01: claims 1 and 3, and the finish answer 1 after bit 0
abbrev pub case_C : History
case_C =
    start ▷ claim 0 1 ▷ claim 1 3 ▷ deliver 0 0 ▷ deliver 1 0 ▷ deliver 0 1 ▷ deliver 1 1 ▷ step 0 ▷ step 0 ▷ step 1 ▷ step 1 ▷ answer 0 1
    ▷ step 0 ▷ step 0 ▷ step 0 ▷ step 1 ▷ step 1 ▷ step 1 ▷ answer 1 1 ▷ step 0 ▷ step 1

-- in the list h from n stations, station 0 decided v, having voted in these ballots, and K is k
pub record Costs (n : ℕ) (r : Rule) (h : History) (v : ℕ) (voted : List ℕ) (k : ℕ) : Type 0 where
  pub decided : Decided (opening n r) 0 v h
  pub voted_so : voted_in (opening n r) 0 h ≡ voted
  pub K : longest (opening n r) h ≡ k

pub record CostsMet : Type 0 where
  -- "exactly ceil(log2 n) ballots"
  pub exactly : Costs 3 rule_1 lone_of_three 7 (0 ∷ 1 ∷ []) 3
  -- "an even number from 2 to twice K": both ends, with K = 2
  pub twice_K : Costs 3 rule_2 lone_two_bits 2 (0 ∷ 1 ∷ 2 ∷ 3 ∷ []) 2
  pub from_2 : Costs 2 rule_2 case_C 1 (0 ∷ 1 ∷ []) 2
  -- and no other numbers, and no other ballots
  pub two : (r : ℕ) → BallotsVoted rule_2 r 2 (0 ∷ 1 ∷ [])
  pub four : (r : ℕ) → BallotsVoted rule_2 r 2 (0 ∷ 1 ∷ 2 ∷ 3 ∷ [])
  pub not_none : (r : ℕ) → BallotsVoted rule_2 r 2 [] → ⊥
  pub not_odd : (r : ℕ) → BallotsVoted rule_2 r 2 (0 ∷ 1 ∷ 2 ∷ []) → ⊥
  pub not_six : (r : ℕ) → BallotsVoted rule_2 r 2 (0 ∷ 1 ∷ 2 ∷ 3 ∷ 4 ∷ 5 ∷ []) → ⊥
  pub not_others : (r : ℕ) → BallotsVoted rule_2 r 1 (0 ∷ 0 ∷ []) → ⊥
  pub just_R : (k : ℕ) → BallotsVoted rule_1 2 k (0 ∷ 1 ∷ [])
  pub not_fewer : (k : ℕ) → BallotsVoted rule_1 2 k (0 ∷ []) → ⊥
  pub not_more : (k : ℕ) → BallotsVoted rule_1 2 k (0 ∷ 1 ∷ 2 ∷ []) → ⊥

-- station 0 has voted, and station 1 has not; both have, and station 0 took the answer
abbrev pub one_voted : History
one_voted = start ▷ claim 0 7 ▷ claim 1 7 ▷ deliver 0 0 ▷ deliver 1 1 ▷ step 0 ▷ step 0

abbrev pub one_took : History
one_took = one_voted ▷ step 1 ▷ step 1 ▷ answer 0 1 ▷ step 0

-- "the same ballots voted in and the same answers"
pub record Sameness : Type 0 where
  pub answers : answers_taken (opening 2 rule_2) 0 case_D ≡ (0, true) ∷ (1, false) ∷ (2, true) ∷ (3, true) ∷ []
  pub other_claim : Same (opening 2 rule_1) start 0 1 7 9 → ⊥
  pub other_ballots : Same (opening 2 rule_1) one_voted 0 1 7 7 → ⊥
  pub other_answers : Same (opening 2 rule_1) one_took 0 1 7 7 → ⊥

-- what a repeat is, and what it is not: before the first ANSWER, after a refused one, of the other bit, of another ballot, of a bit above 1; and no other
-- event is one
pub record Repeats : Type 0 where
  pub same_bit : Repeat (opening 2 rule_1) (answer 0 1) one_took
  pub once_more : Repeat (opening 2 rule_1) (answer 0 1) (one_took ▷ answer 0 1 ▷ lose 0 ▷ lose 1)
  pub by_claim : Repeat (opening 2 rule_2) (answer 1 0) case_D
  pub first : Repeat (opening 2 rule_1) (answer 0 0) one_voted → ⊥
  pub refused : Repeat (opening 2 rule_1) (answer 0 1) (start ▷ answer 0 1) → ⊥
  pub other_bit : Repeat (opening 2 rule_1) (answer 0 0) one_took → ⊥
  pub other_ballot : Repeat (opening 2 rule_2) (answer 4 1) case_D → ⊥
  pub above_1 : (o : Opening) (h : History) (b : ℕ) → Repeat o (answer b 2) h → ⊥
  pub lost_again : Repeat (opening 2 rule_1) (lose 0) (start ▷ lose 0) → ⊥
  pub held_again : Repeat (opening 2 rule_1) (deliver 0 0) one_took → ⊥

-- Demand 3 about the play, clause by clause. Assumes nothing.
use Rattle.std.specs.Prelude.{ℕ, zero, suc, ◌+◌, ◌*◌, ◌≤◌, ◌≡◌, List, [], ◌∷◌, ◌++◌, map}
use Rattle.consensus.specs.Events.{Event, step, History, Rule, rule_1, rule_2, Opening, Openable, rounds}
use Rattle.consensus.specs.Rules.{number, after}
use Rattle.consensus.specs.Terms.{Beginning, ClaimsFit, PutIn, Lost, voted_in, answers_taken, Decided, longest, Supplied, SuppliedSteps}

-- the ballots 0, 1, .., m - 1
unfoldable pub first_ballots : ℕ → List ℕ
first_ballots zero = []
first_ballots (suc m) = first_ballots m ++ (m ∷ [])

-- "exactly ceil(log2 n) ballots" by station; "an even number from 2 to twice K" by claim. They are the first so many, each voted in once.
abbrev pub BallotsVoted : Rule → (r k : ℕ) → List ℕ → Type 0
BallotsVoted rule_1 r k voted = voted ≡ first_ballots r
BallotsVoted rule_2 r k voted = (m : ℕ) × (voted ≡ first_ballots (2 * m)) × (1 ≤ m) × (m ≤ k)

-- "at most 1 + R(n + 2) supplied steps by station, or 1 + K(n + 4) by claim"
abbrev pub most_steps : Rule → (n r k : ℕ) → ℕ
most_steps rule_1 n r k = 1 + r * (n + 2)
most_steps rule_2 n r k = 1 + k * (n + 4)

module _ (o : Opening) (h : History) where
  -- "they share one claim ..., the same ballots voted in and the same answers"
  pub record Same (p q v w : ℕ) : Type 0 where
    pub claim : v ≡ w
    pub ballots : voted_in o p h ≡ voted_in o q h
    pub answers : answers_taken o p h ≡ answers_taken o q h

  -- what demand 3 says of the list h
  pub record Demand3Of : Type 0 where
    pub agreement : (p q v w : ℕ) → Decided o p v h → Decided o q w h → Same p q v w
    -- "that some station put in"
    pub validity : (p v : ℕ) → Decided o p v h → (s : ℕ) × PutIn o s v h
    pub cost : (p v : ℕ) → Decided o p v h → BallotsVoted o.rule (rounds o) (longest o h) (voted_in o p h)
    -- "its answers are those it took, ballot by ballot": a decider took one of each ballot it voted in
    pub answered : (p v : ℕ) → Decided o p v h → map (λ x. x.0) (answers_taken o p h) ≡ voted_in o p h
    -- "whatever Q and the rest do, P has taken at most .. supplied steps": P has taken one number of them, and it is so bounded
    pub counted : (p : ℕ) → (m : ℕ) × SuppliedSteps o p m h
    pub counted_once : (p m m' : ℕ) → SuppliedSteps o p m h → SuppliedSteps o p m' h → m ≡ m'
    pub bound : (p m : ℕ) → SuppliedSteps o p m h → m ≤ most_steps o.rule o.count (rounds o) (longest o h)
    -- "a P that has claimed, is not lost and is undecided is never refused one", wherever in the list it is tried
    pub never_refused : (g : History) → Beginning g h → (p v : ℕ) → PutIn o p v g → (Lost o p g → ⊥) → ((w : ℕ) → Decided o p w g → ⊥)
        → Supplied o p g → number o (after o g) (step p) ≡ 0

-- Demand 3 about the play: every accepted opening, both rules, every list of events whose claims are claims.
pub record Demand3 : Type 0 where
  pub holds : (o : Opening) → Openable o → (h : History) → ClaimsFit h → Demand3Of o h

-- "Taking answer 0 from ballot 63, met only by a made-up record: 42": no event of a list meets 42.
pub record No42 : Type 0 where
  pub holds : (o : Opening) (h : History) → ClaimsFit h → (e : Event) → number o (after o h) e ≡ 42 → ⊥

-- The stages (document 01, "The settlement": "idle (no claim put in), waiting, voting, awaiting, seeking, decided. Rule 2 has voting and awaiting for the
-- bit ballot and for the finish ballot"). Assumes nothing.
use Rattle.std.specs.Prelude.{ℕ, ◌≡◌, ◌<◌, ◌↔◌, Bool, true, not, ◌||◌, eqb, Result, MatchResult}
use Rattle.entry.specs.declared.entry.Stage.{Stage}
use Rattle.entry.specs.declared.entry.Stage.TheVariants.{Idle, Waiting, Voting, Awaiting, Seeking, FinishVoting, FinishAwaiting, Decided}
use Rattle.entry.specs.declared.stage.NoStage.{NoStage}

-- the stages in order: the one table of them
abbrev pub rank : Stage → ℕ
rank Idle = 0
rank Waiting = 1
rank Voting = 2
rank Awaiting = 3
rank Seeking = 4
rank FinishVoting = 5
rank FinishAwaiting = 6
rank Decided = 7

-- read back: the stage with the place x, or that no stage has it
abbrev pub Placed : ℕ → Result Stage NoStage → Type 0
Placed x r = MatchResult r (λ g. rank g ≡ x) (λ e. (e.0 ≡ x) × (7 < x))

-- a station at the stage g is at the stage x
abbrev pub at : Stage → Stage → Bool
at x g = eqb (rank g) (rank x)

-- the table tells the stages apart: to be at a stage is to be that stage
abbrev pub ToldApart : Type 0
ToldApart = (x g : Stage) → (at x g ≡ true) ↔ (g ≡ x)

-- a station has put in a claim once it is not idle
abbrev pub not_idle : Stage → Bool
not_idle g = not (at Idle g)

abbrev pub is_decided : Stage → Bool
is_decided g = at Decided g

-- a voting, awaiting or seeking station
abbrev pub in_round : Stage → Bool
in_round g = at Voting g || at Awaiting g || at Seeking g

-- a station voting or awaiting on a finish ballot
abbrev pub on_finish : Stage → Bool
on_finish g = at FinishVoting g || at FinishAwaiting g

-- a station past waiting: in a round, on a finish ballot or decided
abbrev pub past_waiting : Stage → Bool
past_waiting g = in_round g || on_finish g || is_decided g

-- Demands 2 and 3 about the operations themselves: the numbers and records that `played` gives, and what `looked` answers, over whole lists
-- of events from every accepted OPEN. Assumes nothing.
use Rattle.std.specs.Prelude.{ℕ, ◌≤◌, ◌<◌, ◌≡◌, ◌⊎◌, ◌↔◌, true, false, length}
use Rattle.consensus.specs.Events.{Event, claim, deliver, step, lose, answer, History, ◌▷◌, Opening, Openable}
use Rattle.consensus.specs.State.{State}
use Rattle.consensus.specs.Rules.{number, after}
use Rattle.consensus.specs.Terms.{Beginning, Fitting, ClaimsFit, PutIn, Lost, Repeat, Decided, Supplied, voted_in}
use Rattle.consensus.specs.Demand2.{FigureState, Shows, Step, figure_after}
use Rattle.consensus.specs.Demand3.{Demand3Of}
use Rattle.settlement.specs.declared.record.Settlement.{Settlement}
use Rattle.settlement.specs.Fault.{fault}
use Rattle.settlement.specs.Events.{blank, opened, played}
use Rattle.settlement.specs.Look.{turned_away, looked}
use Rattle.settlement.specs.Link.{rule_number, record_after, ShowsPlay}

-- the record shows where the figure stands: it shows a state of the play, which the figure shows
abbrev pub ShowsFigure : (o : Opening) → Settlement → FigureState o → Type 0
ShowsFigure o r x = (st : State) × ShowsPlay o r st × Shows o st x

-- what the record r answers after the list g: an event's number and LOOK's whole answer for each station "are those of this play"
pub record AnswersTold (o : Opening) (g : History) (r : Settlement) : Type 0 where
  pub numbers : (e : Event) → (played r e).number ≡ number o (after o g) e
  pub look_decided : (s v : ℕ) → s < o.count → Decided o s v g
      → looked r s ≡ record { number = 0; decided = true; claim = v; votes = length (voted_in o s g) }
  pub look_undecided : (s : ℕ) → s < o.count → ((v : ℕ) → Decided o s v g → ⊥)
      → looked r s ≡ record { number = 0; decided = false; claim = 0; votes = length (voted_in o s g) }
  pub look_nobody : (s : ℕ) → o.count ≤ s → looked r s ≡ turned_away 1
  -- "LOOK says so exactly then"
  pub look_exactly : (s : ℕ) → ((looked r s).decided ≡ true) ↔ ((v : ℕ) × Decided o s v g)

module _ (o : Opening) (h : History) where
  -- "No record reached from OPEN meets 42."
  pub record InRanges : Type 0 where
    pub no_fault : fault (record_after o h) ≡ false
    pub no_42 : (e : Event) → (played (record_after o h) e).number ≡ 42 → ⊥

  -- "A repeat counts as a played event but is no step of the figures" (document 02, A.1): it leaves the record and the figure's state as they were
  pub record NoStepOfRecords (e : Event) : Type 0 where
    pub accepted : played (record_after o h) e ≡ record { number = 0; settlement = record_after o h }
    pub not_allowed : (y : FigureState o) → Step o (figure_after o h) e y → ⊥
    pub figure_stays : figure_after o (h ▷ e) ≡ figure_after o h

  -- Demand 2: "each accepted event does one step of Zhang and Chen's figure 1 or figure 2, and each step those figures allow in that state is
  -- accepted"; but for a repeat, which is accepted and no step
  pub record Demand2OfRecords : Type 0 where
    pub shown : ShowsFigure o (record_after o h) (figure_after o h)
    pub accepted : (e : Event) → Fitting e → (played (record_after o h) e).number ≡ 0
        → ((y : FigureState o) × Step o (figure_after o h) e y × ShowsFigure o (played (record_after o h) e).settlement y) ⊎ Repeat o e h
    pub repeated : (e : Event) → Repeat o e h → NoStepOfRecords e
    pub allowed : (e : Event) → Fitting e → (y : FigureState o) → Step o (figure_after o h) e y
        → ((played (record_after o h) e).number ≡ 0) × ShowsFigure o (played (record_after o h) e).settlement y

  -- Demand 3: the words are the play's, and the operations' numbers and answers are the play's too.
  pub record Demand3OfRecords : Type 0 where
    -- "Part of the claim is that each event's number, and LOOK's whole answer for each station after every beginning of the list, are those of this
    -- play." The list is itself one of its beginnings
    pub told : (g : History) → Beginning g h → AnswersTold o g (record_after o g)
    pub demand : Demand3Of o h
    -- "A P that has claimed, is not lost and is undecided is never refused one"
    pub never_refused : (g : History) → Beginning g h → (p v : ℕ) → PutIn o p v g → (Lost o p g → ⊥) → ((w : ℕ) → Decided o p w g → ⊥)
        → Supplied o p g → (played (record_after o g) (step p)).number ≡ 0
    -- so two stations that LOOK says have decided show one claim and the same number of votes
    pub looks_agree : (p q : ℕ) → (looked (record_after o h) p).decided ≡ true → (looked (record_after o h) q).decided ≡ true
        → looked (record_after o h) p ≡ looked (record_after o h) q

-- the number that each event has on the blank settlement
abbrev pub blank_number : Event → ℕ
blank_number (claim s v) = 1
blank_number (deliver t s) = 1
blank_number (step s) = 1
blank_number (lose s) = 1
blank_number (answer b a) = 9

-- Every accepted OPEN, both rules, every list of events whose claims are claims.
pub record Demands : Type 0 where
  -- OPEN accepts these openings, and no others
  pub opens : (o : Opening) → Openable o → (opened o.count (rule_number o.rule)).number ≡ 0
  pub opens_only : (n rule : ℕ) → (opened n rule).number ≡ 0 → (o : Opening) × Openable o × (o.count ≡ n) × (rule_number o.rule ≡ rule)
  -- on the blank settlement every event and LOOK are refused, and not with 42
  pub blank_refuses : (e : Event) → played blank e ≡ record { number = blank_number e; settlement = blank }
  pub blank_shows : (s : ℕ) → looked blank s ≡ turned_away 1
  pub in_ranges : (o : Opening) → Openable o → (h : History) → ClaimsFit h → InRanges o h
  pub demand2 : (o : Opening) → Openable o → (h : History) → ClaimsFit h → Demand2OfRecords o h
  pub demand3 : (o : Opening) → Openable o → (h : History) → ClaimsFit h → Demand3OfRecords o h

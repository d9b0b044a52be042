-- Demand 2 about the play: each accepted event does one step of figure 1 or figure 2, or is a repeat; and each step that the figure allows is
-- accepted. Assumes nothing.
use Rattle.std.specs.Prelude.{ℕ, ◌≤◌, ◌<◌, ◌≡◌, ◌⊎◌, true, cond}
use Rattle.std.proofs.Math.Option.{Option, none, some}
use Rattle.consensus.specs.Events.{Event, answer, History, ◌▷◌, Rule, rule_1, rule_2, Opening, Openable, ballots}
use Rattle.consensus.specs.State.{Stage, idle, waiting, voting, awaiting, seeking, finish_voting, finish_awaiting, decided, State, claimed, claim_of, held}
use Rattle.consensus.specs.Rules.{as_bit, number, next, after}
use Rattle.consensus.specs.Terms.{ClaimsFit, Repeat}
use Rattle.consensus.specs.Figure.{Figure, event}
use Rattle.consensus.specs.Figure1 as one
use Rattle.consensus.specs.Figure2 as two
use Rattle.consensus.specs.System.{System}
use Rattle.consensus.specs.Runs.{Label, label_of, happening, run}

abbrev pub figure_by : Rule → Figure
figure_by rule_1 = one.figure1
figure_by rule_2 = two.figure2

abbrev pub figure_of : Opening → Figure
figure_of o = figure_by o.rule

-- the place that a stage stands for; figure 1 has no finish instances. Figure 1 returns prop[l], which is the decided claim and never ⊥
abbrev pub place_1 : Stage → Option one.Place
place_1 idle = some one.line4
place_1 waiting = some one.line5
place_1 (voting j k l) = some (one.line8 j k l)
place_1 (awaiting j k l) = some (one.in8 j k l)
place_1 (seeking j k l) = some (one.line9 j k l)
place_1 (finish_voting j k d) = none
place_1 (finish_awaiting j k d) = none
place_1 (decided v k) = some (one.returned (some v))

abbrev pub place_2 : Stage → Option two.Place
place_2 idle = some two.line4
place_2 waiting = some two.line5
place_2 (voting j k d) = some (two.line8 j k d)
place_2 (awaiting j k d) = some (two.in8 j k d)
place_2 (seeking j k d) = some (two.line9 j k d)
place_2 (finish_voting j k d) = some (two.line11 j k d)
place_2 (finish_awaiting j k d) = some (two.in12 j k d)
place_2 (decided v k) = some (two.returned v)

abbrev pub place_by : (r : Rule) → Stage → Option (figure_by r).Place
place_by rule_1 g = place_1 g
place_by rule_2 g = place_2 g

module _ (o : Opening) where
  abbrev pub FigureState : Type 0
  FigureState = System (figure_of o).Place

  -- the figure's state x shows the play's state st; a number from n on names no process and no station, and nothing happens there
  pub record Shows (st : State) (x : FigureState) : Type 0 where
    pub place : (s : ℕ) → place_by o.rule (st.station s).stage ≡ some (x.process s).place
    -- prop[t] at s is the claim of t where s holds it, and ⊥ elsewhere; what was sent is what was put in
    pub prop : (s t : ℕ) → (x.process s).prop t ≡ cond (held st s t) (some (claim_of st t)) none
    pub sent : (s : ℕ) → (x.process s).sent ≡ cond (claimed st s) (some (claim_of st s)) none
    pub delivered : (s t : ℕ) → (x.process s).delivered t ≡ held st s t
    pub proposed : (s b : ℕ) → (x.process s).proposed b ≡ (st.station s).cast b
    pub crashed : (s : ℕ) → (x.process s).crashed ≡ (st.station s).lost
    pub decision : (b : ℕ) → x.decision b ≡ st.answer_of b

  -- the figure allows the event e in the state x, and its step leads to y
  abbrev pub Step : FigureState → Event → FigureState → Type 0
  Step x e y = happening o.count (event (figure_of o)) x e ≡ some y

  -- the figure's own run over the labels of a list, passing over those that it does not allow
  abbrev pub figure_after : History → FigureState
  figure_after h = run o.count (event (figure_of o)) (figure_of o).first h

  -- "A repeat counts as a played event but is no step of the figures" (document 02, A.1): both states stay as they were
  pub record NoStep (h : History) (e : Event) : Type 0 where
    pub accepted : number o (after o h) e ≡ 0
    pub not_allowed : (y : FigureState) → Step (figure_after h) e y → ⊥
    pub stays : after o (h ▷ e) ≡ after o h
    pub figure_stays : figure_after (h ▷ e) ≡ figure_after h

  pub record Demand2Of (h : History) : Type 0 where
    pub shown : Shows (after o h) (figure_after h)
    -- "each accepted event does one step of Zhang and Chen's figure 1 or figure 2", or it is a repeat
    pub accepted : (e : Event) → number o (after o h) e ≡ 0
        → ((y : FigureState) × Step (figure_after h) e y × Shows (after o (h ▷ e)) y) ⊎ Repeat o e h
    pub repeated : (e : Event) → Repeat o e h → NoStep h e
    -- "and each step those figures allow in that state is accepted"
    pub allowed : (e : Event) (y : FigureState) → Step (figure_after h) e y → (number o (after o h) e ≡ 0) × Shows (after o (h ▷ e)) y
    -- line 11 of figure 2 reads prop[j], and never finds ⊥ there: who stands at it holds the claim of j
    pub line_11 : (s j k d : ℕ) → ((after o h).station s).stage ≡ finish_voting j k d → held (after o h) s j ≡ true

-- Demand 2 about the play: every accepted opening, both rules, every list of events whose claims are claims.
pub record Demand2 : Type 0 where
  pub holds : (o : Opening) → Openable o → (h : History) → ClaimsFit h → Demand2Of o h
  -- "the answer a ballot already has is accepted again and changes nothing" (document 02, A.1), in any state, made-up ones included
  pub again : (o : Opening) (st : State) (b a : ℕ) → b < ballots o → a ≤ 1 → st.answer_of b ≡ some (as_bit a)
      → (number o st (answer b a) ≡ 0) × (next o st (answer b a) ≡ st)
  -- the events leave out nothing that may happen, and a labelled step has one outcome (a step is computed, so this is plain)
  pub every_label : (l : Label) → (e : Event) × (label_of e ≡ some l)
  pub one_outcome : (o : Opening) (x y z : FigureState o) (e : Event) → Step o x e y → Step o x e z → y ≡ z
  -- a state of the play shows one state of the figure: nothing of that state is left out
  pub one_shown : (o : Opening) (st : State) (x y : FigureState o) → Shows o st x → Shows o st y → x ≡ y

-- Why an event may cover several printed lines: a run that may stop after every single line, with deliveries, crashes and decisions
-- anywhere between, ends where the play ends on the same list with some STEPs left out, up to each process being inside an event.
-- Assumes nothing.
use Rattle.std.specs.Prelude.{ℕ, ◌≡◌, ◌⊎◌, true, false}
use Rattle.consensus.specs.Events.{Event, claim, deliver, step, lose, answer, History, start, ◌▷◌, Rule, Opening, Openable}
use Rattle.consensus.specs.Rules.{after}
use Rattle.consensus.specs.Terms.{ClaimsFit}
use Rattle.consensus.specs.Figure.{View, goes, Figure, event}
use Rattle.consensus.specs.System.{System, moved, view}
use Rattle.consensus.specs.Runs.{run}
use Rattle.consensus.specs.Demand2.{figure_by, figure_of, FigureState, Shows, figure_after}

-- g is h with some STEPs left out
pub data Thinned : History → History → Type 0 where
  empty : Thinned start start
  kept : {g h : History} (e : Event) → Thinned g h → Thinned (g ▷ e) (h ▷ e)
  left_out : {g h : History} (s : ℕ) → Thinned g h → Thinned g (h ▷ step s)

-- a list without its STEPs
abbrev pub plain : Event → History → History
plain (claim s v) h = h ▷ claim s v
plain (deliver t s) h = h ▷ deliver t s
plain (step s) h = h
plain (lose s) h = h ▷ lose s
plain (answer b a) h = h ▷ answer b a

abbrev pub without_steps : History → History
without_steps start = start
without_steps (h ▷ e) = plain e (without_steps h)

-- Where a process that sees x is on its way in the event that begins at p: it stands at p still, or it has done lines of the event,
-- none of which led to a stop, and stands at q.
pub data Inside (F : Figure) (x : View) (p : F.Place) : F.Place → Type 0 where
  outset : Inside F x p p
  onto : {q r : F.Place} → Inside F x p q → F.line x q ≡ goes r → F.stop r ≡ false → Inside F x p r

-- the state with every process put back to the place that the event it is inside began at
abbrev pub put_back : {P : Type 0} → (ℕ → P) → System P → System P
put_back p x = record { process = λ i. moved (p i) (x.process i); decision = x.decision }

module _ (o : Opening) where
  -- the figure's run over a list in which a STEP is one printed line
  abbrev pub lines_after : History → FigureState o
  lines_after h = run o.count (figure_of o).line (figure_of o).first h

  -- x, reached by lines, is y, reached by events, up to each process being inside an event
  pub record Within (x y : FigureState o) : Type 0 where
    pub inside : (i : ℕ) → Inside (figure_of o) (view o.count x i) (y.process i).place (x.process i).place
    pub same : y ≡ put_back (λ i. (y.process i).place) x

  -- what is so of a list h of single lines: some list with fewer STEPs is played by whole events to the same end
  pub record WholeEvents (h : History) : Type 0 where
    pub list : History
    pub thinned : Thinned list h
    pub within : Within (lines_after h) (figure_after o list)
    pub shown : Shows o (after o list) (figure_after o list)

pub record SingleLines : Type 0 where
  pub holds : (o : Opening) → Openable o → (h : History) → ClaimsFit h → WholeEvents o h
  -- the other way, an event is nothing but lines: a run of whole events is a run of lines on some list with more STEPs
  pub lines : (o : Opening) (h : History) → (g : History) × Thinned h g × (lines_after o g ≡ figure_after o h)
  -- four lines after the first are enough: an event that ends by going on ends at a stop; a broadcast or a proposal ends it too
  pub stops : (r : Rule) (x : View) (p q : (figure_by r).Place) → event (figure_by r) x p ≡ goes q → (figure_by r).stop q ≡ true
  -- a list with STEPs left out has every other event still, in order; a process inside an event stands at its beginning, or at no stop
  pub steps_alone : (g h : History) → Thinned g h → without_steps g ≡ without_steps h
  pub at_no_stop : (r : Rule) (x : View) (p q : (figure_by r).Place) → Inside (figure_by r) x p q → (p ≡ q) ⊎ ((figure_by r).stop q ≡ false)

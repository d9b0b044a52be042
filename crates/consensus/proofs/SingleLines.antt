-- A run of single lines ends where the play ends on the list with fewer STEPs: line by line the state reached stands for the one
-- that whole events reach, and that one shows the play's. The other way, a STEP's lines are done one by one. Assumes nothing.
use Prim.Native.Nat.{ℕ, zero, suc}
use mathlib.Core.Path.{◌≡◌, refl, sym, subst, ap, ◌∙◌, fun_ext}
use mathlib.Core.Logic.{◌⊎◌, inl, inr}
use mathlib.Core.Bool.{Bool, false, cond}
use mathlib.Core.Option.{Option, none, some, some-injective}
use Rattle.consensus.specs.Events.{Event, claim, deliver, step, lose, answer, History, start, ◌▷◌, Rule, rule_1, rule_2, Opening, Openable}
use Rattle.consensus.specs.State.{Stage, idle, waiting, voting, awaiting, seeking, finish_voting, finish_awaiting, decided, State, claim_of}
use Rattle.consensus.specs.Rules.{after}
use Rattle.consensus.specs.Terms.{ClaimsFit}
use Rattle.consensus.specs.Figure.{View, Figure, known, event}
use Rattle.consensus.specs.Figure2 as two
use Rattle.consensus.specs.System.{view}
use Rattle.consensus.specs.Runs.{stay, happening, run}
use Rattle.consensus.specs.Demand2.{figure_by, figure_of, place_2, place_by, FigureState, Shows, figure_after}
use Rattle.consensus.specs.Lines.{Thinned, empty, kept, left_out, plain, without_steps, Inside, outset, onto, put_back, lines_after, Within, WholeEvents, SingleLines}
use Rattle.consensus.proofs.Invariant.{StageOk, Inv}
use Rattle.consensus.proofs.Reached.{reached}
use Rattle.consensus.proofs.Lawful.{Ready2, ReadyBy, lawful}
use Rattle.consensus.proofs.Gather.{Undelivered, Stands, Gathered, gather, event_stops}
use Rattle.consensus.proofs.Spread.{turns, spread, claimed_alike, delivered_alike, lost_alike, answered_alike}
use Rattle.consensus.proofs.Figures.{shown}

thinned_fit : {g h : History} → Thinned g h → ClaimsFit h → ClaimsFit g
thinned_fit empty f = f
thinned_fit (kept e t) f = (thinned_fit t f.0, f.1)
thinned_fit (left_out s t) f = thinned_fit t f.0

within_of : (o : Opening) (x y : FigureState o) → Stands (figure_of o) o.count x y → Within o x y
within_of o x y t =
    let places : (i : ℕ) → t.places i ≡ (y.process i).place = λ i. ap (λ (z : FigureState o). (z.process i).place) (sym t.back) in record {
      inside = λ i. subst (λ (p : (figure_of o).Place). Inside (figure_of o) (view o.count x i) p (x.process i).place) (places i) (t.all i);
      same = t.back ∙ ap (λ (p : ℕ → (figure_of o).Place). put_back p x) (fun_ext places);
    }

-- what a figure's state that shows the play's has not delivered is not there
shown_undelivered : (o : Opening) (st : State) (y : FigureState o) → Shows o st y → Undelivered (figure_of o) o.count y
shown_undelivered o st y h i j e = h.prop i j ∙ ap (λ (b : Bool). cond b (some (st.station j).own_claim) none) (sym (h.delivered i j) ∙ e)

-- and at line 11 of figure 2 it has prop[j], since a station that votes on the finish ballot holds its cursor's claim
module _ (st : State) (holds : ℕ → Bool) (cast : ℕ → Option Bool) (f : ℕ → Option ℕ) (n : ℕ)
    (h : (t : ℕ) → f t ≡ cond (holds t) (some (claim_of st t)) none) where
  ready_there : (q p : two.Place) → ◌≡◌ {A = Option two.Place} (some q) (some p) → Ready2 f q → Ready2 f p
  ready_there q p e t = subst (Ready2 f) (some-injective q p e) t

  ready_2 : (g : Stage) (p : two.Place) → StageOk (record { count = n; rule = rule_2 }) st g holds cast → place_2 g ≡ some p → Ready2 f p
  ready_2 idle p ok e = ready_there _ p e tt
  ready_2 waiting p ok e = ready_there _ p e tt
  ready_2 (voting j k d) p ok e = ready_there _ p e tt
  ready_2 (awaiting j k d) p ok e = ready_there _ p e tt
  ready_2 (seeking j k d) p ok e = ready_there _ p e tt
  ready_2 (finish_voting j k d) p ok e =
      ready_there (two.line11 j k d) p e (ap known (h j) ∙ ap (λ (b : Bool). known {A = ℕ} (cond b (some (claim_of st j)) none)) ok.1.mine)
  ready_2 (finish_awaiting j k d) p ok e = ready_there _ p e tt
  ready_2 (decided v k) p ok e = ready_there _ p e tt

  ready_by : (r : Rule) (g : Stage) (p : (figure_by r).Place) → StageOk (record { count = n; rule = r }) st g holds cast
      → place_by r g ≡ some p → ReadyBy r f p
  ready_by rule_1 g p ok e = tt
  ready_by rule_2 g p ok e = ready_2 g p ok e

shown_ready : (o : Opening) (st : State) (y : FigureState o) → Inv o st → Shows o st y → (i : ℕ)
    → ReadyBy o.rule (y.process i).prop (y.process i).place
shown_ready o st y inv h i =
    ready_by st (st.station i).holds (st.station i).cast (y.process i).prop o.count (h.prop i) o.rule (st.station i).stage
    (y.process i).place (inv.parts i).stage (h.place i)

module _ (o : Opening) (ok : Openable o) where
  -- the list with fewer STEPs, and the states that both lists end in
  record GatheredList (h : History) : Type 0 where
    list : History
    thinned : Thinned list h
    stands : Stands (figure_of o) o.count (lines_after o h) (figure_after o list)

  gathered_next : (h : History) (e : Event) → ClaimsFit h → GatheredList h → GatheredList (h ▷ e)
  unfolding run
  gathered_next h e fit t = go (gather (figure_of o) (ReadyBy o.rule) (lawful o.rule) o.count (lines_after o h) p t.stands.all ready un e)
    where
      p : ℕ → (figure_of o).Place
      p = t.stands.places

      -- what whole events reach shows the play's state
      back : Shows o (after o t.list) (put_back p (lines_after o h))
      back = subst (λ (z : FigureState o). Shows o (after o t.list) z) t.stands.back (shown o ok t.list (thinned_fit t.thinned fit))

      un : Undelivered (figure_of o) o.count (lines_after o h)
      un = shown_undelivered o (after o t.list) (put_back p (lines_after o h)) back

      ready : (i : ℕ) → ReadyBy o.rule ((lines_after o h).process i).prop (p i)
      ready = shown_ready o (after o t.list) (put_back p (lines_after o h)) (reached o t.list) back

      go : Gathered (figure_of o) (ReadyBy o.rule) (lawful o.rule) o.count (lines_after o h) p t.stands.all ready e → GatheredList (h ▷ e)
      go (inl s) = record {
        list = t.list ▷ e;
        thinned = kept e t.thinned;
        stands =
            subst (λ (z : FigureState o). Stands (figure_of o) o.count (lines_after o (h ▷ e)) (stay z (happening o.count (event (figure_of o)) z e)))
            (sym t.stands.back) s;
      }
      go (inr s) = record {
        list = t.list;
        thinned = subst (λ (f : Event). Thinned t.list (h ▷ f)) (sym s.1) (left_out s.0 t.thinned);
        stands = subst (λ (z : FigureState o). Stands (figure_of o) o.count (lines_after o (h ▷ e)) z) (sym t.stands.back) s.2;
      }

  gathered : (h : History) → ClaimsFit h → GatheredList h
  unfolding run
  gathered start fit = record {
    list = start;
    thinned = empty;
    stands = record { places = λ i. (figure_of o).first; all = λ i. outset; back = refl };
  }
  gathered (h ▷ e) fit = gathered_next h e fit.0 (gathered h fit.0)

  whole : (h : History) → ClaimsFit h → WholeEvents o h
  whole h fit =
      let t = gathered h fit in record {
        list = t.list;
        thinned = t.thinned;
        within = within_of o _ _ t.stands;
        shown = shown o ok t.list (thinned_fit t.thinned fit);
      }

-- ---- the other way

-- a list with one STEP of i more, and m more again
more_steps : ℕ → ℕ → History → History
more_steps zero i g = g ▷ step i
more_steps (suc m) i g = more_steps m i (g ▷ step i)

more_thinned : (m i : ℕ) (h g : History) → Thinned h g → Thinned (h ▷ step i) (more_steps m i g)
unfolding more_steps
more_thinned zero i h g t = kept (step i) t
more_thinned (suc m) i h g t = more_thinned m i h (g ▷ step i) (left_out i t)

module _ (o : Opening) where
  abbrev turns_of : ℕ → ℕ → FigureState o → FigureState o
  turns_of m i x = turns (figure_of o) (ReadyBy o.rule) (lawful o.rule) o.count m i x

  more_lines : (m i : ℕ) (g : History) → lines_after o (more_steps m i g) ≡ turns_of m i (lines_after o g)
  unfolding more_steps run turns
  more_lines zero i g = refl
  more_lines (suc m) i g = more_lines m i (g ▷ step i)

  abbrev SpreadList : History → Type 0
  SpreadList h = (g : History) × Thinned h g × (lines_after o g ≡ figure_after o h)

  abbrev lines_next : FigureState o → Event → FigureState o
  lines_next x e = stay x (happening o.count (figure_of o).line x e)

  abbrev events_next : FigureState o → Event → FigureState o
  events_next x e = stay x (happening o.count (event (figure_of o)) x e)

  spread_same : (h : History) (e : Event) → ((x : FigureState o) → lines_next x e ≡ events_next x e) → SpreadList h → SpreadList (h ▷ e)
  unfolding run
  spread_same h e same t = (t.0 ▷ e, kept e t.1, ap (λ (x : FigureState o). lines_next x e) t.2 ∙ same (figure_after o h))

  spread_step : (h : History) (i : ℕ) → SpreadList h → SpreadList (h ▷ step i)
  unfolding run
  spread_step h i t =
      let w = spread (figure_of o) (ReadyBy o.rule) (lawful o.rule) o.count (figure_after o h) i in (
        more_steps w.0 i t.0,
        more_thinned w.0 i h t.0 t.1,
        more_lines w.0 i t.0 ∙ (ap (turns_of w.0 i) t.2 ∙ w.1),
      )

  spread_next : (h : History) (e : Event) → SpreadList h → SpreadList (h ▷ e)
  spread_next h (claim s v) t =
      spread_same h (claim s v) (λ x. claimed_alike (figure_of o) (ReadyBy o.rule) (lawful o.rule) o.count x s v) t
  spread_next h (deliver t s) l =
      spread_same h (deliver t s) (λ x. delivered_alike (figure_of o) (ReadyBy o.rule) (lawful o.rule) o.count x t s) l
  spread_next h (step s) t = spread_step h s t
  spread_next h (lose s) t =
      spread_same h (lose s) (λ x. lost_alike (figure_of o) (ReadyBy o.rule) (lawful o.rule) o.count x s) t
  spread_next h (answer b a) t =
      spread_same h (answer b a) (λ x. answered_alike (figure_of o) (ReadyBy o.rule) (lawful o.rule) o.count x b a) t

  spread_list : (h : History) → SpreadList h
  unfolding run
  spread_list start = (start, empty, refl)
  spread_list (h ▷ e) = spread_next h e (spread_list h)

-- ---- what is left out, and where a process is

steps_alone : (g h : History) → Thinned g h → without_steps g ≡ without_steps h
steps_alone g h empty = refl
steps_alone g h (kept {g = g'} {h = h'} e t) = ap (plain e) (steps_alone g' h' t)
steps_alone g h (left_out {g = g'} {h = h'} s t) = steps_alone g' h' t

at_no_stop : (F : Figure) (x : View) (p q : F.Place) → Inside F x p q → (p ≡ q) ⊎ (F.stop q ≡ false)
at_no_stop F x p q outset = inl refl
at_no_stop F x p q (onto i l s) = inr s

pub single_lines : SingleLines
single_lines = record {
  holds = λ o ok h fit. whole o ok h fit;
  lines = spread_list;
  steps_alone = steps_alone;
  at_no_stop = λ r. at_no_stop (figure_by r);
  stops = λ r. event_stops (figure_by r) (ReadyBy r) (lawful r);
}

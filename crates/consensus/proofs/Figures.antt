-- Demand 2 about the play: the figure's run shows the play after every list, since it does at the opening and each event has
-- one verdict in both, but for a repeat, which leaves both as they were. Assumes nothing.
use Prim.Native.Nat.{ℕ, ◌≤◌, ◌<◌}
use mathlib.Core.Path.{◌≡◌, refl, sym, subst, ap, ◌∙◌, fun_ext}
use mathlib.Core.Logic.{◌⊎◌, inl, inr, ⊎_elim}
use mathlib.Core.Bool.{Bool, true, false, cond}
use mathlib.Core.Option.{Option, none, some, some-injective, none-ne-some}
use borrow.Author.Tests.{ne_eqb}
use Rattle.consensus.specs.Events.{Event, claim, deliver, step, lose, answer, History, start, ◌▷◌, Rule, rule_1, rule_2, Opening, Openable, ballots}
use Rattle.consensus.specs.State.{Stage, State, idle, finish_voting, held}
use Rattle.consensus.specs.Rules.{number, effect, next, after}
use Rattle.consensus.specs.Terms.{ClaimsFit, Repeat}
use Rattle.consensus.specs.Figure.{event}
use Rattle.consensus.specs.Runs.{Label, broadcast, delivery, advance, crash, decide, label_of, stay, happening, run}
use Rattle.consensus.specs.Demand2.{figure_by, figure_of, place_by, FigureState, Shows, Step, figure_after, NoStep, Demand2Of, Demand2}
use Rattle.consensus.proofs.Invariant.{StageOk}
use Rattle.consensus.proofs.Reached.{Stands, again_accepted, answer_again, reached}
use Rattle.consensus.proofs.Station.{next_accepted}
use Rattle.consensus.proofs.Alike.{both, neither}
use Rattle.consensus.proofs.Accepted.{repeats_shown}
use Rattle.consensus.proofs.Ballots.{in_bounds}
use Rattle.consensus.proofs.Shown.{Again, JudgedOrAgain, again, verdict}

first_shown : (r : Rule) → place_by r idle ≡ some (figure_by r).first
first_shown rule_1 = refl
first_shown rule_2 = refl

next_refused : (o : Opening) (st : State) (e : Event) → (number o st e ≡ 0 → ⊥) → next o st e ≡ st
unfolding next
next_refused o st e z = ap (λ (b : Bool). cond b (effect o st e) st) (ne_eqb _ 0 z)

module _ (o : Opening) (st : State) (x : FigureState o) (e : Event) where
  -- a repeat leaves the state
  again_stays : Again o st x e → next o st e ≡ st
  again_stays a = next_accepted o st e a.accepted ∙ ap (effect o st) a.answers ∙ answer_again o st a.ballot a.bit a.stands

  stayed : next o st e ≡ st → happening o.count (event (figure_of o)) x e ≡ none → Shows o st x
      → Shows o (next o st e) (stay x (happening o.count (event (figure_of o)) x e))
  stayed p q h = subst (λ (s : State). Shows o s (stay x (happening o.count (event (figure_of o)) x e))) (sym p) (
      subst (λ (m : Option (FigureState o)). Shows o st (stay x m)) (sym q) h
      )

  -- where both go on the states after show each other, and else both stay
  next_shown : Shows o st x → JudgedOrAgain o st x e → Shows o (next o st e) (stay x (happening o.count (event (figure_of o)) x e))
  next_shown h (inl (both z y t w)) = subst (λ (s : State). Shows o s (stay x (happening o.count (event (figure_of o)) x e))) (sym (next_accepted o st e z)) (
      subst (λ (m : Option (FigureState o)). Shows o (effect o st e) (stay x m)) (sym t) w
      )
  next_shown h (inl (neither z t)) = stayed (next_refused o st e z) t h
  next_shown h (inr a) = stayed (again_stays a) a.not_allowed h

  accepted_step : number o st e ≡ 0 → JudgedOrAgain o st x e → ((y : FigureState o) × Step o x e y × Shows o (next o st e) y) ⊎ Again o st x e
  accepted_step n (inl (both z y t w)) = inl (y, t, subst (λ (s : State). Shows o s y) (sym (next_accepted o st e z)) w)
  accepted_step n (inl (neither z t)) = absurd (z n)
  accepted_step n (inr a) = inr a

  allowed_step : (y : FigureState o) → Step o x e y → JudgedOrAgain o st x e → (number o st e ≡ 0) × Shows o (next o st e) y
  allowed_step y q (inl (both z y' t w)) = (
    z,
    subst (λ (s : State). Shows o s y) (sym (next_accepted o st e z))
        (subst (λ (m : FigureState o). Shows o (effect o st e) m) (some-injective y' y (sym t ∙ q)) w),
  )
  allowed_step y q (inl (neither z t)) = absurd (none-ne-some y (sym t ∙ q))
  allowed_step y q (inr a) = absurd (none-ne-some y (sym a.not_allowed ∙ q))

module _ (o : Opening) (ok : Openable o) where
  pub shown : (h : History) → ClaimsFit h → Shows o (after o h) (figure_after o h)
  unfolding after run
  shown start fit = record {
    place = λ s. first_shown o.rule;
    prop = λ s t. refl;
    sent = λ s. refl;
    delivered = λ s t. refl;
    proposed = λ s b. refl;
    crashed = λ s. refl;
    decision = λ b. refl;
  }
  shown (h ▷ e) fit =
      next_shown o (after o h) (figure_after o h) e (shown h fit.0)
      (verdict o (after o h) (figure_after o h) (shown h fit.0) (reached o h) (in_bounds o h fit.0) ok e)

  pub same_verdict : (h : History) → ClaimsFit h → (e : Event) → JudgedOrAgain o (after o h) (figure_after o h) e
  same_verdict h fit e = verdict o (after o h) (figure_after o h) (shown h fit) (reached o h) (in_bounds o h fit) ok e

  -- a station that votes on a finish ballot holds its cursor's claim, by the invariant
  holds_cursor : (h : History) (s j k d : ℕ) → ((after o h).station s).stage ≡ finish_voting j k d → held (after o h) s j ≡ true
  holds_cursor h s j k d e =
      (subst (λ (g : Stage). StageOk o (after o h) g ((after o h).station s).holds ((after o h).station s).cast) e ((reached o h).parts s).stage).1.mine

  -- a repeat answers the bit that stands, and the other way round
  repeat_of : (h : History) (e : Event) → Again o (after o h) (figure_after o h) e → Repeat o e h
  repeat_of h e a = subst (λ (f : Event). Repeat o f h) (sym a.answers) ((repeats_shown o a.ballot a.bit h).1 (a.small, a.stands))

  again_of : (h : History) → ClaimsFit h → (e : Event) → Repeat o e h → Again o (after o h) (figure_after o h) e
  again_of h fit (claim s v) x = absurd x
  again_of h fit (deliver t s) x = absurd x
  again_of h fit (step s) x = absurd x
  again_of h fit (lose s) x = absurd x
  again_of h fit (answer b a) x =
      let y = (repeats_shown o b a h).0 x in
      let v = (reached o h).answers b _ y.1 in
      again o (after o h) (figure_after o h) (shown h fit) b a ((in_bounds o h fit).ballot v.0 b _ v.2) y.0 y.1

  no_step : (h : History) → ClaimsFit h → (e : Event) → Repeat o e h → NoStep o h e
  unfolding after run
  no_step h fit e x =
      let a = again_of h fit e x in record {
        accepted = a.accepted;
        not_allowed = λ y q. none-ne-some y (sym a.not_allowed ∙ q);
        stays = again_stays o (after o h) (figure_after o h) e a;
        figure_stays = ap (stay (figure_after o h)) a.not_allowed;
      }

  demand2_of : (h : History) → ClaimsFit h → Demand2Of o h
  unfolding after
  demand2_of h fit = record {
    shown = shown h fit;
    accepted = λ e z. ⊎_elim (λ s. inl s) (λ a. inr (repeat_of h e a)) (accepted_step o (after o h) (figure_after o h) e z (same_verdict h fit e));
    repeated = no_step h fit;
    allowed = λ e y t. allowed_step o (after o h) (figure_after o h) e y t (same_verdict h fit e);
    line_11 = λ s j k d e. holds_cursor h s j k d e;
  }

every_label : (l : Label) → (e : Event) × (label_of e ≡ some l)
every_label (broadcast s v) = (claim s v, refl)
every_label (delivery t s) = (deliver t s, refl)
every_label (advance s) = (step s, refl)
every_label (crash s) = (lose s, refl)
every_label (decide b true) = (answer b 1, refl)
every_label (decide b false) = (answer b 0, refl)

-- each part of the figure's state is said to be something of the play's
module _ (o : Opening) (st : State) (x y : FigureState o) (v : Shows o st x) (w : Shows o st y) where
  same_process : (s : ℕ) → x.process s ≡ y.process s
  same_process s = λ i. record {
    place = some-injective (x.process s).place (y.process s).place (sym (v.place s) ∙ w.place s) i;
    prop = fun_ext (λ t. v.prop s t ∙ sym (w.prop s t)) i;
    sent = (v.sent s ∙ sym (w.sent s)) i;
    delivered = fun_ext (λ t. v.delivered s t ∙ sym (w.delivered s t)) i;
    proposed = fun_ext (λ b. v.proposed s b ∙ sym (w.proposed s b)) i;
    crashed = (v.crashed s ∙ sym (w.crashed s)) i;
  }

  one_shown : x ≡ y
  one_shown = λ i. record { process = fun_ext same_process i; decision = fun_ext (λ b. v.decision b ∙ sym (w.decision b)) i }

-- the bit that stands, in any state
again_any : (o : Opening) (st : State) (b a : ℕ) → b < ballots o → a ≤ 1 → Stands o st b a → (number o st (answer b a) ≡ 0) × (next o st (answer b a) ≡ st)
again_any o st b a l m e =
    let n = again_accepted o st b a l m e in (n, next_accepted o st (answer b a) n ∙ answer_again o st b a e)

pub demand2 : Demand2
demand2 = record {
  holds = λ o ok h fit. demand2_of o ok h fit;
  again = again_any;
  every_label = every_label;
  one_shown = one_shown;
  one_outcome = λ o x y z e p q. some-injective y z (sym p ∙ q);
}

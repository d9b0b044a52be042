-- The figure's state shows the play's: an event that is owned by one station changes that station's part and that process alike, and leaves
-- every claim that somebody holds as it was; an ANSWER is a decision. So an event is accepted exactly where its label is allowed,
-- but for an ANSWER of the bit that stands, which is accepted and not allowed.
-- Assumes nothing.
use Prim.Native.Nat.{ℕ, suc, ◌≤◌, ◌<◌}
use mathlib.Core.Path.{◌≡◌, refl, sym, subst, ap, ap₂, ◌∙◌, fun_ext}
use mathlib.Core.Logic.{◌⊎◌, inl, inr}
use mathlib.Core.Bool.{Bool, true, false, cond, not, ◌&&◌, ◌||◌}
use mathlib.Core.Option.{Option, none, some}
use native.Mathlib.Omega.{arith}
use lib.Dec.{eqb, ltb}
use borrow.Author.Tests.{lt-ltb, ltb-true, ltb-false}
use Rattle.consensus.specs.Events.{Event, claim, deliver, step, lose, answer, Rule, rule_1, rule_2, Opening, Openable, ballots}
use Rattle.consensus.specs.State.{Stage, idle, waiting, Station, State, not_idle, claimed, claim_of, held, update, set_station}
use Rattle.consensus.specs.Rules.{is_bit, answer_number, stage_number, number, claiming, holding, losing, step_from, effect, was_cast, as_bit}
use Rattle.basics.specs.Below.{any_below}
use Rattle.basics.specs.Tests.{refuse}
use Rattle.consensus.specs.Figure.{View, Does, broadcasts, known, event}
use Rattle.consensus.specs.System.{Process, moved, sending, proposing, storing, crashing}
use Rattle.consensus.specs.Runs.{provided, broadcast_by, advance_by, deliver_by, with_process, then, Label, decide, done, happens, happening}
use Rattle.consensus.specs.Demand2.{figure_by, figure_of, place_by, Shows, FigureState}
use Rattle.consensus.proofs.Basics.{update_ind, pair_ind, is_bit_some}
use Rattle.basics.proofs.Bools.{no_clash}
use Rattle.basics.proofs.Below.{any_found}
use Rattle.consensus.proofs.Invariant.{StageOk, Inv}
use Rattle.consensus.proofs.Reached.{Stands, again_accepted}
use Rattle.consensus.proofs.Accepted.{step_active}
use Rattle.consensus.proofs.Alike.{Alike, both_blocked, both_go, both_broadcast, both_propose, Verdict, both, neither, play_view, does_at, Side, side, Quiet, claim_side}
use Rattle.consensus.proofs.Alike1.{alike_1}
use Rattle.consensus.proofs.Alike2.{alike_2}
use Rattle.consensus.proofs.Ballots.{InBounds}

same_update : {A : Type 0} (f g : ℕ → A) (j : ℕ) (a : A) → ((i : ℕ) → f i ≡ g i) → (i : ℕ) → update f j a i ≡ update g j a i
same_update {A} f g j a e i = pair_ind (λ (y z : A). y ≡ z) f g j a a i (λ q. refl) (e i)

same_entry : (h : Bool) (v w : ℕ) → (h ≡ true → v ≡ w) → ◌≡◌ {A = Option ℕ} (cond h (some v) none) (cond h (some w) none)
same_entry true v w e = ap (λ (u : ℕ). some u) (e refl)
same_entry false v w e = refl

module _ (o : Opening) where
  -- a process shows a station's part, where the claims put in are those of st
  pub record PartShows (st : State) (p : Station) (q : Process (figure_of o).Place) : Type 0 where
    pub place : place_by o.rule p.stage ≡ some q.place
    pub prop : (t : ℕ) → q.prop t ≡ cond (p.holds t) (some (claim_of st t)) none
    pub sent : q.sent ≡ cond (not_idle p.stage) (some p.own_claim) none
    pub delivered : (t : ℕ) → q.delivered t ≡ p.holds t
    pub proposed : (b : ℕ) → q.proposed b ≡ p.cast b
    pub crashed : q.crashed ≡ p.lost

  -- the event e is accepted and allowed, and the states after it show each other; or it is neither
  abbrev pub Judged : State → FigureState o → Event → Type 0
  Judged st x e = Verdict (number o st e) (happening o.count (event (figure_of o)) x e) (λ y. Shows o (effect o st e) y)

  -- it answers the bit that stands: it is accepted, not allowed, and leaves the state as it was
  pub record Again (st : State) (x : FigureState o) (e : Event) : Type 0 where
    pub accepted : number o st e ≡ 0
    pub not_allowed : happening o.count (event (figure_of o)) x e ≡ none
    pub ballot : ℕ
    pub bit : ℕ
    pub answers : e ≡ answer ballot bit
    pub small : bit ≤ 1
    pub stands : Stands o st ballot bit

  abbrev pub JudgedOrAgain : State → FigureState o → Event → Type 0
  JudgedOrAgain st x e = Judged st x e ⊎ Again st x e

  module _ (st : State) (x : FigureState o) (shows : Shows o st x) where
    part_shows : (s : ℕ) → PartShows st (st.station s) (x.process s)
    part_shows s = record {
      place = shows.place s;
      prop = shows.prop s;
      sent = shows.sent s;
      delivered = shows.delivered s;
      proposed = shows.proposed s;
      crashed = shows.crashed s;
    }

    abbrev put : ℕ → Process (figure_of o).Place → FigureState o
    put s q = record { process = update x.process s q; decision = x.decision }

    -- one station's part and its process changed alike
    own_shows : Inv o st → (s : ℕ) (p : Station) (q : Process (figure_of o).Place) → PartShows st p q
        → (claimed st s ≡ true → p.own_claim ≡ claim_of st s) → ((t : ℕ) → p.holds t ≡ true → claimed st t ≡ true)
        → Shows o (set_station st s p) (put s q)
    own_shows inv s p q new kept put_in = record {
      place = λ i. (whole i).place;
      prop = λ i t. (whole i).prop t ∙ same_entry _ _ _ (λ h. sym (claims t (holdings i t h)));
      sent = λ i. (whole i).sent;
      delivered = λ i. (whole i).delivered;
      proposed = λ i. (whole i).proposed;
      crashed = λ i. (whole i).crashed;
      decision = shows.decision;
    }
      where
        whole : (i : ℕ) → PartShows st (update st.station s p i) (update x.process s q i)
        whole i = pair_ind (PartShows st) st.station x.process s p q i (λ e. new) (part_shows i)

        holdings : (i t : ℕ) → (update st.station s p i).holds t ≡ true → claimed st t ≡ true
        holdings i t =
            update_ind (λ (r : Station). r.holds t ≡ true → claimed st t ≡ true) st.station s p i (λ e. put_in t)
            (λ ne h. ((inv.parts i).holdings t h).2)

        claims : (t : ℕ) → claimed st t ≡ true → (update st.station s p t).own_claim ≡ claim_of st t
        claims t c =
            update_ind (λ (r : Station). r.own_claim ≡ claim_of st t) st.station s p t
            (λ e. subst (λ (i : ℕ). claimed st i ≡ true → p.own_claim ≡ claim_of st i) (sym e) kept c)
            (λ ne. refl)

    -- ---- verdicts

    -- an event owned by the station s: refused where there is no such station or it is lost, and else as the process may
    owned : (a l c : Bool) (j k m s : ℕ) (r : Option (Process (figure_of o).Place)) (T : Process (figure_of o).Place → Type 0) (W : FigureState o → Type 0)
        → c ≡ l → ((q : Process (figure_of o).Place) → T q → W (put s q)) → Verdict m r T
        → Verdict (refuse (not a) (suc j) (refuse l (suc k) m)) (provided (a && not c) (with_process x s r)) W
    owned a l c j k m s r T W e f v = subst (λ (b : Bool). Verdict (refuse (not a) (suc j) (refuse l (suc k) m)) (provided (a && not b) (with_process x s r)) W) (sym e) (go a l v)
      where
        go : (a l : Bool) → Verdict m r T → Verdict (refuse (not a) (suc j) (refuse l (suc k) m)) (provided (a && not l) (with_process x s r)) W
        go false l v = neither (λ z. omega arith) refl
        go true true v = neither (λ z. omega arith) refl
        go true false (both z q w t) = both z (put s q) (ap (with_process x s) w) (f q t)
        go true false (neither z w) = neither z (ap (with_process x s) w)

    -- the process s does what a STEP of the station s does
    alike : Inv o st → Openable o → (s : ℕ) → Alike (place_by o.rule) (does_at o st s (st.station s).stage) (done o.count (event (figure_of o)) x s)
    alike inv ok s =
        subst (λ (v : View). Alike (place_by o.rule) (does_at o st s (st.station s).stage) (event (figure_of o) v (x.process s).place)) same
        (by o.rule (x.process s).place (inv.parts s).stage (shows.place s))
      where
        of_rule : Rule → Opening
        of_rule r = record { count = o.count; rule = r }

        same : play_view o st s ≡ record { self = s; count = o.count; prop = (x.process s).prop; decided = x.decision }
        same = λ i. record {
          self = s;
          count = o.count;
          prop = fun_ext (λ t. sym (shows.prop s t)) i;
          decided = fun_ext (λ b. sym (shows.decision b)) i;
        }

        mine : held st s s ≡ true → s < o.count
        mine h = ((inv.parts s).holdings s h).0

        by : (r : Rule) (p : (figure_by r).Place) → StageOk (of_rule r) st (st.station s).stage (st.station s).holds (st.station s).cast
            → place_by r (st.station s).stage ≡ some p
            → Alike (place_by r) (does_at (of_rule r) st s (st.station s).stage) (event (figure_by r) (play_view (of_rule r) st s) p)
        by rule_1 p right e = alike_1 o.count st s ok.some_station (st.station s).stage p mine right e
        by rule_2 p right e = alike_2 o.count st s (st.station s).stage p right e

    abbrev Part : Type 0
    Part = Process (figure_of o).Place

    abbrev does : ℕ → Does (figure_of o).Place
    does s = done o.count (event (figure_of o)) x s

    -- ---- CLAIM
    claim_quiet : (s v : ℕ) (d : Does Stage) (e : Does (figure_of o).Place) → Quiet o st s d → Alike (place_by o.rule) d e
        → broadcast_by v (x.process s) e ≡ none
    claim_quiet s v d e t both_blocked = refl
    claim_quiet s v d e t (both_go f) = refl
    claim_quiet s v d e t (both_broadcast f) = absurd t
    claim_quiet s v d e t (both_propose f) = refl

    claim_shows : (s v : ℕ) (p : (figure_of o).Place) → place_by o.rule waiting ≡ some p
        → PartShows st (claiming v (st.station s)) (sending v p (x.process s))
    claim_shows s v p e = record {
      place = e;
      prop = shows.prop s;
      sent = refl;
      delivered = shows.delivered s;
      proposed = shows.proposed s;
      crashed = shows.crashed s;
    }

    abbrev ClaimedNow : ℕ → ℕ → Part → Type 0
    ClaimedNow s v q = PartShows st (claiming v (st.station s)) q × (claimed st s ≡ false)

    claim_idle : (s v : ℕ) (e : Does (figure_of o).Place) → claimed st s ≡ false → Alike (place_by o.rule) (broadcasts waiting) e
        → Verdict 0 (broadcast_by v (x.process s) e) (ClaimedNow s v)
    claim_idle s v e c (both_broadcast {p = p} f) = both refl (sending v p (x.process s)) refl (claim_shows s v p f, c)

    claim_inner : Inv o st → Openable o → (s v : ℕ) → Verdict (refuse (claimed st s) 3 0) (broadcast_by v (x.process s) (does s)) (ClaimedNow s v)
    unfolding does_at
    claim_inner inv ok s v = go (claim_side o st s (st.station s).stage)
      where
        go : (((st.station s).stage ≡ idle) × (claimed st s ≡ false)) ⊎ ((claimed st s ≡ true) × Quiet o st s (does_at o st s (st.station s).stage))
            → Verdict (refuse (claimed st s) 3 0) (broadcast_by v (x.process s) (does s)) (ClaimedNow s v)
        go (inl c) =
            subst (λ (b : Bool). Verdict (refuse b 3 0) (broadcast_by v (x.process s) (does s)) (ClaimedNow s v)) (sym c.1)
            (claim_idle s v (does s) c.1 (subst (λ (g : Stage). Alike (place_by o.rule) (does_at o st s g) (does s)) c.0 (alike inv ok s)))
        go (inr c) =
            subst (λ (b : Bool). Verdict (refuse b 3 0) (broadcast_by v (x.process s) (does s)) (ClaimedNow s v)) (sym c.0)
            (neither (λ z. omega arith) (claim_quiet s v _ (does s) c.1 (alike inv ok s)))

    claim_verdict : Inv o st → Openable o → (s v : ℕ) → Judged st x (claim s v)
    unfolding number effect happens
    claim_verdict inv ok s v =
        owned (ltb s o.count) (st.station s).lost (x.process s).crashed _ _ (refuse (claimed st s) 3 0) s (broadcast_by v (x.process s) (does s))
        (ClaimedNow s v) (λ y. Shows o (set_station st s (claiming v (st.station s))) y) (shows.crashed s)
        (λ q t.
        own_shows inv s (claiming v (st.station s)) q t.0 (λ c. no_clash (claimed st s) c t.1) (λ i h. ((inv.parts s).holdings i h).2))
        (claim_inner inv ok s v)

    -- ---- STEP

    -- the part p shows as the process q, and has the claim and the holdings that it had
    pub record Stepped (s : ℕ) (p : Station) (q : Part) : Type 0 where
      pub part : PartShows st p q
      pub own : p.own_claim ≡ claim_of st s
      pub holdings : p.holds ≡ (st.station s).holds

    -- a STEP leaves a station past idle so
    abbrev ActiveAs : ℕ → Station → Type 0
    ActiveAs s p = not_idle p.stage ≡ claimed st s

    still_sent : (s : ℕ) (g : Stage) → not_idle g ≡ claimed st s → (x.process s).sent ≡ cond (not_idle g) (some (claim_of st s)) none
    still_sent s g e = subst (λ (b : Bool). (x.process s).sent ≡ cond b (some (claim_of st s)) none) (sym e) (shows.sent s)

    step_inner : (s m : ℕ) (p : Station) (d : Does Stage) (e : Does (figure_of o).Place) → ActiveAs s p → Alike (place_by o.rule) d e
        → Side o st s (st.station s) d m p → Verdict m (advance_by (x.process s) e) (Stepped s p)
    step_inner s m p d e a both_blocked t = neither t refl
    step_inner s m p d e a (both_go {g = g} {p = r} f) t =
        both t.0 (moved r (x.process s)) refl
        (subst (λ (w : Station). ActiveAs s w → Stepped s w (moved r (x.process s))) (sym t.1) (λ n. record {
          part = record {
            place = f;
            prop = shows.prop s;
            sent = still_sent s g n;
            delivered = shows.delivered s;
            proposed = shows.proposed s;
            crashed = shows.crashed s;
          };
          own = refl;
          holdings = refl;
        }) a)
    step_inner s m p d e a (both_broadcast f) t = neither t refl
    step_inner s m p d e a (both_propose {b = b} {a = c} {g = g} {p = r} f) t =
        both t.0 (proposing b c r (x.process s)) refl
        (subst (λ (w : Station). ActiveAs s w → Stepped s w (proposing b c r (x.process s))) (sym t.1) (λ n. record {
          part = record {
            place = f;
            prop = shows.prop s;
            sent = still_sent s g n;
            delivered = shows.delivered s;
            proposed = λ i. same_update (x.process s).proposed (st.station s).cast b (some c) (shows.proposed s) i;
            crashed = shows.crashed s;
          };
          own = refl;
          holdings = refl;
        }) a)

    step_verdict : Inv o st → InBounds o st → Openable o → (s : ℕ) → Judged st x (step s)
    unfolding number effect happens
    step_verdict inv within ok s =
        owned (ltb s o.count) (st.station s).lost (x.process s).crashed _ _ (stage_number o st s (st.station s).stage) s (advance_by (x.process s) (does s))
        (Stepped s p) (λ y. Shows o (set_station st s p) y) (shows.crashed s)
        (λ q t.
        own_shows inv s p q t.part (λ c. t.own) (λ i h. ((inv.parts s).holdings i (subst (λ (f : ℕ → Bool). f i ≡ true) t.holdings h)).2))
        (step_inner s _ p _ (does s) (step_active o st s (st.station s).stage (st.station s) refl) (alike inv ok s)
        (side o st s (st.station s).stage (within.not_last s)))
      where
        p : Station
        p = step_from o st s (st.station s).stage (st.station s)

    -- ---- DELIVER
    deliver_shows : (t s : ℕ) → PartShows st (holding t (st.station s)) (storing t (claim_of st t) (x.process s))
    deliver_shows t s = record {
      place = shows.place s;
      prop = λ i.
          pair_ind (λ (y : Option ℕ) (b : Bool). y ≡ cond b (some (claim_of st i)) none) (x.process s).prop (st.station s).holds t
          (some (claim_of st t)) true i
          (λ q. ap (λ (j : ℕ). some (claim_of st j)) (sym q))
          (shows.prop s i);
      sent = shows.sent s;
      delivered = λ i. same_update (x.process s).delivered (st.station s).holds t true (shows.delivered s) i;
      proposed = shows.proposed s;
      crashed = shows.crashed s;
    }

    deliver_cases : (a b l c h : Bool) (t s : ℕ) (W : FigureState o → Type 0) → (c ≡ true → W (put s (storing t (claim_of st t) (x.process s))))
        → Verdict (refuse (not a || not b) 1 (refuse l 2 (refuse (not c) 4 (refuse h 5 0))))
        (provided (a && ((b && not l) && not h)) (with_process x s (deliver_by t (cond c (some (claim_of st t)) none) (x.process s)))) W
    deliver_cases false b l c h t s W w = neither (λ z. omega arith) refl
    deliver_cases true false l c h t s W w = neither (λ z. omega arith) refl
    deliver_cases true true true c h t s W w = neither (λ z. omega arith) refl
    deliver_cases true true false false true t s W w = neither (λ z. omega arith) refl
    deliver_cases true true false false false t s W w = neither (λ z. omega arith) refl
    deliver_cases true true false true true t s W w = neither (λ z. omega arith) refl
    deliver_cases true true false true false t s W w = both refl _ refl (w refl)

    deliver_verdict : Inv o st → (t s : ℕ) → Judged st x (deliver t s)
    unfolding number effect happens
    deliver_verdict inv t s =
        subst (λ (l : Bool). Told l ((x.process s).delivered t) (x.process t).sent) (sym (shows.crashed s))
        (subst (λ (h : Bool). Told (st.station s).lost h (x.process t).sent) (sym (shows.delivered s t))
        (subst (λ (v : Option ℕ). Told (st.station s).lost (held st s t) v) (sym (shows.sent t))
        (deliver_cases (ltb t o.count) (ltb s o.count) (st.station s).lost (claimed st t) (held st s t) t s _ new)))
      where
        after : State
        after = set_station st s (holding t (st.station s))

        Told : Bool → Bool → Option ℕ → Type 0
        Told l h v =
            Verdict
            (refuse (not (ltb t o.count) || not (ltb s o.count)) 1
            (refuse (st.station s).lost 2 (refuse (not (claimed st t)) 4 (refuse (held st s t) 5 0))))
            (provided (ltb t o.count && ((ltb s o.count && not l) && not h)) (with_process x s (deliver_by t v (x.process s))))
            (λ y. Shows o after y)

        put_in : claimed st t ≡ true → (i : ℕ) → update (st.station s).holds t true i ≡ true → claimed st i ≡ true
        put_in c i =
            update_ind (λ (b : Bool). b ≡ true → claimed st i ≡ true) (st.station s).holds t true i
            (λ q h. subst (λ (j : ℕ). claimed st j ≡ true) (sym q) c)
            (λ ne h. ((inv.parts s).holdings i h).2)

        new : claimed st t ≡ true → Shows o after (put s (storing t (claim_of st t) (x.process s)))
        new c = own_shows inv s (holding t (st.station s)) _ (deliver_shows t s) (λ e. refl) (put_in c)

    -- ---- LOSE
    lose_verdict : Inv o st → (s : ℕ) → Judged st x (lose s)
    unfolding number effect happens
    lose_verdict inv s =
        owned (ltb s o.count) (st.station s).lost (x.process s).crashed _ _ 0 s (some (crashing (x.process s))) (PartShows st (losing (st.station s)))
        (λ y. Shows o (set_station st s (losing (st.station s))) y) (shows.crashed s)
        (λ q t. own_shows inv s (losing (st.station s)) q t (λ c. refl) (λ i h. ((inv.parts s).holdings i h).2))
        (both refl (crashing (x.process s)) refl (record {
          place = shows.place s;
          prop = shows.prop s;
          sent = shows.sent s;
          delivered = shows.delivered s;
          proposed = shows.proposed s;
          crashed = refl;
        }))

    -- ---- ANSWER
    abbrev answering : ℕ → Bool → State
    answering b a = record { station = st.station; answer_of = update st.answer_of b (some a) }

    abbrev deciding : ℕ → Bool → FigureState o
    deciding b a = record { process = x.process; decision = update x.decision b (some a) }

    answer_shows : (b : ℕ) (a : Bool) → Shows o (answering b a) (deciding b a)
    answer_shows b a = record {
      place = shows.place;
      prop = shows.prop;
      sent = shows.sent;
      delivered = shows.delivered;
      proposed = shows.proposed;
      crashed = shows.crashed;
      decision = λ i. same_update x.decision st.answer_of b (some a) shows.decision i;
    }

    -- the ballot is one (g), the bit is above 1 (u), the ballot has this answer (y), the bit was cast (c): a verdict, or the bit stands
    abbrev AnswerTold : (g u c : Bool) → Option Bool → ℕ → Bool → Type 0
    AnswerTold g u c y b a =
        Verdict (refuse (not g) 9 (refuse u 10 (answer_number y a c))) (provided (not u) (provided (not (known y) && c) (some (deciding b a)))) (Shows o (answering b a))
        ⊎ ((g ≡ true) × (u ≡ false) × (y ≡ some a))

    answer_stands : (x c : Bool) (b : ℕ) (a : Bool) → AnswerTold true false c (some x) b a
    answer_stands true c b true = inr (refl, refl, refl)
    answer_stands true c b false = inl (neither (λ z. omega arith) refl)
    answer_stands false c b true = inl (neither (λ z. omega arith) refl)
    answer_stands false c b false = inr (refl, refl, refl)

    answer_cases : (g u c : Bool) (y : Option Bool) (b : ℕ) (a : Bool) → (c ≡ true → g ≡ true) → AnswerTold g u c y b a
    answer_cases true true c y b a f = inl (neither (λ z. omega arith) refl)
    answer_cases true false c (some x) b a f = answer_stands x c b a
    answer_cases true false true none b a f = inl (both refl _ refl (answer_shows b a))
    answer_cases true false false none b a f = inl (neither (λ z. omega arith) refl)
    answer_cases false true c y b a f = inl (neither (λ z. omega arith) refl)
    answer_cases false false c (some x) b a f = inl (neither (λ z. omega arith) refl)
    answer_cases false false true none b a f = no_clash false (f refl) refl
    answer_cases false false false none b a f = inl (neither (λ z. omega arith) refl)

    then_provided : (u : Bool) (l : Label) (f : Label → Option (FigureState o)) → then (provided u (some l)) f ≡ provided u (f l)
    then_provided true l f = refl
    then_provided false l f = refl

    -- what the figure does, in the play's words
    answer_happens : (b a : ℕ)
        → happening o.count (event (figure_of o)) x (answer b a)
        ≡ provided (not (ltb 1 a)) (provided (not (known (st.answer_of b)) && was_cast o st b (as_bit a)) (some (deciding b (as_bit a))))
    unfolding happens
    answer_happens b a =
        then_provided (not (ltb 1 a)) (decide b (eqb a 1)) (happens o.count (event (figure_of o)) x)
        ∙ ap₂ (λ (y : Option Bool) (f : ℕ → Bool). provided (not (ltb 1 a)) (provided (not (known y) && any_below o.count f) (some (deciding b (as_bit a)))))
        (shows.decision b) (fun_ext (λ i. ap (is_bit (as_bit a)) (shows.proposed i b)))

    provided_none : (u : Bool) → provided {A = FigureState o} u none ≡ none
    provided_none true = refl
    provided_none false = refl

    -- an ANSWER of the bit that stands
    pub again : (b a : ℕ) → b < ballots o → a ≤ 1 → Stands o st b a → Again st x (answer b a)
    again b a l m e = record {
      accepted = again_accepted o st b a l m e;
      not_allowed =
          answer_happens b a
          ∙ ap (λ (y : Option Bool). provided (not (ltb 1 a)) (provided (not (known y) && was_cast o st b (as_bit a)) (some (deciding b (as_bit a))))) e
          ∙ provided_none (not (ltb 1 a));
      ballot = b;
      bit = a;
      answers = refl;
      small = m;
      stands = e;
    }

    answer_verdict : InBounds o st → (b a : ℕ) → JudgedOrAgain st x (answer b a)
    unfolding number effect
    answer_verdict within b a =
        go (answer_cases (ltb b (ballots o)) (ltb 1 a) (was_cast o st b (as_bit a)) (st.answer_of b) b (as_bit a) there)
      where
        there : was_cast o st b (as_bit a) ≡ true → ltb b (ballots o) ≡ true
        there c =
            let f = any_found o.count _ c in
            lt-ltb b (ballots o) (within.ballot f.0 b (as_bit a) (is_bit_some (as_bit a) _ f.2))

        go : AnswerTold (ltb b (ballots o)) (ltb 1 a) (was_cast o st b (as_bit a)) (st.answer_of b) b (as_bit a) → JudgedOrAgain st x (answer b a)
        go (inl v) = inl (subst (λ (y : Option (FigureState o)). Verdict (number o st (answer b a)) y (λ z. Shows o (effect o st (answer b a)) z)) (sym (answer_happens b a)) v)
        go (inr (g, u, y)) = inr (again b a (ltb-true b (ballots o) g) (ltb-false 1 a u) y)

    pub verdict : Inv o st → InBounds o st → Openable o → (e : Event) → JudgedOrAgain st x e
    verdict inv within ok (claim s v) = inl (claim_verdict inv ok s v)
    verdict inv within ok (deliver t s) = inl (deliver_verdict inv t s)
    verdict inv within ok (step s) = inl (step_verdict inv within ok s)
    verdict inv within ok (lose s) = inl (lose_verdict inv s)
    verdict inv within ok (answer b a) = answer_verdict within b a

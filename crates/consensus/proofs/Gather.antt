-- Single lines gathered into events, for any lawful figure. A STEP that leads to no stop is left out: its line would be done again, with the same
-- outcome, by the event that ends at the next stop, since a line between stops stays as it was when more is delivered and decided.
-- Every other event is kept, and does the same to both states. Assumes nothing.
use Prim.Native.Nat.{ℕ, zero, suc, ◌≤◌}
use mathlib.Core.Path.{◌≡◌, refl, sym, subst, ap, ◌∙◌, fun_ext}
use mathlib.Core.Logic.{◌⊎◌, inl, inr}
use mathlib.Core.Bool.{Bool, true, false, cond, not, ◌&&◌, true≢false}
use mathlib.Core.Option.{Option, none, some, none-ne-some}
use native.Mathlib.Omega.{arith}
use lib.Dec.{eqb, ltb}
use borrow.Author.Tests.{not-true}
use Rattle.consensus.specs.Events.{Event, claim, deliver, step, lose, answer}
use Rattle.consensus.specs.State.{update}
use Rattle.consensus.specs.Rules.{is_bit}
use Rattle.basics.specs.Below.{any_below}
use Rattle.consensus.specs.Figure.{View, Does, blocked, goes, broadcasts, proposes, known, Figure, onward, event}
use Rattle.consensus.specs.System.{Process, System, view, moved, sending, proposing, storing, crashing}
use Rattle.consensus.specs.Runs.{Label, decide, provided, broadcast_by, advance_by, deliver_by, with_process, stay, then, live, happens, happening}
use Rattle.consensus.specs.Lines.{Inside, outset, onto, put_back}
use Rattle.consensus.proofs.Basics.{update_ind, pair_ind}
use Rattle.basics.proofs.Bools.{by_bool, cond_ind, and_true}
use Rattle.consensus.proofs.Lawful.{More, seen, Falls, Keeps, Silent, Moving, Lawful}

-- ---- one process

module _ (F : Figure) where
  -- the event is over: a stop is reached, or a call or a broadcast was made, or nothing can be done
  abbrev pub Ended : Does F.Place → Type 0
  Ended blocked = Unit {0}
  Ended (goes q) = F.stop q ≡ true
  Ended (broadcasts q) = Unit {0}
  Ended (proposes b a q) = Unit {0}

  -- lines from p on that end with d
  pub data Ends (x : View) : F.Place → Does F.Place → Type 0 where
    last : {p : F.Place} {d : Does F.Place} → F.line x p ≡ d → Ended d → Ends x p d
    more : {p q : F.Place} {d : Does F.Place} → F.line x p ≡ goes q → F.stop q ≡ false → Ends x q d → Ends x p d

  ends_inside : (x : View) {p q : F.Place} {d : Does F.Place} → Inside F x p q → Ends x q d → Ends x p d
  ends_inside x outset e = e
  ends_inside x (onto i l n) e = ends_inside x i (more l n e)

  pub onward_ended : (m : ℕ) (x : View) (d : Does F.Place) → Ended d → onward F m x d ≡ d
  unfolding onward
  onward_ended zero x d e = refl
  onward_ended (suc m) x blocked e = refl
  onward_ended (suc m) x (goes q) e = ap (λ (b : Bool). cond b (goes q) (onward F m x (F.line x q))) e
  onward_ended (suc m) x (broadcasts q) e = refl
  onward_ended (suc m) x (proposes b a q) e = refl

  pub onward_on : (m : ℕ) (x : View) (q : F.Place) → F.stop q ≡ false → onward F (suc m) x (goes q) ≡ onward F m x (F.line x q)
  unfolding onward
  onward_on m x q n = ap (λ (b : Bool). cond b (goes q) (onward F m x (F.line x q))) n

  -- who does not broadcast cannot take part as broadcasting v
  pub unsaid : (v : ℕ) (q : Process F.Place) (d : Does F.Place) → Silent F d → broadcast_by v q d ≡ none
  unsaid v q blocked s = refl
  unsaid v q (goes r) s = refl
  unsaid v q (broadcasts r) s = absurd s
  unsaid v q (proposes b a r) s = refl

  moving_silent : (d : Does F.Place) → Moving F d → Silent F d
  moving_silent blocked m = tt
  moving_silent (goes q) m = tt
  moving_silent (broadcasts q) m = m
  moving_silent (proposes b a q) m = tt

  module _ (Ready : (ℕ → Option ℕ) → F.Place → Type 0) (law : Lawful F Ready) where
    pub fall : (x : View) {p q : F.Place} → F.line x p ≡ goes q → F.stop q ≡ false → suc (law.rank q) ≤ law.rank p
    fall x {p} {q} l n = subst (Falls F law.rank p) l (law.falls x p) n

    onward_ends : (x : View) (m : ℕ) {p : F.Place} {d : Does F.Place} → Ends x p d → law.rank p ≤ m → onward F m x (F.line x p) ≡ d
    onward_ends x m {d = d} (last l e) r = ap (onward F m x) l ∙ onward_ended m x d e
    onward_ends x zero (more l n e) r = absurd (let f = fall x l n in omega arith)
    onward_ends x (suc m) (more {q = q} l n e) r =
        let f = fall x l n in
        ap (onward F (suc m) x) l ∙ (onward_on m x q n ∙ onward_ends x m e (omega arith))

    -- an event has enough lines
    event_ends : (x : View) {p : F.Place} {d : Does F.Place} → Ends x p d → event F x p ≡ d
    unfolding event
    event_ends x {p} e = onward_ends x 4 e (law.most p)

    -- an event ends
    onward_stops : (m : ℕ) (x : View) (p : F.Place) (d : Does F.Place) → Falls F law.rank p d → law.rank p ≤ m → Ended (onward F m x d)
    unfolding onward
    onward_stops zero x p blocked f r = tt
    onward_stops zero x p (goes q) f r = by_bool (F.stop q) (λ e. e) (λ e. absurd (let g = f e in omega arith))
    onward_stops zero x p (broadcasts q) f r = tt
    onward_stops zero x p (proposes b a q) f r = tt
    onward_stops (suc m) x p blocked f r = tt
    onward_stops (suc m) x p (goes q) f r =
        cond_ind Ended (F.stop q) (goes q) (onward F m x (F.line x q)) (λ e. e)
        (λ e. let g = f e in onward_stops m x q (F.line x q) (law.falls x q) (omega arith))
    onward_stops (suc m) x p (broadcasts q) f r = tt
    onward_stops (suc m) x p (proposes b a q) f r = tt

    pub event_stops : (x : View) (p q : F.Place) → event F x p ≡ goes q → F.stop q ≡ true
    unfolding event
    event_stops x p q e = subst Ended e (onward_stops 4 x p (F.line x p) (law.falls x p) (law.most p))

    -- only the first line of an event broadcasts
    silent_between : (x : View) (q : F.Place) → F.stop q ≡ false → Silent F (F.line x q)
    silent_between x q e = moving_silent (F.line x q) (law.moving x q e)

    onward_silent : (m : ℕ) (x : View) (d : Does F.Place) → Silent F d → Silent F (onward F m x d)
    unfolding onward
    onward_silent zero x d s = s
    onward_silent (suc m) x blocked s = tt
    onward_silent (suc m) x (goes q) s =
        cond_ind (Silent F) (F.stop q) (goes q) (onward F m x (F.line x q)) (λ e. tt) (λ e. onward_silent m x (F.line x q) (silent_between x q e))
    onward_silent (suc m) x (broadcasts q) s = s
    onward_silent (suc m) x (proposes b a q) s = tt

    event_silent : (x : View) (p : F.Place) → Silent F (F.line x p) → Silent F (event F x p)
    unfolding event
    event_silent x p s = onward_silent 4 x (F.line x p) s

    -- what is begun has a first line that goes on
    begun : (x : View) {p q : F.Place} → Inside F x p q → (p ≡ q) ⊎ Silent F (F.line x p)
    begun x outset = inl refl
    begun x {p} (onto {q = q} {r = r} i l n) = inr (first (begun x i))
      where
        first : (p ≡ q) ⊎ Silent F (F.line x p) → Silent F (F.line x p)
        first (inl e) = subst (λ (w : F.Place). Silent F (F.line x w)) (sym e) (subst (Silent F) (sym l) tt)
        first (inr t) = t

    -- the event and the line that a process stands at broadcast alike
    abbrev pub SaysAlike : Does F.Place → Does F.Place → Type 0
    SaysAlike d e = ((r : F.Place) × (d ≡ broadcasts r) × (e ≡ broadcasts r)) ⊎ (Silent F d × Silent F e)

    pub says_first : (x : View) (p : F.Place) (d : Does F.Place) → F.line x p ≡ d → SaysAlike (event F x p) d
    says_first x p blocked e = inr (event_silent x p (subst (Silent F) (sym e) tt), tt)
    says_first x p (goes q) e = inr (event_silent x p (subst (Silent F) (sym e) tt), tt)
    says_first x p (broadcasts q) e = inl (q, event_ends x (last e tt), refl)
    says_first x p (proposes b a q) e = inr (event_silent x p (subst (Silent F) (sym e) tt), tt)

    says_alike : (x : View) {p q : F.Place} → Inside F x p q → SaysAlike (event F x p) (F.line x q)
    says_alike x {p} outset = says_first x p (F.line x p) refl
    says_alike x {p} {q} (onto i l n) = inr (event_silent x p (silent_of (begun x (onto i l n))), silent_between x q n)
      where
        silent_of : (p ≡ q) ⊎ Silent F (F.line x p) → Silent F (F.line x p)
        silent_of (inl e) = subst (λ (w : F.Place). Silent F (F.line x w)) (sym e) (silent_between x q n)
        silent_of (inr t) = t

    inside_ready : (f : ℕ → Option ℕ) (x : View) {p q : F.Place} → Ready f p → Inside F x p q → Ready f q
    inside_ready f x a outset = a
    inside_ready f x a (onto t l s) = law.ready f _ s

    -- a process stays inside its event when more is delivered and decided
    inside_grows : (i n : ℕ) (f g : ℕ → Option ℕ) (d e : ℕ → Option Bool) → More f g → More d e → {p q : F.Place} → Ready f p
        → Inside F (seen i n f d) p q → Inside F (seen i n g e) p q
    inside_grows i n f g d e m w a outset = outset
    inside_grows i n f g d e m w a (onto {q = q} t l s) =
        onto (inside_grows i n f g d e m w a t)
        (subst (λ (c : Does F.Place). Keeps F c (F.line (seen i n g e) q)) l (law.steady i n f g d e m w q (inside_ready f (seen i n f d) a t)) s) s

-- ---- the system

more_update : {A : Type 0} (f : ℕ → Option A) (j : ℕ) (v : A) → f j ≡ none → More f (update f j (some v))
more_update {A} f j v e i w h =
    update_ind (λ (y : Option A). y ≡ some w) f j (some v) i
    (λ q. absurd (none-ne-some w (sym e ∙ (ap f (sym q) ∙ h))))
    (λ ne. h)

third_false : (a b c : Bool) → (a && (b && not c)) ≡ true → c ≡ false
third_false a b c e = not-true c (and_true b (not c) (and_true a (b && not c) e).1).1

first_false : (a b : Bool) → (not a && b) ≡ true → a ≡ false
first_false a b e = not-true a (and_true (not a) b e).0

unknown : {A : Type 0} (a : Option A) → known a ≡ false → a ≡ none
unknown none e = refl
unknown (some v) e = absurd (true≢false e)

-- a process changed and put back
back_update : {P : Type 0} (p : ℕ → P) (x : ℕ → Process P) (i : ℕ) (r : P) (q : Process P) (j : ℕ)
    → update (λ k. moved (p k) (x k)) i (moved r q) j ≡ moved (update p i r j) (update x i q j)
unfolding update
back_update {P} p x i r q j = go (eqb j i)
  where
    go : (t : Bool) → ◌≡◌ {A = Process P} (cond t (moved r q) (moved (p j) (x j))) (moved (cond t r (p j)) (cond t q (x j)))
    go true = refl
    go false = refl

-- a process moved on and put back is where it was
back_moved : {P : Type 0} (p : ℕ → P) (x : ℕ → Process P) (i : ℕ) (r : P) (j : ℕ) → moved (p j) (update x i (moved r (x i)) j) ≡ moved (p j) (x j)
back_moved {P} p x i r j =
    update_ind (λ (q : Process P). moved (p j) q ≡ moved (p j) (x j)) x i (moved r (x i)) j (λ e. ap (λ (k : ℕ). moved (p j) (x k)) (sym e)) (λ ne. refl)

module _ (F : Figure) (n : ℕ) where
  -- every process is inside the event that begins at its place in p
  abbrev pub AllInside : (ℕ → F.Place) → System F.Place → Type 0
  AllInside p x = (i : ℕ) → Inside F (view n x i) (p i) (x.process i).place

  -- what is not delivered is not there
  abbrev pub Undelivered : System F.Place → Type 0
  Undelivered x = (i j : ℕ) → (x.process i).delivered j ≡ false → (x.process i).prop j ≡ none

  -- the state x, reached by lines, stands for the state y, reached by events
  pub record Stands (x y : System F.Place) : Type 0 where
    pub places : ℕ → F.Place
    pub all : AllInside places x
    pub back : y ≡ put_back places x

module _ (F : Figure) (Ready : (ℕ → Option ℕ) → F.Place → Type 0) (law : Lawful F Ready) (n : ℕ) (x : System F.Place) (p : ℕ → F.Place)
    (inside : AllInside F n p x) (ready : (i : ℕ) → Ready (x.process i).prop (p i)) where
  abbrev y : System F.Place
  y = put_back p x

  abbrev AlikeStates : System F.Place → System F.Place → Type 0
  AlikeStates z w = Stands F n z w

  -- what a process becomes by a line, and what it becomes by an event
  data Becomes (i : ℕ) : Option (Process F.Place) → Option (Process F.Place) → Type 0 where
    neither : Becomes i none none
    both : (q : Process F.Place) (r : F.Place) → Inside F (seen i n q.prop x.decision) r q.place → Becomes i (some q) (some (moved r q))

  same : AlikeStates x y
  same = record { places = p; all = inside; back = refl }

  changed : (i : ℕ) (a b : Option (Process F.Place)) → Becomes i a b → AlikeStates (stay x (with_process x i a)) (stay y (with_process y i b))
  changed i a b neither = same
  changed i a b (both q r t) = record {
    places = update p i r;
    all = λ j.
        pair_ind (λ (w : F.Place) (z : Process F.Place). Inside F (seen j n z.prop x.decision) w z.place) p x.process i r q j
        (λ e. subst (λ (k : ℕ). Inside F (seen k n q.prop x.decision) r q.place) (sym e) t)
        (inside j);
    back = λ k. record { process = fun_ext (back_update p x.process i r q) k; decision = x.decision };
  }

  -- an event of the process i is allowed in both states or in neither, under the same condition
  owned : (c : Bool) (i : ℕ) (a b : Option (Process F.Place)) → (c ≡ true → Becomes i a b)
      → AlikeStates (stay x (provided c (with_process x i a))) (stay y (provided c (with_process y i b)))
  owned true i a b t = changed i a b (t refl)
  owned false i a b t = same

  abbrev lines : Event → System F.Place
  lines e = stay x (happening n F.line x e)

  abbrev events : Event → System F.Place
  events e = stay y (happening n (event F) y e)

  claim_becomes : (i v : ℕ) (d e : Does F.Place) → SaysAlike F Ready law d e
      → Becomes i (broadcast_by v (x.process i) e) (broadcast_by v (y.process i) d)
  claim_becomes i v d e (inl t) =
      subst (λ (w : Does F.Place). Becomes i (broadcast_by v (x.process i) e) (broadcast_by v (y.process i) w)) (sym t.1)
      (subst (λ (w : Does F.Place). Becomes i (broadcast_by v (x.process i) w) (some (sending v t.0 (y.process i)))) (sym t.2)
      (both (sending v t.0 (x.process i)) t.0 outset))
  claim_becomes i v d e (inr t) =
      subst (λ (w : Option (Process F.Place)). Becomes i w (broadcast_by v (y.process i) d)) (sym (unsaid F v (x.process i) e t.1))
      (subst (λ (w : Option (Process F.Place)). Becomes i none w) (sym (unsaid F v (y.process i) d t.0)) neither)

  claim_stands : (i v : ℕ) → AlikeStates (lines (claim i v)) (events (claim i v))
  unfolding happens
  claim_stands i v = owned (live n F.line x i) i _ _ (λ c. claim_becomes i v _ _ (says_alike F Ready law (view n x i) (inside i)))

  deliver_becomes : (j i : ℕ) (s : Option ℕ) → (x.process i).prop j ≡ none → Becomes i (deliver_by j s (x.process i)) (deliver_by j s (y.process i))
  deliver_becomes j i none e = neither
  deliver_becomes j i (some v) e =
      both (storing j v (x.process i)) (p i)
      (inside_grows F Ready law i n (x.process i).prop (update (x.process i).prop j (some v)) x.decision x.decision
      (more_update (x.process i).prop j v e) (λ b a h. h) (ready i) (inside i))

  deliver_stands : Undelivered F n x → (j i : ℕ) → AlikeStates (lines (deliver j i)) (events (deliver j i))
  unfolding happens
  deliver_stands un j i =
      owned (ltb j n && (live n F.line x i && not ((x.process i).delivered j))) i _ _
      (λ c. deliver_becomes j i (x.process j).sent (un i j (third_false (ltb j n) (live n F.line x i) ((x.process i).delivered j) c)))

  lose_stands : (i : ℕ) → AlikeStates (lines (lose i)) (events (lose i))
  unfolding happens
  lose_stands i = owned (live n F.line x i) i _ _ (λ c. both (crashing (x.process i)) (p i) (inside i))

  decide_stands : (c : Bool) (b : ℕ) (a : Bool) → (c ≡ true → x.decision b ≡ none)
      → AlikeStates (stay x (provided c (some (record { process = x.process; decision = update x.decision b (some a) }))))
      (stay y (provided c (some (record { process = y.process; decision = update x.decision b (some a) }))))
  decide_stands false b a e = same
  decide_stands true b a e = record {
    places = p;
    all = λ i.
        inside_grows F Ready law i n (x.process i).prop (x.process i).prop x.decision (update x.decision b (some a)) (λ j v h. h)
        (more_update x.decision b a (e refl)) (ready i) (inside i);
    back = refl;
  }

  then_stands : (u : Bool) (l : Label) (f g : Label → Option (System F.Place)) → AlikeStates (stay x (f l)) (stay y (g l))
      → AlikeStates (stay x (then (provided u (some l)) f)) (stay y (then (provided u (some l)) g))
  then_stands true l f g t = t
  then_stands false l f g t = same

  answer_stands : (b a : ℕ) → AlikeStates (lines (answer b a)) (events (answer b a))
  unfolding happens
  answer_stands b a =
      then_stands (not (ltb 1 a)) (decide b (eqb a 1)) (happens n F.line x) (happens n (event F) y)
      (decide_stands (not (known (x.decision b)) && any_below n (λ i. is_bit (eqb a 1) ((x.process i).proposed b))) b (eqb a 1)
      (λ e. unknown (x.decision b) (first_false (known (x.decision b)) _ e)))

  -- ---- a STEP: one line. It is left out where it leads to no stop
  line_on : (i : ℕ) (r : F.Place) → F.line (view n x i) (x.process i).place ≡ goes r → F.stop r ≡ false
      → AlikeStates (record { process = update x.process i (moved r (x.process i)); decision = x.decision }) y
  line_on i r l s = record {
    places = p;
    all = λ j.
        update_ind (λ (z : Process F.Place). Inside F (seen j n z.prop x.decision) (p j) z.place) x.process i (moved r (x.process i)) j
        (λ e. subst (λ (k : ℕ). Inside F (seen k n (x.process i).prop x.decision) (p k) r) (sym e) (onto (inside i) l s))
        (λ ne. inside j);
    back = λ k. record { process = fun_ext (λ j. sym (back_moved p x.process i r j)) k; decision = x.decision };
  }

  line_done : (i : ℕ) (d : Does F.Place) → F.line (view n x i) (x.process i).place ≡ d → Ended F d → event F (view n x i) (p i) ≡ d
  line_done i d l e = event_ends F Ready law (view n x i) (ends_inside F (view n x i) (inside i) (last l e))

  -- a STEP is kept, or left out
  abbrev KeptOrNot : ℕ → Type 0
  KeptOrNot i = AlikeStates (lines (step i)) (events (step i)) ⊎ AlikeStates (lines (step i)) y

  -- the state after the process i does d by a line, and e by an event
  abbrev by_line : Bool → ℕ → Does F.Place → System F.Place
  by_line c i d = stay x (provided c (with_process x i (advance_by (x.process i) d)))

  abbrev by_event : Bool → ℕ → Does F.Place → System F.Place
  by_event c i e = stay y (provided c (with_process y i (advance_by (y.process i) e)))

  step_by : (c : Bool) (i : ℕ) (d : Does F.Place) → F.line (view n x i) (x.process i).place ≡ d
      → AlikeStates (by_line c i d) (by_event c i (event F (view n x i) (p i))) ⊎ AlikeStates (by_line c i d) y
  step_by false i d l = inr same
  step_by true i blocked l = inr same
  step_by true i (goes r) l =
      by_bool (F.stop r)
      (λ e.
      inl
      (subst (λ (z : Does F.Place). AlikeStates (by_line true i (goes r)) (by_event true i z)) (sym (line_done i (goes r) l e))
      (changed i _ _ (both (moved r (x.process i)) r outset))))
      (λ e. inr (line_on i r l e))
  step_by true i (broadcasts r) l = inr same
  step_by true i (proposes b a r) l =
      inl
      (subst (λ (z : Does F.Place). AlikeStates (by_line true i (proposes b a r)) (by_event true i z)) (sym (line_done i (proposes b a r) l tt))
      (changed i _ _ (both (proposing b a r (x.process i)) r outset)))

  pub step_stands : (i : ℕ) → KeptOrNot i
  unfolding happens
  step_stands i = step_by (live n F.line x i) i _ refl

  -- every other event is kept
  abbrev pub Gathered : Event → Type 0
  Gathered e = AlikeStates (lines e) (events e) ⊎ ((s : ℕ) × (e ≡ step s) × AlikeStates (lines e) y)

  pub gather : Undelivered F n x → (e : Event) → Gathered e
  gather un (claim i v) = inl (claim_stands i v)
  gather un (deliver j i) = inl (deliver_stands un j i)
  gather un (step i) = go (step_stands i)
    where
      go : KeptOrNot i → Gathered (step i)
      go (inl t) = inl t
      go (inr t) = inr (i, refl, t)
  gather un (lose i) = inl (lose_stands i)
  gather un (answer b a) = inl (answer_stands b a)

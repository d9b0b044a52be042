-- The bound on supplied steps over whole lists: each step spends what its stage allows (Bound), and the last round is below R or K.
-- Assumes nothing.
use Prim.Native.Nat.{ℕ, suc, ◌+◌, ◌*◌, ◌<◌, ◌≤◌}
use mathlib.Core.Path.{◌≡◌, refl, sym, subst}
use mathlib.Core.Logic.{inl, inr, ⊎_elim}
use mathlib.Core.Bool.{true, false}
use native.Mathlib.Omega.{arith}
use native.Mathlib.Nat.{le_refl, le_trans, mul-le-mul_right}
use Rattle.consensus.specs.Events.{Event, History, start, ◌▷◌, Rule, rule_1, rule_2, Opening, rounds}
use Rattle.consensus.specs.State.{Stage, idle, waiting, voting, awaiting, seeking, finish_voting, finish_awaiting, decided, Station, State, not_idle, claimed, held, bit_of}
use Rattle.consensus.specs.Rules.{finish_ballot, finished, step_from, stage_number, next, after}
use Rattle.consensus.specs.Terms.{takes, Supplied, SuppliedSteps, longest}
use Rattle.consensus.specs.Demand3.{most_steps}
use Rattle.basics.proofs.Bools.{by_bool, no_clash}
use Rattle.consensus.proofs.Invariant.{PartOk}
use Rattle.consensus.proofs.Grows.{Grows, fits_grows}
use Rattle.consensus.proofs.Steps.{opening, idle_refused, decided_refused}
use Rattle.consensus.proofs.Reached.{next_kept, reached, step_accepted}
use Rattle.consensus.proofs.Station.{taken, taken_station, untaken}
use Rattle.consensus.proofs.Accepted.{holds_shown}
use Rattle.consensus.proofs.Told.{by_claim}
use Rattle.consensus.proofs.Longest.{round_short}
use Rattle.consensus.proofs.Bound.{begun, Spent, SpentBy, AllHeld, Advance, advance_le, first_spent, finished_spent, sought_spent}

abbrev Part : Opening → State → ℕ → Stage → Type 0
Part o st p g = PartOk o st p g (st.station p).holds (st.station p).cast

-- an accepted STEP spends what its stage allows
spent_step : (o : Opening) (st : State) (p : ℕ) → p < o.count → (g : Stage) → Part o st p g → stage_number o st p g ≡ 0 → (m m' : ℕ)
    → Advance st p m m'
    → Spent o st p m g → Spent o st p m' (step_from o st p g (st.station p)).stage
unfolding step_from
spent_step o st p l idle x n m m' a z = absurd (idle_refused o st p n)
spent_step o st p l waiting x n m m' a z = let b = advance_le st p m m' a in first_spent o.count o.rule st p p (st.station p).own_claim m' (omega arith)
spent_step o st p l (voting j k d) x n m m' a z = let b = advance_le st p m m' a in omega arith
spent_step o st p l (awaiting j k d) x n m m' a z = let b = advance_le st p m m' a in inl (omega arith)
spent_step o st p l (seeking j k d) x n m m' a z = sought_spent o st p l (λ t e. (x.holdings t e).1) j k d m m' x.stage a z
spent_step o st p l (finish_voting j k d) x n m m' a z = let b = advance_le st p m m' a in omega arith
spent_step o st p l (finish_awaiting j k d) x n m m' a z =
    let r = x.stage.0 in
    let v = bit_of (st.answer_of (finish_ballot k)) in
    let b = advance_le st p m m' a in
    let y : m ≤ begun rule_2 o.count k + 3 + o.count = subst (λ (q : Rule). m ≤ begun q o.count k + 3 + o.count) r z in
    subst (λ (q : Opening). Spent q st p m' (finished v j k d)) (by_claim o r) (finished_spent o.count v st p j k d m' (omega arith))
spent_step o st p l (decided v k) x n m m' a z = absurd (decided_refused o st p v k n)

-- what was spent stays spent when others move
spent_grows : (o : Opening) (st st' : State) (p m : ℕ) (g : Stage) → Grows st st' → ((t : ℕ) → held st p t ≡ true → claimed st t ≡ true)
    → Spent o st p m g → Spent o st' p m g
spent_grows o st st' p m idle w c z = z
spent_grows o st st' p m waiting w c z = z
spent_grows o st st' p m (voting j k d) w c z = z
spent_grows o st st' p m (awaiting j k d) w c z = z
spent_grows o st st' p m (seeking j k d) w c (inl z) = inl z
spent_grows o st st' p m (seeking j k d) w c (inr z) = inr (record {
  target = z.target;
  mine = w.helds p z.target z.mine;
  fits = fits_grows o st st' w (suc k) z.target (c z.target z.mine) z.fits;
  below = z.below;
  apart = z.apart;
  left = z.left;
})
spent_grows o st st' p m (finish_voting j k d) w c z = z
spent_grows o st st' p m (finish_awaiting j k d) w c z = z
spent_grows o st st' p m (decided v k) w c z = decided_case o.rule z
  where
    decided_case : (r : Rule) → SpentBy o r st p m (decided v k) → SpentBy o r st' p m (decided v k)
    decided_case rule_1 z = z
    decided_case rule_2 z = z

module _ (o : Opening) (p : ℕ) where
  abbrev stage_after : History → Stage
  stage_after h = ((after o h).station p).stage

  -- a supplied station holds all that any station holds
  all_held : (h : History) → Supplied o p h → AllHeld (after o h) p
  all_held h x s t e = (holds_shown o p t h).0 (x.all s t ((holds_shown o s t h).1 e))

  spent_next : (h : History) (e : Event) (m m' : ℕ) → (takes o p h e ≡ true → Advance (after o h) p m m') → (takes o p h e ≡ false → m' ≡ m)
      → Spent o (after o h) p m (stage_after h) → Spent o (next o (after o h) e) p m' ((next o (after o h) e).station p).stage
  spent_next h e m m' yes_case no_case z =
      spent_grows o (after o h) (next o (after o h) e) p m' ((next o (after o h) e).station p).stage (next_kept o (after o h) (reached o h) e).grows (λ t h'. (((reached o h).parts p).holdings t h').2)
      (by_bool (takes o p h e) stepped (λ t. subst (λ (x : ℕ). Spent o (after o h) p x ((next o (after o h) e).station p).stage) (sym (no_case t)) (stayed t)))
    where
      stepped : takes o p h e ≡ true → Spent o (after o h) p m' ((next o (after o h) e).station p).stage
      stepped t =
          let k = taken o (after o h) p e t in
          let a = step_accepted o (after o h) p k.accepted in
          subst (λ (x : Station). Spent o (after o h) p m' x.stage) (sym (taken_station o (after o h) p e k))
          (spent_step o (after o h) p a.station (stage_after h) ((reached o h).parts p) a.stage m m' (yes_case t) z)

      stayed : takes o p h e ≡ false → Spent o (after o h) p m ((next o (after o h) e).station p).stage
      stayed t =
          ⊎_elim (λ s. subst (Spent o (after o h) p m) (sym s) z)
          (λ s. subst (Spent o (after o h) p m) (sym s.1) (subst (Spent o (after o h) p m) s.0 z))
          (untaken o (after o h) p e t)

  pub spent : (h : History) (m : ℕ) → SuppliedSteps o p m h → Spent o (after o h) p m (stage_after h)
  unfolding after
  spent start m e = let f = e in omega arith
  spent (h ▷ e) m (inl x) =
      spent_next h e x.1.0 m (λ t. inr (let f = x.1.1 in omega arith, all_held h x.0.1)) (λ t. no_clash _ x.0.0 t) (spent h x.1.0 x.1.2)
  spent (h ▷ e) m (inr x) = spent_next h e m m (λ t. inl (le_refl m)) (λ t. refl) (spent h m x.1)

-- ---- the bound itself

pub no_such_rule : rule_1 ≡ rule_2 → ⊥
no_such_rule e = subst kind e tt
  where
    kind : Rule → Type 0
    kind rule_1 = Unit {0}
    kind rule_2 = ⊥

-- below the last round, what was spent is below the bound
round_cost : (c k r m : ℕ) → suc k ≤ r → m ≤ 1 + suc k * c → m ≤ 1 + r * c
round_cost c k r m l z = le_trans z (let x = mul-le-mul_right c l in omega arith)

module _ (n : ℕ) (h : History) (p m : ℕ) where
  abbrev BoundOf : Rule → Stage → Type 0
  BoundOf r g = Part (opening n r) (after (opening n r) h) p g → (not_idle g ≡ true → claimed (after (opening n r) h) p ≡ true) → Spent (opening n r) (after (opening n r) h) p m g
      → m ≤ most_steps r n (rounds (opening n r)) (longest (opening n r) h)

  by_station : (g : Stage) → BoundOf rule_1 g
  by_station idle x c z = omega arith
  by_station waiting x c z = omega arith
  by_station (voting j k d) x c z = round_cost (n + 2) k _ m x.stage.round (omega arith)
  by_station (awaiting j k d) x c z = round_cost (n + 2) k _ m x.stage.0.round (omega arith)
  by_station (seeking j k d) x c (inl z) = round_cost (n + 2) k _ m x.stage.round (omega arith)
  by_station (seeking j k d) x c (inr z) = round_cost (n + 2) k _ m x.stage.round (let l = z.left in omega arith)
  by_station (finish_voting j k d) x c z = absurd (no_such_rule x.stage.0)
  by_station (finish_awaiting j k d) x c z = absurd (no_such_rule x.stage.0)
  by_station (decided v k) x c z = z

  by_claims : (g : Stage) → BoundOf rule_2 g
  by_claims idle x c z = omega arith
  by_claims waiting x c z = omega arith
  by_claims (voting j k d) x c z = round_cost (n + 4) k _ m (round_short (opening n rule_2) refl h k p (c refl) x.stage.round) (omega arith)
  by_claims (awaiting j k d) x c z = round_cost (n + 4) k _ m (round_short (opening n rule_2) refl h k p (c refl) x.stage.0.round) (omega arith)
  by_claims (seeking j k d) x c (inl z) = round_cost (n + 4) k _ m (round_short (opening n rule_2) refl h k p (c refl) x.stage.round) (omega arith)
  by_claims (seeking j k d) x c (inr z) =
      round_cost (n + 4) k _ m (round_short (opening n rule_2) refl h k p (c refl) x.stage.round) (let l = z.left in omega arith)
  by_claims (finish_voting j k d) x c z = round_cost (n + 4) k _ m (round_short (opening n rule_2) refl h k p (c refl) x.stage.1.round) (omega arith)
  by_claims (finish_awaiting j k d) x c z = round_cost (n + 4) k _ m (round_short (opening n rule_2) refl h k p (c refl) x.stage.1.round) (omega arith)
  by_claims (decided v k) x c z = round_cost (n + 4) k _ m (round_short (opening n rule_2) refl h k p (c refl) x.stage.4) z

  by_rule : (r : Rule) (g : Stage) → BoundOf r g
  by_rule rule_1 g = by_station g
  by_rule rule_2 g = by_claims g

pub bound : (o : Opening) (h : History) (p m : ℕ) → SuppliedSteps o p m h → m ≤ most_steps o.rule o.count (rounds o) (longest o h)
bound o h p m s = by_rule o.count h p m o.rule ((after o h).station p).stage ((reached o h).parts p) (λ a. a) (spent o p h m s)

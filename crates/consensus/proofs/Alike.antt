-- What a STEP does, said in the figures' terms: it waits, goes on, or proposes a bit. So a figure's event and a STEP can be
-- compared stage by stage, and what follows from the comparison is said once for both figures. Assumes nothing.
use Prim.Native.Nat.{ℕ, suc, ◌+◌, ◌%◌}
use mathlib.Core.Path.{◌≡◌, refl, ap}
use mathlib.Core.Logic.{◌⊎◌, inl, inr}
use mathlib.Core.Bool.{Bool, true, false, cond, not}
use mathlib.Core.Option.{Option, none, some}
use native.Mathlib.Omega.{arith}
use lib.Dec.{eqb}
use Rattle.bits.specs.Digits.{bit}
use Rattle.bits.specs.Words.{with_bit}
use Rattle.consensus.specs.Events.{Opening, ballots}
use Rattle.consensus.specs.State.{Stage, idle, waiting, voting, awaiting, seeking, finish_voting, finish_awaiting, decided, Station, State, not_idle, claim_of, held, answered, bit_of, with_stage}
use Rattle.consensus.specs.Rules.{bit_ballot, finish_ballot, spelled, last_refusal, stage_number, first_stage, sought, finished, casting, step_from}
use Rattle.basics.specs.Tests.{refuse}
use Rattle.consensus.specs.Figure.{View, Does, blocked, goes, broadcasts, proposes, await}

-- the same done at a stage and at the place that stands for it
pub data Alike {P : Type 0} (f : Stage → Option P) : Does Stage → Does P → Type 0 where
  both_blocked : Alike f blocked blocked
  both_go : {g : Stage} {p : P} → f g ≡ some p → Alike f (goes g) (goes p)
  both_broadcast : {g : Stage} {p : P} → f g ≡ some p → Alike f (broadcasts g) (broadcasts p)
  both_propose : {b : ℕ} {a : Bool} {g : Stage} {p : P} → f g ≡ some p → Alike f (proposes b a g) (proposes b a p)

-- an accepted event and an allowed step with its outcome as wanted, or neither
pub data Verdict {A : Type 0} (m : ℕ) (out : Option A) (T : A → Type 0) : Type 0 where
  both : m ≡ 0 → (y : A) → out ≡ some y → T y → Verdict m out T
  neither : (m ≡ 0 → ⊥) → out ≡ none → Verdict m out T

module _ (o : Opening) (st : State) (s : ℕ) where
  -- what the station s sees, as a process
  abbrev pub play_view : View
  play_view = record {
    self = s;
    count = o.count;
    prop = λ t. cond (held st s t) (some (claim_of st t)) none;
    decided = st.answer_of;
  }

  unfoldable pub does_at : Stage → Does Stage
  does_at idle = broadcasts waiting
  does_at waiting = cond (held st s s) (goes (first_stage o.rule o.count s (claim_of st s))) blocked
  does_at (voting j k d) = proposes (bit_ballot o k) (bit k (spelled o st j)) (awaiting j k d)
  does_at (awaiting j k d) = await (st.answer_of (bit_ballot o k)) (λ a. goes (seeking j k (with_bit k a d)))
  does_at (seeking j k d) = goes (sought o st s ((j + 1) % o.count) k d)
  does_at (finish_voting j k d) = proposes (finish_ballot k) (eqb d (claim_of st j)) (finish_awaiting j k d)
  does_at (finish_awaiting j k d) = await (st.answer_of (finish_ballot k)) (λ a. goes (finished a j k d))
  does_at (decided v k) = blocked

  -- taking answer 0 from the last ballot is never met
  abbrev pub NotLast : Stage → Type 0
  NotLast idle = Unit {0}
  NotLast waiting = Unit {0}
  NotLast (voting j k d) = Unit {0}
  NotLast (awaiting j k d) = Unit {0}
  NotLast (seeking j k d) = Unit {0}
  NotLast (finish_voting j k d) = Unit {0}
  NotLast (finish_awaiting j k d) = st.answer_of (finish_ballot k) ≡ some false → eqb (suc (finish_ballot k)) (ballots o) ≡ false
  NotLast (decided v k) = Unit {0}

  -- what a STEP that does this is numbered, and what it makes of the station's part p
  abbrev pub Side : Station → Does Stage → ℕ → Station → Type 0
  Side p blocked m q = m ≡ 0 → ⊥
  Side p (goes g) m q = (m ≡ 0) × (q ≡ with_stage g p)
  Side p (broadcasts g) m q = m ≡ 0 → ⊥
  Side p (proposes b a g) m q = (m ≡ 0) × (q ≡ casting b a g p)

  waiting_side : (h : Bool) (g : Stage) (p : Station) → Side p (cond h (goes g) blocked) (refuse (not h) 8 0) (with_stage g p)
  waiting_side true g p = (refl, refl)
  waiting_side false g p = λ e. omega arith

  awaiting_side : (a : Option Bool) (g : Bool → Stage) (p : Station)
      → Side p (await a (λ b. goes (g b))) (refuse (not (answered a)) 8 0) (with_stage (g (bit_of a)) p)
  awaiting_side none g p = λ e. omega arith
  awaiting_side (some b) g p = (refl, refl)

  finish_side : (a : Option Bool) (b : ℕ) (g : Bool → Stage) (p : Station) → (a ≡ some false → eqb (suc b) (ballots o) ≡ false)
      → Side p (await a (λ r. goes (g r))) (refuse (not (answered a)) 8 (last_refusal o a b)) (with_stage (g (bit_of a)) p)
  finish_side none b g p l = λ e. omega arith
  finish_side (some true) b g p l = (refl, refl)
  finish_side (some false) b g p l = (ap (λ (t : Bool). refuse t 42 0) (l refl), refl)

  pub side : (g : Stage) → NotLast g → Side (st.station s) (does_at g) (stage_number o st s g) (step_from o st s g (st.station s))
  unfolding does_at stage_number step_from
  side idle l = λ e. omega arith
  side waiting l = waiting_side (held st s s) _ (st.station s)
  side (voting j k d) l = (refl, refl)
  side (awaiting j k d) l = awaiting_side (st.answer_of (bit_ballot o k)) (λ a. seeking j k (with_bit k a d)) (st.station s)
  side (seeking j k d) l = (refl, refl)
  side (finish_voting j k d) l = (refl, refl)
  side (finish_awaiting j k d) l = finish_side (st.answer_of (finish_ballot k)) (finish_ballot k) (λ a. finished a j k d) (st.station s) l
  side (decided v k) l = λ e. omega arith

  -- past idle nothing is broadcast
  abbrev pub Quiet : Does Stage → Type 0
  Quiet blocked = Unit {0}
  Quiet (goes g) = Unit {0}
  Quiet (broadcasts g) = ⊥
  Quiet (proposes b a g) = Unit {0}

  quiet_if : (h : Bool) (g : Stage) → Quiet (cond h (goes g) blocked)
  quiet_if true g = tt
  quiet_if false g = tt

  quiet_await : (a : Option Bool) (g : Bool → Stage) → Quiet (await a (λ b. goes (g b)))
  quiet_await none g = tt
  quiet_await (some b) g = tt

  pub claim_side : (g : Stage) → ((g ≡ idle) × (not_idle g ≡ false)) ⊎ ((not_idle g ≡ true) × Quiet (does_at g))
  unfolding does_at
  claim_side idle = inl (refl, refl)
  claim_side waiting = inr (refl, quiet_if (held st s s) _)
  claim_side (voting j k d) = inr (refl, tt)
  claim_side (awaiting j k d) = inr (refl, quiet_await (st.answer_of (bit_ballot o k)) (λ a. seeking j k (with_bit k a d)))
  claim_side (seeking j k d) = inr (refl, tt)
  claim_side (finish_voting j k d) = inr (refl, tt)
  claim_side (finish_awaiting j k d) = inr (refl, quiet_await (st.answer_of (finish_ballot k)) (λ a. finished a j k d))
  claim_side (decided v k) = inr (refl, tt)

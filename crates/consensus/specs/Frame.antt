-- "What a step does not name stays" (document 01), for every event, on every state: each part of a station, and each answer, is as it was unless an event
-- of the one kind that may change it was for that station, or for that ballot. Assumes nothing.
use Rattle.std.specs.Prelude.{ℕ, ◌≡◌, ◌⊎◌}
use Rattle.std.proofs.Math.Option.{some}
use Rattle.consensus.specs.Events.{Event, claim, deliver, step, lose, answer, Opening}
use Rattle.consensus.specs.State.{State, claim_of, held}
use Rattle.consensus.specs.Rules.{next}
use Rattle.consensus.specs.Terms.{ballot_at}

pub record Stays (o : Opening) (st : State) (e : Event) : Type 0 where
  pub stage : (s : ℕ) → (((next o st e).station s).stage ≡ (st.station s).stage) ⊎ (((v : ℕ) × (e ≡ claim s v)) ⊎ (e ≡ step s))
  pub claimed_value : (s : ℕ) → (claim_of (next o st e) s ≡ claim_of st s) ⊎ ((v : ℕ) × (e ≡ claim s v))
  pub holds : (s t : ℕ) → (held (next o st e) s t ≡ held st s t) ⊎ (e ≡ deliver t s)
  -- "a lost station never comes back and keeps its stage and decision"
  pub lost : (s : ℕ) → (((next o st e).station s).lost ≡ (st.station s).lost) ⊎ (e ≡ lose s)
  -- a STEP casts in the ballot that its stage votes in
  pub cast : (s b : ℕ)
      → (((next o st e).station s).cast b ≡ (st.station s).cast b) ⊎ ((e ≡ step s) × (ballot_at o (st.station s).stage ≡ some b))
  pub answers : (b : ℕ) → ((next o st e).answer_of b ≡ st.answer_of b) ⊎ ((a : ℕ) × (e ≡ answer b a))

pub record PlayFrame : Type 0 where
  pub stays : (o : Opening) (st : State) (e : Event) → Stays o st e

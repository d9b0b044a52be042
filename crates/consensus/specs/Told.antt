-- The words of demands 2 and 3 are what the play's state shows, both ways: so none of them can be empty or too wide without notice. Assumes nothing.
use Rattle.std.specs.Prelude.{ℕ, ◌≤◌, ◌<◌, ◌≡◌, ◌↔◌, ◌⊎◌, Bool, true, false, List, [], ◌∷◌}
use Rattle.std.proofs.Math.Option.{Option, none, some}
use Rattle.bits.specs.Digits.{bit_length}
use Rattle.consensus.specs.Events.{Event, claim, answer, History, start, ◌▷◌, Opening}
use Rattle.consensus.specs.State.{Stage, idle, waiting, voting, awaiting, seeking, finish_voting, finish_awaiting, decided, State, claimed, claim_of, held, answered}
use Rattle.consensus.specs.Rules.{bit_ballot, finish_ballot, was_cast, as_bit, after}
use Rattle.consensus.specs.Terms.{Beginning, ClaimsFit, decision, PutIn, Holds, Lost, Answered, Repeat, takes, first_answer, voted_in, waits_on, answers_taken, Decided, longest, Supplied, SuppliedSteps}

-- the ballot that a station at this stage waits on
abbrev pub awaited : Opening → Stage → Option ℕ
awaited o idle = none
awaited o waiting = none
awaited o (voting j k d) = none
awaited o (awaiting j k d) = some (bit_ballot o k)
awaited o (seeking j k d) = none
awaited o (finish_voting j k d) = none
awaited o (finish_awaiting j k d) = some (finish_ballot k)
awaited o (decided v k) = none

-- supplied, on the state: p holds its own claim and every claim that any station holds, and the ballot that its stage awaits is answered
abbrev pub SuppliedIn : Opening → State → ℕ → Type 0
SuppliedIn o st p =
    (held st p p ≡ true)
    × ((s t : ℕ) → held st s t ≡ true → held st p t ≡ true)
    × ((b : ℕ) → awaited o (st.station p).stage ≡ some b → answered (st.answer_of b) ≡ true)

-- the list g, and then the list h
abbrev pub followed_by : History → History → History
followed_by g start = g
followed_by g (h ▷ e) = followed_by g h ▷ e

-- x stands in the list
abbrev pub Listed : {A : Type 0} → A → List A → Type 0
Listed x [] = ⊥
Listed x (y ∷ l) = (y ≡ x) ⊎ Listed x l

module _ (o : Opening) (h : History) where
  pub record WordsTold : Type 0 where
    pub put_in : (s v : ℕ) → PutIn o s v h ↔ ((claimed (after o h) s ≡ true) × (claim_of (after o h) s ≡ v))
    pub holds : (s t : ℕ) → Holds o s t h ↔ (held (after o h) s t ≡ true)
    pub lost : (s : ℕ) → Lost o s h ↔ (((after o h).station s).lost ≡ true)
    pub is_answered : (b : ℕ) → Answered o b h ↔ (answered ((after o h).answer_of b) ≡ true)
    pub first : (b : ℕ) → first_answer o h b ≡ (after o h).answer_of b
    -- a repeat is an ANSWER of the bit that stands
    pub repeats : (b a : ℕ) → Repeat o (answer b a) h ↔ ((a ≤ 1) × ((after o h).answer_of b ≡ some (as_bit a)))
    -- which some station cast, though a repeat does not ask
    pub sent : (b a : ℕ) → Repeat o (answer b a) h → was_cast o (after o h) b (as_bit a) ≡ true
    pub waits : (p : ℕ) → waits_on o p h ≡ awaited o ((after o h).station p).stage
    -- p voted in the ballots where its bit stands (`answered`: some bit stands there), and took the answer of each but the one it waits on
    pub voted : (p b : ℕ) → Listed b (voted_in o p h) ↔ (answered (((after o h).station p).cast b) ≡ true)
    pub took : (p b : ℕ) (a : Bool)
        → Listed (b, a) (answers_taken o p h) ↔ (Listed b (voted_in o p h) × (waits_on o p h ≡ some b → ⊥) × (first_answer o h b ≡ some a))
    pub has_decided : (p v : ℕ) → Decided o p v h ↔ (decision ((after o h).station p).stage ≡ some v)
    -- K: no claim put in is longer, and one is as long, unless nothing was put in
    pub none_longer : (s v : ℕ) → PutIn o s v h → bit_length v ≤ longest o h
    pub as_long : (longest o h ≡ 0) ⊎ ((s : ℕ) × (v : ℕ) × PutIn o s v h × (bit_length v ≡ longest o h))
    pub is_supplied : (p : ℕ) → Supplied o p h ↔ SuppliedIn o (after o h) p
    -- what is no step of p, a repeat among it, changes no count of p's steps
    pub counts_steps : (p m : ℕ) (e : Event) → takes o p h e ≡ false → SuppliedSteps o p m (h ▷ e) ↔ SuppliedSteps o p m h

-- every opening, every list
pub record Told : Type 0 where
  pub words : (o : Opening) (h : History) → WordsTold o h
  -- a beginning of a list is what more events make that list of; "a claim is a whole number from 0 to 2^32 − 1", each claim of the list
  pub beginnings : (g h : History) → Beginning g h ↔ ((l : History) × (h ≡ followed_by g l))
  pub claims : (h : History) → ClaimsFit h ↔ ((g : History) (s v : ℕ) → Beginning (g ▷ claim s v) h → v < 4294967296)

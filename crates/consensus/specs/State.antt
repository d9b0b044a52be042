-- What the play keeps: for each station its own part, and for each ballot its answer (document 01, "The settlement").
-- Both are functions of the station's and the ballot's number. Assumes nothing.
use Rattle.std.specs.Prelude.{ℕ, Bool, true, false, cond, eqb}
use Rattle.std.proofs.Math.Option.{Option, none, some}

-- The stages of document 01. Between waiting and decided a station has a cursor j, a round k and a word d, in this order;
-- `finish-` are the two stages of the finish ballot. A decided station has its claim and the round it ended in.
pub data Stage : Type 0 where
  idle waiting : Stage
  voting awaiting seeking finish_voting finish_awaiting : ℕ → ℕ → ℕ → Stage
  decided : ℕ → ℕ → Stage

-- A station's own part: its stage, the claim it put in (0 before), whose claims it holds, whether it is lost,
-- and which bit it cast in which ballot.
pub record Station : Type 0 where
  pub stage : Stage
  pub own_claim : ℕ
  pub holds : ℕ → Bool
  pub lost : Bool
  pub cast : ℕ → Option Bool

pub record State : Type 0 where
  pub station : ℕ → Station
  pub answer_of : ℕ → Option Bool

-- the settlement of an accepted OPEN: every station idle and live, nothing held, cast or answered
abbrev pub untouched : Station
untouched = record { stage = idle; own_claim = 0; holds = λ t. false; lost = false; cast = λ b. none }

abbrev pub fresh : State
fresh = record { station = λ s. untouched; answer_of = λ b. none }

-- ---- looking things up

-- a station has put in a claim once it is not idle
abbrev pub not_idle : Stage → Bool
not_idle idle = false
not_idle waiting = true
not_idle (voting j k d) = true
not_idle (awaiting j k d) = true
not_idle (seeking j k d) = true
not_idle (finish_voting j k d) = true
not_idle (finish_awaiting j k d) = true
not_idle (decided v k) = true

abbrev pub claimed : State → ℕ → Bool
claimed st s = not_idle (st.station s).stage

abbrev pub claim_of : State → ℕ → ℕ
claim_of st s = (st.station s).own_claim

-- s holds the claim of t
abbrev pub held : State → ℕ → ℕ → Bool
held st s t = (st.station s).holds t

abbrev pub answered : Option Bool → Bool
answered none = false
answered (some a) = true

-- the bit of an answer; it is asked only of a ballot that is answered
abbrev pub bit_of : Option Bool → Bool
bit_of none = false
bit_of (some a) = a

-- ---- putting things in place

-- f with the value a at i
unfoldable pub update : {A : Type 0} → (ℕ → A) → ℕ → A → ℕ → A
update f i a j = cond (eqb j i) a (f j)

-- the state with another part for the station s
abbrev pub set_station : State → ℕ → Station → State
set_station st s p = record { station = update st.station s p; answer_of = st.answer_of }

abbrev pub with_stage : Stage → Station → Station
with_stage g p = record { stage = g; own_claim = p.own_claim; holds = p.holds; lost = p.lost; cast = p.cast }

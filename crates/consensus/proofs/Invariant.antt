-- What holds of every state reached from an opening, for both rules at once: "spelled" is what the bits are read of,
-- and "bit-ballot" the ballot of a round's bit. The heart: a bit is cast only by a station that holds a claim which
-- fits all answers so far, so every answer is that of some claim, and the answers spell one claim. Assumes nothing.
use Prim.Native.Nat.{ℕ, suc, ◌<◌, ◌≤◌}
use mathlib.Core.Path.{◌≡◌}
use mathlib.Core.Logic.{◌⊎◌}
use mathlib.Core.Bool.{Bool, true, false}
use mathlib.Core.Option.{Option, none, some}
use lib.Dec.{eqb}
use Rattle.bits.specs.Digits.{bit}
use Rattle.consensus.specs.Events.{Rule, rule_1, rule_2, Opening, rounds}
use Rattle.consensus.specs.State.{Stage, idle, waiting, voting, awaiting, seeking, finish_voting, finish_awaiting, decided, State, claimed, claim_of, held}
use Rattle.consensus.specs.Rules.{bit_ballot, finish_ballot, spelled}

-- how many ballots a station at this stage has voted in
abbrev pub votes_by : Rule → Opening → Stage → ℕ
votes_by r o idle = 0
votes_by r o waiting = 0
votes_by r o (voting j k d) = bit_ballot o k
votes_by r o (awaiting j k d) = suc (bit_ballot o k)
votes_by r o (seeking j k d) = suc (bit_ballot o k)
votes_by r o (finish_voting j k d) = finish_ballot k
votes_by r o (finish_awaiting j k d) = suc (finish_ballot k)
votes_by rule_1 o (decided v k) = rounds o
votes_by rule_2 o (decided v k) = suc (finish_ballot k)

module _ (o : Opening) where
  abbrev pub votes : Stage → ℕ
  votes g = votes_by o.rule o g

  -- the bits of T below k are the answers of those rounds
  abbrev pub Fits : State → ℕ → ℕ → Type 0
  Fits st k t = (i : ℕ) → i < k → st.answer_of (bit_ballot o i) ≡ some (bit i (spelled o st t))

  -- the word d has the answers of the rounds below k, and nothing above
  pub record Word (st : State) (k d : ℕ) : Type 0 where
    pub answers : (i : ℕ) → i < k → st.answer_of (bit_ballot o i) ≡ some (bit i d)
    pub above : (i : ℕ) → k ≤ i → bit i d ≡ false

  -- some station holds a claim that fits the answers of the rounds below k
  pub record Candidate (st : State) (k t : ℕ) : Type 0 where
    pub holder : ℕ
    pub is_held : held st holder t ≡ true
    pub is_claimed : claimed st t ≡ true
    pub fits : Fits st k t

  -- no round before k was the last one
  abbrev pub Unfinished : State → ℕ → Type 0
  Unfinished st k = (i : ℕ) → i < k → st.answer_of (finish_ballot i) ≡ some false

  -- the round k is one that a station may be in
  abbrev pub RoundBy : Rule → State → ℕ → Type 0
  RoundBy rule_1 st k = k < rounds o
  RoundBy rule_2 st k = Unfinished st k

  abbrev pub Round : State → ℕ → Type 0
  Round st k = RoundBy o.rule st k

  -- why the bit a may be cast in the bit ballot of round k
  pub record BitCast (st : State) (k : ℕ) (a : Bool) : Type 0 where
    pub source : ℕ
    pub candidate : Candidate st k source
    pub is_bit : bit k (spelled o st source) ≡ a
    pub round : Round st k

  -- why the bit a may be cast in the finish ballot of round k: 1 says that a claim is spelled whole, 0 that one has a higher bit
  pub record FinishCast (st : State) (k : ℕ) (a : Bool) : Type 0 where
    pub source : ℕ
    pub candidate : Candidate st (suc k) source
    pub whole : a ≡ true → (i : ℕ) → suc k ≤ i → bit i (claim_of st source) ≡ false
    pub longer : a ≡ false → (i : ℕ) × (suc k ≤ i) × (bit i (claim_of st source) ≡ true)
    pub unfinished : Unfinished st k

  abbrev pub CastOk : State → ℕ → Bool → Type 0
  CastOk st b a = ((k : ℕ) × (b ≡ bit_ballot o k) × BitCast st k a) ⊎ ((o.rule ≡ rule_2) × ((k : ℕ) × (b ≡ finish_ballot k) × FinishCast st k a))

  -- before the bit ballot of round k: the word is the answers so far, and the cursor's claim is held and fits
  pub record Spelling (st : State) (holds : ℕ → Bool) (j k m d : ℕ) : Type 0 where
    pub round : Round st k
    pub word : Word st m d
    pub mine : holds j ≡ true
    pub fits : Fits st m j

  pub record Seeking (st : State) (j k d : ℕ) : Type 0 where
    pub round : Round st k
    pub word : Word st (suc k) d
    pub cursor : j < o.count
    pub source : ℕ
    pub candidate : Candidate st (suc k) source

  -- by station the word names the claimer; by claim the word is a claim and this round was the last
  abbrev pub DecidedBy : Rule → State → ℕ → ℕ → Type 0
  DecidedBy rule_1 st v k = (l : ℕ) × Word st (rounds o) l × (claimed st l ≡ true) × (claim_of st l ≡ v)
  DecidedBy rule_2 st v k =
      (t : ℕ) × Word st (suc k) v × (claimed st t ≡ true) × (claim_of st t ≡ v) × Unfinished st k × (st.answer_of (finish_ballot k) ≡ some true)

  -- what holds of a station at a stage, with the claims it holds and the bits it cast
  abbrev pub StageOk : State → Stage → (ℕ → Bool) → (ℕ → Option Bool) → Type 0
  StageOk st idle holds cast = Unit {0}
  StageOk st waiting holds cast = Unit {0}
  StageOk st (voting j k d) holds cast = Spelling st holds j k k d
  StageOk st (awaiting j k d) holds cast = Spelling st holds j k k d × (cast (bit_ballot o k) ≡ some (bit k (spelled o st j)))
  StageOk st (seeking j k d) holds cast = Seeking st j k d
  StageOk st (finish_voting j k d) holds cast = (o.rule ≡ rule_2) × Spelling st holds j k (suc k) d
  StageOk st (finish_awaiting j k d) holds cast =
      (o.rule ≡ rule_2) × Spelling st holds j k (suc k) d × (cast (finish_ballot k) ≡ some (eqb d (claim_of st j)))
  StageOk st (decided v k) holds cast = DecidedBy o.rule st v k

  -- a station's own part
  pub record PartOk (st : State) (s : ℕ) (g : Stage) (holds : ℕ → Bool) (cast : ℕ → Option Bool) : Type 0 where
    pub holdings : (t : ℕ) → holds t ≡ true → (s < o.count) × (t < o.count) × (claimed st t ≡ true)
    pub casts : (b : ℕ) (a : Bool) → cast b ≡ some a → (s < o.count) × CastOk st b a
    pub uncast : (b : ℕ) → votes g ≤ b → cast b ≡ none
    pub stage : StageOk st g holds cast

  pub record Inv (st : State) : Type 0 where
    pub parts : (s : ℕ) → PartOk st s (st.station s).stage (st.station s).holds (st.station s).cast
    -- an answer is one of the bits cast
    pub answers : (b : ℕ) (a : Bool) → st.answer_of b ≡ some a → (s : ℕ) × (s < o.count) × ((st.station s).cast b ≡ some a)

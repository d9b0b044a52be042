-- Whose event it is (document 02, A.5), and what holds of events of different owners: each stays accepted after the other, and both orders end in the same
-- state. Requests A.5, A.6 and A.7 rest on it. Assumes nothing.
use Rattle.std.specs.Prelude.{ℕ, ◌≤◌, ◌≡◌, Bool, true, false, List, [], ◌∷◌, ◌++◌, eqb}
use Rattle.std.proofs.Math.Option.{Option, none, some}
use Rattle.consensus.specs.Events.{Event, claim, deliver, step, lose, answer, History, ◌▷◌, Opening}
use Rattle.consensus.specs.State.{State}
use Rattle.consensus.specs.Rules.{number, next, after}
use Rattle.consensus.specs.Told.{Listed}

-- "CLAIM, STEP and LOSE belong to the station named, DELIVER to the receiver; ANSWER may be in both": it belongs to nobody
abbrev pub owner : Event → Option ℕ
owner (claim s v) = some s
owner (deliver t s) = some s
owner (step s) = some s
owner (lose s) = some s
owner (answer b a) = none

abbrev pub is_owner : ℕ → Option ℕ → Bool
is_owner s none = false
is_owner s (some t) = eqb t s

-- the event belongs to the station s
abbrev pub owns : ℕ → Event → Bool
owns s e = is_owner s (owner e)

-- ---- a list in the order played

abbrev pub played_from : Opening → State → List Event → State
played_from o st [] = st
played_from o st (e ∷ es) = played_from o (next o st e) es

-- "accepted whole": each event is accepted where it stands
abbrev pub AcceptedWhole : Opening → State → List Event → Type 0
AcceptedWhole o st [] = Unit {0}
AcceptedWhole o st (e ∷ es) = (number o st e ≡ 0) × AcceptedWhole o (next o st e) es

-- ---- the laws

-- no station owns both
abbrev pub OtherOwners : Event → Event → Type 0
OtherOwners e f = (s : ℕ) → owner e ≡ some s → owner f ≡ some s → ⊥

-- nor are they ANSWERs of different bits to one ballot
pub record Apart (e f : Event) : Type 0 where
  pub owners : OtherOwners e f
  pub bits : (b a c : ℕ) → e ≡ answer b a → f ≡ answer b c → a ≡ c

-- two events that are both accepted after the list h
module _ (o : Opening) (h : History) where
  pub record EitherOrder (e f : Event) : Type 0 where
    pub stays_accepted : number o (after o (h ▷ e)) f ≡ 0
    pub same_state : after o (h ▷ e ▷ f) ≡ after o (h ▷ f ▷ e)

  -- an event that is accepted now may come before others that are not its owner's, where they are accepted whole with it after them
  pub record ComesFirst (before : List Event) (e : Event) (behind : List Event) : Type 0 where
    pub accepted : AcceptedWhole o (after o h) (e ∷ (before ++ behind))
    pub same_state : played_from o (after o h) (e ∷ (before ++ behind)) ≡ played_from o (after o h) (before ++ (e ∷ behind))

pub record OwnerLaws : Type 0 where
  pub either_order : (o : Opening) (h : History) (e f : Event) → Apart e f → number o (after o h) e ≡ 0 → number o (after o h) f ≡ 0 → EitherOrder o h e f
  -- the one exception: "11 is for the other bit only"
  pub other_bit : (o : Opening) (h : History) (b a c : ℕ) → number o (after o h) (answer b a) ≡ 0 → c ≤ 1 → (a ≡ c → ⊥)
      → number o (after o (h ▷ answer b a)) (answer b c) ≡ 11
  pub comes_first : (o : Opening) (h : History) (before : List Event) (e : Event) (behind : List Event)
      → ((f : Event) → Listed f before → OtherOwners e f) → number o (after o h) e ≡ 0 → AcceptedWhole o (after o h) (before ++ (e ∷ behind))
      → ComesFirst o h before e behind

-- ---- the owner of each event once more, "a station number, existing or not"

pub record OwnerRows : Type 0 where
  pub of_claim : (s v : ℕ) → owner (claim s v) ≡ some s
  pub of_deliver : (t s : ℕ) → owner (deliver t s) ≡ some s
  pub of_step : (s : ℕ) → owner (step s) ≡ some s
  pub of_lose : (s : ℕ) → owner (lose s) ≡ some s
  pub of_answer : (b a : ℕ) → owner (answer b a) ≡ none
  pub owned : (owns 2 (deliver 1 2) ≡ true) × (owns 1 (deliver 1 2) ≡ false) × (owns 200 (step 200) ≡ true) × (owns 0 (answer 0 0) ≡ false)

-- The words of demands 2 and 3 (document 01, "Lists of events"), read off a list of events with the play alongside:
-- each is a recursion over the list, and asks the play only which events were accepted and where a station stood. Assumes nothing.
use Rattle.std.specs.Prelude.{ℕ, suc, ◌^◌, ◌<◌, max, ◌≡◌, ◌⊎◌, Bool, true, false, cond, ◌&&◌, List, [], ◌∷◌, ◌++◌, eqb}
use Rattle.std.proofs.Math.Option.{Option, none, some}
use Rattle.bits.specs.Digits.{bit_length}
use Rattle.bits.specs.Words.{claim_bits}
use Rattle.consensus.specs.Events.{Event, claim, deliver, step, lose, answer, History, start, ◌▷◌, Opening}
use Rattle.consensus.specs.State.{Stage, idle, waiting, voting, awaiting, seeking, finish_voting, finish_awaiting, decided}
use Rattle.consensus.specs.Rules.{bit_ballot, finish_ballot, as_bit, number, after}

-- g is a beginning of h
abbrev pub Beginning : History → History → Type 0
Beginning g start = g ≡ start
Beginning g (h ▷ e) = (g ≡ (h ▷ e)) ⊎ Beginning g h

-- every claim of the list is below 2 ^ 32, as document 01 has claims
abbrev pub Fitting : Event → Type 0
Fitting (claim s v) = v < 2 ^ claim_bits
Fitting (deliver t s) = Unit {0}
Fitting (step s) = Unit {0}
Fitting (lose s) = Unit {0}
Fitting (answer b a) = Unit {0}

abbrev pub ClaimsFit : History → Type 0
ClaimsFit start = Unit {0}
ClaimsFit (h ▷ e) = ClaimsFit h × Fitting e

-- ---- the ballot that a STEP at this stage votes in, and the claim of a decided stage

abbrev pub ballot_at : Opening → Stage → Option ℕ
ballot_at o idle = none
ballot_at o waiting = none
ballot_at o (voting j k d) = some (bit_ballot o k)
ballot_at o (awaiting j k d) = none
ballot_at o (seeking j k d) = none
ballot_at o (finish_voting j k d) = some (finish_ballot k)
ballot_at o (finish_awaiting j k d) = none
ballot_at o (decided v k) = none

abbrev pub decision : Stage → Option ℕ
decision idle = none
decision waiting = none
decision (voting j k d) = none
decision (awaiting j k d) = none
decision (seeking j k d) = none
decision (finish_voting j k d) = none
decision (finish_awaiting j k d) = none
decision (decided v k) = some v

-- ---- events looked at

abbrev pub is_step : ℕ → Event → Bool
is_step p (claim s v) = false
is_step p (deliver t s) = false
is_step p (step s) = eqb s p
is_step p (lose s) = false
is_step p (answer b a) = false

-- the answer that an accepted event gives to the ballot b
abbrev pub given : ℕ → Bool → Event → Option Bool
given b ok (claim s v) = none
given b ok (deliver t s) = none
given b ok (step s) = none
given b ok (lose s) = none
given b ok (answer c a) = cond (ok && eqb c b) (some (as_bit a)) none

-- the length of the claim that an accepted event puts in
abbrev pub put_length : Bool → Event → ℕ
put_length ok (claim s v) = cond ok (bit_length v) 0
put_length ok (deliver t s) = 0
put_length ok (step s) = 0
put_length ok (lose s) = 0
put_length ok (answer b a) = 0

abbrev pub or_else : Option Bool → Option Bool → Option Bool
or_else none y = y
or_else (some x) y = some x

abbrev pub listed : {A : Type 0} → Bool → Option A → List A
listed false x = []
listed true none = []
listed true (some x) = x ∷ []

-- a ballot with the answer it has
abbrev pub paired : ℕ → Option Bool → Option (ℕ × Bool)
paired b none = none
paired b (some a) = some (b, a)

abbrev pub with_answer : Option ℕ → (ℕ → Option Bool) → Option (ℕ × Bool)
with_answer none f = none
with_answer (some b) f = paired b (f b)

module _ (o : Opening) where
  -- the event e, played after the list h, is accepted
  abbrev pub accepts : History → Event → Bool
  accepts h e = eqb (number o (after o h) e) 0

  -- the event e was accepted somewhere in the list
  abbrev pub Happened : Event → History → Type 0
  Happened e start = ⊥
  Happened e (h ▷ f) = Happened e h ⊎ ((f ≡ e) × (number o (after o h) f ≡ 0))

  -- s put in the claim v; s holds the claim of t; s is lost; b is answered
  abbrev pub PutIn : ℕ → ℕ → History → Type 0
  PutIn s v h = Happened (claim s v) h

  abbrev pub Holds : ℕ → ℕ → History → Type 0
  Holds s t h = Happened (deliver t s) h

  abbrev pub Lost : ℕ → History → Type 0
  Lost s h = Happened (lose s) h

  abbrev pub Answered : ℕ → History → Type 0
  Answered b h = (a : ℕ) × Happened (answer b a) h

  -- e, tried after h, is a repeat (document 02, A.1, "announcements that come twice"): an ANSWER that was accepted before, with the same bit
  abbrev pub Repeat : Event → History → Type 0
  Repeat (claim s v) h = ⊥
  Repeat (deliver t s) h = ⊥
  Repeat (step s) h = ⊥
  Repeat (lose s) h = ⊥
  Repeat (answer b a) h = Happened (answer b a) h

  -- the bit that b was answered with: the first accepted ANSWER gives it
  unfoldable pub first_answer : History → ℕ → Option Bool
  first_answer start b = none
  first_answer (h ▷ e) b = or_else (first_answer h b) (given b (accepts h e) e)

  -- e is an accepted STEP of p
  abbrev pub takes : ℕ → History → Event → Bool
  takes p h e = is_step p e && accepts h e

  -- the ballots that p voted in, in the order of its votes: by the accepted STEPs that cast its bit there
  unfoldable pub voted_in : ℕ → History → List ℕ
  voted_in p start = []
  voted_in p (h ▷ e) = voted_in p h ++ listed (takes p h e) (ballot_at o ((after o h).station p).stage)

  -- the ballot that p waits on: the one that its last accepted STEP voted in
  unfoldable pub waits_on : ℕ → History → Option ℕ
  waits_on p start = none
  waits_on p (h ▷ e) = cond (takes p h e) (ballot_at o ((after o h).station p).stage) (waits_on p h)

  -- the answers that p took, ballot by ballot: by the accepted STEP after each vote
  unfoldable pub answers_taken : ℕ → History → List (ℕ × Bool)
  answers_taken p start = []
  answers_taken p (h ▷ e) = answers_taken p h ++ listed (takes p h e) (with_answer (waits_on p h) (first_answer h))

  -- an accepted STEP of p decided the claim v
  abbrev pub Decided : ℕ → ℕ → History → Type 0
  Decided p v start = ⊥
  Decided p v (h ▷ e) = Decided p v h ⊎ ((takes p h e ≡ true) × (decision ((after o (h ▷ e)).station p).stage ≡ some v))

  -- K: the length of the longest claim put in, 0 if nothing was put in
  unfoldable pub longest : History → ℕ
  longest start = 0
  longest (h ▷ e) = max (longest h) (put_length (accepts h e) e)

  -- a STEP of p tried after h is supplied: p holds its own claim and every claim that any station holds, and the ballot it waits on is answered
  pub record Supplied (p : ℕ) (h : History) : Type 0 where
    pub own : Holds p p h
    pub all : (s t : ℕ) → Holds s t h → Holds p t h
    pub answers : (b : ℕ) → waits_on p h ≡ some b → Answered b h

  -- e is a supplied step that p takes after h
  abbrev pub TakesSupplied : ℕ → History → Event → Type 0
  TakesSupplied p h e = (takes p h e ≡ true) × Supplied p h

  -- p has taken m supplied steps
  abbrev pub SuppliedSteps : ℕ → ℕ → History → Type 0
  SuppliedSteps p m start = m ≡ 0
  SuppliedSteps p m (h ▷ e) =
      (TakesSupplied p h e × ((i : ℕ) × (m ≡ suc i) × SuppliedSteps p i h)) ⊎ ((TakesSupplied p h e → ⊥) × SuppliedSteps p m h)

-- Who voted which way (document 02, A.2): what a look at a ballot says of every record, what touches the sets, and the sets over whole lists of events
-- from every accepted OPEN. Assumes nothing.
use Rattle.std.specs.Prelude.{ℕ, ◌+◌, ◌*◌, ◌≤◌, ◌<◌, ◌≡◌, ◌↔◌, Bool, true, false, not, cond, ◌||◌, List, [], ◌∷◌, eqb, length}
use Rattle.std.proofs.Math.Option.{Option, none, some}
use Rattle.basics.specs.Below.{count_below}
use Rattle.bits.specs.Digits.{bit}
use Rattle.bits.specs.Words.{member, size}
use Rattle.consensus.specs.Events.{Event, claim, deliver, step, lose, answer, History, Opening, Openable}
use Rattle.consensus.specs.Events as events
use Rattle.consensus.specs.Rules as rules
use Rattle.consensus.specs.Rules.{after}
use Rattle.consensus.specs.Terms.{ClaimsFit, first_answer, voted_in}
use Rattle.entry.specs.declared.entry.Stage.TheVariants.{Voting, FinishVoting}
use Rattle.entry.specs.declared.entry.Ballot.{Ballot}
use Rattle.entry.specs.Entries.{ballots, voters, was_cast}
use Rattle.event.specs.Said.{PutsIn}
use Rattle.settlement.specs.declared.record.Settlement.{Settlement}
use Rattle.settlement.specs.Record.{entry, ballot}
use Rattle.settlement.specs.Events.{played}
use Rattle.settlement.specs.Link.{record_after}
use Rattle.settlement.specs.Tally.{Tally, tallied}
use Rattle.settlement.specs.Laws.{Outside, HasBallot, VotesIn}

-- ---- every record, made-up ones included

-- "and then gives empty sets, counts 0 and no answer": written out once more, so that the laws go by no definition that they fix
abbrev pub nothing_tallied : ℕ → Tally
nothing_tallied k = record { number = k; cast0 = 0; cast1 = 0; count0 = 0; count1 = 0; answered = false; answer = false }

-- "both sets, how many stations are in each, and the answer if there is one", of a ballot with the entry u; members from n on count too
pub record BallotShown (u : Ballot) (t : Tally) : Type 0 where
  pub number : t.number ≡ 0
  pub cast0 : t.cast0 ≡ u.cast0
  pub cast1 : t.cast1 ≡ u.cast1
  pub count0 : t.count0 ≡ count_below 32 (λ s. member s u.cast0)
  pub count1 : t.count1 ≡ count_below 32 (λ s. member s u.cast1)
  pub answered : t.answered ≡ u.answered
  pub answer : u.answered ≡ true → t.answer ≡ u.answer
  pub no_answer : u.answered ≡ false → t.answer ≡ false

-- "Rule 1 casts bit k of j in ballot k. Rule 2 casts bit k of the claim of j in ballot 2k .. in ballot 2k+1 it casts 1 if d equals the whole claim of j,
-- otherwise 0" (01): a STEP of s casts the bit x in the ballot b
pub data Casts (r : Settlement) (s b : ℕ) (x : Bool) : Type 0 where
  by_station : r.rule ≡ 1 → (entry r s).stage ≡ Voting → b ≡ (entry r s).round → bit (entry r s).round (entry r s).cursor ≡ x → Casts r s b x
  by_claim : r.rule ≡ 2 → (entry r s).stage ≡ Voting → b ≡ 2 * (entry r s).round
      → bit (entry r s).round (entry r (entry r s).cursor).claim ≡ x → Casts r s b x
  finish_yes : (entry r s).stage ≡ FinishVoting → b ≡ 2 * (entry r s).round + 1 → (entry r s).word ≡ (entry r (entry r s).cursor).claim → x ≡ true → Casts r s b x
  finish_no : (entry r s).stage ≡ FinishVoting → b ≡ 2 * (entry r s).round + 1 → ((entry r s).word ≡ (entry r (entry r s).cursor).claim → ⊥) → x ≡ false → Casts r s b x

-- the ballot's entry before and after: the voter s is in the set of its bit x, nobody else came or went, and the rest is as it was
pub record Voted (s : ℕ) (x : Bool) (before after : Ballot) : Type 0 where
  pub its_set : PutsIn s (voters before x) (voters after x)
  pub other_set : voters after (not x) ≡ voters before (not x)
  pub answered : after.answered ≡ before.answered
  pub answer : after.answer ≡ before.answer

-- the event casts a bit in the ballot b
abbrev pub CastsIn : Settlement → Event → ℕ → Type 0
CastsIn r (claim s v) b = ⊥
CastsIn r (deliver t s) b = ⊥
CastsIn r (step s) b = VotesIn r.rule (entry r s) b
CastsIn r (lose s) b = ⊥
CastsIn r (answer c a) b = ⊥

pub record BallotLaws : Type 0 where
  -- "It refuses with 42, then 9"
  pub look_42 : (r : Settlement) → Outside r → (b : ℕ) → tallied r b ≡ nothing_tallied 42
  pub look_9 : (r : Settlement) → (Outside r → ⊥) → (b : ℕ) → ballots r.count r.rule ≤ b → tallied r b ≡ nothing_tallied 9
  pub look_0 : (r : Settlement) (b : ℕ) → HasBallot r b → BallotShown (ballot r b) (tallied r b)
  -- "A bit counts as cast exactly when its set is not empty"
  pub cast_exactly : (t : Ballot) (a : Bool) → (was_cast t a ≡ true) ↔ ((s : ℕ) × (member s (voters t a) ≡ true))
  -- an accepted vote puts the voter into the set of its bit; past the array of ballots there is none to vote in
  pub vote : (r : Settlement) (s b : ℕ) (x : Bool) → Casts r s b x → b < length r.ballots → (played r (step s)).number ≡ 0
      → Voted s x (ballot r b) (ballot (played r (step s)).settlement b)
  -- and nothing else touches the sets
  pub sets_stay : (r : Settlement) (e : Event) (b : ℕ) (a : Bool) → (CastsIn r e b → ⊥)
      → voters (ballot (played r e).settlement b) a ≡ voters (ballot r b) a

-- ---- every list from an opening

-- b is in the list
abbrev pub is_among : ℕ → List ℕ → Bool
is_among b [] = false
is_among b (c ∷ l) = eqb c b || is_among b l

-- the answer that a look tells
abbrev pub answer_shown : Tally → Option Bool
answer_shown t = cond t.answered (some t.answer) none

-- after the list h, of the ballot b
pub record VotersOf (o : Opening) (h : History) (b : ℕ) : Type 0 where
  -- "the set of stations that cast 0 and the set that cast 1": s is in the set of a exactly when it cast a there in the play
  pub exactly : (s : ℕ) (a : Bool) → s < o.count → (member s (voters (ballot (record_after o h) b) a) ≡ true) ↔ (((after o h).station s).cast b ≡ some a)
  -- so a bit counts as cast exactly where it does in the play
  pub cast : (a : Bool) → was_cast (ballot (record_after o h) b) a ≡ rules.was_cast o (after o h) b a
  pub only_stations : (s : ℕ) (a : Bool) → member s (voters (ballot (record_after o h) b) a) ≡ true → s < o.count
  -- both together hold as many as voted there, by the list's STEPs
  pub as_many : size (ballot (record_after o h) b).cast0 + size (ballot (record_after o h) b).cast1
      ≡ count_below o.count (λ s. is_among b (voted_in o s h))
  -- a look tells them, and the first answer of the list
  pub look : b < events.ballots o → BallotShown (ballot (record_after o h) b) (tallied (record_after o h) b)
  pub look_answer : b < events.ballots o → answer_shown (tallied (record_after o h) b) ≡ first_answer o h b
  pub look_past : events.ballots o ≤ b → tallied (record_after o h) b ≡ nothing_tallied 9

abbrev pub WhoVoted : Type 0
WhoVoted = (o : Opening) → Openable o → (h : History) → ClaimsFit h → (b : ℕ) → VotersOf o h b

-- "In a settlement reached from an opening the two sets never meet."
abbrev pub NeverMeet : Type 0
NeverMeet = (o : Opening) → Openable o → (h : History) → ClaimsFit h → (b s : ℕ)
    → member s (ballot (record_after o h) b).cast0 ≡ true → member s (ballot (record_after o h) b).cast1 ≡ true → ⊥

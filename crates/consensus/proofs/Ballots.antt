-- Nothing is cast past the last ballot. By station a round is below ⌈log2 n⌉. By claim a finish ballot answered 0 means that some claim has
-- a bit above its round, and claims have 32 bits: so no round reaches 32, and answer 0 is never taken from ballot 63. Assumes nothing.
use Prim.Native.Nat.{ℕ, zero, suc, ◌*◌, ◌<◌}
use mathlib.Core.Path.{◌≡◌, refl, sym, subst}
use mathlib.Core.Logic.{inl, inr}
use mathlib.Core.Bool.{Bool, false}
use mathlib.Core.Option.{Option, some}
use native.Mathlib.Nat.{le_refl}
use native.Mathlib.Omega.{arith}
use lib.Dec.{eqb, lit<}
use borrow.Author.Tests.{ne_eqb}
use Rattle.bits.specs.Words.{claim_bits}
use Rattle.consensus.specs.Events.{History, Rule, rule_1, rule_2, Opening, rounds, ballots_by, ballots}
use Rattle.consensus.specs.State.{Stage, idle, waiting, voting, awaiting, seeking, finish_voting, finish_awaiting, decided, State}
use Rattle.consensus.specs.Rules.{bit_ballot, bit_ballot_by, finish_ballot, after}
use Rattle.consensus.specs.Terms.{ClaimsFit}
use Rattle.consensus.proofs.Invariant.{Unfinished, Round, RoundBy, CastOk, StageOk}
use Rattle.consensus.proofs.Reached.{reached}
use Rattle.consensus.proofs.Longest.{claim_fits, higher_claim}
use Rattle.consensus.proofs.Alike.{NotLast}

-- what the verdicts need of a state: a bit is cast only in a ballot that there is, and no station takes answer 0 from the last one
pub record InBounds (o : Opening) (st : State) : Type 0 where
  pub ballot : (s b : ℕ) (a : Bool) → (st.station s).cast b ≡ some a → b < ballots o
  pub not_last : (s : ℕ) → NotLast o st s (st.station s).stage

-- by claim a round that a station may be in is below a claim's width
abbrev pub Short : Opening → State → Type 0
Short o st = o.rule ≡ rule_2 → (k : ℕ) → Unfinished o st k → k < claim_bits

-- a bit is cast only in a ballot that there is
module _ (o : Opening) (st : State) (short : Short o st) where
  bit_below_by : (r : Rule) → o.rule ≡ r → (k : ℕ) → RoundBy o r st k → bit_ballot_by r k < ballots_by r (rounds o)
  bit_below_by rule_1 e k x = x
  bit_below_by rule_2 e k x = let h = short e k x in omega arith

  pub bit_below : (k : ℕ) → Round o st k → bit_ballot o k < ballots o
  bit_below k x = bit_below_by o.rule refl k x

  pub finish_ballot_below : o.rule ≡ rule_2 → (k : ℕ) → Unfinished o st k → finish_ballot k < ballots o
  finish_ballot_below r k u =
      let h = short r k u in
      subst (λ (q : Rule). finish_ballot k < ballots_by q (rounds o)) (sym r) (omega arith)

  pub cast_below : (b : ℕ) (a : Bool) → CastOk o st b a → b < ballots o
  cast_below b a (inl c) = subst (λ (i : ℕ). i < ballots o) (sym c.1) (bit_below c.0 c.2.round)
  cast_below b a (inr c) = subst (λ (i : ℕ). i < ballots o) (sym c.1.1) (finish_ballot_below c.0 c.1.0 c.1.2.unfinished)

module _ (o : Opening) (h : History) (fit : ClaimsFit h) where
  abbrev st : State
  st = after o h

  -- a finish ballot answered 0 is not the last one
  pub finish_below : o.rule ≡ rule_2 → (k : ℕ) → st.answer_of (finish_ballot k) ≡ some false → suc k < claim_bits
  finish_below r k e =
      let c = higher_claim o r h k e in
      let short = claim_fits o h fit c.0 c.1 in
      let long = c.2 in
      omega arith

  pub round_below : Short o st
  round_below r zero u = lit< tt
  round_below r (suc k) u = finish_below r k (u k (le_refl (suc k)))

  -- no station takes answer 0 from the last ballot
  not_last_at : (g : Stage) (holds : ℕ → Bool) (cast : ℕ → Option Bool) (s : ℕ) → StageOk o st g holds cast → NotLast o st s g
  not_last_at idle holds cast s x = tt
  not_last_at waiting holds cast s x = tt
  not_last_at (voting j k d) holds cast s x = tt
  not_last_at (awaiting j k d) holds cast s x = tt
  not_last_at (seeking j k d) holds cast s x = tt
  not_last_at (finish_voting j k d) holds cast s x = tt
  not_last_at (finish_awaiting j k d) holds cast s x = λ e.
      let h = finish_below x.0 k e in
      subst (λ (q : Rule). eqb (suc (finish_ballot k)) (ballots_by q (rounds o)) ≡ false) (sym x.0)
      (ne_eqb (suc (finish_ballot k)) (2 * claim_bits) (λ q. omega arith))
  not_last_at (decided v k) holds cast s x = tt

  pub in_bounds : InBounds o st
  in_bounds = record {
    ballot = λ s b a e. cast_below o st round_below b a (((reached o h).parts s).casts b a e).1;
    not_last = λ s. not_last_at (st.station s).stage _ _ s ((reached o h).parts s).stage;
  }

-- A supplied STEP is not refused: the station holds its own claim, what it waits on is answered, and answer 0 never comes from the last
-- ballot, since it tells of a claim with a bit that no claim has. So no event meets 42 either. Assumes nothing.
use Prim.Native.Nat.{ℕ, suc, ◌*◌}
use mathlib.Core.Path.{◌≡◌, refl, sym, ◌∙◌, ap}
use mathlib.Core.Bool.{Bool, true, false, not, ◌||◌, beq}
use mathlib.Core.Option.{Option, none, some}
use native.Mathlib.Omega.{arith}
use lib.Dec.{eqb, ltb}
use borrow.Author.Tests.{eqb-false, ne_eqb, lt-ltb}
use Rattle.bits.specs.Words.{claim_bits}
use Rattle.consensus.specs.Events.{Event, claim, deliver, step, lose, answer, History, Rule, rule_2, Opening, rounds, ballots, ballots_by}
use Rattle.consensus.specs.State.{Stage, idle, waiting, voting, awaiting, seeking, finish_voting, finish_awaiting, decided, not_idle, claimed, held, answered}
use Rattle.consensus.specs.Rules.{bit_ballot, finish_ballot, no_station, was_cast, as_bit, last_refusal, answer_number, stage_number, number, after}
use Rattle.basics.specs.Tests.{refuse}
use Rattle.consensus.specs.Terms.{ClaimsFit, PutIn, Lost, Decided, Supplied}
use Rattle.consensus.specs.Told.{awaited}
use Rattle.basics.proofs.Bools.{by_bool, no_clash}
use Rattle.consensus.proofs.Invariant.{PartOk}
use Rattle.consensus.proofs.Reached.{reached}
use Rattle.consensus.proofs.Accepted.{holds_shown, lost_shown, put_in_shown, answered_shown}
use Rattle.consensus.proofs.Told.{stage_after, waits_shown, shown_decided}
use Rattle.consensus.proofs.Ballots.{finish_below}

-- a test that is not met refuses nothing
passes : (t : Bool) (m rest : ℕ) → t ≡ false → refuse t m rest ≡ rest
passes t m rest e = ap (λ (b : Bool). refuse b m rest) e

not_true : (b : Bool) → (b ≡ true → ⊥) → b ≡ false
not_true b f = by_bool b (λ e. absurd (f e)) (λ e. e)

module _ (o : Opening) (h : History) (fit : ClaimsFit h) where
  -- the finish answer 0 does not come from the last ballot
  not_last : o.rule ≡ rule_2 → (k : ℕ) → (after o h).answer_of (finish_ballot k) ≡ some false → eqb (suc (finish_ballot k)) (ballots o) ≡ false
  not_last r k e =
      let l = finish_below o h fit r k e in
      let count : ballots o ≡ 2 * claim_bits = ap (λ (q : Rule). ballots_by q (rounds o)) r in
      ne_eqb (suc (finish_ballot k)) (ballots o) (λ q. let f : suc (finish_ballot k) ≡ 2 * claim_bits = q ∙ count in omega arith)

  -- so the last test of STEP is never met
  pub last_passes : o.rule ≡ rule_2 → (k : ℕ) (x : Option Bool) → (after o h).answer_of (finish_ballot k) ≡ x
      → last_refusal o x (finish_ballot k) ≡ 0
  last_passes r k none e = refl
  last_passes r k (some true) e = refl
  last_passes r k (some false) e = passes _ 42 0 (not_last r k e)

  abbrev Waits : ℕ → Stage → Type 0
  Waits p g = (b : ℕ) → awaited o g ≡ some b → answered ((after o h).answer_of b) ≡ true

  unrefused : (p : ℕ) (g : Stage) → PartOk o (after o h) p g ((after o h).station p).holds ((after o h).station p).cast → (g ≡ idle → ⊥)
      → ((v k : ℕ) → g ≡ decided v k → ⊥)
      → held (after o h) p p ≡ true → Waits p g → stage_number o (after o h) p g ≡ 0
  unfolding stage_number
  unrefused p idle x i d own w = absurd (i refl)
  unrefused p waiting x i d own w = passes _ 8 0 (ap not own)
  unrefused p (voting j k c) x i d own w = refl
  unrefused p (awaiting j k c) x i d own w = passes _ 8 0 (ap not (w (bit_ballot o k) refl))
  unrefused p (seeking j k c) x i d own w = refl
  unrefused p (finish_voting j k c) x i d own w = refl
  unrefused p (finish_awaiting j k c) x i d own w =
      passes _ 8 _ (ap not (w (finish_ballot k) refl)) ∙ last_passes x.stage.0 k _ refl
  unrefused p (decided v k) x i d own w = absurd (d v k refl)

  pub never_refused : (p v : ℕ) → PutIn o p v h → (Lost o p h → ⊥) → ((w : ℕ) → Decided o p w h → ⊥) → Supplied o p h
      → number o (after o h) (step p) ≡ 0
  unfolding number
  never_refused p v put live undecided s =
      let own = (holds_shown o p p h).0 s.own in
      let below = (((reached o h).parts p).holdings p own).0 in
      passes _ 1 _ (ap not (lt-ltb p o.count below))
      ∙ passes _ 2 _ (not_true _ (λ e. live ((lost_shown o p h).1 e)))
      ∙ unrefused p (stage_after o p h) ((reached o h).parts p)
      (λ e. no_clash (claimed (after o h) p) ((put_in_shown o p v h).0 put).0 (ap not_idle e))
      (λ w k e. undecided w (shown_decided o p w h (ap Rattle.consensus.specs.Terms.decision e)))
      own
      (λ b e. (answered_shown o b h).0 (s.answers b (waits_shown o p h ∙ e)))

  -- ---- no event meets 42

  refuse_other : (t : Bool) (m rest : ℕ) → eqb m 42 ≡ false → (rest ≡ 42 → ⊥) → refuse t m rest ≡ 42 → ⊥
  refuse_other true m rest n f e = eqb-false m 42 n e
  refuse_other false m rest n f e = f e

  zero_other : ◌≡◌ {A = ℕ} 0 42 → ⊥
  zero_other e = omega arith

  stage_other : (p : ℕ) (g : Stage) → PartOk o (after o h) p g ((after o h).station p).holds ((after o h).station p).cast
      → stage_number o (after o h) p g ≡ 42 → ⊥
  unfolding stage_number
  stage_other p idle x e = omega arith
  stage_other p waiting x e = refuse_other (not (held (after o h) p p)) 8 0 refl zero_other e
  stage_other p (voting j k d) x e = omega arith
  stage_other p (awaiting j k d) x e = refuse_other (not (answered ((after o h).answer_of (bit_ballot o k)))) 8 0 refl zero_other e
  stage_other p (seeking j k d) x e = omega arith
  stage_other p (finish_voting j k d) x e = omega arith
  stage_other p (finish_awaiting j k d) x e =
      refuse_other (not (answered ((after o h).answer_of (finish_ballot k)))) 8 _ refl (λ q. zero_other (sym (last_passes x.stage.0 k _ refl) ∙ q)) e
  stage_other p (decided v k) x e = omega arith

  answer_other : (y : Option Bool) (a c : Bool) → answer_number y a c ≡ 42 → ⊥
  answer_other none a c e = refuse_other (not c) 12 0 refl zero_other e
  answer_other (some x) a c e = refuse_other (not (beq x a)) 11 0 refl zero_other e

  lost_test : ℕ → Bool
  lost_test s = ((after o h).station s).lost

  pub no_42 : (e : Event) → number o (after o h) e ≡ 42 → ⊥
  unfolding number lost_test
  no_42 (claim s v) e =
      refuse_other (no_station o s) _ _ refl (refuse_other (lost_test s) _ _ refl (refuse_other (claimed (after o h) s) _ 0 refl zero_other)) e
  no_42 (deliver t s) e =
      refuse_other (no_station o t || no_station o s) _ _ refl
      (refuse_other (lost_test s) _ _ refl
      (refuse_other (not (claimed (after o h) t)) 4 _ refl (refuse_other (held (after o h) s t) _ 0 refl zero_other)))
      e
  no_42 (step s) e =
      refuse_other (no_station o s) _ _ refl (refuse_other (lost_test s) _ _ refl (stage_other s ((after o h).station s).stage ((reached o h).parts s))) e
  no_42 (lose s) e = refuse_other (no_station o s) _ _ refl (refuse_other (lost_test s) _ 0 refl zero_other) e
  no_42 (answer b a) e =
      refuse_other (not (ltb b (ballots o))) 9 _ refl
      (refuse_other (ltb 1 a) _ _ refl (answer_other ((after o h).answer_of b) (as_bit a) (was_cast o (after o h) b (as_bit a))))
      e

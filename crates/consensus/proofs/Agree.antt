-- Two deciders have the same word: by station it names the claimer, by claim it is the claim and both stop in the one round whose finish
-- answer is 1. So they share claim, ballots and answers. Assumes nothing.
use Prim.Native.Nat.{ℕ, zero, suc, ◌*◌, ◌≤◌}
use mathlib.Core.Path.{◌≡◌, refl, sym, subst, ◌∙◌, ap}
use mathlib.Core.Bool.{true, false}
use mathlib.Core.Option.{some, none-ne-some, some-injective}
use mathlib.Core.List.{[], ◌∷◌, map}
use native.Mathlib.Omega.{arith}
use native.Mathlib.Nat.{le_antisymm}
use native.Mathlib.Numerals.{add-one}
use lib.Dec.{leb}
use lib.ListN.{length, length-append}
use borrow.Author.Tests.{leb-true, leb-false}
use Rattle.consensus.specs.Events.{History, Rule, rule_1, rule_2, Opening, rounds}
use Rattle.consensus.specs.State.{Stage, idle, waiting, voting, awaiting, seeking, finish_voting, finish_awaiting, decided, State, claimed, claim_of}
use Rattle.consensus.specs.Rules.{finish_ballot, after}
use Rattle.consensus.specs.Terms.{decision, voted_in, answers_taken, Decided, PutIn, longest}
use Rattle.consensus.specs.Demand3.{first_ballots, BallotsVoted, Same}
use Rattle.basics.proofs.Bools.{by_bool, no_clash}
use Rattle.consensus.proofs.Invariant.{Word, Unfinished, DecidedBy, PartOk, votes, votes_by}
use Rattle.consensus.proofs.Spelling.{word_unique}
use Rattle.consensus.proofs.Steps.{opening}
use Rattle.consensus.proofs.Reached.{reached}
use Rattle.consensus.proofs.Accepted.{put_in_shown}
use Rattle.consensus.proofs.Told.{stage_after, answers_count, voted_shown, answers_shown, answers_ballots, decided_shown, answers_up_to}
use Rattle.consensus.proofs.Longest.{round_short}

pub decided_stage : (g : Stage) (v : ℕ) → decision g ≡ some v → (k : ℕ) × (g ≡ decided v k)
decided_stage idle v e = absurd (none-ne-some v e)
decided_stage waiting v e = absurd (none-ne-some v e)
decided_stage (voting j k d) v e = absurd (none-ne-some v e)
decided_stage (awaiting j k d) v e = absurd (none-ne-some v e)
decided_stage (seeking j k d) v e = absurd (none-ne-some v e)
decided_stage (finish_voting j k d) v e = absurd (none-ne-some v e)
decided_stage (finish_awaiting j k d) v e = absurd (none-ne-some v e)
decided_stage (decided w k) v e = (k, ap (λ (x : ℕ). decided x k) (some-injective w v e))

-- a round that was the last comes no earlier than another such
not_before : (o : Opening) (st : State) (k m : ℕ) → st.answer_of (finish_ballot k) ≡ some true → Unfinished o st m → m ≤ k
not_before o st k m e u =
    by_bool (leb m k) (λ p. leb-true m k p)
    (λ p. absurd (no_clash true refl (some-injective true false (sym e ∙ u k (leb-false m k p)))))

agreed : (n : ℕ) (r : Rule) (st : State) (v k w m : ℕ) → DecidedBy (opening n r) r st v k → DecidedBy (opening n r) r st w m
    → (v ≡ w) × (votes_by r (opening n r) (decided v k) ≡ votes_by r (opening n r) (decided w m))
agreed n rule_1 st v k w m x y =
    (sym x.3 ∙ ap (claim_of st) (word_unique (opening n rule_1) st _ _ _ x.1 y.1) ∙ y.3, refl)
agreed n rule_2 st v k w m x y =
    let same : k ≡ m = le_antisymm (not_before (opening n rule_2) st m k y.5 x.4) (not_before (opening n rule_2) st k m x.5 y.4) in (
      word_unique (opening n rule_2) st (suc m) v w (subst (λ (i : ℕ). Word (opening n rule_2) st (suc i) v) same x.1) y.1,
      ap (λ (i : ℕ). suc (finish_ballot i)) same,
    )

a_claimer : (o : Opening) (r : Rule) (st : State) (v k : ℕ) → DecidedBy o r st v k → (t : ℕ) × (claimed st t ≡ true) × (claim_of st t ≡ v)
a_claimer o rule_1 st v k x = (x.0, x.2, x.3)
a_claimer o rule_2 st v k x = (x.0, x.2, x.3)

pub length_up_to : (m : ℕ) → length (first_ballots m) ≡ m
unfolding first_ballots
length_up_to zero = refl
length_up_to (suc m) = length-append (first_ballots m) (m ∷ []) ∙ add-one (length (first_ballots m)) ∙ ap suc (length_up_to m)

module _ (o : Opening) (h : History) where
  -- what the invariant says of a decider
  pub record Decider (p v : ℕ) : Type 0 where
    pub round : ℕ
    pub stage : stage_after o p h ≡ decided v round
    pub reason : DecidedBy o o.rule (after o h) v round

  pub decider : (p v : ℕ) → Decided o p v h → Decider p v
  decider p v d =
      let s = decided_stage (stage_after o p h) v (decided_shown o p v h d) in record {
        round = s.0;
        stage = s.1;
        reason = (subst (λ (g : Stage). PartOk o (after o h) p g ((after o h).station p).holds ((after o h).station p).cast) s.1 ((reached o h).parts p)).stage;
      }

  pub agreement : (p q v w : ℕ) → Decided o p v h → Decided o q w h → Same o h p q v w
  agreement p q v w d e =
      let x = decider p v d in
      let y = decider q w e in
      let a = agreed o.count o.rule (after o h) v x.round w y.round x.reason y.reason in record {
        claim = a.0;
        ballots = voted_shown o p h ∙ ap (λ (g : Stage). first_ballots (votes o g)) x.stage ∙ ap first_ballots a.1
            ∙ sym (ap (λ (g : Stage). first_ballots (votes o g)) y.stage) ∙ sym (voted_shown o q h);
        answers = answers_shown o p h ∙ ap (λ (g : Stage). answers_up_to (after o h).answer_of (answers_count o g)) x.stage
            ∙ ap (answers_up_to (after o h).answer_of) a.1
            ∙ sym (ap (λ (g : Stage). answers_up_to (after o h).answer_of (answers_count o g)) y.stage) ∙ sym (answers_shown o q h);
      }

  pub validity : (p v : ℕ) → Decided o p v h → (s : ℕ) × PutIn o s v h
  validity p v d =
      let x = decider p v d in
      let t = a_claimer o o.rule (after o h) v x.round x.reason in
      (t.0, (put_in_shown o t.0 v h).1 (t.1, t.2))

  voted_by : (p v : ℕ) (x : Decider p v) → voted_in o p h ≡ first_ballots (votes o (decided v x.round))
  voted_by p v x = voted_shown o p h ∙ ap (λ (g : Stage). first_ballots (votes o g)) x.stage

  pub answered : (p v : ℕ) → Decided o p v h → map (λ x. x.0) (answers_taken o p h) ≡ voted_in o p h
  answered p v d =
      let x = decider p v d in
      ap (map (λ y. y.0)) (answers_shown o p h ∙ ap (λ (g : Stage). answers_up_to (after o h).answer_of (answers_count o g)) x.stage)
      ∙ answers_ballots (after o h).answer_of _
      ∙ sym (voted_by p v x)

pub cost_by : (n : ℕ) (r : Rule) (h : History) (p v : ℕ) → Decided (opening n r) p v h
    → BallotsVoted r (rounds (opening n r)) (longest (opening n r) h) (voted_in (opening n r) p h)
cost_by n rule_1 h p v d = voted_by (opening n rule_1) h p v (decider (opening n rule_1) h p v d)
cost_by n rule_2 h p v d =
    let x = decider (opening n rule_2) h p v d in
    let twice : suc (finish_ballot x.round) ≡ 2 * suc x.round = omega arith in (
      suc x.round,
      voted_by (opening n rule_2) h p v x ∙ ap first_ballots twice,
      (omega arith),
      round_short (opening n rule_2) refl h x.round x.reason.0 x.reason.2 x.reason.4,
    )

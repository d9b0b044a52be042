-- What no accepted event takes back: an accepted event met none of its tests, so a lost, decided or claiming station and an answered ballot are
-- touched only by events that leave the part as it was. Assumes nothing.
use Prim.Native.Nat.{ℕ}
use mathlib.Core.Path.{◌≡◌, refl, sym, subst, ap, ◌∙◌}
use mathlib.Core.Logic.{◌⊎◌, inl, inr, ⊎_elim}
use mathlib.Core.Bool.{Bool, true, false, not, ◌&&◌, ◌||◌, beq, true≢false}
use lib.Dec.{eqb, ltb}
use Rattle.basics.specs.Tests.{first_met}
use Rattle.basics.proofs.Bools.{cond_ind, no_clash, not_false→true, not_true→false, beq_true}
use Rattle.basics.proofs.Refusals.{refused_not}
use Rattle.bits.specs.Words.{member, insert}
use Rattle.bits.proofs.Masks.{member_stays, insert_some}
use Rattle.consensus.specs.Events.{claim, deliver, step, lose, answer}
use Rattle.consensus.specs.Rules.{as_bit}
use Rattle.entry.specs.declared.entry.Stage.{Stage}
use Rattle.entry.specs.declared.entry.Stage.TheVariants.{Idle, Waiting, Voting, Awaiting, Seeking, FinishVoting, FinishAwaiting, Decided}
use Rattle.entry.specs.declared.entry.Station.{Station}
use Rattle.entry.specs.declared.entry.Ballot.{Ballot}
use Rattle.event.specs.declared.view.View.{View}
use Rattle.entry.specs.Stages.{at, not_idle, is_decided}
use Rattle.entry.specs.Entries.{no_station, ballots, by_station, voters, moved, casting}
use Rattle.event.specs.Places.{next_cursor}
use Rattle.event.specs.Step.{at_once, last_round, seeking_ends, bit_voted, finish_voted, started, bit_taken, finish_taken, entry_after_seek, sought, stepped, voted}
use Rattle.event.specs.Change.{number_on, own_after, ballot_after}
use Rattle.event.specs.Frame.{Kept, NeverTakenBack, RepeatStays}

-- ---- CLAIM, DELIVER, LOSE and ANSWER

claim_kept : (v : View) (s c : ℕ) → number_on v (claim s c) ≡ 0 → Kept v (claim s c)
unfolding first_met own_after ballot_after
claim_kept v s c e =
    let lives = refused_not v.own.lost _ _ refl (refused_not (no_station v.count s) _ _ refl e).1 in
    let idle = (refused_not (not_idle v.own.stage) _ 0 refl lives.1).0 in
    record {
      lost = λ p. no_clash v.own.lost p lives.0;
      put_in = λ p. refl;
      claim_stays = λ p. no_clash (not_idle v.own.stage) p idle;
      held = λ i p. p;
      decided = λ p. no_clash (not_idle v.own.stage) (ap not_idle p) idle;
      decision = λ p. refl;
      round = λ p. refl;
      cast = λ a p. p;
      voter_stays = λ a i p. p;
      answered = λ p. p;
      answer_stays = λ p. refl;
    }

deliver_kept : (v : View) (t s : ℕ) → number_on v (deliver t s) ≡ 0 → Kept v (deliver t s)
unfolding first_met own_after ballot_after
deliver_kept v t s e =
    let lives = (refused_not v.own.lost _ _ refl (refused_not (no_station v.count t || no_station v.count s) _ _ refl e).1).0 in
    record {
      lost = λ p. no_clash v.own.lost p lives;
      put_in = λ p. p;
      claim_stays = λ p. refl;
      held = λ i p. member_stays i t v.own.held p;
      decided = λ p. p;
      decision = λ p. refl;
      round = λ p. refl;
      cast = λ a p. p;
      voter_stays = λ a i p. p;
      answered = λ p. p;
      answer_stays = λ p. refl;
    }

lose_kept : (v : View) (s : ℕ) → number_on v (lose s) ≡ 0 → Kept v (lose s)
unfolding first_met own_after ballot_after
lose_kept v s e =
    let lives = (refused_not v.own.lost _ _ refl (refused_not (no_station v.count s) _ _ refl e).1).0 in
    record {
      lost = λ p. no_clash v.own.lost p lives;
      put_in = λ p. p;
      claim_stays = λ p. refl;
      held = λ i p. p;
      decided = λ p. p;
      decision = λ p. refl;
      round = λ p. refl;
      cast = λ a p. p;
      voter_stays = λ a i p. p;
      answered = λ p. p;
      answer_stays = λ p. refl;
    }

-- an accepted ANSWER of an answered ballot has the bit that stands
answer_same : (v : View) (b a : ℕ) → number_on v (answer b a) ≡ 0 → v.ballot.answered ≡ true → as_bit a ≡ v.ballot.answer
unfolding first_met
answer_same v b a e p =
    let later = (refused_not (ltb 1 a) _ _ refl (refused_not (not (ltb b (ballots v.count v.rule))) _ _ refl e).1).1 in
    let same = (refused_not (v.ballot.answered && not (beq v.ballot.answer (as_bit a))) _ _ refl later).0 in
    sym (beq_true v.ballot.answer (as_bit a) (not_false→true _ (rw p at same)))

answer_kept : (v : View) (b a : ℕ) → number_on v (answer b a) ≡ 0 → Kept v (answer b a)
unfolding first_met own_after ballot_after
answer_kept v b a e =
    record {
      lost = λ p. refl;
      put_in = λ p. p;
      claim_stays = λ p. refl;
      held = λ i p. p;
      decided = λ p. p;
      decision = λ p. refl;
      round = λ p. refl;
      cast = λ c p. p;
      voter_stays = λ c i p. p;
      answered = λ p. refl;
      answer_stays = λ p. answer_same v b a e p;
    }

-- ---- STEP: of the own entry, a claim and what is held stay, and it is past idle afterwards

record Onward (t u : Station) : Type 0 where
  stage : not_idle u.stage ≡ true
  claim : u.claim ≡ t.claim
  held : u.held ≡ t.held

moved_on : {t : Station} {g : Stage} {j k d v : ℕ} → not_idle g ≡ true → Onward t (moved g j k d v t)
moved_on p = record { stage = p; claim = refl; held = refl }

onward : (v : View) (s : ℕ) (g : Stage) → g ≡ v.own.stage → not_idle g ≡ true → Onward v.own (stepped v s g)
unfolding stepped started bit_taken finish_taken entry_after_seek sought
onward v s Idle q p = absurd (true≢false (sym p))
onward v s Waiting q p = cond_ind (Onward v.own) (at_once v) _ _ (λ b. moved_on refl) (λ b. moved_on refl)
onward v s Voting q p = moved_on refl
onward v s Awaiting q p = moved_on refl
onward v s Seeking q p =
    cond_ind (Onward v.own) (seeking_ends v (next_cursor v.count v.own.cursor)) _ _
    (λ b. cond_ind (Onward v.own) (by_station v.rule) _ _ (λ c. cond_ind (Onward v.own) (last_round v) _ _ (λ d. moved_on refl) (λ d. moved_on refl)) (λ c. moved_on refl))
    (λ b. moved_on refl)
onward v s FinishVoting q p = moved_on refl
onward v s FinishAwaiting q p = cond_ind (Onward v.own) v.ballot.answer _ _ (λ b. moved_on refl) (λ b. moved_on refl)
onward v s Decided q p = record { stage = ap not_idle (sym q) ∙ p; claim = refl; held = refl }

-- of the ballot: sets of voters stay or get one more, and the answer stays
record Marked (s : ℕ) (b c : Ballot) : Type 0 where
  sets : (a : Bool) → (voters c a ≡ voters b a) ⊎ (voters c a ≡ insert s (voters b a))
  answered : c.answered ≡ b.answered
  answer : c.answer ≡ b.answer

marked : (v : View) (s : ℕ) (g : Stage) → Marked s v.ballot (voted v s g)
unfolding voted
marked v s g =
    cond_ind (Marked s v.ballot) (at Voting g) _ _ (λ p. cast_in (bit_voted v))
    (λ p. cond_ind (Marked s v.ballot) (at FinishVoting g) _ _ (λ q. cast_in (finish_voted v)) (λ q. record { sets = λ a. inl refl; answered = refl; answer = refl }))
  where
    sets_after : (x a : Bool) → (voters (casting s x v.ballot) a ≡ voters v.ballot a) ⊎ (voters (casting s x v.ballot) a ≡ insert s (voters v.ballot a))
    sets_after true true = inr refl
    sets_after true false = inl refl
    sets_after false true = inl refl
    sets_after false false = inr refl

    cast_in : (x : Bool) → Marked s v.ballot (casting s x v.ballot)
    cast_in x = record { sets = sets_after x; answered = refl; answer = refl }

-- what one more station leaves of a set is left of the sets
sets_keep : (P : ℕ → Type 0) (s : ℕ) (b c : Ballot) → Marked s b c → ((m : ℕ) → P m → P (insert s m)) → (a : Bool) → P (voters b a) → P (voters c a)
sets_keep P s b c marks grows a p = ⊎_elim (λ e. subst P (sym e) p) (λ e. subst P (sym e) (grows (voters b a) p)) (marks.sets a)

step_kept : (v : View) (s : ℕ) → number_on v (step s) ≡ 0 → Kept v (step s)
unfolding first_met own_after ballot_after
step_kept v s e =
    let lives = refused_not v.own.lost _ _ refl (refused_not (no_station v.count s) _ _ refl e).1 in
    let late = refused_not (not (not_idle v.own.stage)) _ _ refl lives.1 in
    let under_way = (refused_not (is_decided v.own.stage) _ _ refl late.1).0 in
    let on = onward v s v.own.stage refl (not_false→true (not_idle v.own.stage) late.0) in
    let marks = marked v s v.own.stage in
    record {
      lost = λ p. no_clash v.own.lost p lives.0;
      put_in = λ p. on.stage;
      claim_stays = λ p. on.claim;
      held = λ i p. ap (member i) on.held ∙ p;
      decided = λ p. no_clash (is_decided v.own.stage) (ap is_decided p) under_way;
      decision = λ p. no_clash (is_decided v.own.stage) (ap is_decided p) under_way;
      round = λ p. no_clash (is_decided v.own.stage) (ap is_decided p) under_way;
      cast = sets_keep (λ (m : ℕ). not (eqb m 0) ≡ true) s v.ballot _ marks (λ m p. ap not (insert_some s m (not_true→false (eqb m 0) p)));
      voter_stays = λ a i. sets_keep (λ (m : ℕ). member i m ≡ true) s v.ballot _ marks (λ m. member_stays i s m) a;
      answered = λ p. marks.answered ∙ p;
      answer_stays = λ p. marks.answer;
    }

pub never_taken_back : NeverTakenBack
never_taken_back v (claim s c) e = claim_kept v s c e
never_taken_back v (deliver t s) e = deliver_kept v t s e
never_taken_back v (step s) e = step_kept v s e
never_taken_back v (lose s) e = lose_kept v s e
never_taken_back v (answer b a) e = answer_kept v b a e

pub repeat_stays : RepeatStays
unfolding own_after ballot_after
repeat_stays v b a p e = (refl, rw (answer_same v b a e p, p))

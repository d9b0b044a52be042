-- Each event has one number on a record and in the play, where the record is tied to a reached state: the tests are the same, one by one.
-- Assumes nothing.
use Prim.Native.Nat.{ℕ, suc, ◌*◌, ◌<◌}
use mathlib.Core.Path.{◌≡◌, refl, sym, subst, ◌∙◌, ap, ap₂}
use mathlib.Core.Bool.{Bool, true, false, cond, not, ◌&&◌, ◌||◌, beq}
use mathlib.Core.Option.{Option, none, some}
use native.Mathlib.Omega.{arith}
use lib.Dec.{eqb, ltb, eqb-suc-suc}
use borrow.Author.Tests.{ne_eqb}
use Rattle.bits.specs.Log.{ceil_log2}
use Rattle.bits.specs.Words.{member}
use Rattle.consensus.specs.Events.{Event, claim, deliver, step, lose, answer, Rule, rule_1, rule_2, Opening, Openable, ballots_by}
use Rattle.consensus.specs.Events as events
use Rattle.consensus.specs.State as play
use Rattle.consensus.specs.Rules as rules
use Rattle.consensus.specs.Rules.{finish_ballot, last_refusal, as_bit, bit_ballot_by}
use Rattle.basics.specs.Tests.{refuse, first_met}
use Rattle.basics.proofs.Bools.{by_bool, or_none, or_false, not_false→true}
use Rattle.basics.proofs.Refusals.{refuse_both}
use Rattle.consensus.proofs.Invariant.{StageOk, Inv}
use Rattle.consensus.proofs.Ballots.{Short}
use Rattle.consensus.proofs.Reached.{station_below}
use Rattle.entry.specs.declared.entry.Stage.{Stage}
use Rattle.entry.specs.declared.entry.Stage.TheVariants.{Idle, Waiting, Voting, Awaiting, Seeking, FinishVoting, FinishAwaiting, Decided}
use Rattle.entry.specs.declared.entry.Station.{Station}
use Rattle.entry.specs.declared.entry.Ballot.{Ballot}
use Rattle.settlement.specs.declared.record.Settlement.{Settlement}
use Rattle.entry.specs.Entries.{ballot_entries, ballots, bit_ballot, no_station}
use Rattle.entry.specs.Stages.{at, not_idle, is_decided}
use Rattle.event.specs.Places.{step_ballot}
use Rattle.event.specs.Tests.{last_ballot}
use Rattle.event.specs.Change.{number_on}
use Rattle.settlement.specs.Record.{entry, ballot, view}
use Rattle.settlement.specs.Events.{number}
use Rattle.settlement.specs.Link.{rule_number, stage_of, answer_in}
use Rattle.settlement.proofs.Link.Linked.{Linked, cast_some}
use Rattle.settlement.proofs.Link.Faultless.{faultless}

pub not_idle_same : (g : Stage) (j k d v : ℕ) → not_idle g ≡ play.not_idle (stage_of g j k d v)
not_idle_same Idle j k d v = refl
not_idle_same Waiting j k d v = refl
not_idle_same Voting j k d v = refl
not_idle_same Awaiting j k d v = refl
not_idle_same Seeking j k d v = refl
not_idle_same FinishVoting j k d v = refl
not_idle_same FinishAwaiting j k d v = refl
not_idle_same Decided j k d v = refl

pub answered_same : (t : Ballot) (x : Option Bool) → answer_in t ≡ x → t.answered ≡ play.answered x
answered_same t x e = by_bool t.answered (λ p. p ∙ ap play.answered (sym (ap (λ (b : Bool). cond b (some t.answer) none) p) ∙ e)) (λ p. p ∙ ap play.answered (sym (ap (λ (b : Bool). cond b (some t.answer) none) p) ∙ e))

-- an answered ballot's bit
pub answer_same : (t : Ballot) (x : Option Bool) → answer_in t ≡ x → t.answered ≡ true → x ≡ some t.answer
answer_same t x e p = sym e ∙ ap (λ (b : Bool). cond b (some t.answer) none) p

-- ANSWER's last two tests, beside the answer that the entry stands for
stands_same : (t : Ballot) (y : Option Bool) (a c : Bool) → answer_in t ≡ y
    → refuse (t.answered && not (beq t.answer a)) 11 (refuse (not t.answered && not c) 12 0) ≡ rules.answer_number y a c
stands_same t y a c e =
    by_bool t.answered
    (λ p. with_mark p ∙ ap (λ (z : Option Bool). rules.answer_number z a c) (sym (answer_same t y e p)))
    (λ p. with_mark p ∙ ap (λ (z : Option Bool). rules.answer_number z a c) (sym (ap (λ (b : Bool). cond b (some t.answer) none) p) ∙ e))
  where
    with_mark : {b : Bool} → t.answered ≡ b
        → refuse (t.answered && not (beq t.answer a)) 11 (refuse (not t.answered && not c) 12 0)
        ≡ refuse (b && not (beq t.answer a)) 11 (refuse (not b && not c) 12 0)
    with_mark p = ap (λ (x : Bool). refuse (x && not (beq t.answer a)) 11 (refuse (not x && not c) 12 0)) p

pub bit_ballot_same : (r : Rule) (k : ℕ) → cond (eqb (rule_number r) 1) k (2 * k) ≡ bit_ballot_by r k
bit_ballot_same rule_1 k = refl
bit_ballot_same rule_2 k = refl

ballots_same : (r : Rule) (n : ℕ) → 0 < n → cond (eqb n 0) 0 (cond (eqb (rule_number r) 1) (ceil_log2 n) ballot_entries) ≡ ballots_by r (ceil_log2 n)
ballots_same rule_1 n l = ap (λ (b : Bool). cond b 0 (ceil_log2 n)) (ne_eqb n 0 (λ e. omega arith))
ballots_same rule_2 n l = ap (λ (b : Bool). cond b 0 ballot_entries) (ne_eqb n 0 (λ e. omega arith))

module _ (o : Opening) (a : Openable o) (r : Settlement) (st : play.State) (l : Linked o r st) (inv : Inv o st) where
  pub no_station_same : (s : ℕ) → no_station r.count s ≡ rules.no_station o s
  no_station_same s = ap (λ (n : ℕ). not (ltb s n)) l.count

  pub idle_same : (s : ℕ) → s < o.count → not_idle (entry r s).stage ≡ play.claimed st s
  idle_same s b =
      let t = entry r s in not_idle_same t.stage t.cursor t.round t.word t.decision ∙ ap play.not_idle (l.entries s b).stage

  pub ballot_of_round : (k : ℕ) → bit_ballot r.rule k ≡ rules.bit_ballot o k
  ballot_of_round k = ap (λ (x : ℕ). cond (eqb x 1) k (2 * k)) l.rule ∙ bit_ballot_same o.rule k

  pub ballots_count : ballots r.count r.rule ≡ events.ballots o
  ballots_count =
      ap₂ (λ (n x : ℕ). cond (eqb n 0) 0 (cond (eqb x 1) (ceil_log2 n) ballot_entries)) l.count l.rule
      ∙ ballots_same o.rule o.count a.some_station

  pub ballot_answered : (b : ℕ) → (ballot r b).answered ≡ play.answered (st.answer_of b)
  ballot_answered b = answered_same (ballot r b) (st.answer_of b) (l.answer b)

  round_answered : (k : ℕ) → not (ballot r (bit_ballot r.rule k)).answered ≡ not (play.answered (st.answer_of (rules.bit_ballot o k)))
  round_answered k =
      ap (λ (b : ℕ). not (ballot r b).answered) (ballot_of_round k) ∙ ap (λ (x : Bool). not x) (ballot_answered (rules.bit_ballot o k))

  finish_answered : (k : ℕ) → not (ballot r (finish_ballot k)).answered ≡ not (play.answered (st.answer_of (finish_ballot k)))
  finish_answered k = ap (λ (x : Bool). not x) (ballot_answered (finish_ballot k))

  -- the last test of STEP, where the ballot is answered
  last_same : o.rule ≡ rule_2 → (k : ℕ) → not (play.answered (st.answer_of (finish_ballot k))) ≡ false
      → refuse (not (ballot r (finish_ballot k)).answer && eqb (finish_ballot k) last_ballot) 42 0 ≡ last_refusal o (st.answer_of (finish_ballot k)) (finish_ballot k)
  last_same q k e = go (ballot r (finish_ballot k)).answer (answer_same (ballot r (finish_ballot k)) (st.answer_of (finish_ballot k)) (l.answer (finish_ballot k)) was)
    where
      was : (ballot r (finish_ballot k)).answered ≡ true
      was = ballot_answered (finish_ballot k) ∙ not_false→true (play.answered (st.answer_of (finish_ballot k))) e

      last : eqb (finish_ballot k) last_ballot ≡ eqb (suc (finish_ballot k)) (events.ballots o)
      last = sym (eqb-suc-suc (finish_ballot k) last_ballot) ∙ ap (eqb (suc (finish_ballot k))) (sym (ap (λ (x : Rule). ballots_by x (events.rounds o)) q))

      go : (v : Bool) → st.answer_of (finish_ballot k) ≡ some v
          → refuse (not v && eqb (finish_ballot k) last_ballot) 42 0 ≡ last_refusal o (st.answer_of (finish_ballot k)) (finish_ballot k)
      go true x = ap (λ (y : Option Bool). last_refusal o y (finish_ballot k)) (sym x)
      go false x = ap (λ (b : Bool). refuse b 42 0) last ∙ ap (λ (y : Option Bool). last_refusal o y (finish_ballot k)) (sym x)

  -- what STEP looks at, and what it is refused for, at each stage
  abbrev seen_at : ℕ → Stage → Ballot
  seen_at k g = ballot r (step_ballot r.rule k g)

  abbrev Rest : ℕ → Station → Stage → ℕ
  Rest s t g =
      refuse (not (not_idle g)) 6
      (refuse (is_decided g) 7
      (refuse
      (at Waiting g && not (member s t.held) || (at Awaiting g || at FinishAwaiting g) && not (seen_at t.round g).answered) 8
      (refuse (at FinishAwaiting g && not (seen_at t.round g).answer && eqb (finish_ballot t.round) last_ballot) 42 0)))

  stage_same : (s : ℕ) (t : Station) → member s t.held ≡ (st.station s).holds s → (g : Stage)
      → StageOk o st (stage_of g t.cursor t.round t.word t.decision) (st.station s).holds (st.station s).cast
      → Rest s t g ≡ rules.stage_number o st s (stage_of g t.cursor t.round t.word t.decision)
  unfolding rules.stage_number
  stage_same s t own Idle x = refl
  stage_same s t own Waiting x = rw (own, or_none (not ((st.station s).holds s)))
  stage_same s t own Voting x = refl
  stage_same s t own Awaiting x = ap (λ (b : Bool). refuse b 8 0) (round_answered t.round)
  stage_same s t own Seeking x = refl
  stage_same s t own FinishVoting x = refl
  stage_same s t own FinishAwaiting x = refuse_both _ _ _ _ _ (finish_answered t.round) (λ e. last_same x.0 t.round e)
  stage_same s t own Decided x = refl

  event_same : (e : Event) → number_on (view r e) e ≡ rules.number o st e
  unfolding first_met rules.number
  event_same (claim s v) =
      refuse_both _ _ _ _ _ (no_station_same s)
      (λ e.
      let b = station_below o s e in
      refuse_both _ _ _ _ _ (l.entries s b).lost (λ f. refuse_both _ _ _ 0 0 (idle_same s b) (λ g. refl)))
  event_same (deliver t s) =
      refuse_both _ _ _ _ _ (ap₂ (λ (x y : Bool). x || y) (no_station_same t) (no_station_same s))
      (λ e.
      let both = or_false (rules.no_station o t) (rules.no_station o s) e in
      let c = station_below o t both.0 in
      let b = station_below o s both.1 in
      refuse_both _ _ _ _ _ (l.entries s b).lost
      (λ f. refuse_both _ _ _ _ _ (ap not (idle_same t c)) (λ g. refuse_both _ _ _ 0 0 ((l.entries s b).holds t) (λ h. refl))))
  event_same (step s) =
      refuse_both _ _ _ _ _ (no_station_same s)
      (λ e.
      let b = station_below o s e in
      let x = l.entries s b in
      refuse_both _ _ _ _ _ x.lost
      (λ f.
      stage_same s (entry r s) (x.holds s) (entry r s).stage
      (subst (λ (g : play.Stage). StageOk o st g (st.station s).holds (st.station s).cast) (sym x.stage) (inv.parts s).stage)
      ∙ ap (rules.stage_number o st s) x.stage))
  event_same (lose s) = refuse_both _ _ _ _ _ (no_station_same s) (λ e. refuse_both _ _ _ 0 0 (l.entries s (station_below o s e)).lost (λ f. refl))
  event_same (answer b v) =
      refuse_both _ _ _ _ _ (ap (λ (n : ℕ). not (ltb b n)) ballots_count)
      (λ e.
      refuse_both (ltb 1 v) (ltb 1 v) _ _ _ refl
      (λ f.
      stands_same (ballot r b) (st.answer_of b) (as_bit v) _ (l.answer b)
      ∙ ap (rules.answer_number (st.answer_of b) (as_bit v)) (cast_some o r st l b (as_bit v))))

  pub number_same : Short o st → (e : Event) → number r e ≡ rules.number o st e
  unfolding number first_met
  number_same short e = ap (λ (b : Bool). refuse b 42 (number_on (view r e) e)) (faultless o a r st l inv short) ∙ event_same e

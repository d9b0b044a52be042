-- What is due at the turn of a station that is left is accepted, and its STEP is a supplied one. The tests of the event are read off the record, which
-- shows the play; the bit of a reply was cast, since a station that awaits a ballot voted in it. Assumes nothing.
use Prim.Native.Nat.{ℕ, ◌<◌}
use mathlib.Core.Path.{◌≡◌, refl, sym, subst, ◌∙◌, ap}
use mathlib.Core.Logic.{◌↔◌}
use mathlib.Core.Bool.{Bool, true, false, cond, not, ◌&&◌}
use mathlib.Core.Option.{Option, none, some, none-ne-some, some-injective}
use lib.Dec.{eqb}
use borrow.Author.Tests.{eqb-true, lt-ltb}
use Rattle.basics.specs.Tests.{first_met}
use Rattle.basics.specs.Below.{any_below}
use Rattle.basics.proofs.Bools.{by_bool, no_clash, and_true, not_false→true, not_true→false, beq_same}
use Rattle.basics.proofs.Below.{any_true}
use Rattle.bits.specs.Digits.{value}
use Rattle.consensus.specs.Events.{Event, claim, deliver, step, lose, answer, History, Opening, Openable, ballots}
use Rattle.consensus.specs.State as play
use Rattle.consensus.specs.Rules.{is_bit, number, after}
use Rattle.consensus.specs.Rules as rules
use Rattle.consensus.specs.Terms.{ClaimsFit, PutIn, Lost, Decided, Supplied}
use Rattle.consensus.specs.Told as told_of
use Rattle.consensus.proofs.Invariant.{StageOk}
use Rattle.consensus.proofs.Reached.{reached}
use Rattle.consensus.proofs.Accepted.{put_in_shown, lost_shown}
use Rattle.consensus.proofs.Ballots.{in_bounds}
use Rattle.consensus.proofs.Beginnings.{itself}
use Rattle.consensus.proofs.Never.{never_refused}
use Rattle.consensus.proofs.Demand3.{supplied_shown}
use Rattle.entry.specs.declared.entry.Stage.{Stage}
use Rattle.entry.specs.declared.entry.Stage.TheVariants.{Idle, Waiting, Voting, Awaiting, Seeking, FinishVoting, FinishAwaiting, Decided as HasDecided}
use Rattle.entry.specs.declared.entry.Station.{Station}
use Rattle.entry.specs.Stages.{not_idle, is_decided}
use Rattle.entry.specs.Entries.{bit_ballot, was_cast}
use Rattle.event.specs.Places.{step_ballot}
use Rattle.settlement.specs.declared.record.Settlement.{Settlement}
use Rattle.settlement.specs.Record.{entry, ballot}
use Rattle.settlement.specs.Events.{played}
use Rattle.settlement.specs.Look.{looked}
use Rattle.settlement.specs.Link.{record_after, stage_of}
use Rattle.settlement.proofs.Link.Linked.{Linked, cast_some}
use Rattle.settlement.proofs.Link.Numbers.{idle_same, ballot_of_round, ballot_answered}
use Rattle.settlement.proofs.Link.Demands.{demands, linked_after}
use Rattle.closing.specs.Turn.{left, holds, at_hand, lacks, awaits, awaited, is_missing, answer_bit}
use Rattle.closing.proofs.Due.{reply, Due, own_due, claim_due, answer_due, step_due, Sound}

-- ---- an event of a closing log

-- no CLAIM and no LOSE
abbrev pub Quiet : Event → Type 0
Quiet (claim s v) = ⊥
Quiet (deliver t s) = Unit {0}
Quiet (step s) = Unit {0}
Quiet (lose s) = ⊥
Quiet (answer b v) = Unit {0}

-- what holds of its station, if it is a STEP
abbrev pub IfStep : (ℕ → Type 0) → Event → Type 0
IfStep C (claim s v) = Unit {0}
IfStep C (deliver t s) = Unit {0}
IfStep C (step s) = C s
IfStep C (lose s) = Unit {0}
IfStep C (answer b v) = Unit {0}

-- the event e after the list g
pub record Fair (o : Opening) (g : History) (e : Event) : Type 0 where
  pub quiet : Quiet e
  pub accepted : (played (record_after o g) e).number ≡ 0
  pub supplied : IfStep (λ s. Supplied o s g) e

-- ---- who is left, in the words of the list

pub record LeftAfter (o : Opening) (s : ℕ) (g : History) : Type 0 where
  pub station : s < o.count
  pub claim : ℕ
  pub put_in : PutIn o s claim g
  pub live : Lost o s g → ⊥
  pub undecided : (w : ℕ) → Decided o s w g → ⊥

-- ---- the awaited ballot, by stage

module _ (o : Opening) (rule : ℕ) (same : (k : ℕ) → bit_ballot rule k ≡ rules.bit_ballot o k) where
  -- a station that awaits a ballot voted in it
  awaited_cast : (st : play.State) (holdings : ℕ → Bool) (cast : ℕ → Option Bool) (x : Stage) (j k d v : ℕ)
      → StageOk o st (stage_of x j k d v) holdings cast → awaits x ≡ true → (a : Bool) × (cast (step_ballot rule k x) ≡ some a)
  awaited_cast st holdings cast Idle j k d v y e = no_clash true refl (sym e)
  awaited_cast st holdings cast Waiting j k d v y e = no_clash true refl (sym e)
  awaited_cast st holdings cast Voting j k d v y e = no_clash true refl (sym e)
  awaited_cast st holdings cast Awaiting j k d v y e = (_, ap cast (same k) ∙ y.1)
  awaited_cast st holdings cast Seeking j k d v y e = no_clash true refl (sym e)
  awaited_cast st holdings cast FinishVoting j k d v y e = no_clash true refl (sym e)
  awaited_cast st holdings cast FinishAwaiting j k d v y e = (_, y.2)
  awaited_cast st holdings cast HasDecided j k d v y e = no_clash true refl (sym e)

  -- the ballot that its stage awaits is the ballot of its round
  awaited_same : (x : Stage) (j k d v b : ℕ) → told_of.awaited o (stage_of x j k d v) ≡ some b → (awaits x ≡ true) × (step_ballot rule k x ≡ b)
  awaited_same Idle j k d v b e = absurd (none-ne-some b e)
  awaited_same Waiting j k d v b e = absurd (none-ne-some b e)
  awaited_same Voting j k d v b e = absurd (none-ne-some b e)
  awaited_same Awaiting j k d v b e = (refl, same k ∙ some-injective _ b e)
  awaited_same Seeking j k d v b e = absurd (none-ne-some b e)
  awaited_same FinishVoting j k d v b e = absurd (none-ne-some b e)
  awaited_same FinishAwaiting j k d v b e = (refl, some-injective _ b e)
  awaited_same HasDecided j k d v b e = absurd (none-ne-some b e)

-- where some bit was cast, the bit of the answer was
answer_bit_cast : (f : Bool → Bool) (a x : Bool) → f x ≡ true → f (cond (f a) a (not a)) ≡ true
answer_bit_cast f a x e = by_bool (f a) (λ q. rw q q) (λ q. rw q (other a x q e))
  where
    other : (a x : Bool) → f a ≡ false → f x ≡ true → f (not a) ≡ true
    other true true q e = no_clash _ e q
    other true false q e = e
    other false true q e = e
    other false false q e = no_clash _ e q

-- ---- the events accepted, on a state of the play

module _ (o : Opening) (st : play.State) where
  deliver_passes : (t s : ℕ) → t < o.count → s < o.count → (st.station s).lost ≡ false → play.claimed st t ≡ true → play.held st s t ≡ false
      → number o st (deliver t s) ≡ 0
  unfolding number
  deliver_passes t s l m live c n = rw (lt-ltb t o.count l, lt-ltb s o.count m, live, c, n)

  answer_passes : (b : ℕ) (x : Bool) → b < ballots o → st.answer_of b ≡ none → rules.was_cast o st b x ≡ true → number o st (answer b (value x)) ≡ 0
  unfolding number
  answer_passes b true l n c = rw (lt-ltb b (ballots o) l, n, c)
  answer_passes b false l n c = rw (lt-ltb b (ballots o) l, n, c)

unanswered : (y : Option Bool) → play.answered y ≡ false → y ≡ none
unanswered none e = refl
unanswered (some x) e = no_clash true refl e

-- ---- on a record reached from an opening

module _ (o : Opening) (op : Openable o) (g : History) (fit : ClaimsFit g) where
  abbrev r : Settlement
  r = record_after o g

  abbrev st : play.State
  st = after o g

  linked : Linked o r st
  linked = linked_after o op g fit

  pub sound : Sound r
  sound = record { stations = linked.stations; ballots = linked.ballots; passes = (demands.in_ranges o op g fit).no_fault }

  pub count_same : r.count ≡ o.count
  count_same = linked.count

  pub numbers : (e : Event) → (played r e).number ≡ number o st e
  numbers e = ((demands.demand3 o op g fit).told g (itself g)).numbers e

  module _ (s : ℕ) (below : s < o.count) where
    abbrev t : Station
    t = entry r s

    -- LOOK says whether it has decided
    look_here : (looked r s).decided ≡ is_decided t.stage
    unfolding looked first_met
    look_here = rw (sound.passes, lt-ltb s r.count (rw count_same below))

    looks : ((looked r s).decided ≡ true) ↔ ((v : ℕ) × Decided o s v g)
    looks = ((demands.demand3 o op g fit).told g (itself g)).look_exactly s

    claimed_shown : not_idle t.stage ≡ play.claimed st s
    claimed_shown = idle_same o op r st linked (reached o g) s below

    -- the test on the record, both ways
    pub left_told : left r s ≡ true → LeftAfter o s g
    left_told e =
        let x = and_true (not t.lost) (not_idle t.stage && not (is_decided t.stage)) e in
        let y = and_true (not_idle t.stage) (not (is_decided t.stage)) x.1 in
        record {
          station = below;
          claim = play.claim_of st s;
          put_in = (put_in_shown o s _ g).1 (sym claimed_shown ∙ y.0, refl);
          live = λ l. no_clash t.lost ((linked.entries s below).lost ∙ (lost_shown o s g).0 l) (not_true→false _ x.0);
          undecided = λ w d. no_clash (is_decided t.stage) (sym look_here ∙ looks.1 (w, d)) (not_true→false _ y.1);
        }

    -- one that put in a claim and is live, but not left, has decided
    pub unless_left : (v : ℕ) → PutIn o s v g → (Lost o s g → ⊥) → left r s ≡ false → (w : ℕ) × Decided o s w g
    unless_left v p live e = by_bool (is_decided t.stage) yes_case (λ d. no_clash (left r s) (rw (live_here, claimed_here, d)) e)
      where
        live_here : t.lost ≡ false
        live_here = by_bool t.lost (λ q. absurd (live ((lost_shown o s g).1 (sym (linked.entries s below).lost ∙ q)))) (λ q. q)

        claimed_here : not_idle t.stage ≡ true
        claimed_here = claimed_shown ∙ ((put_in_shown o s v g).0 p).0

        yes_case : is_decided t.stage ≡ true → (w : ℕ) × Decided o s w g
        yes_case d = looks.0 (look_here ∙ d)

    pub told_left : LeftAfter o s g → left r s ≡ true
    told_left x =
        by_bool (left r s) (λ e. e) (λ e. let d = unless_left x.claim x.put_in x.live e in absurd (x.undecided d.0 d.1))

    -- ---- what is due

    held_shown : (i : ℕ) → holds r s i ≡ play.held st s i
    held_shown i = (linked.entries s below).holds i

    rounds_ballot : (k : ℕ) → bit_ballot r.rule k ≡ rules.bit_ballot o k
    rounds_ballot k = ballot_of_round o op r st linked (reached o g) k

    answered_shown : (b : ℕ) → (ballot r b).answered ≡ play.answered (st.answer_of b)
    answered_shown b = ballot_answered o op r st linked (reached o g) b

    deliver_accepted : (u : ℕ) → u < o.count → LeftAfter o s g → play.claimed st u ≡ true → holds r s u ≡ false → number o st (deliver u s) ≡ 0
    deliver_accepted u l x c n =
        deliver_passes o st u s l below (by_bool (st.station s).lost (λ q. absurd (x.live ((lost_shown o s g).1 q))) (λ q. q)) c (sym (held_shown u) ∙ n)

    voted : awaits t.stage ≡ true → (x : Bool) × ((st.station s).cast (awaited r s) ≡ some x)
    voted e =
        awaited_cast o r.rule rounds_ballot st (st.station s).holds (st.station s).cast t.stage t.cursor t.round t.word t.decision
        (subst (λ (y : play.Stage). StageOk o st y (st.station s).holds (st.station s).cast) (sym (linked.entries s below).stage)
        ((reached o g).parts s).stage)
        e

    reply_accepted : (a : Bool) → is_missing r s ≡ true → number o st (reply r a s) ≡ 0
    reply_accepted a e =
        let both = and_true (awaits t.stage) (not (ballot r (awaited r s)).answered) e in
        let v = voted both.0 in
        let b = awaited r s in
        answer_passes o st b (answer_bit a (ballot r b)) ((in_bounds o g fit).ballot s b v.0 v.1)
        (unanswered (st.answer_of b) (sym (answered_shown b) ∙ not_true→false _ both.1))
        (sym (cast_some o r st linked b (answer_bit a (ballot r b)))
        ∙ answer_bit_cast (was_cast (ballot r b)) a v.0
        (cast_some o r st linked b v.0
        ∙ any_true o.count (λ i. is_bit v.0 ((st.station i).cast b)) s below (ap (is_bit v.0) v.1 ∙ beq_same v.0)))

    -- a claim that any station holds is at hand
    held_at_hand : (u i : ℕ) → play.held st u i ≡ true → at_hand r i ≡ true
    held_at_hand u i h =
        let p = ((reached o g).parts u).holdings i h in
        rw (idle_same o op r st linked (reached o g) i p.1 ∙ p.2)
        (any_true r.count (λ j. holds r j i) u (subst (λ (n : ℕ). u < n) (sym count_same) p.0) ((linked.entries u p.0).holds i ∙ h))

    answers_had : is_missing r s ≡ false → (b : ℕ) → told_of.awaited o (st.station s).stage ≡ some b → play.answered (st.answer_of b) ≡ true
    answers_had e b w =
        let here = ap (told_of.awaited o) (linked.entries s below).stage ∙ w in
        let x = awaited_same o r.rule rounds_ballot t.stage t.cursor t.round t.word t.decision b here in
        sym (answered_shown b)
        ∙ subst (λ (c : ℕ). (ballot r c).answered ≡ true) x.1
        (not_false→true _ (subst (λ (y : Bool). (y && not (ballot r (awaited r s)).answered) ≡ false) x.0 e))

    module _ (own : holds r s s ≡ true) (full : (i : ℕ) → i < r.count → lacks r s i ≡ false) where
      -- what any station holds, s holds
      all_held : (u i : ℕ) → play.held st u i ≡ true → play.held st s i ≡ true
      all_held u i h =
          let inside = subst (λ (n : ℕ). i < n) (sym count_same) (((reached o g).parts u).holdings i h).1 in
          sym (held_shown i)
          ∙ by_bool (holds r s i) (λ q. q)
          (λ q.
          by_bool (eqb i s) (λ e. ap (λ (j : ℕ). holds r s j) (eqb-true i s e) ∙ own)
          (λ e. no_clash (lacks r s i) (rw (e, q, held_at_hand u i h)) (full i inside)))

      step_supplied : is_missing r s ≡ false → Supplied o s g
      step_supplied e = (supplied_shown o s g).1 (sym (held_shown s) ∙ own, all_held, answers_had e)

    -- ---- so it is accepted, and a STEP is supplied

    step_accepted : LeftAfter o s g → Supplied o s g → number o st (step s) ≡ 0
    step_accepted x y = never_refused o g fit s x.claim x.put_in x.live x.undecided y

    claim_accepted : (u : ℕ) → u < r.count → LeftAfter o s g → lacks r s u ≡ true → number o st (deliver u s) ≡ 0
    claim_accepted u l x e =
        let p = and_true (not (eqb u s)) (not (holds r s u) && at_hand r u) e in
        let q = and_true (not (holds r s u)) (at_hand r u) p.1 in
        let below_it = subst (λ (n : ℕ). u < n) count_same l in
        let c = (and_true (not_idle (entry r u).stage) (any_below r.count (λ i. holds r i u)) q.1).0 in
        deliver_accepted u below_it x (sym (idle_same o op r st linked (reached o g) u below_it) ∙ c) (not_true→false _ q.0)

    -- all of it
    pub due_fair : (a : Bool) {e : Event} → LeftAfter o s g → Due r a s e → Fair o g e
    due_fair a x (own_due n) =
        record {
          quiet = tt;
          accepted = numbers (deliver s s) ∙ deliver_accepted s below x ((put_in_shown o s x.claim g).0 x.put_in).0 n;
          supplied = tt;
        }
    due_fair a x (claim_due u own l e first) = record { quiet = tt; accepted = numbers (deliver u s) ∙ claim_accepted u l x e; supplied = tt }
    due_fair a x (answer_due own full e) = record { quiet = tt; accepted = numbers (reply r a s) ∙ reply_accepted a e; supplied = tt }
    due_fair a x (step_due own full e) =
        let y = step_supplied own full e in record { quiet = tt; accepted = numbers (step s) ∙ step_accepted x y; supplied = y }

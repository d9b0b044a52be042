-- Demands 2 and 3 about the operations: the record is tied to the play after every list, so numbers are the same, and LOOK reads off the entry
-- what the list tells of the station. Assumes nothing.
use Prim.Native.Nat.{ℕ, zero, suc, ◌+◌, ◌<◌, ◌≤◌, zero-le}
use mathlib.Core.Path.{◌≡◌, refl, sym, subst, ◌∙◌, ap, ap₂}
use mathlib.Core.Logic.{inl, inr, ⊎_elim}
use mathlib.Core.Bool.{Bool, true, false, cond, not, ◌||◌}
use mathlib.Core.Option.{none, some, none-ne-some, some-injective}
use native.Mathlib.Omega.{arith}
use native.Mathlib.Nat.{pos_of_ne-zero}
use native.Mathlib.Numerals.{add-one}
use lib.Dec.{eqb, ltb}
use lib.ListN.{length, get_or, replicate, length-replicate}
use borrow.Author.Tests.{eqb-true, eqb-false, ne_eqb, le-ltb, lt-ltb, ltb-true, ltb-false}
use Rattle.bits.specs.Log.{ceil_log2}
use Rattle.bits.specs.Words.{member}
use Rattle.bits.proofs.Masks.{member_none}
use Rattle.consensus.specs.Events.{Event, claim, deliver, step, lose, answer, History, start, ◌▷◌, Rule, rule_1, rule_2, Opening, Openable}
use Rattle.consensus.specs.State as play
use Rattle.consensus.specs.Rules as rules
use Rattle.basics.specs.Tests.{refuse, first_met}
use Rattle.basics.specs.Below.{any_below}
use Rattle.consensus.specs.Terms.{decision, voted_in, Repeat, Decided, Fitting, ClaimsFit}
use Rattle.basics.proofs.Bools.{by_bool, no_clash, not_false→true, or_false}
use Rattle.basics.proofs.Refusals.{refused_not, met}
use Rattle.consensus.proofs.Invariant as invariant
use Rattle.consensus.proofs.Reached.{reached, step_accepted}
use Rattle.consensus.proofs.Station.{taken}
use Rattle.consensus.proofs.Longest.{fit_beginning}
use Rattle.consensus.proofs.Ballots.{Short, round_below}
use Rattle.consensus.proofs.Told.{stage_after, voted_shown, decided_shown, shown_decided}
use Rattle.consensus.proofs.Agree.{length_up_to}
use Rattle.consensus.proofs.Demand3 as play_proofs
use Rattle.consensus.proofs.Figures as figure_proofs
use Rattle.entry.specs.declared.entry.Stage.{Stage}
use Rattle.entry.specs.declared.entry.Stage.TheVariants.{Idle, Waiting, Voting, Awaiting, Seeking, FinishVoting, FinishAwaiting, Decided as HasDecided}
use Rattle.entry.specs.declared.entry.Station.{Station}
use Rattle.settlement.specs.declared.record.Settlement.{Settlement}
use Rattle.consensus.specs.Rules.{finish_ballot}
use Rattle.entry.specs.Entries.{bit_ballot, station_entries, ballot_entries, blank_station, blank_ballot, no_station, voters}
use Rattle.settlement.specs.Record.{entry, ballot}
use Rattle.entry.specs.Stages.{is_decided}
use Rattle.settlement.specs.Fault.{fault}
use Rattle.settlement.specs.Events.{open_tests, number, outcome, fresh, blank, opened, effect, played}
use Rattle.settlement.specs.Look.{Standing, look_tests}
use Rattle.settlement.specs.Look.{votes, standing, turned_away, looked}
use Rattle.settlement.specs.Link.{rule_number, record_after, stage_of, answer_in, ShowsPlay}
use Rattle.settlement.specs.Demands.{AnswersTold, InRanges, Demand2OfRecords, blank_number, Demands}
use Rattle.settlement.proofs.Link.Linked.{EntryShows, Linked, linked_shows}
use Rattle.settlement.proofs.Link.Faultless.{rule_known, faultless}
use Rattle.settlement.proofs.Link.Numbers.{bit_ballot_same, ballot_answered, number_same}
use Rattle.settlement.proofs.Link.Effects.{effect_linked}
use Rattle.settlement.proofs.Answers.{again}

-- ---- OPEN

open_accepted : (o : Opening) → Openable o → first_met (open_tests o.count (rule_number o.rule)) ≡ 0
unfolding first_met
open_accepted o a =
    let low : eqb o.count 0 ≡ false = ne_eqb o.count 0 (λ e. let l = a.some_station in omega arith) in
    ap₂ (λ (x y : Bool). refuse (x || y) 40 (refuse (not (eqb (rule_number o.rule) 1 || eqb (rule_number o.rule) 2)) 41 0)) low (le-ltb station_entries o.count a.not_too_many)
    ∙ ap (λ (x : Bool). refuse x 41 0) (rule_known o.rule)

opened_fresh : (o : Opening) → Openable o
    → opened o.count (rule_number o.rule) ≡ record { number = 0; settlement = fresh o.count (rule_number o.rule) }
unfolding opened outcome
opened_fresh o a = ap (λ (k : ℕ). outcome k (fresh o.count (rule_number o.rule)) blank) (open_accepted o a)

all_blank : {A : Type 0} (n i : ℕ) (x : A) → get_or (replicate n x) i x ≡ x
all_blank zero i x = refl
all_blank (suc n) zero x = refl
all_blank (suc n) (suc i) x = all_blank n i x

fresh_linked : (o : Opening) → Openable o → Linked o (fresh o.count (rule_number o.rule)) play.fresh
fresh_linked o a = record {
  count = refl;
  rule = refl;
  stations = length-replicate station_entries blank_station;
  ballots = length-replicate ballot_entries blank_ballot;
  entries = λ s b.
      subst (λ (t : Station). EntryShows o.count t play.untouched) (sym (all_blank station_entries s blank_station))
      (record { stage = refl; claim = refl; holds = λ i. member_none i; lost = refl; cursor = a.some_station; early = (refl, refl) });
  answer = λ b. ap answer_in (all_blank ballot_entries b blank_ballot);
  cast = λ b s y l. uncast b s y;
  cast_only = λ b s y l. uncast b s y;
}
  where
    blank_uncast : (s : ℕ) (y : Bool) → member s (voters blank_ballot y) ≡ false
    blank_uncast s true = member_none s
    blank_uncast s false = member_none s

    uncast : (b s : ℕ) (y : Bool) → member s (voters (ballot (fresh o.count (rule_number o.rule)) b) y) ≡ false
    uncast b s y = ap (λ t. member s (voters t y)) (all_blank ballot_entries b blank_ballot) ∙ blank_uncast s y

-- ---- lists

module _ (o : Opening) (a : Openable o) where
  next_linked : (r : Settlement) (st : play.State) → Linked o r st → invariant.Inv o st → Short o st → (e : Event)
      → Linked o (played r e).settlement (rules.next o st e)
  unfolding played outcome rules.next
  next_linked r st l inv short e =
      let same = number_same o a r st l inv short e in
      subst (λ (k : ℕ). Linked o (cond (eqb k 0) (effect r e) r) (cond (eqb (rules.number o st e) 0) (rules.effect o st e) st)) (sym same)
      (by_bool (eqb (rules.number o st e) 0)
      (λ t. subst (λ (b : Bool). Linked o (cond b (effect r e) r) (cond b (rules.effect o st e) st)) (sym t) (effect_linked o a r st l inv short e (eqb-true _ 0 t)))
      (λ t. subst (λ (b : Bool). Linked o (cond b (effect r e) r) (cond b (rules.effect o st e) st)) (sym t) l))

  pub linked_after : (h : History) → ClaimsFit h → Linked o (record_after o h) (rules.after o h)
  unfolding record_after rules.after
  linked_after start f = subst (λ x. Linked o x.settlement play.fresh) (sym (opened_fresh o a)) (fresh_linked o a)
  linked_after (h ▷ e) f = next_linked (record_after o h) (rules.after o h) (linked_after h f.0) (reached o h) (round_below o h f.0) e

-- ---- LOOK

decision_same : (g : Stage) (j k d v : ℕ) → decision (stage_of g j k d v) ≡ cond (is_decided g) (some v) none
decision_same Idle j k d v = refl
decision_same Waiting j k d v = refl
decision_same Voting j k d v = refl
decision_same Awaiting j k d v = refl
decision_same Seeking j k d v = refl
decision_same FinishVoting j k d v = refl
decision_same FinishAwaiting j k d v = refl
decision_same HasDecided j k d v = refl

-- votes by stage, for each rule
votes_same_by : (n : ℕ) (q : Rule) (r : Settlement) → r.count ≡ n → r.rule ≡ rule_number q → (t : Station) (g : Stage)
    → votes r.count r.rule t g ≡ invariant.votes (record { count = n; rule = q }) (stage_of g t.cursor t.round t.word t.decision)
unfolding votes
votes_same_by n q r c e t Idle = refl
votes_same_by n q r c e t Waiting = refl
votes_same_by n q r c e t Voting = ap (λ (x : ℕ). bit_ballot x t.round) e ∙ bit_ballot_same q t.round
votes_same_by n q r c e t Awaiting = ap (λ (x : ℕ). bit_ballot x t.round + 1) e ∙ ap (λ (b : ℕ). b + 1) (bit_ballot_same q t.round) ∙ add-one _
votes_same_by n q r c e t Seeking = ap (λ (x : ℕ). bit_ballot x t.round + 1) e ∙ ap (λ (b : ℕ). b + 1) (bit_ballot_same q t.round) ∙ add-one _
votes_same_by n q r c e t FinishVoting = refl
votes_same_by n q r c e t FinishAwaiting = omega arith
votes_same_by n q r c e t HasDecided =
    ap₂ (λ (x m : ℕ). cond (eqb x 1) (ceil_log2 m) (finish_ballot t.round + 1)) e c ∙ all_votes q
  where
    all_votes : (q : Rule)
        → cond (eqb (rule_number q) 1) (ceil_log2 n) (finish_ballot t.round + 1) ≡ invariant.votes_by q (record { count = n; rule = q }) (play.decided t.decision t.round)
    all_votes rule_1 = refl
    all_votes rule_2 = omega arith

-- who has decided is a station
decided_station : (o : Opening) (s v : ℕ) (h : History) → Decided o s v h → s < o.count
decided_station o s v start d = absurd d
decided_station o s v (h ▷ e) (inl d) = decided_station o s v h d
decided_station o s v (h ▷ e) (inr d) = (step_accepted o (rules.after o h) s (taken o (rules.after o h) s e d.0).accepted).station

module _ (o : Opening) (a : Openable o) (h : History) (f : ClaimsFit h) where
  abbrev r : Settlement
  r = record_after o h

  linked : Linked o r (rules.after o h)
  linked = linked_after o a h f

  clear : fault r ≡ false
  clear = faultless o a r (rules.after o h) linked (reached o h) (round_below o h f)

  look_number : (s : ℕ) → first_met (look_tests r s) ≡ refuse (no_station r.count s) 1 0
  unfolding first_met
  look_number s = ap (λ (b : Bool). refuse b 42 (refuse (no_station r.count s) 1 0)) clear

  look_inside : (s : ℕ) → s < o.count → looked r s ≡ standing r.count r.rule (entry r s)
  unfolding looked
  look_inside s b =
      ap (λ (k : ℕ). cond (eqb k 0) (standing r.count r.rule (entry r s)) (turned_away k))
      (look_number s ∙ ap (λ (x : Bool). refuse (not x) 1 0) (lt-ltb s r.count (subst (λ (n : ℕ). s < n) (sym linked.count) b)))

  look_outside : (s : ℕ) → o.count ≤ s → looked r s ≡ turned_away 1
  unfolding looked
  look_outside s b =
      ap (λ (k : ℕ). cond (eqb k 0) (standing r.count r.rule (entry r s)) (turned_away k))
      (look_number s ∙ ap (λ (x : Bool). refuse (not x) 1 0) (le-ltb s r.count (subst (λ (n : ℕ). n ≤ s) (sym linked.count) b)))

  look_votes : (s : ℕ) → s < o.count → votes r.count r.rule (entry r s) (entry r s).stage ≡ length (voted_in o s h)
  look_votes s b =
      votes_same_by o.count o.rule r linked.count linked.rule (entry r s) (entry r s).stage
      ∙ ap (invariant.votes o) (linked.entries s b).stage
      ∙ sym (ap length (voted_shown o s h) ∙ length_up_to _)

  -- what the entry says of a decision is what the list tells
  entry_decision : (s : ℕ) → s < o.count → cond (is_decided (entry r s).stage) (some (entry r s).decision) none ≡ decision (stage_after o s h)
  entry_decision s b =
      sym (decision_same (entry r s).stage (entry r s).cursor (entry r s).round (entry r s).word (entry r s).decision)
      ∙ ap decision (linked.entries s b).stage

  abbrev told_as : Bool → ℕ → ℕ → Standing
  told_as d v k = record { number = 0; decided = d; claim = v; votes = k }

  entry_decided : (s v : ℕ) → s < o.count → Decided o s v h → (is_decided (entry r s).stage ≡ true) × ((entry r s).decision ≡ v)
  entry_decided s v b d = go (is_decided (entry r s).stage) (entry_decision s b ∙ decided_shown o s v h d)
    where
      go : (x : Bool) → cond x (some (entry r s).decision) none ≡ some v → (x ≡ true) × ((entry r s).decision ≡ v)
      go true e = (refl, some-injective _ v e)
      go false e = absurd (none-ne-some v e)

  entry_undecided : (s : ℕ) → s < o.count → ((v : ℕ) → Decided o s v h → ⊥) → is_decided (entry r s).stage ≡ false
  entry_undecided s b n =
      by_bool (is_decided (entry r s).stage)
      (λ e.
      absurd
      (n (entry r s).decision
      (shown_decided o s (entry r s).decision h (sym (entry_decision s b) ∙ ap (λ (x : Bool). cond x (some (entry r s).decision) none) e))))
      (λ e. e)

  look_decided : (s v : ℕ) → s < o.count → Decided o s v h → looked r s ≡ told_as true v (length (voted_in o s h))
  look_decided s v b d =
      let x = entry_decided s v b d in
      look_inside s b
      ∙ ap (λ (y : Bool). told_as y (cond y (entry r s).decision 0) (votes r.count r.rule (entry r s) (entry r s).stage)) x.0
      ∙ ap₂ (told_as true) x.1 (look_votes s b)

  look_undecided : (s : ℕ) → s < o.count → ((v : ℕ) → Decided o s v h → ⊥) → looked r s ≡ told_as false 0 (length (voted_in o s h))
  look_undecided s b n =
      look_inside s b
      ∙ ap (λ (y : Bool). told_as y (cond y (entry r s).decision 0) (votes r.count r.rule (entry r s) (entry r s).stage)) (entry_undecided s b n)
      ∙ ap (told_as false 0) (look_votes s b)

  numbers : (e : Event) → (played r e).number ≡ rules.number o (rules.after o h) e
  unfolding played outcome
  numbers e = number_same o a r (rules.after o h) linked (reached o h) (round_below o h f) e

  -- LOOK says decided: then the list tells which claim
  decided_by_look : (s : ℕ) → (looked r s).decided ≡ true → (v : ℕ) × (s < o.count) × Decided o s v h
  decided_by_look s e =
      by_bool (ltb s o.count) (λ t. inside (ltb-true s o.count t))
      (λ t. no_clash (looked r s).decided e (ap (λ (x : Standing). x.decided) (look_outside s (ltb-false s o.count t))))
    where
      inside : s < o.count → (v : ℕ) × (s < o.count) × Decided o s v h
      inside b =
          let x : is_decided (entry r s).stage ≡ true = sym (ap (λ (y : Standing). y.decided) (look_inside s b)) ∙ e in (
            (entry r s).decision,
            b,
            shown_decided o s (entry r s).decision h (sym (entry_decision s b) ∙ ap (λ (y : Bool). cond y (some (entry r s).decision) none) x),
          )

  told : AnswersTold o h r
  told = record {
    numbers = numbers;
    look_decided = look_decided;
    look_undecided = look_undecided;
    look_nobody = look_outside;
    look_exactly = λ s. (
      λ e. let x = decided_by_look s e in (x.0, x.2),
      λ d. ap (λ (x : Standing). x.decided) (look_decided s d.0 (decided_station o s d.0 h d.1) d.1),
    );
  }

  looks_agree : (p q : ℕ) → (looked r p).decided ≡ true → (looked r q).decided ≡ true → looked r p ≡ looked r q
  looks_agree p q e g =
      let x = decided_by_look p e in
      let y = decided_by_look q g in
      let same = ((play_proofs.demand3).holds o a h f).agreement p q x.0 y.0 x.2 y.2 in
      look_decided p x.0 x.1 x.2
      ∙ ap₂ (told_as true) same.claim (ap length same.ballots)
      ∙ sym (look_decided q y.0 y.1 y.2)

  in_ranges : InRanges o h
  in_ranges = record { no_fault = clear; no_42 = λ e z. (play_proofs.no_event_42).holds o h f e (sym (numbers e) ∙ z) }

  -- the record after one more event shows the play's state after it
  shows_next : (e : Event) → Fitting e → ShowsPlay o (played r e).settlement (rules.after o (h ▷ e))
  unfolding record_after
  shows_next e fit = linked_shows o (record_after o (h ▷ e)) (rules.after o (h ▷ e)) (linked_after o a (h ▷ e) (f, fit))

  -- a repeat answers the bit that stands in the record
  repeat_stays : (e : Event) → Repeat o e h → played r e ≡ record { number = 0; settlement = r }
  unfolding played outcome
  repeat_stays (claim s v) x = absurd x
  repeat_stays (deliver t s) x = absurd x
  repeat_stays (step s) x = absurd x
  repeat_stays (lose s) x = absurd x
  repeat_stays (answer b v) x =
      let stands = ((((play_proofs.told).words o h).repeats b v).0 x).1 in
      again r b v (ballot_answered o a r (rules.after o h) linked (reached o h) b ∙ ap play.answered stands)
      (numbers (answer b v) ∙ (((figure_proofs.demand2).holds o a h f).repeated (answer b v) x).accepted)

  demand2 : Demand2OfRecords o h
  demand2 =
      let d = (figure_proofs.demand2).holds o a h f in record {
        shown = (rules.after o h, linked_shows o r (rules.after o h) linked, d.shown);
        accepted = λ e fit z.
            ⊎_elim (λ x. inl (x.0, x.1, (rules.after o (h ▷ e), shows_next e fit, x.2))) (λ x. inr x) (d.accepted e (sym (numbers e) ∙ z));
        repeated = λ e x.
            let y = d.repeated e x in record { accepted = repeat_stays e x; not_allowed = y.not_allowed; figure_stays = y.figure_stays };
        allowed = λ e fit y step.
            let x = d.allowed e y step in (numbers e ∙ x.0, (rules.after o (h ▷ e), shows_next e fit, x.1));
      }

-- ---- OPEN accepts nothing else, and the blank settlement nothing

known_rule : (rule : ℕ) → not (eqb rule 1 || eqb rule 2) ≡ false → (q : Rule) × (rule_number q ≡ rule)
known_rule rule e =
    by_bool (eqb rule 1) (λ x. (rule_1, sym (eqb-true rule 1 x)))
    (λ x. (rule_2, sym (eqb-true rule 2 (not_false→true _ (subst (λ (b : Bool). not (b || eqb rule 2) ≡ false) x e)))))

opens_only : (n rule : ℕ) → (opened n rule).number ≡ 0 → (o : Opening) × Openable o × (o.count ≡ n) × (rule_number o.rule ≡ rule)
unfolding opened outcome first_met
opens_only n rule e =
    let x = refused_not (eqb n 0 || ltb station_entries n) 40 _ refl e in
    let y = refused_not (not (eqb rule 1 || eqb rule 2)) 41 0 refl x.1 in
    let both = or_false (eqb n 0) (ltb station_entries n) x.0 in
    let q = known_rule rule y.0 in (
      record { count = n; rule = q.0 },
      record { some_station = pos_of_ne-zero (eqb-false n 0 both.0); not_too_many = ltb-false station_entries n both.1 },
      refl,
      q.1,
    )

nobody : (s : ℕ) → no_station 0 s ≡ true
nobody s = ap not (le-ltb s 0 zero-le)

blank_number_is : (e : Event) → number blank e ≡ blank_number e
unfolding number first_met fault any_below
blank_number_is (claim s v) = met (no_station 0 s) 1 _ (nobody s)
blank_number_is (deliver t s) = met (no_station 0 t || no_station 0 s) 1 _ (ap (λ (b : Bool). b || no_station 0 s) (nobody t))
blank_number_is (step s) = met (no_station 0 s) 1 _ (nobody s)
blank_number_is (lose s) = met (no_station 0 s) 1 _ (nobody s)
blank_number_is (answer b v) = met (not (ltb b 0)) 9 _ (ap not (le-ltb b 0 zero-le))

blank_refused : (e : Event) → cond (eqb (blank_number e) 0) (effect blank e) blank ≡ blank
blank_refused (claim s v) = refl
blank_refused (deliver t s) = refl
blank_refused (step s) = refl
blank_refused (lose s) = refl
blank_refused (answer b v) = refl

blank_refuses : (e : Event) → played blank e ≡ record { number = blank_number e; settlement = blank }
unfolding played outcome
blank_refuses e = ap (λ (k : ℕ). outcome k (effect blank e) blank) (blank_number_is e) ∙ ap (λ (x : Settlement). record { number = blank_number e; settlement = x }) (blank_refused e)

blank_shows : (s : ℕ) → looked blank s ≡ turned_away 1
unfolding looked first_met fault any_below
blank_shows s =
    ap (λ (k : ℕ). cond (eqb k 0) (standing 0 1 (entry blank s)) (turned_away k)) (met (no_station 0 s) 1 _ (nobody s))

-- ---- all together

pub demands : Demands
demands = record {
  opens = λ o a. ap (λ x. x.number) (opened_fresh o a);
  opens_only = opens_only;
  blank_refuses = blank_refuses;
  blank_shows = blank_shows;
  in_ranges = in_ranges;
  demand2 = demand2;
  demand3 = λ o a h f. record {
    told = λ g b. told o a g (fit_beginning g h b f);
    demand = (play_proofs.demand3).holds o a h f;
    never_refused = λ g b p v put live undecided x.
        numbers o a g (fit_beginning g h b f) (step p) ∙ ((play_proofs.demand3).holds o a h f).never_refused g b p v put live undecided x;
    looks_agree = looks_agree o a h f;
  };
}

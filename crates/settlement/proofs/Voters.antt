-- Who voted which way: a look at a ballot test by test, what an event leaves of the sets, and the sets beside the play. From an opening each station's
-- vote stands in one set, since the play keeps one bit of it; so those in either set are those that voted. Assumes nothing.
use Prim.Native.Nat.{ℕ, ◌+◌, ◌≤◌, ◌<◌}
use mathlib.Core.Path.{◌≡◌, refl, sym, subst, ◌∙◌, ap, ap₂}
use mathlib.Core.Logic.{inl, inr, ◌↔◌, ⊎_elim}
use mathlib.Core.Bool.{Bool, true, false, not, cond, ◌&&◌, ◌||◌, true≢false}
use mathlib.Core.List.{List, [], ◌∷◌}
use mathlib.Core.Option.{Option, none, some}
use lib.Dec.{eqb, ltb}
use lib.ListN.{length, get_or, set}
use lib.Seq.{get_or-set_same}
use borrow.Author.Tests.{eqb-true, eqb-false, eq-eqb, ne_eqb, lt-ltb, le-ltb, ltb-true, ltb-false}
use Rattle.basics.specs.Tests.{first_met}
use Rattle.basics.specs.Below.{count_below}
use Rattle.basics.proofs.Bools.{by_bool, cond_ind, no_clash, not_true→false, or_later, both_ways, beq_same, beq_true}
use Rattle.basics.proofs.Lists.{set_keeps}
use Rattle.basics.proofs.Below.{count_same, count_past, count_either}
use Rattle.bits.specs.Words.{mask_bits, member, size}
use Rattle.bits.proofs.Masks.{some_member, some_in}
use Rattle.consensus.specs.Events.{Event, claim, deliver, step, lose, answer, History, Opening, Openable}
use Rattle.consensus.specs.Events as events
use Rattle.consensus.specs.State.{answered}
use Rattle.consensus.specs.Rules.{is_bit, as_bit, after}
use Rattle.consensus.specs.Terms.{ClaimsFit, first_answer, voted_in}
use Rattle.consensus.specs.Told.{Listed}
use Rattle.consensus.proofs.Demand3.{told}
use Rattle.consensus.proofs.Reached.{reached}
use Rattle.consensus.proofs.Ballots.{round_below}
use Rattle.entry.specs.declared.entry.Ballot.{Ballot}
use Rattle.entry.specs.Entries.{blank_ballot, ballots, voters, was_cast, casting, answering}
use Rattle.event.specs.Step.{voted}
use Rattle.event.specs.Change.{ballot_after}
use Rattle.event.proofs.Said.{puts_in}
use Rattle.settlement.specs.declared.record.Settlement.{Settlement}
use Rattle.settlement.specs.Record.{entry, ballot, ballot_in, view}
use Rattle.settlement.specs.Fault.{fault}
use Rattle.settlement.specs.Events.{number, outcome, effect, played}
use Rattle.settlement.specs.Link.{record_after}
use Rattle.settlement.specs.Tally.{tally, tallied}
use Rattle.settlement.specs.Laws.{Outside}
use Rattle.settlement.specs.Voters.{nothing_tallied, BallotShown, Casts, by_station, by_claim, finish_yes, finish_no, Voted, CastsIn, BallotLaws, is_among, answer_shown, VotersOf, WhoVoted, NeverMeet}
use Rattle.settlement.proofs.Demand1.{demand1}
use Rattle.settlement.proofs.Laws.{outside_fault, passing}
use Rattle.settlement.proofs.Stays.{event_stays}
use Rattle.settlement.proofs.Link.Linked.{Linked, cast_some}
use Rattle.settlement.proofs.Link.Faultless.{faultless}
use Rattle.settlement.proofs.Link.Numbers.{ballots_count}
use Rattle.settlement.proofs.Link.Demands.{linked_after}

-- ---- a look at a ballot

module _ (r : Settlement) (b : ℕ) where
  shown_42 : Outside r → tallied r b ≡ nothing_tallied 42
  unfolding tallied first_met
  shown_42 o = rw (outside_fault r o)

  shown_9 : fault r ≡ false → ballots r.count r.rule ≤ b → tallied r b ≡ nothing_tallied 9
  unfolding tallied first_met
  shown_9 passes h = rw (passes, le-ltb b (ballots r.count r.rule) h)

  pub shown_whole : fault r ≡ false → b < ballots r.count r.rule → tallied r b ≡ tally (ballot r b)
  unfolding tallied first_met
  shown_whole passes h = rw (passes, lt-ltb b (ballots r.count r.rule) h)

tally_shown : (u : Ballot) → BallotShown u (tally u)
unfolding tally size
tally_shown u = record {
  number = refl;
  cast0 = refl;
  cast1 = refl;
  count0 = refl;
  count1 = refl;
  answered = refl;
  answer = λ e. rw e;
  no_answer = λ e. rw e;
}

shown_0 : (r : Settlement) (b : ℕ) → fault r ≡ false → b < ballots r.count r.rule → BallotShown (ballot r b) (tallied r b)
shown_0 r b passes h = subst (BallotShown (ballot r b)) (sym (shown_whole r b passes h)) (tally_shown (ballot r b))

-- ---- a set that is not empty

cast_exactly : (t : Ballot) (a : Bool) → (was_cast t a ≡ true) ↔ ((s : ℕ) × (member s (voters t a) ≡ true))
cast_exactly t a = (
  λ e. some_in (voters t a) (not_true→false (eqb (voters t a) 0) e),
  λ m. ap not (some_member m.0 (voters t a) m.1),
)

-- ---- what an event leaves of the sets

answer_leaves : (r : Settlement) (b v : ℕ) (a : Bool) → voters (ballot (played r (answer b v)).settlement b) a ≡ voters (ballot r b) a
unfolding played outcome effect ballot_after
answer_leaves r b v a =
    cond_ind (λ (x : Settlement). voters (ballot x b) a ≡ voters (ballot r b) a) (eqb (number r (answer b v)) 0) (effect r (answer b v)) r
    (λ e. set_keeps (λ (t : Ballot). voters t a ≡ voters (ballot r b) a) r.ballots b (answering (as_bit v) (ballot r b)) blank_ballot b refl refl)
    (λ e. refl)

sets_stay : (r : Settlement) (e : Event) (b : ℕ) (a : Bool) → (CastsIn r e b → ⊥)
    → voters (ballot (played r e).settlement b) a ≡ voters (ballot r b) a
sets_stay r (claim s v) b a h = ap (λ (t : Ballot). voters t a) ((event_stays r (claim s v)).ballots b h blank_ballot)
sets_stay r (deliver t s) b a h = ap (λ (t : Ballot). voters t a) ((event_stays r (deliver t s)).ballots b h blank_ballot)
sets_stay r (step s) b a h = ap (λ (t : Ballot). voters t a) ((event_stays r (step s)).ballots b h blank_ballot)
sets_stay r (lose s) b a h = ap (λ (t : Ballot). voters t a) ((event_stays r (lose s)).ballots b h blank_ballot)
sets_stay r (answer c v) b a h =
    by_bool (eqb b c)
    (λ e. subst (λ (i : ℕ). voters (ballot (played r (answer c v)).settlement i) a ≡ voters (ballot r i) a) (sym (eqb-true b c e)) (answer_leaves r c v a))
    (λ e. ap (λ (t : Ballot). voters t a) ((event_stays r (answer c v)).ballots b (eqb-false b c e) blank_ballot))

-- ---- a vote

-- the bit x is cast in b: that is the ballot that the STEP looks at, and what it makes of it
module _ (r : Settlement) (s b : ℕ) (x : Bool) where
  casts_at : Casts r s b x → (ballot_in r (step s) ≡ b) × (ballot_after (view r (step s)) (step s) ≡ casting s x (ballot r (ballot_in r (step s))))
  unfolding ballot_after voted
  casts_at (by_station rule stage place its_bit) = (rw (stage, rule) (sym place), rw (stage, rule, its_bit))
  casts_at (by_claim rule stage place its_bit) = (rw (stage, rule) (sym place), rw (stage, rule, its_bit))
  casts_at (finish_yes stage place same one) =
      (rw stage (sym place), rw (stage, eq-eqb (entry r s).word (entry r (entry r s).cursor).claim same, one))
  casts_at (finish_no stage place other zero) =
      (rw stage (sym place), rw (stage, ne_eqb (entry r s).word (entry r (entry r s).cursor).claim other, zero))

  cast_there : Casts r s b x → b < length r.ballots → (played r (step s)).number ≡ 0 → ballot (played r (step s)).settlement b ≡ casting s x (ballot r b)
  unfolding effect
  cast_there casts inside z =
      let at = casts_at casts in
      ap (λ (t : Settlement). ballot t b) (demand1.advanced r (step s) z)
      ∙ subst (λ (c : ℕ). get_or (set r.ballots c (ballot_after (view r (step s)) (step s))) b blank_ballot ≡ casting s x (ballot r c)) (sym at.0)
      (get_or-set_same r.ballots b (ballot_after (view r (step s)) (step s)) blank_ballot inside ∙ at.1 ∙ ap (λ (c : ℕ). casting s x (ballot r c)) at.0)
      ∙ ap (λ (c : ℕ). casting s x (ballot r c)) at.0

-- what casting makes of an entry
votes_so : (s : ℕ) (x : Bool) (t : Ballot) → Voted s x t (casting s x t)
votes_so s true t = record { its_set = puts_in s t.cast1; other_set = refl; answered = refl; answer = refl }
votes_so s false t = record { its_set = puts_in s t.cast0; other_set = refl; answered = refl; answer = refl }

pub ballot_laws : BallotLaws
ballot_laws = record {
  look_42 = λ r o b. shown_42 r b o;
  look_9 = λ r o b. shown_9 r b (passing r o);
  look_0 = λ r b i. shown_0 r b (passing r i.0) i.1;
  cast_exactly = cast_exactly;
  vote = λ r s b x casts inside z. subst (Voted s x (ballot r b)) (sym (cast_there r s b x casts inside z)) (votes_so s x (ballot r b));
  sets_stay = sets_stay;
}

-- ---- one bit of each station

bit_told : (a : Bool) (x : Option Bool) → (is_bit a x ≡ true) ↔ (x ≡ some a)
bit_told a none = (λ e. absurd (true≢false (sym e)), λ e. sym (ap is_none e))
  where
    is_none : Option Bool → Bool
    is_none none = true
    is_none (some x) = false
bit_told a (some x) = (λ e. ap some (beq_true x a e), λ e. ap (is_bit a) e ∙ beq_same a)

one_bit : (x : Option Bool) → is_bit false x ≡ true → is_bit true x ≡ false
one_bit none e = refl
one_bit (some true) e = sym e
one_bit (some false) e = refl

either_bit : (x : Option Bool) → (is_bit false x || is_bit true x) ≡ answered x
either_bit none = refl
either_bit (some true) = refl
either_bit (some false) = refl

-- ---- a number in a list

among : (b : ℕ) (l : List ℕ) → (is_among b l ≡ true) ↔ Listed b l
among b [] = (λ e. absurd (true≢false (sym e)), λ m. absurd m)
among b (c ∷ l) = (
  λ e. by_bool (eqb c b) (λ q. inl (eqb-true c b q)) (λ q. inr ((among b l).0 (subst (λ (t : Bool). (t || is_among b l) ≡ true) q e))),
  λ m. ⊎_elim (λ q. rw (eq-eqb c b q)) (λ n. or_later (eqb c b) (is_among b l) ((among b l).1 n)) m,
)

-- ---- every list from an opening

answer_alike : (d x : Bool) → cond d (some (d && x)) none ≡ cond d (some x) none
answer_alike true x = refl
answer_alike false x = refl

module _ (o : Opening) (a : Openable o) (h : History) (f : ClaimsFit h) (b : ℕ) where
  abbrev r : Settlement
  r = record_after o h

  linked : Linked o r (after o h)
  linked = linked_after o a h f

  -- the bit that s cast
  abbrev its_bit : ℕ → Option Bool
  its_bit s = ((after o h).station s).cast b

  exactly : (s : ℕ) (x : Bool) → s < o.count → (member s (voters (ballot r b) x) ≡ true) ↔ (its_bit s ≡ some x)
  exactly s x below = (
    λ e. (bit_told x (its_bit s)).0 (sym (linked.cast b s x below) ∙ e),
    λ e. linked.cast b s x below ∙ (bit_told x (its_bit s)).1 e,
  )

  only_stations : (s : ℕ) (x : Bool) → member s (voters (ballot r b) x) ≡ true → s < o.count
  only_stations s x e = by_bool (ltb s o.count) (λ q. ltb-true s o.count q) (λ q. no_clash _ e (linked.cast_only b s x (ltb-false s o.count q)))

  -- who is in the set of 0 is not in the set of 1
  apart : (s : ℕ) → member s (ballot r b).cast0 ≡ true → member s (ballot r b).cast1 ≡ false
  apart s e =
      let below = only_stations s false e in
      linked.cast b s true below ∙ one_bit (its_bit s) (sym (linked.cast b s false below) ∙ e)

  has_voted : (s : ℕ) → s < o.count → (member s (ballot r b).cast0 || member s (ballot r b).cast1) ≡ is_among b (voted_in o s h)
  has_voted s below =
      let voted = (told.words o h).voted s b in
      ap₂ (λ (x y : Bool). x || y) (linked.cast b s false below) (linked.cast b s true below)
      ∙ either_bit (its_bit s)
      ∙ both_ways (answered (its_bit s)) (is_among b (voted_in o s h))
      (λ e. (among b (voted_in o s h)).1 (voted.1 e))
      (λ e. voted.0 ((among b (voted_in o s h)).0 e))

  as_many : size (ballot r b).cast0 + size (ballot r b).cast1 ≡ count_below o.count (λ s. is_among b (voted_in o s h))
  unfolding size
  as_many =
      count_either mask_bits (λ s. member s (ballot r b).cast0) (λ s. member s (ballot r b).cast1) (λ s l. apart s)
      ∙ count_past o.count mask_bits (λ s. member s (ballot r b).cast0 || member s (ballot r b).cast1) a.not_too_many
      (λ s l. ap₂ (λ (x y : Bool). x || y) (linked.cast_only b s false l) (linked.cast_only b s true l))
      ∙ count_same o.count _ _ has_voted

  clear : fault r ≡ false
  clear = faultless o a r (after o h) linked (reached o h) (round_below o h f)

  same_ballots : ballots r.count r.rule ≡ events.ballots o
  same_ballots = ballots_count o a r (after o h) linked (reached o h)

  has_ballot : b < events.ballots o → b < ballots r.count r.rule
  has_ballot l = subst (λ (n : ℕ). b < n) (sym same_ballots) l

  look_answer : b < events.ballots o → answer_shown (tallied r b) ≡ first_answer o h b
  unfolding tally
  look_answer l =
      ap answer_shown (shown_whole r b clear (has_ballot l))
      ∙ answer_alike (ballot r b).answered (ballot r b).answer
      ∙ linked.answer b
      ∙ sym ((told.words o h).first b)

  voters_of : VotersOf o h b
  voters_of = record {
    exactly = exactly;
    cast = cast_some o r (after o h) linked b;
    only_stations = only_stations;
    as_many = as_many;
    look = λ l. shown_0 r b clear (has_ballot l);
    look_answer = look_answer;
    look_past = λ l. shown_9 r b clear (subst (λ (n : ℕ). n ≤ b) (sym same_ballots) l);
  }

pub who_voted : WhoVoted
who_voted o a h f b = voters_of o a h f b

pub never_meet : NeverMeet
never_meet o a h f b s zero_cast one_cast = true≢false (sym one_cast ∙ apart o a h f b s zero_cast)

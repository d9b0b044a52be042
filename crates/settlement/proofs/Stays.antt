-- What an event leaves as it was: a store at one place leaves every other place, and an entry stored again where it stood changes nothing.
-- Assumes nothing.
use Prim.Native.Nat.{ℕ}
use mathlib.Core.Path.{◌≡◌, refl, sym, subst, ◌∙◌, ap}
use mathlib.Core.Logic.{◌⊎◌, inl, inr, ⊎_elim}
use mathlib.Core.Bool.{false}
use mathlib.Core.List.{List}
use lib.Dec.{eqb}
use lib.ListN.{get_or, set, length-set}
use lib.Seq.{get_or-set_other, set-get_or}
use borrow.Author.Tests.{eqb-true}
use Rattle.basics.specs.Tests.{first_met}
use Rattle.basics.proofs.Bools.{by_bool, cond_ind}
use Rattle.basics.proofs.Lists.{set_again}
use Rattle.basics.proofs.Refusals.{refused_not}
use Rattle.consensus.specs.Events.{Event, claim, deliver, step, lose, answer}
use Rattle.entry.specs.declared.entry.Stage.{Stage}
use Rattle.entry.specs.declared.entry.Stage.TheVariants.{Idle, Waiting, Voting, Awaiting, Seeking, FinishVoting, FinishAwaiting, Decided}
use Rattle.entry.specs.declared.entry.Station.{Station}
use Rattle.entry.specs.declared.entry.Ballot.{Ballot}
use Rattle.entry.specs.Entries.{blank_station, blank_ballot}
use Rattle.event.specs.Places.{own_of}
use Rattle.event.specs.Step.{voted}
use Rattle.event.specs.Change.{own_after, ballot_after}
use Rattle.settlement.specs.declared.record.Settlement.{Settlement}
use Rattle.settlement.specs.Record.{entry, ballot, with_station, with_ballot, ballot_in, view}
use Rattle.settlement.specs.Fault.{fault}
use Rattle.settlement.specs.Events.{number, outcome, effect, played}
use Rattle.settlement.specs.Laws.{MayChange, MayChangeBallot, VotesIn, bit_by_station, bit_by_claim, whether_to_finish, Stays}
use Rattle.settlement.proofs.Range.{some_rule, other}

-- an entry stored again where it stood
same : {A : Type 0} (l : List A) (i : ℕ) (x y : A) → x ≡ get_or l i y → (j : ℕ) (d : A) → get_or (set l i x) j d ≡ get_or l j d
same l i x y e j d = ap (λ (l : List _). get_or l j d) (ap (set l i) e ∙ set-get_or l i y)

-- an entry stored again leaves the record as it was
pub ballot_again : (b : ℕ) (r : Settlement) → with_ballot b (ballot r b) r ≡ r
ballot_again b r =
    ap (λ (q : List Ballot). record { count = r.count; rule = r.rule; stations = r.stations; ballots = q }) (set_again r.ballots b blank_ballot)

pub station_again : (s : ℕ) (r : Settlement) → with_station s (entry r s) r ≡ r
station_again s r =
    ap (λ (q : List Station). record { count = r.count; rule = r.rule; stations = q; ballots = r.ballots }) (set_again r.stations s blank_station)

module _ (r : Settlement) where
  -- ---- the station entries

  stations_stay : (e : Event) (i : ℕ) → (MayChange e i → ⊥) → (d : Station) → get_or (effect r e).stations i d ≡ get_or r.stations i d
  unfolding effect own_after
  stations_stay (claim s v) i h d = get_or-set_other r.stations s i (own_after (view r (claim s v)) (claim s v)) d h
  stations_stay (deliver t s) i h d = get_or-set_other r.stations s i (own_after (view r (deliver t s)) (deliver t s)) d h
  stations_stay (step s) i h d = get_or-set_other r.stations s i (own_after (view r (step s)) (step s)) d h
  stations_stay (lose s) i h d = get_or-set_other r.stations s i (own_after (view r (lose s)) (lose s)) d h
  stations_stay (answer b a) i h d = same r.stations 0 (entry r 0) blank_station refl i d

  -- ---- the ballot entries

  -- a STEP casts a bit in that ballot, or leaves its entry
  votes_or_not : (s : ℕ) → fault r ≡ false → (g : Stage) → (entry r s).stage ≡ g
      → VotesIn r.rule (entry r s) (ballot_in r (step s)) ⊎ (voted (view r (step s)) s g ≡ (view r (step s)).ballot)
  unfolding voted
  votes_or_not s passes Idle e = inr refl
  votes_or_not s passes Waiting e = inr refl
  votes_or_not s passes Voting e =
      inl (by_bool (eqb r.rule 1) (λ one. bit_by_station (eqb-true _ _ one) e (rw (e, one)))
      (λ one. bit_by_claim (eqb-true _ _ (other _ _ (some_rule r passes) one)) e (rw (e, one))))
  votes_or_not s passes Awaiting e = inr refl
  votes_or_not s passes Seeking e = inr refl
  votes_or_not s passes FinishVoting e = inl (whether_to_finish e (rw e))
  votes_or_not s passes FinishAwaiting e = inr refl
  votes_or_not s passes Decided e = inr refl

  ballots_stay : fault r ≡ false → (e : Event) (i : ℕ) → (MayChangeBallot r e i → ⊥) → (d : Ballot)
      → get_or (effect r e).ballots i d ≡ get_or r.ballots i d
  unfolding effect ballot_after
  ballots_stay passes (claim s v) i h d = same r.ballots 0 (ballot r 0) blank_ballot refl i d
  ballots_stay passes (deliver t s) i h d = same r.ballots 0 (ballot r 0) blank_ballot refl i d
  ballots_stay passes (step s) i h d =
      ⊎_elim (λ votes. get_or-set_other r.ballots (ballot_in r (step s)) i (voted (view r (step s)) s (entry r s).stage) d (λ q. h (subst (VotesIn r.rule (entry r s)) (sym q) votes)))
      (λ stays. same r.ballots (ballot_in r (step s)) (voted (view r (step s)) s (entry r s).stage) blank_ballot stays i d)
      (votes_or_not s passes (entry r s).stage refl)
  ballots_stay passes (lose s) i h d = same r.ballots 0 (ballot r 0) blank_ballot refl i d
  ballots_stay passes (answer b a) i h d = get_or-set_other r.ballots b i (ballot_after (view r (answer b a)) (answer b a)) d h

-- ---- the record

refused_stays : (r : Settlement) (e : Event) → Stays r e r
refused_stays r e = record {
  count = refl;
  rule = refl;
  station_entries = refl;
  ballot_entries = refl;
  stations = λ i h d. refl;
  ballots = λ i h d. refl;
}

effect_stays : (r : Settlement) (e : Event) → fault r ≡ false → Stays r e (effect r e)
unfolding effect
effect_stays r e passes = record {
  count = refl;
  rule = refl;
  station_entries = length-set r.stations (own_of e) (own_after (view r e) e);
  ballot_entries = length-set r.ballots (ballot_in r e) (ballot_after (view r e) e);
  stations = stations_stay r e;
  ballots = ballots_stay r passes e;
}

-- an accepted event's record passes the record test
passed : (r : Settlement) (e : Event) → number r e ≡ 0 → fault r ≡ false
unfolding number first_met
passed r e h = (refused_not (fault r) 42 _ refl h).0

pub event_stays : (r : Settlement) (e : Event) → Stays r e (played r e).settlement
unfolding played outcome
event_stays r e =
    cond_ind (Stays r e) (eqb (number r e) 0) (effect r e) r (λ z. effect_stays r e (passed r e (eqb-true _ _ z))) (λ z. refused_stays r e)

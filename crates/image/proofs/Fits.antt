-- The numbers of a record that a list leads to fit their types: an event that is accepted leaves numbers that fit. Assumes nothing.
use Prim.Native.Nat.{ℕ, ◌+◌, ◌%◌, ◌≤◌, ◌<◌}
use mathlib.Core.Path.{◌≡◌, refl, sym, subst, ap, ◌∙◌}
use mathlib.Core.Logic.{◌⊎◌, inl, inr}
use mathlib.Core.Bool.{Bool, true, false}
use native.Mathlib.Nat.{mod-lt}
use native.Mathlib.Omega.{arith}
use lib.Dec.{eqb, ltb}
use lib.ListN.{length, get_or, set, length-set, length-replicate, get_or-replicate}
use lib.Seq.{get_or-set_same, get_or-set_other}
use borrow.Author.Tests.{eqb-true, eqb-false, ltb-true, ltb-false}
use Rattle.basics.proofs.Bools.{by_bool, cond_ind}
use Rattle.basics.proofs.Lists.{read_past, set_keeps}
use Rattle.bits.specs.Words.{insert}
use Rattle.bits.proofs.Words.{word_lt}
use Rattle.consensus.specs.Events.{Event, claim, deliver, step, lose, answer, History, start, ◌▷◌, Rule, rule_1, rule_2, Opening, Openable}
use Rattle.consensus.specs.Terms.{Fitting, ClaimsFit}
use Rattle.entry.specs.declared.entry.Stage.{Stage}
use Rattle.entry.specs.declared.entry.Stage.TheVariants.{Idle, Waiting, Voting, Awaiting, Seeking, FinishVoting, FinishAwaiting, Decided}
use Rattle.entry.specs.declared.entry.Station.{Station}
use Rattle.entry.specs.Stages.{at}
use Rattle.entry.specs.Entries.{by_station, blank_station, blank_ballot, moved, casting}
use Rattle.event.specs.declared.view.View.{View}
use Rattle.event.specs.Places.{own_of, next_cursor}
use Rattle.event.specs.Step.{next_round, at_once, started, staged, bit_taken, finish_taken, last_round, entry_after_seek, seeking_ends, sought, stepped, bit_voted, finish_voted, voted}
use Rattle.event.specs.Change.{own_after, ballot_after}
use Rattle.settlement.specs.declared.record.Settlement.{Settlement}
use Rattle.settlement.specs.Outcome.{Outcome}
use Rattle.settlement.specs.Record.{entry, ballot, beside_in, ballot_in, view}
use Rattle.settlement.specs.Events.{fresh, opened, effect, played}
use Rattle.settlement.specs.Link.{rule_number, record_after}
use Rattle.settlement.proofs.Demand1.{demand1}
use Rattle.settlement.proofs.Laws.{laws}
use Rattle.image.specs.Image.{StationFits, BallotFits, RecordFits}

-- ---- one entry

blank_fits : StationFits blank_station
blank_fits = record { cursor = omega arith; round = omega arith; held = omega arith; claim = omega arith; word = omega arith; decision = omega arith }

no_voters_fit : BallotFits blank_ballot
no_voters_fit = record { cast0 = omega arith; cast1 = omega arith }

moved_fits : (g : Stage) (j k d v : ℕ) (t : Station) → StationFits t → j < 256 → k < 256 → d < 4294967296 → v < 4294967296 → StationFits (moved g j k d v t)
moved_fits g j k d v t f hj hk hd hv = record { cursor = hj; round = hk; held = f.held; claim = f.claim; word = hd; decision = hv }

round_fits : (k : ℕ) → next_round k < 256
round_fits k = mod-lt (k + 1) (omega arith)

cursor_fits : (n j : ℕ) → n < 256 → next_cursor n j < 256
cursor_fits n j h =
    cond_ind (λ (x : ℕ). x < 256) (eqb n 0) 0 ((j + 1) % n) (λ e. omega arith)
    (λ e. let some = eqb-false n 0 e in let l = mod-lt (j + 1) (positive n some) in omega (arith, l))
  where
    positive : (n : ℕ) → (n ≡ 0 → ⊥) → 0 < n
    positive n d = omega (arith, d)

mask_fits : (t m : ℕ) → m < 4294967296 → insert t m < 4294967296
unfolding insert
mask_fits t m l = word_lt 32 t true m l

module _ (v : View) (n : v.count < 256) (own : StationFits v.own) (beside : StationFits v.beside) where
  started_fits : (s : ℕ) → s < 256 → StationFits (started v s)
  unfolding started
  started_fits s h =
      cond_ind StationFits (at_once v) _ _ (λ e. moved_fits Decided s _ _ _ v.own own h own.round own.word own.claim)
      (λ e. moved_fits Voting s _ _ _ v.own own h own.round own.word own.decision)

  staged_fits : (g : Stage) → StationFits (staged g v.own)
  staged_fits g = moved_fits g _ _ _ _ v.own own own.cursor own.round own.word own.decision

  taken_fits : StationFits (bit_taken v)
  unfolding bit_taken
  taken_fits =
      moved_fits Seeking _ _ _ _ v.own own own.cursor own.round (word_lt 32 v.own.round v.ballot.answer v.own.word own.word) own.decision

  finished_fits : StationFits (finish_taken v)
  unfolding finish_taken
  finished_fits =
      cond_ind StationFits v.ballot.answer _ _
      (λ e. moved_fits Decided _ _ _ _ v.own own own.cursor own.round own.word own.word)
      (λ e. moved_fits Voting _ _ _ _ v.own own own.cursor (round_fits v.own.round) own.word own.decision)

  sought_fits : (j : ℕ) → j < 256 → StationFits (sought v j)
  unfolding sought entry_after_seek
  sought_fits j h =
      cond_ind StationFits (seeking_ends v j) _ _
      (λ e.
      cond_ind StationFits (by_station v.rule) _ _
      (λ q.
      cond_ind StationFits (last_round v) _ _ (λ p. moved_fits Decided j _ _ _ v.own own h own.round own.word beside.claim)
      (λ p. moved_fits Voting j _ _ _ v.own own h (round_fits v.own.round) own.word own.decision))
      (λ q. moved_fits FinishVoting j _ _ _ v.own own h own.round own.word own.decision))
      (λ e. moved_fits Seeking j _ _ _ v.own own h own.round own.word own.decision)

  stepped_fits : (s : ℕ) → s < 256 → (g : Stage) → StationFits (stepped v s g)
  unfolding stepped
  stepped_fits s h Idle = own
  stepped_fits s h Waiting = started_fits s h
  stepped_fits s h Voting = staged_fits Awaiting
  stepped_fits s h Awaiting = taken_fits
  stepped_fits s h Seeking = sought_fits (next_cursor v.count v.own.cursor) (cursor_fits v.count v.own.cursor n)
  stepped_fits s h FinishVoting = staged_fits FinishAwaiting
  stepped_fits s h FinishAwaiting = finished_fits
  stepped_fits s h Decided = own

  own_fits : (e : Event) → Fitting e → own_of e < 256 → StationFits (own_after v e)
  unfolding own_after
  own_fits (claim s c) fit h =
      record { cursor = own.cursor; round = own.round; held = own.held; claim = fit; word = own.word; decision = own.decision }
  own_fits (deliver t s) fit h =
      record {
        cursor = own.cursor;
        round = own.round;
        held = mask_fits t v.own.held own.held;
        claim = own.claim;
        word = own.word;
        decision = own.decision;
      }
  own_fits (step s) fit h = stepped_fits s h v.own.stage
  own_fits (lose s) fit h =
      record { cursor = own.cursor; round = own.round; held = own.held; claim = own.claim; word = own.word; decision = own.decision }
  own_fits (answer b a) fit h = own

-- ---- a ballot: a vote is one station more in a set

module _ (v : View) (fits : BallotFits v.ballot) where
  cast_fits : (s : ℕ) (x : Bool) → BallotFits (casting s x v.ballot)
  cast_fits s true = record { cast0 = fits.cast0; cast1 = mask_fits s v.ballot.cast1 fits.cast1 }
  cast_fits s false = record { cast0 = mask_fits s v.ballot.cast0 fits.cast0; cast1 = fits.cast1 }

  voted_fits : (s : ℕ) (g : Stage) → BallotFits (voted v s g)
  unfolding voted
  voted_fits s g =
      cond_ind BallotFits (at Voting g) _ _ (λ e. cast_fits s (bit_voted v))
      (λ e. cond_ind BallotFits (at FinishVoting g) _ _ (λ d. cast_fits s (finish_voted v)) (λ d. fits))

  ballot_fits : (e : Event) → BallotFits (ballot_after v e)
  unfolding ballot_after
  ballot_fits (claim s c) = fits
  ballot_fits (deliver t s) = fits
  ballot_fits (step s) = voted_fits s v.own.stage
  ballot_fits (lose s) = fits
  ballot_fits (answer b a) = record { cast0 = fits.cast0; cast1 = fits.cast1 }

-- ---- the record

module _ (r : Settlement) (fits : RecordFits r) where
  -- past the array a blank entry is read
  entry_fits : (i : ℕ) → StationFits (entry r i)
  entry_fits i =
      by_bool (ltb i 32) (λ e. fits.stations i (ltb-true i 32 e))
      (λ e. subst StationFits (read_past r.stations blank_station 32 i fits.station_entries (ltb-false i 32 e)) blank_fits)

  voters_fit : (i : ℕ) → BallotFits (ballot r i)
  voters_fit i =
      by_bool (ltb i 64) (λ e. fits.ballots i (ltb-true i 64 e))
      (λ e. subst BallotFits (read_past r.ballots blank_ballot 64 i fits.ballot_entries (ltb-false i 64 e)) no_voters_fit)

  effect_fits : (e : Event) → Fitting e → RecordFits (effect r e)
  unfolding effect
  effect_fits e fit =
      record {
        count = fits.count;
        rule = fits.rule;
        station_entries = length-set r.stations (own_of e) (own_after (view r e) e) ∙ fits.station_entries;
        ballot_entries = length-set r.ballots _ _ ∙ fits.ballot_entries;
        stations = each;
        ballots = λ b h. set_keeps BallotFits r.ballots (ballot_in r e) (ballot_after (view r e) e) blank_ballot b
            (ballot_fits (view r e) (voters_fit (ballot_in r e)) e) (voters_fit b);
      }
    where
      each : (s : ℕ) → s < 32 → StationFits (get_or (set r.stations (own_of e) (own_after (view r e) e)) s blank_station)
      each s h = by_bool (eqb s (own_of e)) same other
        where
          same : eqb s (own_of e) ≡ true → StationFits (get_or (set r.stations (own_of e) (own_after (view r e) e)) s blank_station)
          same p =
              let q = eqb-true s (own_of e) p in
              let inside : own_of e < length r.stations = rw (fits.station_entries, ← q) h in
              let new = own_fits (view r e) fits.count (entry_fits (own_of e)) (entry_fits (beside_in r e)) e fit (omega (arith, q, h)) in
              rw q (subst StationFits (sym (get_or-set_same r.stations (own_of e) (own_after (view r e) e) blank_station inside)) new)

          other : eqb s (own_of e) ≡ false → StationFits (get_or (set r.stations (own_of e) (own_after (view r e) e)) s blank_station)
          other p =
              subst StationFits (sym (get_or-set_other r.stations (own_of e) s (own_after (view r e) e) blank_station (eqb-false s (own_of e) p))) (fits.stations s h)

  pub played_fits : (e : Event) → Fitting e → RecordFits (played r e).settlement
  played_fits e fit =
      by_bool (eqb (played r e).number 0)
      (λ p. subst RecordFits (sym (demand1.advanced r e (eqb-true _ 0 p))) (effect_fits e fit))
      (λ p. subst RecordFits (sym (demand1.unchanged r e (eqb-false _ 0 p))) fits)

pub fresh_fits : (n rule : ℕ) → n ≤ 32 → rule < 256 → RecordFits (fresh n rule)
fresh_fits n rule h l =
    record {
      count = omega arith;
      rule = l;
      station_entries = length-replicate 32 blank_station;
      ballot_entries = length-replicate 64 blank_ballot;
      stations = λ s b. subst StationFits (sym (get_or-replicate 32 s blank_station blank_station b)) blank_fits;
      ballots = λ b l. subst BallotFits (sym (get_or-replicate 64 b blank_ballot blank_ballot l)) no_voters_fit;
    }

opened_fits : (o : Opening) → Openable o → RecordFits (opened o.count (rule_number o.rule)).settlement
opened_fits o a =
    let rule = two o.rule in
    subst RecordFits (sym (ap (λ (x : Outcome). x.settlement) (laws.open_0 o.count (rule_number o.rule) a.some_station a.not_too_many rule.0)))
    (fresh_fits o.count (rule_number o.rule) a.not_too_many rule.1)
  where
    two : (q : Rule) → ((rule_number q ≡ 1) ⊎ (rule_number q ≡ 2)) × (rule_number q < 256)
    two rule_1 = (inl refl, omega arith)
    two rule_2 = (inr refl, omega arith)

pub after_fits : (o : Opening) → Openable o → (h : History) → ClaimsFit h → RecordFits (record_after o h)
unfolding record_after
after_fits o a start f = opened_fits o a
after_fits o a (h ▷ e) f = played_fits (record_after o h) (after_fits o a h f.0) e f.1

-- An event may be played on the entries at its places in the arrays. On a record that passes the record test, an event that its first test turns away
-- has that number wherever it looks; any other looks inside the arrays. Assumes nothing.
use Prim.Native.Nat.{ℕ, ◌<◌, ◌≤◌}
use mathlib.Core.Path.{◌≡◌, refl, sym, ◌∙◌, ap}
use mathlib.Core.Bool.{Bool, true, false, not, ◌||◌}
use native.Mathlib.Nat.{le_refl, lt_of_lt_of_le, mod-lt}
use native.Mathlib.Omega.{arith}
use lib.Dec.{eqb, ltb}
use borrow.Author.Tests.{lt-ltb, ltb-true, eqb-true, eqb-false}
use Rattle.basics.specs.Tests.{refuse, first_met}
use Rattle.basics.proofs.Bools.{by_bool, cond_ind, or_false, not_false→true}
use Rattle.basics.proofs.Refusals.{refused_not, met}
use Rattle.bits.specs.Words.{claim_bits}
use Rattle.bits.proofs.Log.{log_le}
use Rattle.consensus.specs.Events.{Event, claim, deliver, step, lose, answer}
use Rattle.entry.specs.declared.entry.Stage.{Stage}
use Rattle.entry.specs.declared.entry.Stage.TheVariants.{Voting, Awaiting, Seeking}
use Rattle.event.specs.declared.view.View.{View}
use Rattle.entry.specs.Stages.{at, in_round, on_finish}
use Rattle.entry.specs.Entries.{station_entries, ballot_entries, no_station, no_ballot, by_station, ballots}
use Rattle.event.specs.Places.{own_of, next_cursor, step_beside, step_ballot, within}
use Rattle.event.specs.Change.{number_on}
use Rattle.settlement.specs.declared.record.Settlement.{Settlement}
use Rattle.settlement.specs.Record.{entry, beside_in, ballot_in, view}
use Rattle.settlement.specs.Fault.{fault}
use Rattle.settlement.specs.Events.{outcome, number, effect, played}
use Rattle.settlement.specs.InPlace.{seen, stored, advanced, PlayedInPlace}
use Rattle.settlement.proofs.Refusals.{refused_outcome, accepted_outcome}
use Rattle.settlement.specs.Look.{look_tests}
use Rattle.settlement.specs.Tally.{tally_tests}
use Rattle.settlement.proofs.Range.{few_stations, cursor_below, round_below}

-- ---- the first test

abbrev outside : (n rule : ℕ) → Event → Bool
outside n rule (claim s v) = no_station n s
outside n rule (deliver t s) = no_station n t || no_station n s
outside n rule (step s) = no_station n s
outside n rule (lose s) = no_station n s
outside n rule (answer b a) = not (ltb b (ballots n rule))

abbrev outside_number : Event → ℕ
outside_number (claim s v) = 1
outside_number (deliver t s) = 1
outside_number (step s) = 1
outside_number (lose s) = 1
outside_number (answer b a) = 9

first_gives : (v : View) (e : Event) → outside v.count v.rule e ≡ true → number_on v e ≡ outside_number e
unfolding first_met
first_gives v (claim s c) h = met _ 1 _ h
first_gives v (deliver t s) h = met _ 1 _ h
first_gives v (step s) h = met _ 1 _ h
first_gives v (lose s) h = met _ 1 _ h
first_gives v (answer b a) h = met _ 9 _ h

-- ---- inside the arrays

pub ballots_few : (n rule : ℕ) → n ≤ station_entries → ballots n rule ≤ ballot_entries
ballots_few n rule few =
    cond_ind (λ (x : ℕ). x ≤ ballot_entries) (eqb n 0) _ _ (λ e. omega arith)
    (λ e. cond_ind (λ (x : ℕ). x ≤ ballot_entries) (by_station rule) _ _ (λ e. let few_rounds = log_le n 5 few in omega arith) (λ e. le_refl ballot_entries))

next_below : (n j : ℕ) → 0 < n → next_cursor n j < n
next_below n j some = cond_ind (λ (x : ℕ). x < n) (eqb n 0) _ _ (λ e. some) (λ e. mod-lt _ some)

beside_below : (n j : ℕ) (g : Stage) → j < n → step_beside n j g < n
beside_below n j g below = cond_ind (λ (x : ℕ). x < n) (at Seeking g) _ _ (λ e. next_below n j (omega arith)) (λ e. below)

pub ballot_below : (rule k : ℕ) (g : Stage) → ((in_round g || on_finish g) ≡ true → k < claim_bits) → step_ballot rule k g < ballot_entries
ballot_below rule k g low =
    cond_ind (λ (x : ℕ). x < ballot_entries) (on_finish g) _ _ (λ e. let l = low (either e) in omega arith)
    (λ e.
    cond_ind (λ (x : ℕ). x < ballot_entries) (at Voting g || at Awaiting g) _ _
    (λ h. let l = low (rw h) in cond_ind (λ (x : ℕ). x < ballot_entries) (by_station rule) _ _ (λ q. omega arith) (λ q. omega arith))
    (λ h. omega arith))
  where
    or_right : (a b : Bool) → b ≡ true → (a || b) ≡ true
    or_right true b e = refl
    or_right false b e = e

    either : on_finish g ≡ true → (in_round g || on_finish g) ≡ true
    either e = or_right (in_round g) (on_finish g) e

station_below : (n s : ℕ) → no_station n s ≡ false → s < n
station_below n s h = ltb-true s n (not_false→true _ h)

-- the places that the event looks at lie inside the arrays
record Inside (r : Settlement) (e : Event) : Type 0 where
  pub own : own_of e < station_entries
  pub beside : beside_in r e < station_entries
  pub ballot : ballot_in r e < ballot_entries

module _ (r : Settlement) (passes : fault r ≡ false) where
  station_inside : (s : ℕ) → no_station r.count s ≡ false → s < station_entries
  station_inside s h = lt_of_lt_of_le (station_below r.count s h) (few_stations r passes)

  inside : (e : Event) → outside r.count r.rule e ≡ false → Inside r e
  inside (claim s v) h = record { own = station_inside s h; beside = station_inside s h; ballot = omega arith }
  inside (deliver t s) h =
      let both = or_false (no_station r.count t) (no_station r.count s) h in
      record { own = station_inside s both.1; beside = station_inside t both.0; ballot = omega arith }
  inside (step s) h =
      let below = station_below r.count s h in
      record {
        own = station_inside s h;
        beside = lt_of_lt_of_le (beside_below r.count (entry r s).cursor (entry r s).stage (cursor_below r passes s below)) (few_stations r passes);
        ballot = ballot_below r.rule (entry r s).round (entry r s).stage (round_below r passes s below);
      }
  inside (lose s) h = record { own = station_inside s h; beside = station_inside s h; ballot = omega arith }
  inside (answer b a) h =
      record {
        own = omega arith;
        beside = omega arith;
        ballot = lt_of_lt_of_le (ltb-true b _ (not_false→true _ h)) (ballots_few r.count r.rule (few_stations r passes));
      }

-- ---- what is seen at the places

within_inside : (most i : ℕ) → i < most → within most i ≡ i
within_inside most i h = rw (lt-ltb i most h)

-- a LOOK that is not refused is of a station inside the array
pub look_place : (r : Settlement) (s : ℕ) → first_met (look_tests r s) ≡ 0 → within station_entries s ≡ s
unfolding first_met
look_place r s h =
    let passed = refused_not (fault r) 42 (refuse (no_station r.count s) 1 0) refl h in
    within_inside _ _ (station_inside r passed.0 s (refused_not _ 1 0 refl passed.1).0)

-- and a look at a ballot of one inside its array
pub tally_place : (r : Settlement) (b : ℕ) → first_met (tally_tests r b) ≡ 0 → within ballot_entries b ≡ b
unfolding first_met
tally_place r b h =
    let passed = refused_not (fault r) 42 (refuse (no_ballot r.count r.rule b) 9 0) refl h in
    let below = not_false→true _ (refused_not (no_ballot r.count r.rule b) 9 0 refl passed.1).0 in
    within_inside _ _ (lt_of_lt_of_le (ltb-true b _ below) (ballots_few r.count r.rule (few_stations r passed.0)))

module _ (r : Settlement) (passes : fault r ≡ false) (e : Event) where
  seen_is : Inside r e → seen r e ≡ view r e
  seen_is i = rw (within_inside _ _ i.own, within_inside _ _ i.beside, within_inside _ _ i.ballot)

  number_seen : number r e ≡ number_on (view r e) e
  unfolding number first_met
  number_seen = rw passes

  pub same_number : number r e ≡ number_on (seen r e) e
  same_number =
      number_seen
      ∙ by_bool (outside r.count r.rule e) (λ o. first_gives (view r e) e o ∙ sym (first_gives (seen r e) e o))
      (λ o. ap (λ (v : View). number_on v e) (sym (seen_is (inside r passes e o))))

  outside_refused : (e : Event) → outside_number e ≡ 0 → ⊥
  outside_refused (claim s v) h = omega arith
  outside_refused (deliver t s) h = omega arith
  outside_refused (step s) h = omega arith
  outside_refused (lose s) h = omega arith
  outside_refused (answer b a) h = omega arith

  pub same_effect : number r e ≡ 0 → effect r e ≡ stored r e
  unfolding effect
  same_effect z =
      by_bool (outside r.count r.rule e) (λ o. absurd (outside_refused e (sym (first_gives (view r e) e o) ∙ sym number_seen ∙ z)))
      (λ o. let i = inside r passes e o in rw (within_inside _ _ i.own, within_inside _ _ i.beside, within_inside _ _ i.ballot))

  -- ---- so this is what an event makes of the record

  pub played_refused : (number_on (seen r e) e ≡ 0 → ⊥) → played r e ≡ record { number = number_on (seen r e) e; settlement = r }
  unfolding played
  played_refused n = rw same_number (refused_outcome (number_on (seen r e) e) (effect r e) r n)

  pub played_accepted : number_on (seen r e) e ≡ 0 → played r e ≡ record { number = number_on (seen r e) e; settlement = stored r e }
  unfolding played
  played_accepted z = rw (same_number, same_effect (same_number ∙ z)) (accepted_outcome (number_on (seen r e) e) (stored r e) r z)

pub played_in_place : PlayedInPlace
unfolding advanced
played_in_place r passes e =
    by_bool (eqb (number_on (seen r e) e) 0)
    (λ z. let z = eqb-true (number_on (seen r e) e) 0 z in accepted_outcome (number_on (seen r e) e) (stored r e) r z ∙ sym (played_accepted r passes e z))
    (λ n. let n = eqb-false (number_on (seen r e) e) 0 n in refused_outcome (number_on (seen r e) e) (stored r e) r n ∙ sym (played_refused r passes e n))

pub played_faulty : (r : Settlement) (e : Event) → fault r ≡ true → played r e ≡ record { number = 42; settlement = r }
unfolding played number first_met outcome
played_faulty r e h = rw h

-- The laws of OPEN, the events and LOOK on every record: the record test clause by clause, the tests in their order, and what a store leaves of an
-- array. Assumes nothing.
use Prim.Native.Nat.{ℕ, ◌≤◌, ◌<◌}
use mathlib.Core.Path.{◌≡◌, refl, sym, ◌∙◌, ap}
use mathlib.Core.Logic.{◌⊎◌, inl, inr, ⊎_elim}
use mathlib.Core.Bool.{Bool, true, false, not, ◌&&◌, ◌||◌, true≢false}
use mathlib.Core.List.{List, [], ◌∷◌}
use native.Mathlib.Omega.{arith}
use lib.Dec.{eqb}
use borrow.Author.Tests.{ltb-true, leb-true, eqb-true, eqb-false, not-true, lt-ltb, le-ltb, eq-eqb, ne_eqb}
use Rattle.basics.specs.Tests.{first_met}
use Rattle.basics.proofs.Bools.{by_bool, no_clash, not_false→true, and_true}
use Rattle.basics.proofs.Below.{any_found}
use Rattle.bits.specs.Log.{ceil_log2}
use Rattle.consensus.specs.Events.{Event, claim, deliver, step, lose, answer}
use Rattle.consensus.specs.Rules.{finish_ballot}
use Rattle.entry.specs.declared.entry.Stage.{Stage}
use Rattle.entry.specs.declared.entry.Stage.TheVariants.{Idle, Waiting, Voting, Awaiting, Seeking, FinishVoting, FinishAwaiting, Decided}
use Rattle.entry.specs.declared.entry.Station.{Station}
use Rattle.event.specs.Tests.{step_tests, tests_on}
use Rattle.entry.specs.Stages.{at, in_round, on_finish, past_waiting}
use Rattle.settlement.specs.declared.record.Settlement.{Settlement}
use Rattle.basics.specs.Tests.{Test, when}
use Rattle.settlement.specs.Record.{entry, ballot, view}
use Rattle.settlement.specs.Events.{tests, number, outcome, opened, played}
use Rattle.settlement.specs.Look.{looked}
use Rattle.settlement.specs.Demand1.{MetFirst}
use Rattle.settlement.specs.Fault.{station_fault, fault_at, fault}
use Rattle.settlement.specs.Laws.{StationOutside, cursor, voting, awaiting, seeking, finish_voting, finish_awaiting, late}
use Rattle.settlement.specs.Laws.{Outside, many_stations, no_rule, some_station, TakesLastNo, starting, nothing_shown, Laws}
use Rattle.settlement.proofs.Demand1.{demand1}
use Rattle.settlement.proofs.Stays.{event_stays}
use Rattle.settlement.proofs.Answers.{none_9, above_10, other_11, nobody_12, first_0, stands_again}
use Rattle.settlement.proofs.Places.{played_faulty}
use Rattle.settlement.proofs.Range.{few_stations, some_rule, cursor_below, round_by_station, no_finish_by_station, round_by_claim}

-- ---- the record test

or_true : (a b : Bool) → (a || b) ≡ true → (a ≡ true) ⊎ (b ≡ true)
or_true true b e = inl refl
or_true false b e = inr e

-- which stages are in a round, on a finish ballot, past waiting
module _ (n rule : ℕ) (t : Station) where
  in_round_outside : (g : Stage) → t.stage ≡ g → in_round g ≡ true → rule ≡ 1 → ceil_log2 n ≤ t.round → StationOutside n rule t
  in_round_outside Idle e h one k = absurd (true≢false (sym h))
  in_round_outside Waiting e h one k = absurd (true≢false (sym h))
  in_round_outside Voting e h one k = voting one e k
  in_round_outside Awaiting e h one k = awaiting one e k
  in_round_outside Seeking e h one k = seeking one e k
  in_round_outside FinishVoting e h one k = absurd (true≢false (sym h))
  in_round_outside FinishAwaiting e h one k = absurd (true≢false (sym h))
  in_round_outside Decided e h one k = absurd (true≢false (sym h))

  on_finish_outside : (g : Stage) → t.stage ≡ g → on_finish g ≡ true → rule ≡ 1 → StationOutside n rule t
  on_finish_outside Idle e h one = absurd (true≢false (sym h))
  on_finish_outside Waiting e h one = absurd (true≢false (sym h))
  on_finish_outside Voting e h one = absurd (true≢false (sym h))
  on_finish_outside Awaiting e h one = absurd (true≢false (sym h))
  on_finish_outside Seeking e h one = absurd (true≢false (sym h))
  on_finish_outside FinishVoting e h one = finish_voting one e
  on_finish_outside FinishAwaiting e h one = finish_awaiting one e
  on_finish_outside Decided e h one = absurd (true≢false (sym h))

  station_outside : station_fault n rule t ≡ true → StationOutside n rule t
  unfolding station_fault
  station_outside h =
      ⊎_elim
      (λ abc.
      ⊎_elim
      (λ ab.
      ⊎_elim (λ a. cursor (leb-true _ _ a))
      (λ b.
      let p = and_true (eqb rule 1 && in_round t.stage) _ b in
      let q = and_true (eqb rule 1) _ p.0 in
      in_round_outside t.stage refl q.1 (eqb-true _ _ q.0) (leb-true _ _ p.1))
      (or_true _ _ ab))
      (λ c. let p = and_true (eqb rule 1) _ c in on_finish_outside t.stage refl p.1 (eqb-true _ _ p.0))
      (or_true _ _ abc))
      (λ d.
      let p = and_true (eqb rule 2 && past_waiting t.stage) _ d in
      let q = and_true (eqb rule 2) _ p.0 in
      late (eqb-true _ _ q.0) (not_at Idle refl q.1) (not_at Waiting refl q.1) (leb-true _ _ p.1))
      (or_true _ _ h)
    where
      not_at : (g : Stage) → past_waiting g ≡ false → past_waiting t.stage ≡ true → t.stage ≡ g → ⊥
      not_at g early h e = true≢false (sym h ∙ ap past_waiting e ∙ early)

past : (g : Stage) → (g ≡ Idle → ⊥) → (g ≡ Waiting → ⊥) → past_waiting g ≡ true
past Idle i w = absurd (i refl)
past Waiting i w = absurd (w refl)
past Voting i w = refl
past Awaiting i w = refl
past Seeking i w = refl
past FinishVoting i w = refl
past FinishAwaiting i w = refl
past Decided i w = refl

fault_outside : (r : Settlement) → fault r ≡ true → Outside r
unfolding fault
fault_outside r h =
    ⊎_elim
    (λ ab.
    ⊎_elim (λ a. many_stations (ltb-true _ _ a))
    (λ b.
    let either = eqb r.rule 1 || eqb r.rule 2 in
    let neither = not-true either b in no_rule (λ e. no_clash either (rw e) neither) (λ e. no_clash either (rw e) neither))
    (or_true _ _ ab))
    (λ c.
    let found = any_found r.count (fault_at r) c in
    some_station found.0 found.1 (station_outside r.count r.rule (entry r found.0) found.2))
    (or_true _ _ h)

-- a record that passes the test is not outside its ranges
module _ (r : Settlement) (passes : fault r ≡ false) where
  station_inside : (s : ℕ) → s < r.count → StationOutside r.count r.rule (entry r s) → ⊥
  station_inside s below (cursor j) = let h = cursor_below r passes s below in omega arith
  station_inside s below (voting one g k) = let h = round_by_station r passes s below (eq-eqb _ _ one) (rw g) in omega arith
  station_inside s below (awaiting one g k) = let h = round_by_station r passes s below (eq-eqb _ _ one) (rw g) in omega arith
  station_inside s below (seeking one g k) = let h = round_by_station r passes s below (eq-eqb _ _ one) (rw g) in omega arith
  station_inside s below (finish_voting one g) = no_clash _ (rw g) (no_finish_by_station r passes s below (eq-eqb _ _ one))
  station_inside s below (finish_awaiting one g) = no_clash _ (rw g) (no_finish_by_station r passes s below (eq-eqb _ _ one))
  station_inside s below (late two i w k) = let h = round_by_claim r passes s below (rw two) (past _ i w) in omega arith

  inside : Outside r → ⊥
  inside (many_stations n) = let h = few_stations r passes in omega arith
  inside (no_rule one two) = no_clash _ (some_rule r passes) (rw (ne_eqb _ _ one, ne_eqb _ _ two))
  inside (some_station s below t) = station_inside s below t

pub outside_fault : (r : Settlement) → Outside r → fault r ≡ true
outside_fault r o = by_bool (fault r) (λ e. e) (λ e. absurd (inside r e o))

pub passing : (r : Settlement) → (Outside r → ⊥) → fault r ≡ false
passing r o = by_bool (fault r) (λ e. absurd (o (fault_outside r e))) (λ e. e)

-- ---- 42 from an event

-- no test of the list has the number k
abbrev Others : ℕ → List Test → Type 0
Others k [] = Unit {0}
Others k (when met number ∷ ts) = (eqb number k ≡ false) × Others k ts

not_met : (k : ℕ) (ts : List Test) → Others k ts → MetFirst k ts → ⊥
not_met k [] o m = m
not_met k (when met number ∷ ts) o (inl m) = eqb-false number k o.0 m.1
not_met k (when met number ∷ ts) o (inr m) = not_met k ts o.1 m.1

is_finish_awaiting : (g : Stage) → at FinishAwaiting g ≡ true → g ≡ FinishAwaiting
is_finish_awaiting Idle e = absurd (true≢false (sym e))
is_finish_awaiting Waiting e = absurd (true≢false (sym e))
is_finish_awaiting Voting e = absurd (true≢false (sym e))
is_finish_awaiting Awaiting e = absurd (true≢false (sym e))
is_finish_awaiting Seeking e = absurd (true≢false (sym e))
is_finish_awaiting FinishVoting e = absurd (true≢false (sym e))
is_finish_awaiting FinishAwaiting e = refl
is_finish_awaiting Decided e = absurd (true≢false (sym e))

module _ (r : Settlement) where
  last_42 : (s : ℕ) → MetFirst 42 (step_tests (view r (step s)) s) → TakesLastNo r (step s)
  last_42 s (inl (_, k)) = absurd (omega arith)
  last_42 s (inr (_, inl (_, k))) = absurd (omega arith)
  last_42 s (inr (_, inr (_, inl (_, k)))) = absurd (omega arith)
  last_42 s (inr (_, inr (_, inr (_, inl (_, k))))) = absurd (omega arith)
  last_42 s (inr (_, inr (_, inr (_, inr (_, inl (_, k)))))) = absurd (omega arith)
  last_42 s (inr (_, inr (_, inr (_, inr (_, inr (waits, inl (takes, _))))))) =
      let t = entry r s in
      let last = eqb (finish_ballot t.round) 63 in
      let p = and_true (at FinishAwaiting t.stage && not (view r (step s)).ballot.answer) last takes in
      let q = and_true (at FinishAwaiting t.stage) _ p.0 in
      let g = is_finish_awaiting t.stage q.0 in
      let k : t.round ≡ 31 = omega (arith, eqb-true (finish_ballot t.round) 63 p.1) in
      (g, k, not_false→true (ballot r 63).answered (rw (g, k) at waits), not-true (ballot r 63).answer (rw (g, k) at q.1))
  last_42 s (inr (_, inr (_, inr (_, inr (_, inr (_, inr none)))))) = absurd none.1

  first_42 : (e : Event) → MetFirst 42 (tests r e) → Outside r ⊎ TakesLastNo r e
  first_42 (claim s v) (inl m) = inl (fault_outside r m.0)
  first_42 (claim s v) (inr m) = absurd (not_met 42 (tests_on (view r (claim s v)) (claim s v)) (refl, (refl, (refl, tt))) m.1)
  first_42 (deliver t s) (inl m) = inl (fault_outside r m.0)
  first_42 (deliver t s) (inr m) = absurd (not_met 42 (tests_on (view r (deliver t s)) (deliver t s)) (refl, (refl, (refl, (refl, tt)))) m.1)
  first_42 (step s) (inl m) = inl (fault_outside r m.0)
  first_42 (step s) (inr m) = inr (last_42 s m.1)
  first_42 (lose s) (inl m) = inl (fault_outside r m.0)
  first_42 (lose s) (inr m) = absurd (not_met 42 (tests_on (view r (lose s)) (lose s)) (refl, (refl, tt)) m.1)
  first_42 (answer b a) (inl m) = inl (fault_outside r m.0)
  first_42 (answer b a) (inr m) = absurd (not_met 42 (tests_on (view r (answer b a)) (answer b a)) (refl, (refl, (refl, (refl, tt)))) m.1)

  -- ---- 12 from an ANSWER

  first_12 : (b a : ℕ) → MetFirst 12 (tests r (answer b a)) → (ballot r b).answered ≡ false
  first_12 b a (inl (_, k)) = absurd (omega arith)
  first_12 b a (inr (_, inl (_, k))) = absurd (omega arith)
  first_12 b a (inr (_, inr (_, inl (_, k)))) = absurd (omega arith)
  first_12 b a (inr (_, inr (_, inr (_, inl (_, k))))) = absurd (omega arith)
  first_12 b a (inr (_, inr (_, inr (_, inr (_, inl (open_yet, _)))))) = not-true _ (and_true (not (ballot r b).answered) _ open_yet).0
  first_12 b a (inr (_, inr (_, inr (_, inr (_, inr none))))) = absurd none.1

-- ---- LOOK

module _ (r : Settlement) (s : ℕ) where
  shown_42 : Outside r → looked r s ≡ nothing_shown 42
  unfolding looked first_met
  shown_42 o = rw (outside_fault r o)

  shown_1 : (Outside r → ⊥) → r.count ≤ s → looked r s ≡ nothing_shown 1
  unfolding looked first_met
  shown_1 o h = rw (passing r o, le-ltb s r.count h)

  shown_0 : (Outside r → ⊥) → s < r.count → (looked r s).number ≡ 0
  unfolding looked first_met
  shown_0 o h = rw (passing r o, lt-ltb s r.count h)

shown_own : (r r' : Settlement) → (Outside r → ⊥) → (Outside r' → ⊥) → (s : ℕ) → r.count ≡ r'.count → r.rule ≡ r'.rule
    → entry r s ≡ entry r' s → looked r s ≡ looked r' s
unfolding looked first_met
shown_own r r' o o' s n k t = rw (passing r o, passing r' o', n, k, t)

-- ---- OPEN

refused_40 : (n rule : ℕ) → (n ≡ 0) ⊎ (32 < n) → opened n rule ≡ record { number = 40; settlement = starting 0 1 }
unfolding opened outcome first_met
refused_40 n rule (inl none) = rw none
refused_40 n rule (inr many) = rw (ne_eqb n 0 (λ e. omega arith), lt-ltb 32 n many)

refused_41 : (n rule : ℕ) → 1 ≤ n → n ≤ 32 → (rule ≡ 1 → ⊥) → (rule ≡ 2 → ⊥) → opened n rule ≡ record { number = 41; settlement = starting 0 1 }
unfolding opened outcome first_met
refused_41 n rule some few one two = rw (ne_eqb n 0 (λ e. omega arith), le-ltb 32 n few, ne_eqb rule 1 one, ne_eqb rule 2 two)

accepted : (n rule : ℕ) → 1 ≤ n → n ≤ 32 → (rule ≡ 1) ⊎ (rule ≡ 2) → opened n rule ≡ record { number = 0; settlement = starting n rule }
unfolding opened outcome first_met
accepted n rule some few (inl one) = rw (ne_eqb n 0 (λ e. omega arith), le-ltb 32 n few, one)
accepted n rule some few (inr two) = rw (ne_eqb n 0 (λ e. omega arith), le-ltb 32 n few, two)

pub laws : Laws
unfolding played
laws =
    record {
      tested = λ r. (fault_outside r, outside_fault r);
      event_42 = λ r o e. played_faulty r e (outside_fault r o);
      look_42 = λ r o s. shown_42 r s o;
      only_42 = λ r e h. first_42 r e ((demand1.refused r e 42 (λ z. omega arith)).0 h);
      look_1 = λ r o s. shown_1 r s o;
      look_0 = λ r o s. shown_0 r s o;
      look_own = shown_own;
      open_40 = refused_40;
      open_41 = refused_41;
      open_0 = accepted;
      stays = event_stays;
      none_9 = λ r o. none_9 r (passing r o);
      above_10 = λ r b a i. above_10 r (passing r i.0) b i.1 a;
      nobody_12 = λ r b x i. nobody_12 r (passing r i.0) b i.1 x;
      first_0 = λ r b x i. first_0 r (passing r i.0) b i.1 x;
      again = λ r b x i. stands_again r (passing r i.0) b i.1 x;
      other_11 = λ r b x i. other_11 r (passing r i.0) b i.1 x;
      only_12 = λ r b a h. first_12 r b a ((demand1.refused r (answer b a) 12 (λ z. omega arith)).0 h);
    }

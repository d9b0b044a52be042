-- What a record that passes the record test says of numbers in it: each bound is a clause of the test that is not met. Assumes nothing.
use Prim.Native.Nat.{ℕ, ◌≤◌, ◌<◌}
use native.Mathlib.Nat.{lt_of_lt_of_le}
use native.Mathlib.Omega.{arith}
use mathlib.Core.Path.{◌≡◌, refl}
use mathlib.Core.Bool.{Bool, true, false, not, ◌&&◌, ◌||◌}
use lib.Dec.{eqb, ltb, leb}
use borrow.Author.Tests.{ltb-false, leb-false}
use Rattle.bits.specs.Log.{ceil_log2}
use Rattle.bits.specs.Words.{claim_bits}
use Rattle.bits.proofs.Log.{log_le}
use Rattle.basics.specs.Below.{any_below}
use Rattle.basics.proofs.Bools.{by_bool, no_clash, not_false→true, or_false}
use Rattle.basics.proofs.Below.{any_none}
use Rattle.entry.specs.declared.entry.Stage.{Stage}
use Rattle.entry.specs.declared.entry.Station.{Station}
use Rattle.settlement.specs.declared.record.Settlement.{Settlement}
use Rattle.entry.specs.Entries.{station_entries, by_station}
use Rattle.settlement.specs.Record.{entry}
use Rattle.entry.specs.Stages.{in_round, on_finish, past_waiting}
use Rattle.settlement.specs.Fault.{station_fault, fault_at, fault}

unless : (a b : Bool) → (a && b) ≡ false → a ≡ true → b ≡ false
unless true b h e = h
unless false b h e = no_clash false e refl

pub other : (a b : Bool) → (a || b) ≡ true → a ≡ false → b ≡ true
other true b h e = no_clash true refl e
other false b h e = h

none_of_three : (a b c : Bool) → (a || b || c) ≡ false → (a ≡ false) × (b ≡ false) × (c ≡ false)
none_of_three a b c h = let ab = or_false a b (or_false (a || b) c h).0 in (ab.0, ab.1, (or_false (a || b) c h).1)

none_of_four : (a b c d : Bool) → (a || b || c || d) ≡ false → (a ≡ false) × (b ≡ false) × (c ≡ false) × (d ≡ false)
none_of_four a b c d h =
    let abc = none_of_three a b c (or_false (a || b || c) d h).0 in
    (abc.0, abc.1, abc.2, (or_false (a || b || c) d h).1)

acting_past : (g : Stage) → (in_round g || on_finish g) ≡ true → past_waiting g ≡ true
acting_past g h = rw h

-- the clauses of the record test, each unmet
pub record ClausesUnmet (r : Settlement) : Type 0 where
  pub few : ltb station_entries r.count ≡ false
  pub rule : not (eqb r.rule 1 || eqb r.rule 2) ≡ false
  pub stations : any_below r.count (fault_at r) ≡ false

pub record StationClausesUnmet (n rule : ℕ) (t : Station) : Type 0 where
  pub cursor : leb n t.cursor ≡ false
  pub round : (eqb rule 1 && in_round t.stage && leb (ceil_log2 n) t.round) ≡ false
  pub finish : (eqb rule 1 && on_finish t.stage) ≡ false
  pub late : (eqb rule 2 && past_waiting t.stage && leb claim_bits t.round) ≡ false

pub clauses_unmet : (r : Settlement) → fault r ≡ false → ClausesUnmet r
unfolding fault
clauses_unmet r h =
    let none =
    none_of_three (ltb station_entries r.count) (not (eqb r.rule 1 || eqb r.rule 2)) (any_below r.count (fault_at r)) h in
    record { few = none.0; rule = none.1; stations = none.2 }

pub station_clauses_unmet : (n rule : ℕ) (t : Station) → station_fault n rule t ≡ false → StationClausesUnmet n rule t
unfolding station_fault
station_clauses_unmet n rule t h =
    let none =
    none_of_four (leb n t.cursor) (eqb rule 1 && in_round t.stage && leb (ceil_log2 n) t.round) (eqb rule 1 && on_finish t.stage)
    (eqb rule 2 && past_waiting t.stage && leb claim_bits t.round) h in
    record { cursor = none.0; round = none.1; finish = none.2; late = none.3 }

module _ (r : Settlement) (passes : fault r ≡ false) where
  pub few_stations : r.count ≤ station_entries
  few_stations = ltb-false _ _ (clauses_unmet r passes).few

  pub some_rule : (eqb r.rule 1 || eqb r.rule 2) ≡ true
  some_rule = not_false→true _ (clauses_unmet r passes).rule

  module _ (s : ℕ) (below : s < r.count) where
    clauses : StationClausesUnmet r.count r.rule (entry r s)
    clauses = station_clauses_unmet r.count r.rule (entry r s) (any_none r.count (fault_at r) (clauses_unmet r passes).stations s below)

    pub cursor_below : (entry r s).cursor < r.count
    cursor_below = leb-false _ _ clauses.cursor

    pub round_by_station : by_station r.rule ≡ true → in_round (entry r s).stage ≡ true → (entry r s).round < ceil_log2 r.count
    round_by_station rule stage = leb-false _ _ (unless (by_station r.rule && in_round (entry r s).stage) _ clauses.round (rw (rule, stage)))

    pub no_finish_by_station : by_station r.rule ≡ true → on_finish (entry r s).stage ≡ false
    no_finish_by_station rule = unless _ _ clauses.finish rule

    pub round_by_claim : by_station r.rule ≡ false → past_waiting (entry r s).stage ≡ true → (entry r s).round < claim_bits
    round_by_claim rule stage =
        leb-false _ _
        (unless (eqb r.rule 2 && past_waiting (entry r s).stage) _ clauses.late (rw (other _ _ some_rule rule, stage)))

    pub round_below : (in_round (entry r s).stage || on_finish (entry r s).stage) ≡ true → (entry r s).round < claim_bits
    round_below acting =
        by_bool (by_station r.rule)
        (λ rule.
        let low : (entry r s).round < ceil_log2 r.count =
        round_by_station rule (by_bool (in_round (entry r s).stage) (λ e. e) (λ e. no_clash _ (other _ _ acting e) (no_finish_by_station rule))) in
        lt_of_lt_of_le low (omega (arith, log_le r.count 5 few_stations)))
        (λ rule. round_by_claim rule (acting_past (entry r s).stage acting))

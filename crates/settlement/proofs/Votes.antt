-- The votes that LOOK shows fit a byte: a LOOK that is not refused is of a record that passes the record test. Assumes nothing.
use Prim.Native.Nat.{ℕ, ◌+◌, ◌*◌, ◌≤◌, ◌<◌}
use native.Mathlib.Nat.{le_refl}
use native.Mathlib.Omega.{arith}
use mathlib.Core.Path.{◌≡◌, refl}
use mathlib.Core.Bool.{true, false, ◌||◌}
use mathlib.Core.List.{◌∷◌, []}
use borrow.Author.Tests.{ltb-true}
use Rattle.bits.specs.Log.{ceil_log2}
use Rattle.bits.specs.Words.{claim_bits}
use Rattle.bits.proofs.Log.{log_le}
use Rattle.basics.proofs.Bools.{cond_ind, not_false→true}
use Rattle.basics.proofs.Refusals.{refused_not}
use Rattle.entry.specs.declared.entry.Stage.{Stage}
use Rattle.entry.specs.declared.entry.Stage.TheVariants.{Idle, Waiting, Voting, Awaiting, Seeking, FinishVoting, FinishAwaiting, Decided}
use Rattle.settlement.specs.declared.record.Settlement.{Settlement}
use Rattle.settlement.specs.Record.{entry}
use Rattle.consensus.specs.Rules.{finish_ballot}
use Rattle.entry.specs.Entries.{by_station, bit_ballot, no_station}
use Rattle.entry.specs.Stages.{in_round, on_finish}
use Rattle.settlement.specs.Fault.{fault}
use Rattle.basics.specs.Tests.{when, first_met}
use Rattle.settlement.specs.Look.{look_tests, votes}
use Rattle.settlement.proofs.Range.{few_stations, round_below, round_by_claim}

pub bits_twice : (rule k : ℕ) → bit_ballot rule k ≤ 2 * k
bits_twice rule k = cond_ind (λ (n : ℕ). n ≤ 2 * k) (by_station rule) _ _ (λ b. omega arith) (λ b. le_refl _)

module _ (r : Settlement) (passes : fault r ≡ false) (s : ℕ) (below : s < r.count) where
  few_rounds : ceil_log2 r.count < 256
  few_rounds = omega (arith, log_le r.count 5 (few_stations r passes))

  acting : {g : Stage} → (entry r s).stage ≡ g → (in_round g || on_finish g) ≡ true → (entry r s).round < claim_bits
  acting e h = round_below r passes s below (rw e h)

  few : (g : Stage) → (entry r s).stage ≡ g → votes r.count r.rule (entry r s) g < 256
  unfolding votes
  few Idle e = omega arith
  few Waiting e = omega arith
  few Voting e = let k = acting e refl in omega (arith, bits_twice r.rule (entry r s).round)
  few Awaiting e = let k = acting e refl in omega (arith, bits_twice r.rule (entry r s).round)
  few Seeking e = let k = acting e refl in omega (arith, bits_twice r.rule (entry r s).round)
  few FinishVoting e = let k = acting e refl in omega arith
  few FinishAwaiting e = let k = acting e refl in omega arith
  few Decided e =
      cond_ind (λ (n : ℕ). n < 256) (by_station r.rule) (ceil_log2 r.count) (finish_ballot (entry r s).round + 1) (λ b. few_rounds)
      (λ b. let k = round_by_claim r passes s below b (rw e) in omega arith)

pub few_votes : (r : Settlement) (s : ℕ) → first_met (look_tests r s) ≡ 0 → votes r.count r.rule (entry r s) (entry r s).stage < 256
unfolding first_met
few_votes r s h =
    let passed = refused_not (fault r) 42 (first_met (when (no_station r.count s) 1 ∷ [])) refl h in
    let here = refused_not (no_station r.count s) 1 0 refl passed.1 in
    few r passed.0 s (ltb-true s r.count (not_false→true _ here.0)) (entry r s).stage refl

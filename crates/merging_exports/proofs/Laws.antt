-- What a caller reads off the answer: a count is no more than the buffer has bytes, so number and count come apart again. Assumes nothing.
use Prim.Native.Nat.{ℕ, ◌+◌, ◌*◌, ◌/◌, ◌%◌, ◌≤◌, ◌<◌}
use mathlib.Core.Path.{◌≡◌, refl}
use mathlib.Core.Bool.{Bool, true, false, not}
use mathlib.Core.List.{List}
use native.Mathlib.Omega.{arith}
use lib.Dec.{eqb, ltb}
use lib.ListN.{length}
use borrow.Author.Tests.{eqb-true, eq-eqb, ltb-false}
use Rattle.basics.specs.Tests.{refuse, first_met}
use Rattle.basics.proofs.Bools.{cond_ind, by_bool, no_clash}
use Rattle.merging.specs.Logs.{log_read}
use Rattle.merging.specs.Merge.{openings_differ, some_in_both, merged_of, merge_number, merge_bytes, merge_count}
use Rattle.merging_exports.specs.Exports.{merge_answer}
use Rattle.merging_exports.specs.Laws.{MergeTold}

its_number : (k c : ℕ) → (k * 72057594037927936 + c % 72057594037927936) / 72057594037927936 ≡ k
its_number k c = omega arith

its_count : (k c : ℕ) → c < 72057594037927936 → (k * 72057594037927936 + c % 72057594037927936) % 72057594037927936 ≡ c
its_count k c l = omega arith

-- a fault of 0 is not met
past_fault : (k rest : ℕ) → refuse (not (eqb k 0)) k rest ≡ 0 → rest ≡ 0
past_fault k rest e = by_bool (eqb k 0) (λ p. rw p at e) (λ p. let z : k ≡ 0 = rw p at e in no_clash (eqb k 0) (eq-eqb k 0 z) p)

-- where the one log does not fit, some test is met
some_met : (other in_both stuck : Bool) → refuse other 60 (refuse in_both 61 (refuse stuck 62 30)) ≡ 0 → ⊥
some_met true in_both stuck e = omega arith
some_met false true stuck e = omega arith
some_met false false true e = omega arith
some_met false false false e = omega arith

module _ (first second before : List ℕ) where
  -- accepted, it fits
  fits : merge_number first second (length before) ≡ 0 → length (merge_bytes first second) ≤ length before
  unfolding merge_number first_met
  fits e =
      by_bool (ltb (length before) (length (merge_bytes first second)))
      (λ p. absurd (some_met (openings_differ (log_read first) (log_read second)) (some_in_both (log_read first) (log_read second))
      (merged_of (log_read first) (log_read second)).blocked (past_fault (log_read second).fault _ (past_fault (log_read first).fault _ (rw p at e)))))
      (λ p. ltb-false (length before) (length (merge_bytes first second)) p)

  few : merge_count first second (length before) ≤ length before
  few =
      cond_ind (λ (n : ℕ). n ≤ length before) (eqb (merge_number first second (length before)) 0) (length (merge_bytes first second)) 0
      (λ p. fits (eqb-true _ 0 p)) (λ p. omega arith)

  pub merge_told : MergeTold first second before
  unfolding merge_answer
  merge_told =
      record {
        numbers = its_number (merge_number first second (length before)) (merge_count first second (length before));
        counts = λ l. its_count (merge_number first second (length before)) (merge_count first second (length before)) (omega (arith, few, l));
        seven_bytes = refl;
      }

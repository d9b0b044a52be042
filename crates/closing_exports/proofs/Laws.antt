-- What a caller reads off the answer: a count is below 4,294,967,296, so number and count come apart again. Assumes nothing.
use Prim.Native.Nat.{ℕ, ◌+◌, ◌*◌, ◌/◌, ◌%◌, ◌≤◌, ◌<◌}
use mathlib.Core.Path.{◌≡◌, refl, sym, ap, ap₂, ◌∙◌}
use mathlib.Core.Bool.{Bool, false, cond}
use mathlib.Core.List.{List, []}
use native.Mathlib.Omega.{arith}
use lib.Dec.{ltb}
use lib.ListN.{length, take, drop}
use borrow.Author.Tests.{ne_eqb, lt-ltb, le-ltb}
use Rattle.basics.specs.Bytes.{InBytes}
use Rattle.basics.proofs.Bools.{by_bool}
use Rattle.consensus.specs.Rules.{as_bit}
use Rattle.settlement.specs.declared.record.Settlement.{Settlement}
use Rattle.settlement.specs.Laws.{Outside}
use Rattle.logs.specs.Run.{ran}
use Rattle.logs.specs.Demand.{size}
use Rattle.closing.specs.Closing.{closing}
use Rattle.closing.specs.Close.{closing_bytes, close_number, close_count, close_buffer}
use Rattle.closing.specs.Demand.{PlaysOn}
use Rattle.closing.specs.Laws.{CloseLaws}
use Rattle.closing.proofs.Laws.{close_laws}
use Rattle.closing.proofs.Demand.{closing_demand}
use Rattle.closing_exports.specs.Exports.{close_answer, close_after}
use Rattle.closing_exports.specs.Laws.{number, count, after, closing_log, Refused, CloseTold}

-- number and count in one, and apart again
its_number : (k c : ℕ) → c < 4294967296 → (k * 4294967296 + c) / 4294967296 ≡ k
its_number k c l = omega arith

its_count : (k c : ℕ) → c < 4294967296 → (k * 4294967296 + c) % 4294967296 ≡ c
its_count k c l = omega arith

module _ (log : List ℕ) (limit preferred : ℕ) (before : List ℕ) where
  abbrev r : Settlement
  r = (ran log limit).settlement

  abbrev laws : CloseLaws r preferred before
  laws = close_laws r preferred before

  apart : (k c : ℕ) → close_answer log limit preferred (length before) ≡ k * 4294967296 + c → c < 4294967296
      → (number log limit preferred before ≡ k) × (count log limit preferred before ≡ c)
  apart k c e l = (ap (λ (x : ℕ). x / 4294967296) e ∙ its_number k c l, ap (λ (x : ℕ). x % 4294967296) e ∙ its_count k c l)

  stops : ((ran log limit).status ≡ 0 → ⊥) → Refused log limit preferred before (ran log limit).status
  unfolding close_answer close_after
  stops n =
      let stopped = ne_eqb (ran log limit).status 0 n in
      let both = apart (ran log limit).status 0 (rw stopped (omega arith)) (omega arith) in
      (both.0, both.1, rw stopped)

  module _ (bytes : InBytes log) (zero : (ran log limit).status ≡ 0) where
    -- the closing log with either bit
    plays_on : (a : Bool) → PlaysOn log limit a (limit + ((ran log limit).events + size (closing r a).events))
    plays_on a = closing_demand.on_logs log limit bytes zero a _ (omega arith) (omega arith)

    answer_is : close_answer log limit preferred (length before)
        ≡ close_number r preferred (length before) * 4294967296 + close_count r preferred (length before)
    unfolding close_answer
    answer_is = rw zero

    after_is : close_after log limit preferred before ≡ close_buffer r preferred before
    unfolding close_after
    after_is = rw zero

    -- RUN's settlement passes the record test
    inside : Outside r → ⊥
    inside o =
        let faulty = (close_laws r 0 []).number_42.1 o in
        let other = (plays_on false).numbers 0 0 (omega arith) refl in
        by_bool (ltb 0 (length (closing_bytes r false)))
        (λ e. let z : close_number r 0 0 ≡ 30 = other ∙ rw e in absurd (omega arith))
        (λ e. let z : close_number r 0 0 ≡ 0 = other ∙ rw e in absurd (omega arith))

    refused_by : (k : ℕ) → (k ≡ 0 → ⊥) → close_number r preferred (length before) ≡ k → Refused log limit preferred before k
    refused_by k n q =
        let w = laws.refused (λ z. n (sym q ∙ z)) in
        let both = apart k 0 (answer_is ∙ ap₂ (λ (m n : ℕ). m * 4294967296 + n) q w.1) (omega arith) in
        (both.0, both.1, after_is ∙ w.2)

    numbered : preferred ≤ 1 → close_number r preferred (length before) ≡ cond (ltb (length before) (length (closing_log log limit preferred before))) 30 0
    numbered one = (plays_on (as_bit preferred)).numbers preferred (length before) one refl

    closed_so : preferred ≤ 1 → length (closing_log log limit preferred before) ≤ length before
        → (number log limit preferred before ≡ 0) × (count log limit preferred before ≡ length (closing_log log limit preferred before))
        × (take (count log limit preferred before) (after log limit preferred before) ≡ closing_log log limit preferred before)
        × (drop (count log limit preferred before) (after log limit preferred before) ≡ drop (count log limit preferred before) before)
    closed_so one room =
        let z : close_number r preferred (length before) ≡ 0 =
        numbered one ∙ rw (le-ltb (length before) (length (closing_log log limit preferred before)) room) in
        let w = laws.written z in
        let short = (plays_on (as_bit preferred)).short in
        let both = apart 0 (close_count r preferred (length before)) (answer_is ∙ ap (λ (m : ℕ). m * 4294967296 + close_count r preferred (length before)) z)
        (omega (arith, w.0, short)) in (
          both.0,
          both.1 ∙ w.0,
          ap₂ take both.1 after_is ∙ w.1,
          ap₂ drop both.1 after_is ∙ (laws.others z).1 ∙ ap (λ (n : ℕ). drop n before) (sym both.1),
        )

  pub close_told : InBytes log → CloseTold log limit preferred before
  close_told bytes =
      record {
        stops_early = stops;
        no_bit = λ zero above. refused_by bytes zero 10 (λ z. omega arith) (laws.number_10.1 (inside bytes zero, above));
        no_room = λ zero one less. refused_by bytes zero 30 (λ z. omega arith) (numbered bytes zero one ∙ rw (lt-ltb _ _ less));
        closed = closed_so bytes;
        enough = λ zero. (plays_on bytes zero (as_bit preferred)).short;
      }

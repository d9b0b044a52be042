-- The bound that a closing log goes by is demand 3's: the longest claim in the record is the longest claim put in. Assumes nothing.
use Prim.Native.Nat.{ℕ, zero, suc, ◌+◌, ◌*◌, ◌<◌, ◌≤◌, zero-le}
use mathlib.Core.Path.{◌≡◌, refl, sym, subst, ◌∙◌, ap, ap₂}
use mathlib.Core.Logic.{◌⊎◌, inl, inr, ⊎_elim}
use mathlib.Core.Bool.{Bool, true, cond}
use native.Mathlib.Nat.{le_trans, le_of_eq, le_antisymm, le_of_lt, le_refl, le_step, le_of_suc-le-suc, eq-or-lt_of_le, not-suc-le-zero}
use native.Mathlib.Omega.{arith}
use native.Mathlib.Nat.{mul-le-mul, le-max_left, le-max_right, max-le, max-eq_left, max-eq_right}
use lib.Dec.{eqb, ltb}
use borrow.Author.Tests.{ltb-true, ltb-false}
use Rattle.basics.proofs.Bools.{by_bool, cond_ind}
use Rattle.bits.specs.Digits.{bit_length}
use Rattle.bits.specs.Log.{ceil_log2}
use Rattle.bits.proofs.Log.{log_le}
use Rattle.consensus.specs.Events.{Event, History, start, ◌▷◌, Rule, rule_1, rule_2, Opening, Openable}
use Rattle.consensus.specs.State as play
use Rattle.consensus.specs.Rules.{number, after}
use Rattle.consensus.specs.Terms.{ClaimsFit, PutIn, longest}
use Rattle.consensus.specs.Demand3.{most_steps}
use Rattle.consensus.proofs.Reached.{reached, claim_accepted}
use Rattle.consensus.proofs.Accepted.{put_in_shown}
use Rattle.consensus.proofs.Longest as longest_proofs
use Rattle.entry.specs.Stages.{not_idle}
use Rattle.entry.specs.Entries.{by_station}
use Rattle.settlement.specs.declared.record.Settlement.{Settlement}
use Rattle.settlement.specs.Record.{entry}
use Rattle.settlement.specs.Link.{rule_number, record_after}
use Rattle.settlement.proofs.Link.Linked.{Linked}
use Rattle.settlement.proofs.Link.Numbers.{idle_same}
use Rattle.settlement.proofs.Range.{few_stations}
use Rattle.settlement.proofs.Link.Demands.{demands, linked_after}
use Rattle.closing.specs.Closing.{greatest_below, put_length, longest_put, step_bound}
use Rattle.closing.specs.Demand.{bound}

-- ---- the greatest of n numbers

pub greatest_from : (n : ℕ) (f : ℕ → ℕ) (i : ℕ) → i < n → f i ≤ greatest_below n f
unfolding greatest_below
greatest_from zero f i l = absurd (not-suc-le-zero l)
greatest_from (suc n) f i l =
    ⊎_elim (λ q. le_trans (le_of_eq (ap f q)) (le-max_right (greatest_below n f) (f n)))
    (λ m. le_trans (greatest_from n f i m) (le-max_left (greatest_below n f) (f n)))
    (eq-or-lt_of_le (le_of_suc-le-suc l))

greatest_to : (n : ℕ) (f : ℕ → ℕ) (k : ℕ) → ((i : ℕ) → i < n → f i ≤ k) → greatest_below n f ≤ k
unfolding greatest_below
greatest_to zero f k all = zero-le
greatest_to (suc n) f k all = max-le (greatest_to n f k (λ i l. all i (le_step l))) (all n (le_refl (suc n)))

-- it is one of them, or 0
pub greatest_met : (n : ℕ) (f : ℕ → ℕ) → (greatest_below n f ≡ 0) ⊎ ((i : ℕ) × (i < n) × (f i ≡ greatest_below n f))
unfolding greatest_below
greatest_met zero f = inl refl
greatest_met (suc n) f =
    by_bool (ltb (greatest_below n f) (f n))
    (λ l. inr (n, le_refl (suc n), sym (max-eq_right (le_of_lt (ltb-true _ (f n) l)))))
    (λ l.
    let e = max-eq_left (ltb-false _ (f n) l) in
    ⊎_elim (λ z. inl (e ∙ z)) (λ x. inr (x.0, le_step x.1, x.2 ∙ sym e)) (greatest_met n f))

-- ---- who put in a claim is a station

pub put_in_station : (o : Opening) (s v : ℕ) (h : History) → PutIn o s v h → s < o.count
put_in_station o s v start x = absurd x
put_in_station o s v (h ▷ e) (inl x) = put_in_station o s v h x
put_in_station o s v (h ▷ e) (inr x) = (claim_accepted o (after o h) s v (subst (λ (f : Event). number o (after o h) f ≡ 0) x.0 x.1)).station

-- ---- the bound

-- both factors are small
pub small : (a b : ℕ) → a ≤ 32 → b ≤ 36 → a * b ≤ 1152
small a b h l = mul-le-mul h l

pub rounds_few : (n : ℕ) → n ≤ 32 → ceil_log2 n * (n + 2) ≤ 1152
rounds_few n h = small _ _ (omega (arith, log_le n 5 h)) (omega arith)

few_steps : (r : Settlement) → r.count ≤ 32 → longest_put r ≤ 32 → step_bound r ≤ 1153
unfolding step_bound
few_steps r n k =
    cond_ind (λ (x : ℕ). x ≤ 1153) (by_station r.rule) _ _ (λ e. omega (arith, rounds_few r.count n))
    (λ e. omega (arith, small (longest_put r) (r.count + 4) k (omega arith)))

module _ (o : Opening) (op : Openable o) (h : History) (fit : ClaimsFit h) where
  abbrev r : Settlement
  r = record_after o h

  linked : Linked o r (after o h)
  linked = linked_after o op h fit

  claimed_shown : (s : ℕ) → s < o.count → not_idle (entry r s).stage ≡ play.claimed (after o h) s
  claimed_shown s b = idle_same o op r (after o h) linked (reached o h) s b

  -- no claim put in is longer than so
  none_longer : (most : ℕ) → ((s : ℕ) → play.claimed (after o h) s ≡ true → bit_length (play.claim_of (after o h) s) ≤ most) → longest_put r ≤ most
  none_longer most fits = greatest_to r.count (put_length r) most (λ s l. its s (subst (λ (n : ℕ). s < n) linked.count l))
    where
      its : (s : ℕ) → s < o.count → put_length r s ≤ most
      its s b =
          cond_ind (λ (k : ℕ). k ≤ most) (not_idle (entry r s).stage) (bit_length (entry r s).claim) 0
          (λ e. le_trans (le_of_eq (ap bit_length (linked.entries s b).claim)) (fits s (sym (claimed_shown s b) ∙ e)))
          (λ e. zero-le)

  -- a claim put in has its length
  put_length_is : (s v : ℕ) → PutIn o s v h → put_length r s ≡ bit_length v
  put_length_is s v x =
      let b = put_in_station o s v h x in
      let y = (put_in_shown o s v h).0 x in
      ap₂ (λ (c : Bool) (w : ℕ). cond c (bit_length w) 0) (claimed_shown s b ∙ y.0) ((linked.entries s b).claim ∙ y.1)

  as_long : longest o h ≤ longest_put r
  as_long =
      ⊎_elim (λ e. rw e zero-le)
      (λ x.
      le_trans (le_of_eq (sym x.3 ∙ sym (put_length_is x.0 x.1 x.2)))
      (greatest_from r.count (put_length r) x.0
      (subst (λ (n : ℕ). x.0 < n) (sym linked.count) (put_in_station o x.0 x.1 h x.2))))
      (longest_proofs.longest_put o h)

  longest_same : longest_put r ≡ longest o h
  longest_same = le_antisymm (none_longer (longest o h) (longest_proofs.claim_longest o h)) as_long

  abbrev bound_by : (x n k : ℕ) → ℕ
  bound_by x n k = cond (eqb x 1) (most_steps rule_1 n (ceil_log2 n) k) (most_steps rule_2 n (ceil_log2 n) k)

  by_rule : (q : Rule) (n k : ℕ) → bound_by (rule_number q) n k ≡ most_steps q n (ceil_log2 n) k
  by_rule rule_1 n k = refl
  by_rule rule_2 n k = refl

  pub same_bound : (preferred : Bool) → step_bound r ≡ bound o h preferred
  unfolding step_bound
  same_bound preferred =
      ap (λ (x : ℕ). bound_by x r.count (longest_put r)) linked.rule
      ∙ by_rule o.rule r.count (longest_put r)
      ∙ ap₂ (λ (n k : ℕ). most_steps o.rule n (ceil_log2 n) k) linked.count longest_same

  -- and it is small
  pub bound_small : step_bound r ≤ 1153
  bound_small = few_steps r (few_stations r (demands.in_ranges o op h fit).no_fault) (none_longer 32 (longest_proofs.claim_fits o h fit))

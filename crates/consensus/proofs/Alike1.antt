-- A STEP by station does what an event of figure 1 does, stage by stage. Three facts carry it: ⌈log2 n⌉ is 0 only for n = 1; a station that
-- seeks is in a round below ⌈log2 n⌉; and after the last round the word l equals the cursor j, since they agree in ⌈log2 n⌉ bits and both
-- are below 2 ^ ⌈log2 n⌉, so prop[l] is the claim of j. Assumes nothing.
use Prim.Native.Nat.{ℕ, zero, suc, ◌+◌, ◌%◌, ◌^◌, ◌<◌, ◌≤◌}
use mathlib.Core.Path.{◌≡◌, refl, sym, subst, ap, ◌∙◌}
use mathlib.Core.Bool.{Bool, true, false, cond, ◌&&◌}
use mathlib.Core.Option.{Option, none, some, some-injective, none-ne-some}
use native.Mathlib.Nat.{mod-lt, lt_of_lt_of_le, lt_of_not-le}
use native.Mathlib.Omega.{arith}
use native.Mathlib.Decide.{dec_le}
use lib.Dec.{eqb, ltb}
use borrow.Author.Tests.{ltb-true, ltb-false, eq-eqb, ne_eqb}
use Rattle.bits.specs.Digits.{bit}
use Rattle.bits.specs.Words.{with_bit, low_agree}
use Rattle.bits.specs.Log.{ceil_log2}
use Rattle.bits.proofs.Digits.{bit_ext, bit_above}
use Rattle.bits.proofs.Words.{agree_bits}
use Rattle.bits.proofs.Log.{log_enough, log_least}
use Rattle.consensus.specs.Events.{Opening, rule_1}
use Rattle.consensus.specs.State.{Stage, idle, waiting, voting, awaiting, seeking, finish_voting, finish_awaiting, decided, State, claim_of, held}
use Rattle.consensus.specs.Rules.{first_stage, stage_after_seek}
use Rattle.consensus.specs.Figure.{View, Does, blocked, goes, await, known, onward, event}
use Rattle.consensus.specs.Figure1.{Place, line4, line5, line6, line8, in8, line9, line11, line12, returned, line, figure1}
use Rattle.consensus.specs.Demand2.{place_1}
use Rattle.consensus.proofs.Invariant.{StageOk}
use Rattle.consensus.proofs.Alike.{Alike, both_blocked, both_go, both_broadcast, both_propose, play_view, does_at}

-- two numbers below 2 ^ r that agree in their low r bits are equal
same_word : (r k l j : ℕ) → suc k ≡ r → low_agree k l j ≡ true → ((i : ℕ) → suc k ≤ i → bit i l ≡ false) → j < 2 ^ r → l ≡ j
same_word r k l j e agree above small = bit_ext l j λ i. elim (dec_le i k) [ yes le ↦ agree_bits k l j agree i le | no gt ↦ high i (lt_of_not-le gt) ]
  where
    high : (i : ℕ) → suc k ≤ i → bit i l ≡ bit i j
    high i h = above i h ∙ sym (bit_above r j small i (subst (λ (m : ℕ). m ≤ i) e h))

-- one station needs no round, and more need one
rounds_one : (n : ℕ) → 1 ≤ n → ltb 0 (ceil_log2 n) ≡ false → n ≡ 1
rounds_one n some_one e =
    let h = ltb-false 0 (ceil_log2 n) e in
    let r : ceil_log2 n ≡ 0 = omega arith in
    let m : n ≤ 2 ^ 0 = subst (λ (r : ℕ). n ≤ 2 ^ r) r (log_enough n) in
    omega arith

rounds_more : (n : ℕ) → ltb 0 (ceil_log2 n) ≡ true → n ≡ 1 → ⊥
rounds_more n e one = let h : 2 ^ 0 < n = log_least n 0 (ltb-true 0 (ceil_log2 n) e) in omega arith

module _ (n : ℕ) (st : State) (s : ℕ) where
  abbrev o : Opening
  o = record { count = n; rule = rule_1 }

  abbrev x : View
  x = play_view o st s

  abbrev is : Does Stage → Does Place → Type 0
  is d e = Alike place_1 d e

  -- line 12: prop[l] is the claim of j where l equals j
  end_1 : (m v k : ℕ) (w : Option ℕ) → some v ≡ w → is (goes (decided v k)) (onward figure1 m x (goes (returned w)))
  unfolding onward
  end_1 zero v k w e = both_go (ap (λ (u : Option ℕ). some (returned u)) e)
  end_1 (suc m) v k w e = both_go (ap (λ (u : Option ℕ). some (returned u)) e)

  prop_of : (j l : ℕ) → l ≡ j → held st s j ≡ true → some (claim_of st j) ≡ x.prop l
  prop_of j l e h = sym (ap x.prop e ∙ ap (λ (b : Bool). cond b (some (claim_of st j)) none) h)

  -- line 7 on to 8, or on to 12 where no round is left
  for_1 : (m : ℕ) (last more : Bool) (j i k l : ℕ) → (more ≡ true → last ≡ false) → (more ≡ false → (last ≡ true) × (l ≡ j)) → held st s j ≡ true
      → is (goes (cond last (decided (claim_of st j) i) (voting j k l))) (onward figure1 (suc m) x (goes (cond more (line8 j k l) (line12 l))))
  unfolding onward line
  for_1 m last true j i k l on off h =
      subst (λ (b : Bool). is (goes (cond b (decided (claim_of st j) i) (voting j k l))) (goes (line8 j k l))) (sym (on refl))
      (both_go refl)
  for_1 m last false j i k l on off h =
      subst (λ (b : Bool). is (goes (cond b (decided (claim_of st j) i) (voting j k l))) (onward figure1 m x (line x (line12 l)))) (sym (off refl).0)
      (end_1 m (claim_of st j) i (x.prop l) (prop_of j l (off refl).1 h))

  -- lines 5 and 6
  wait_1 : (b : Bool) → b ≡ held st s s → (b ≡ true → s < n) → 1 ≤ n
      → is (cond b (goes (first_stage rule_1 n s (claim_of st s))) blocked) (onward figure1 4 x (await (cond b (some (claim_of st s)) none) (λ v. goes line6)))
  unfolding onward line
  wait_1 false e l p = both_blocked
  wait_1 true e l p =
      for_1 1 (eqb n 1) (ltb 0 (ceil_log2 n)) s 0 0 0 (λ more. ne_eqb n 1 (rounds_more n more))
      (λ less. let one = rounds_one n p less in let small = l refl in (eq-eqb n 1 one, omega arith))
      (sym e)

  -- line 10, and 11 where the loop ends
  until_1 : (b fit : Bool) (j k l : ℕ) → b ≡ held st s j → fit ≡ low_agree k l j → k < ceil_log2 n → ((i : ℕ) → suc k ≤ i → bit i l ≡ false) → j < n
      → is (goes (cond (b && fit) (stage_after_seek o st rule_1 j k l) (seeking j k l)))
      (onward figure1 3 x (goes (cond (known (cond b (some (claim_of st j)) none) && fit) (line11 j k l) (line9 j k l))))
  unfolding onward line
  until_1 false fit j k l e f r above small = both_go refl
  until_1 true false j k l e f r above small = both_go refl
  until_1 true true j k l e f r above small = for_1 0 (eqb (suc k) (ceil_log2 n)) (ltb (suc k) (ceil_log2 n)) j k (suc k) l on off (sym e)
    where
      on : ltb (suc k) (ceil_log2 n) ≡ true → eqb (suc k) (ceil_log2 n) ≡ false
      on t = let h = ltb-true (suc k) (ceil_log2 n) t in ne_eqb (suc k) (ceil_log2 n) (λ q. omega arith)

      off : ltb (suc k) (ceil_log2 n) ≡ false → (eqb (suc k) (ceil_log2 n) ≡ true) × (l ≡ j)
      off t =
          let h = ltb-false (suc k) (ceil_log2 n) t in
          let q : suc k ≡ ceil_log2 n = omega arith in
          (eq-eqb (suc k) (ceil_log2 n) q, same_word (ceil_log2 n) k l j q (sym f) above (lt_of_lt_of_le small (log_enough n)))

  return_8 : (a : Option Bool) (j k l : ℕ)
      → is (await a (λ b. goes (seeking j k (with_bit k b l)))) (onward figure1 4 x (await a (λ b. goes (line9 j k (with_bit k b l)))))
  unfolding onward
  return_8 none j k l = both_blocked
  return_8 (some b) j k l = both_go refl

  stands : (q p : Place) (d : Does Stage) → ◌≡◌ {A = Option Place} (some q) (some p) → is d (event figure1 x q) → is d (event figure1 x p)
  stands q p d e a = subst (λ (r : Place). is d (event figure1 x r)) (some-injective q p e) a

  pub alike_1 : 1 ≤ n → (g : Stage) (p : Place) → (held st s s ≡ true → s < n) → StageOk o st g (st.station s).holds (st.station s).cast
      → place_1 g ≡ some p → is (does_at o st s g) (event figure1 x p)
  unfolding does_at event line onward
  alike_1 pos idle p mine ok e = stands line4 p _ e (both_broadcast refl)
  alike_1 pos waiting p mine ok e = stands line5 p _ e (wait_1 (held st s s) refl mine pos)
  alike_1 pos (voting j k l) p mine ok e = stands (line8 j k l) p _ e (both_propose refl)
  alike_1 pos (awaiting j k l) p mine ok e = stands (in8 j k l) p _ e (return_8 (st.answer_of k) j k l)
  alike_1 pos (seeking j k l) p mine ok e =
      let next : ℕ = (j + 1) % n in
      stands (line9 j k l) p _ e
      (until_1 (held st s next) (low_agree k l next) next k l refl refl ok.round ok.word.above (mod-lt (j + 1) pos))
  alike_1 pos (finish_voting j k d) p mine ok e = absurd (none-ne-some p e)
  alike_1 pos (finish_awaiting j k d) p mine ok e = absurd (none-ne-some p e)
  alike_1 pos (decided v k) p mine ok e = stands (returned (some v)) p _ e both_blocked

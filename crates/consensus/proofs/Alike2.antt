-- A STEP by claim does what an event of figure 2 does, stage by stage: the cursor's claim is held where line 8 or 11 reads prop[j],
-- so the number there is the claim of j, and line 10's test is the play's. Assumes nothing.
use Prim.Native.Nat.{ℕ, ◌+◌, ◌*◌, ◌%◌}
use mathlib.Core.Path.{◌≡◌, refl, sym, subst}
use mathlib.Core.Bool.{Bool, true, false, cond, ◌&&◌, true≢false}
use mathlib.Core.Option.{Option, none, some, some-injective}
use lib.Dec.{eqb}
use Rattle.bits.specs.Digits.{bit}
use Rattle.bits.specs.Words.{with_bit, low_agree}
use Rattle.consensus.specs.Events.{Opening, rule_2}
use Rattle.consensus.specs.State.{Stage, idle, waiting, voting, awaiting, seeking, finish_voting, finish_awaiting, decided, State, claim_of, held}
use Rattle.consensus.specs.Rules.{finished}
use Rattle.consensus.specs.Figure.{View, Does, blocked, goes, proposes, await, onward, event}
use Rattle.consensus.specs.Figure2.{Place, line4, line5, line6, line8, in8, line9, line11, line12, in12, line13, returned, fits, equals, line, figure2}
use Rattle.consensus.specs.Demand2.{place_2}
use Rattle.consensus.proofs.Invariant.{StageOk}
use Rattle.consensus.proofs.Alike.{Alike, both_blocked, both_go, both_broadcast, both_propose, play_view, does_at}

module _ (n : ℕ) (st : State) (s : ℕ) where
  abbrev o : Opening
  o = record { count = n; rule = rule_2 }

  abbrev x : View
  x = play_view o st s

  abbrev is : Does Stage → Does Place → Type 0
  is d e = Alike place_2 d e

  wait_2 : (b : Bool) (v : ℕ) → is (cond b (goes (voting s 0 0)) blocked) (onward figure2 4 x (await (cond b (some v) none) (λ w. goes line6)))
  unfolding onward line
  wait_2 false v = both_blocked
  wait_2 true v = both_go refl

  vote_2 : (b : Bool) (v j k d : ℕ) → b ≡ true
      → is (proposes (2 * k) (bit k v) (awaiting j k d)) (onward figure2 4 x (await (cond b (some v) none) (λ w. proposes (2 * k) (bit k w) (in8 j k d))))
  unfolding onward
  vote_2 true v j k d e = both_propose refl
  vote_2 false v j k d e = absurd (true≢false (sym e))

  return_8 : (a : Option Bool) (j k d : ℕ)
      → is (await a (λ b. goes (seeking j k (with_bit k b d)))) (onward figure2 4 x (await a (λ b. goes (line9 j k (with_bit k b d)))))
  unfolding onward
  return_8 none j k d = both_blocked
  return_8 (some b) j k d = both_go refl

  until_go : (b : Bool) (j k d : ℕ)
      → is (goes (cond b (finish_voting j k d) (seeking j k d))) (onward figure2 3 x (goes (cond b (line11 j k d) (line9 j k d))))
  unfolding onward
  until_go true j k d = both_go refl
  until_go false j k d = both_go refl

  until_2 : (b : Bool) (v j k d : ℕ)
      → is (goes (cond (b && low_agree k d v) (finish_voting j k d) (seeking j k d)))
      (onward figure2 3 x (goes (cond (fits k d (cond b (some v) none)) (line11 j k d) (line9 j k d))))
  until_2 true v j k d = until_go (low_agree k d v) j k d
  until_2 false v j k d = until_go false j k d

  finish_2 : (b : Bool) (v j k d : ℕ) → b ≡ true
      → is (proposes (2 * k + 1) (eqb d v) (finish_awaiting j k d)) (onward figure2 4 x (goes (line12 (equals d (cond b (some v) none)) j k d)))
  unfolding onward line
  finish_2 true v j k d e = both_propose refl
  finish_2 false v j k d e = absurd (true≢false (sym e))

  return_12 : (a : Option Bool) (j k d : ℕ)
      → is (await a (λ r. goes (finished r j k d))) (onward figure2 4 x (await a (λ r. goes (line13 r j k d))))
  unfolding onward line
  return_12 none j k d = both_blocked
  return_12 (some true) j k d = both_go refl
  return_12 (some false) j k d = both_go refl

  stands : (q p : Place) (d : Does Stage) → ◌≡◌ {A = Option Place} (some q) (some p) → is d (event figure2 x q) → is d (event figure2 x p)
  stands q p d e a = subst (λ (r : Place). is d (event figure2 x r)) (some-injective q p e) a

  pub alike_2 : (g : Stage) (p : Place) → StageOk o st g (st.station s).holds (st.station s).cast → place_2 g ≡ some p
      → is (does_at o st s g) (event figure2 x p)
  unfolding does_at event line onward
  alike_2 idle p ok e = stands line4 p _ e (both_broadcast refl)
  alike_2 waiting p ok e = stands line5 p _ e (wait_2 (held st s s) (claim_of st s))
  alike_2 (voting j k d) p ok e = stands (line8 j k d) p _ e (vote_2 (held st s j) (claim_of st j) j k d ok.mine)
  alike_2 (awaiting j k d) p ok e = stands (in8 j k d) p _ e (return_8 (st.answer_of (2 * k)) j k d)
  alike_2 (seeking j k d) p ok e = stands (line9 j k d) p _ e (until_2 (held st s ((j + 1) % n)) (claim_of st ((j + 1) % n)) ((j + 1) % n) k d)
  alike_2 (finish_voting j k d) p ok e = stands (line11 j k d) p _ e (finish_2 (held st s j) (claim_of st j) j k d ok.1.mine)
  alike_2 (finish_awaiting j k d) p ok e = stands (in12 j k d) p _ e (return_12 (st.answer_of (2 * k + 1)) j k d)
  alike_2 (decided v k) p ok e = stands (returned v) p _ e both_blocked

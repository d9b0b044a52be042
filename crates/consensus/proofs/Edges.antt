-- The edges of the words of demand 3, computed. Assumes nothing.
use Prim.Native.Nat.{ℕ, ◌*◌, ◌≤◌}
use mathlib.Core.Path.{◌≡◌, refl, ap, ◌∙◌}
use mathlib.Core.Bool.{true, false, true≢false}
use mathlib.Core.Option.{some, none-ne-some, some-injective}
use mathlib.Core.List.{List, [], ◌∷◌}
use native.Mathlib.Nat.{le_antisymm}
use native.Mathlib.Omega.{arith}
use lib.ListN.{length, get_or}
use Rattle.bits.specs.Digits.{bit, bit_length, binary_digits, digits_in}
use Rattle.bits.specs.Words.{with_bit, low_agree}
use Rattle.bits.specs.Log.{ceil_log2, least_from}
use Rattle.basics.specs.Below.{any_below}
use Rattle.consensus.specs.Events.{lose, answer, History, start, ◌▷◌, rule_1, rule_2, Opening}
use Rattle.consensus.specs.State.{update}
use Rattle.consensus.specs.Rules.{as_bit, stage_number, number, step_from, effect, next, after}
use Rattle.consensus.specs.Terms.{Repeat, first_answer, voted_in, waits_on, answers_taken, longest}
use Rattle.consensus.specs.Demand3.{first_ballots, BallotsVoted}
use Rattle.consensus.specs.Examples.{opening, lone_of_three, lone_two_bits}
use Rattle.consensus.specs.Edges.{Openings, LongestClaims, Bounds, case_C, CostsMet, one_voted, one_took, Sameness, Repeats}
use Rattle.consensus.specs.Rows.{case_D}
use Rattle.consensus.proofs.Accepted.{repeats_shown}
use Rattle.consensus.proofs.Told.{shown_decided}
use Rattle.consensus.proofs.Agree.{length_up_to}

pub openings : Openings
unfolding ceil_log2 least_from
openings = record {
  least = λ r. record { some_station = omega arith; not_too_many = omega arith };
  most = λ r. record { some_station = omega arith; not_too_many = omega arith };
  none = λ r x. let l = x.some_station in omega arith;
  too_many = λ r x. let l = x.not_too_many in omega arith;
  R = λ r. refl;
  by_station = refl;
  by_claim = refl;
}

pub longest_claims : LongestClaims
unfolding longest bit_length binary_digits digits_in update number effect next after
longest_claims = record { nothing = λ r. refl; of_zero = λ r. refl; refused = λ r. refl; whole = λ r. refl; n_17 = λ r. refl; n_32 = λ r. refl }

pub bounds : Bounds
bounds = record { by_station = λ k. (refl, refl, refl, refl); by_claim = λ r. (refl, refl, refl, refl) }

-- ---- ballots voted in

ballots_in : (m : ℕ) (l : List ℕ) → l ≡ first_ballots m → length l ≡ m
ballots_in m l e = ap length e ∙ length_up_to m

-- so many ballots are none by claim, unless they are an even number from 2 to twice K
not_by_claim : (r k : ℕ) (l : List ℕ) → ((m : ℕ) → length l ≡ 2 * m → 1 ≤ m → m ≤ k → ⊥) → BallotsVoted rule_2 r k l → ⊥
not_by_claim r k l f x = f x.0 (ballots_in (2 * x.0) l x.1) x.2 x.3

-- twice ballot 0 is not the ballots 0 and 1
not_twice : (m : ℕ) → 0 ∷ 0 ∷ [] ≡ first_ballots (2 * m) → 1 ≤ m → m ≤ 1 → ⊥
unfolding first_ballots
not_twice m e l u =
    let second : ◌≡◌ {A = ℕ} 0 1 = ap (λ (x : List ℕ). get_or x 1 0) (e ∙ ap (λ (i : ℕ). first_ballots (2 * i)) (le_antisymm u l)) in omega arith

pub costs_met : CostsMet
unfolding first_ballots voted_in longest bit bit_length binary_digits digits_in with_bit low_agree ceil_log2 least_from update any_below stage_number number step_from effect next after
costs_met = record {
  exactly = record { decided = shown_decided (opening 3 rule_1) 0 7 lone_of_three refl; voted_so = refl; K = refl };
  twice_K = record { decided = shown_decided (opening 3 rule_2) 0 2 lone_two_bits refl; voted_so = refl; K = refl };
  from_2 = record { decided = shown_decided (opening 2 rule_2) 0 1 case_C refl; voted_so = refl; K = refl };
  two = λ r. (1, refl, omega arith, omega arith);
  four = λ r. (2, refl, omega arith, omega arith);
  not_none = λ r. not_by_claim r 2 [] (λ m e l u. omega arith);
  not_odd = λ r. not_by_claim r 2 (0 ∷ 1 ∷ 2 ∷ []) (λ m e l u. omega arith);
  not_six = λ r. not_by_claim r 2 (0 ∷ 1 ∷ 2 ∷ 3 ∷ 4 ∷ 5 ∷ []) (λ m e l u. omega arith);
  not_others = λ r x. not_twice x.0 x.1 x.2 x.3;
  just_R = λ k. refl;
  not_fewer = λ k x. let l = ballots_in 2 _ x in omega arith;
  not_more = λ k x. let l = ballots_in 2 _ x in omega arith;
}

-- ---- two stations apart

pub sameness : Sameness
unfolding first_answer voted_in waits_on answers_taken bit binary_digits digits_in with_bit low_agree ceil_log2 least_from update any_below stage_number number step_from effect next after
sameness = record {
  answers = refl;
  other_claim = λ x. let e = x.claim in omega arith;
  other_ballots = λ x. let e = ap length x.ballots in omega arith;
  other_answers = λ x. let e = ap length x.answers in omega arith;
}

-- ---- repeats

-- a repeat is an ANSWER of the bit that stands, and what stands is computed
stands : (o : Opening) (h : History) (b a : ℕ) → Repeat o (answer b a) h → (after o h).answer_of b ≡ some (as_bit a)
stands o h b a x = ((repeats_shown o b a h).0 x).1

pub repeats : Repeats
unfolding bit binary_digits digits_in with_bit low_agree ceil_log2 least_from update any_below stage_number number step_from effect next after
repeats = record {
  same_bit = (repeats_shown (opening 2 rule_1) 0 1 one_took).1 (omega arith, refl);
  once_more = (repeats_shown (opening 2 rule_1) 0 1 (one_took ▷ answer 0 1 ▷ lose 0 ▷ lose 1)).1 (omega arith, refl);
  by_claim = (repeats_shown (opening 2 rule_2) 1 0 case_D).1 (omega arith, refl);
  first = λ x. none-ne-some false (stands (opening 2 rule_1) one_voted 0 0 x);
  refused = λ x. none-ne-some true (stands (opening 2 rule_1) (start ▷ answer 0 1) 0 1 x);
  other_bit = λ x. true≢false (some-injective true false (stands (opening 2 rule_1) one_took 0 0 x));
  other_ballot = λ x. none-ne-some true (stands (opening 2 rule_2) case_D 4 1 x);
  above_1 = λ o h b x. let small = ((repeats_shown o b 2 h).0 x).0 in omega arith;
  lost_again = λ x. x;
  held_again = λ x. x;
}

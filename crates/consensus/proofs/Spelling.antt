-- What a STEP needs of bits, words and answers. A ballot's answer was cast, and was cast for a reason (Invariant): so the answer of
-- round k is bit k of a claim that fits all answers before it; the word that takes it is still the answers so far. Assumes nothing.
use Prim.Native.Nat.{ℕ, suc, ◌+◌, ◌*◌, ◌<◌, ◌≤◌}
use mathlib.Core.Path.{◌≡◌, sym, subst, ◌∙◌, ap}
use mathlib.Core.Logic.{inl, inr, ⊎_elim}
use mathlib.Core.Bool.{Bool, true, false, ◌&&◌}
use mathlib.Core.Option.{some, some-injective}
use native.Mathlib.Omega.{arith}
use native.Mathlib.Nat.{eq-or-lt_of_le, le_of_suc-le-suc}
use lib.Dec.{leb}
use borrow.Author.Tests.{leb-true, leb-false}
use Rattle.bits.specs.Digits.{bit, bit_length}
use Rattle.bits.specs.Words.{with_bit, low_agree}
use Rattle.bits.proofs.Digits.{bit_ext, bit_zero, bit_above, length_bound}
use Rattle.bits.proofs.Words.{bit_same, bit_other, agree_bits}
use Rattle.consensus.specs.Events.{Rule, rule_1, rule_2, Opening}
use Rattle.consensus.specs.State.{State, claim_of}
use Rattle.consensus.specs.Rules.{bit_ballot, bit_ballot_by, finish_ballot, spelled, spelled_by}
use Rattle.basics.specs.Below.{any_below}
use Rattle.basics.proofs.Bools.{by_bool, and_true}
use Rattle.basics.proofs.Below.{any_found, any_none}
use Rattle.consensus.proofs.Invariant.{Fits, Word, Candidate, Unfinished, Round, RoundBy, BitCast, FinishCast, CastOk, Inv}

-- below suc k: below k, or k
pub below_suc : {C : Type 0} (i k : ℕ) → i < suc k → (i < k → C) → (i ≡ k → C) → C
below_suc i k l f g = ⊎_elim g f (eq-or-lt_of_le (le_of_suc-le-suc l))

-- ---- ballots

bit_ballot_inj_by : (r : Rule) (k m : ℕ) → bit_ballot_by r k ≡ bit_ballot_by r m → k ≡ m
bit_ballot_inj_by rule_1 k m e = e
bit_ballot_inj_by rule_2 k m e = omega arith

pub bit_ballot_inj : (o : Opening) (k m : ℕ) → bit_ballot o k ≡ bit_ballot o m → k ≡ m
bit_ballot_inj o k m e = bit_ballot_inj_by o.rule k m e

pub bit_not_finish : (o : Opening) → o.rule ≡ rule_2 → (k m : ℕ) → bit_ballot o k ≡ finish_ballot m → ⊥
bit_not_finish o r k m e =
    let f : 2 * k ≡ 2 * m + 1 = subst (λ (x : Rule). bit_ballot_by x k ≡ finish_ballot m) r e in omega arith

pub spelled_claim : (o : Opening) (st : State) → o.rule ≡ rule_2 → (j : ℕ) → spelled o st j ≡ claim_of st j
spelled_claim o st r j = ap (λ (x : Rule). spelled_by x st j) r

pub unfinished_of : (o : Opening) (st : State) → o.rule ≡ rule_2 → (k : ℕ) → Round o st k → Unfinished o st k
unfinished_of o st r k x = subst (λ (y : Rule). RoundBy o y st k) r x

-- ---- answers

module _ (o : Opening) (st : State) (inv : Inv o st) where
  cast_of : (b : ℕ) (a : Bool) → st.answer_of b ≡ some a → CastOk o st b a
  cast_of b a e = let t = inv.answers b a e in ((inv.parts t.0).casts b a t.2).1

  -- the answer of round k's bit ballot was cast for a reason
  pub bit_answer : (k : ℕ) (a : Bool) → st.answer_of (bit_ballot o k) ≡ some a → BitCast o st k a
  bit_answer k a e = go (cast_of (bit_ballot o k) a e)
    where
      go : CastOk o st (bit_ballot o k) a → BitCast o st k a
      go (inl c) = subst (λ (m : ℕ). BitCast o st m a) (sym (bit_ballot_inj o k c.0 c.1)) c.2
      go (inr c) = absurd (bit_not_finish o c.0 k c.1.0 c.1.1)

  -- and so was that of its finish ballot
  pub finish_answer : o.rule ≡ rule_2 → (k : ℕ) (a : Bool) → st.answer_of (finish_ballot k) ≡ some a → FinishCast o st k a
  finish_answer r k a e = go (cast_of (finish_ballot k) a e)
    where
      go : CastOk o st (finish_ballot k) a → FinishCast o st k a
      go (inl c) = absurd (bit_not_finish o r c.0 k (sym c.1))
      go (inr c) = let same : k ≡ c.1.0 = let f = c.1.1 in omega arith in subst (λ (m : ℕ). FinishCast o st m a) (sym same) c.1.2

  -- the claim that gave round k's answer fits that answer too
  pub answer_candidate : (k : ℕ) (a : Bool) (e : st.answer_of (bit_ballot o k) ≡ some a) → Candidate o st (suc k) (bit_answer k a e).source
  answer_candidate k a e =
      let c = bit_answer k a e in record {
        holder = c.candidate.holder;
        is_held = c.candidate.is_held;
        is_claimed = c.candidate.is_claimed;
        fits = λ i l.
            below_suc i k l (c.candidate.fits i)
            (λ s.
            subst (λ (m : ℕ). st.answer_of (bit_ballot o m) ≡ some (bit m (spelled o st c.source))) (sym s)
            (e ∙ ap (λ (x : Bool). some x) (sym c.is_bit)));
      }

-- ---- words

module _ (o : Opening) (st : State) where
  pub word_empty : Word o st 0 0
  word_empty = record { answers = λ i l. absurd (native.Mathlib.Nat.not-suc-le-zero l); above = λ i l. bit_zero i }

  pub fits_none : (t : ℕ) → Fits o st 0 t
  fits_none t i l = absurd (native.Mathlib.Nat.not-suc-le-zero l)

  -- the answer of round k becomes bit k of the word
  pub word_more : (k d : ℕ) (a : Bool) → Word o st k d → st.answer_of (bit_ballot o k) ≡ some a → Word o st (suc k) (with_bit k a d)
  word_more k d a w e = record {
    answers = λ i l.
        below_suc i k l
        (λ m. w.answers i m ∙ ap (λ (x : Bool). some x) (sym (bit_other k i a d (λ q. native.Mathlib.Nat.lt_irrefl i (subst (λ (x : ℕ). i < x) (sym q) m)))))
        (λ q.
        subst (λ (m : ℕ). st.answer_of (bit_ballot o m) ≡ some (bit m (with_bit k a d))) (sym q)
        (e ∙ ap (λ (x : Bool). some x) (sym (bit_same k a d))));
    above = λ i l. bit_other k i a d (λ q. let x = q in omega arith) ∙ w.above i (omega arith);
  }

  -- what agrees with the word in its low bits fits the answers
  pub agree_fits : (k d t : ℕ) → Word o st (suc k) d → low_agree k d (spelled o st t) ≡ true → Fits o st (suc k) t
  agree_fits k d t w e i l = w.answers i l ∙ ap (λ (x : Bool). some x) (agree_bits k d (spelled o st t) e i (le_of_suc-le-suc l))

  -- two words of the same rounds are one
  pub word_unique : (k d e : ℕ) → Word o st k d → Word o st k e → d ≡ e
  word_unique k d e v w = bit_ext d e same
    where
      same : (i : ℕ) → bit i d ≡ bit i e
      same i =
          by_bool (leb k i) (λ p. v.above i (leb-true k i p) ∙ sym (w.above i (leb-true k i p)))
          (λ p. some-injective _ _ (sym (v.answers i (leb-false k i p)) ∙ w.answers i (leb-false k i p)))

-- two numbers that agree in the low bits and differ: the one has a bit above, if the other has none
pub higher_bit : (k d v : ℕ) → ((i : ℕ) → i < k → bit i d ≡ bit i v) → ((i : ℕ) → k ≤ i → bit i d ≡ false) → (d ≡ v → ⊥)
    → (i : ℕ) × (k ≤ i) × (bit i v ≡ true)
higher_bit k d v low high ne =
    by_bool (any_below (bit_length v) test)
    (λ e. let t = any_found (bit_length v) test e in let both = and_true (leb k t.0) (bit t.0 v) t.2 in (t.0, leb-true k t.0 both.0, both.1))
    (λ e. absurd (ne (bit_ext d v (same e))))
  where
    test : ℕ → Bool
    test i = leb k i && bit i v

    same : any_below (bit_length v) test ≡ false → (i : ℕ) → bit i d ≡ bit i v
    same e i =
        by_bool (leb k i)
        (λ p.
        high i (leb-true k i p)
        ∙ sym (by_bool (leb (bit_length v) i) (λ q. bit_above (bit_length v) v (length_bound v) i (leb-true (bit_length v) i q))
        (λ q. subst (λ (x : Bool). (x && bit i v) ≡ false) p (any_none (bit_length v) test e i (leb-false (bit_length v) i q)))))
        (λ p. low i (leb-false k i p))
